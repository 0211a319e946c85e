use Rattle.std.proofs.Common.{◌∙◌, rules}
use Rattle.show.specs.Page.{page_of}
use Rattle.show.proofs.Ends.{plan_held}
use Rattle.show.proofs.show.write_plan.Goals as goal

pub returns : goal.returns
returns g c =
    let h = plan_held g.L.Label.kind c.args.plan.now (page_of c.put_plan.new.self) g.met.L.Label.lawful c.requires c.put_plan.ensures in
    record { answer = h.len_is; bytes = ◌∙◌ {b = c.put_plan.new.self.out.now} (search rules) h.out_is }
