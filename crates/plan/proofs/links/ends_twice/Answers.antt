use Rattle.std.proofs.Common.{◌&&◌, sym, ap, ◌∙◌}
use Rattle.std.specs.List.{list_all}
use Rattle.plan.specs.Tally.{is_twice}
use Rattle.plan.proofs.Counting.{ends_split}
use Rattle.plan.proofs.links.ends_twice.Goals as goal

pub returns-then-ports_twice : goal.returns-then-ports_twice
returns-then-ports_twice g c =
    c.free_twice.ensures
    ∙ ap (λ b. b && list_all (λ f. is_twice c.args.counts.now f.link) c.args.free.now) c.if-ports_twice.ensures
    ∙ sym (ends_split (is_twice c.args.counts.now) c.args.atoms.now c.args.free.now)

pub returns-else-ports_twice : goal.returns-else-ports_twice
returns-else-ports_twice g c =
    c.if-ports_twice.false
    ∙ ap (λ b. b && list_all (λ f. is_twice c.args.counts.now f.link) c.args.free.now) c.if-ports_twice.ensures
    ∙ sym (ends_split (is_twice c.args.counts.now) c.args.atoms.now c.args.free.now)
