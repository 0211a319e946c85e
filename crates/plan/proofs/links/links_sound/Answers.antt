use Rattle.std.proofs.Common.{◌∙◌}
use Rattle.plan.proofs.Counting.{links_right}
use Rattle.plan.proofs.links.links_sound.Goals as goal

pub returns : goal.returns
returns g c = c.ends_twice.ensures ∙ links_right c.args.atoms.now c.args.free.now c.tally_ends.new.counts c.tally_ends.ensures
