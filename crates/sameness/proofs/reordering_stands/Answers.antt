use Rattle.sameness.proofs.Reordering.{reordered_equivalence}
use Rattle.sameness.proofs.reordering_stands.Goals as goal

pub returns : goal.returns
returns g c = reordered_equivalence _
