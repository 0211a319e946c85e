use Rattle.sameness.proofs.Renaming.{renamed_equivalence}
use Rattle.sameness.proofs.renaming_stands.Goals as goal

pub returns : goal.returns
returns g c = renamed_equivalence _
