use Rattle.sameness.proofs.Texts.{renaming_hung}
use Rattle.sameness.proofs.hung_renamed.Goals as goal

pub returns : goal.returns
returns g c = renaming_hung g.L.Label.kind g.met.L.Label.lawful
