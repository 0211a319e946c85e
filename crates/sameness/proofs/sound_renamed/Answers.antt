use Rattle.sameness.proofs.Sounding.{renaming_sound}
use Rattle.sameness.proofs.sound_renamed.Goals as goal

pub returns : goal.returns
returns g c = renaming_sound g.L.Label.kind
