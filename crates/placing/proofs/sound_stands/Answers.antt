use Rattle.placing.proofs.HangSound.{hang_sound}
use Rattle.placing.proofs.sound_stands.Goals as goal

pub returns : goal.returns
returns g c = hang_sound g.L.Label.kind g.met.L.Label.lawful
