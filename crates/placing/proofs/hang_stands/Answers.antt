use Rattle.placing.proofs.HangLaws.{hang_laws}
use Rattle.placing.proofs.hang_stands.Goals as goal

pub returns : goal.returns
returns g c = hang_laws g.L.Label.kind g.met.L.Label.lawful
