use Rattle.calls.proofs.Follow.{made_law}
use Rattle.calls.proofs.made_stands.Goals as goal

pub returns : goal.returns
returns g c = made_law g.L.Label.kind g.met.L.Label.lawful
