use Rattle.forming.proofs.Joining.{join_law}
use Rattle.forming.proofs.join_stands.Goals as goal

pub returns : goal.returns
returns g c = join_law g.L.Label.kind g.met.L.Label.lawful
