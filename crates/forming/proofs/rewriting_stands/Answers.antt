use Rattle.forming.proofs.Rewrites.{rewriting_law}
use Rattle.forming.proofs.rewriting_stands.Goals as goal

pub returns : goal.returns
returns g c = rewriting_law g.L.Label.kind g.met.L.Label.lawful
