use Rattle.forming.proofs.Placed.{place_law}
use Rattle.forming.proofs.place_stands.Goals as goal

pub returns : goal.returns
returns g c = place_law g.L.Label.kind g.met.L.Label.lawful
