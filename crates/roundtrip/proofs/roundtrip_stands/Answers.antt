use Rattle.roundtrip.proofs.Trip.{round_trip}
use Rattle.roundtrip.proofs.roundtrip_stands.Goals as goal

pub returns : goal.returns
returns g c = round_trip g.L.Label.kind g.met.L.Label.lawful
