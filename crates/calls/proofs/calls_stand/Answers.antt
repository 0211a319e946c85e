use Rattle.calls.proofs.After.{after_law}
use Rattle.calls.proofs.calls_stand.Goals as goal

pub returns : goal.returns
returns g c = after_law g.L.Label.kind g.met.L.Label.lawful
