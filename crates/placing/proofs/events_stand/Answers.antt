use Rattle.placing.proofs.Counting.{events_right}
use Rattle.placing.proofs.events_stand.Goals as goal

pub returns : goal.returns
returns g c = events_right g.L.Label.kind g.met.L.Label.lawful
