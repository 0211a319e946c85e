use Rattle.calls.proofs.Follow.{hang_follows}
use Rattle.engine.proofs.hang.Goals as goal

pub returns-clause-calls : goal.returns-clause-calls
returns-clause-calls g c = let e = c.hang.ensures in hang_follows g.L.Label.kind g.met.L.Label.lawful _ _ _ _ e.answer e.after e.tables e.sound
