use Rattle.calls.proofs.Follow.{strike_follows}
use Rattle.engine.proofs.strike.Goals as goal

pub returns-clause-calls : goal.returns-clause-calls
returns-clause-calls g c = let e = c.strike.ensures in strike_follows g.L.Label.kind g.met.L.Label.lawful _ _ _ e.answer e.after e.tables e.sound
