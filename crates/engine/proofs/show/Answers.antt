use Rattle.calls.proofs.Follow.{show_follows}
use Rattle.engine.proofs.show.Goals as goal

pub returns-clause-calls : goal.returns-clause-calls
returns-clause-calls g c = let e = c.show.ensures in show_follows g.L.Label.kind g.met.L.Label.lawful _ _ _ _ e.answer e.bytes
