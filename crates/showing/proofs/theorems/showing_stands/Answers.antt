use Rattle.showing.proofs.theorems.showing_stands.Goals as goal
use Rattle.showing.proofs.Readable.{shown_readable}

pub returns : goal.returns
returns g c = shown_readable g.L.Label.kind g.met.L.Label.lawful
