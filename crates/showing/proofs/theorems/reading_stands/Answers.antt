use Rattle.showing.proofs.theorems.reading_stands.Goals as goal
use Rattle.showing.proofs.Back.{reads_back}

pub returns : goal.returns
returns g c = reads_back g.L.Label.kind g.met.L.Label.lawful
