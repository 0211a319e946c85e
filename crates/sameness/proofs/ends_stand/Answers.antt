use Rattle.sameness.proofs.Ends.{links_paired}
use Rattle.sameness.proofs.ends_stand.Goals as goal

pub returns : goal.returns
returns g c = links_paired g.L.Label.kind
