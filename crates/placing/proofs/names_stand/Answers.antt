use Rattle.placing.proofs.NamesOf.{names_right}
use Rattle.placing.proofs.names_stand.Goals as goal

pub returns : goal.returns
returns g c = names_right g.L.Label.kind
