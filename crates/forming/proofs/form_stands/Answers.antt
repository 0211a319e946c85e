use Rattle.forming.proofs.Reading.{form_law}
use Rattle.forming.proofs.form_stands.Goals as goal

pub returns : goal.returns
returns g c = form_law g.L.Label.kind
