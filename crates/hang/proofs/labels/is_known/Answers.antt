use Rattle.std.proofs.Common.{◌&&◌, ap}
use Rattle.std.specs.Str.{bytes_eq}
use Rattle.hang.proofs.Labelling.{forms_told, known_is}
use Rattle.hang.proofs.labels.is_known.Goals as goal

pub returns : goal.returns
returns c = known_is _ c.args.token.now c.args.tokens.now c.contains.ensures.value (λ a b. ap (λ x. x && bytes_eq a.bytes.items b.bytes.items) (forms_told a.form b.form))
