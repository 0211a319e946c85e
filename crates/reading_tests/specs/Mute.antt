-- A kind of label that has no labels and takes no token.
use Rattle.std.specs.Prelude.{false, None}
use Rattle.label.specs.Kind.{Kind}
use Rattle.reading_tests.specs.declared.mute.Mute.{Mute}
use Rattle.reading_tests.specs.declared.mute.Never.{Never}

abbrev pub mute_kind : Kind Mute
mute_kind = record { mine = λ a. false; read = λ f bs. None; lower = λ a b. false; token = λ a. None }

abbrev pub mute_raw : Never → Mute
mute_raw s = elim s [ ]
