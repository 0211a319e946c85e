-- A kind of label that has one label and takes one token alone, the number 0.
use Rattle.std.specs.Prelude.{ℕ, false, Bool, List, [], ◌∷◌, Some, None, Option, cond, ◌==◌}
use Rattle.label.specs.declared.form.Form.{Form}
use Rattle.label.specs.declared.form.Form.TheVariants.{Word, Number}
use Rattle.label.specs.Kind.{Kind}
use Rattle.reading_tests.specs.declared.zeros.Zeros.{Zeros}
use Rattle.reading_tests.specs.declared.zeros.Zero.{Zero}

abbrev pub zero : Zeros
zero = record { held = 0 }

-- the bytes of the one token
abbrev pub is_zero : List ℕ → Bool
is_zero [] = false
is_zero (b ∷ []) = b == 48
is_zero (b ∷ c ∷ bs) = false

abbrev pub zeros_read : Form → List ℕ → Option Zeros
zeros_read Word bs = None
zeros_read Number bs = cond (is_zero bs) (Some zero) None

abbrev pub zeros_kind : Kind Zeros
zeros_kind = record {
  mine = λ a. a.held == 0;
  read = zeros_read;
  lower = λ a b. false;
  token = λ a. cond (a.held == 0) (Some (Number, 48 ∷ [])) None;
}

abbrev pub zeros_raw : Zero → Zeros
zeros_raw s = zero
