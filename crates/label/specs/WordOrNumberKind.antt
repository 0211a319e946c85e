-- The kind of label that has words and numbers.
use Rattle.std.specs.Prelude.{ℕ, Bool, true, false, List, Option, int_lt, nat_lt}
use Rattle.label.specs.declared.form.Form.{Form}
use Rattle.label.specs.declared.form.Form.TheVariants as forms
use Rattle.label.specs.declared.sure.SureWordOrNumber.{SureWordOrNumber}
use Rattle.label.specs.declared.sure.SureWordOrNumber.TheVariants as sures
use Rattle.label.specs.declared.word_or_number.WordOrNumber.{WordOrNumber}
use Rattle.label.specs.declared.word_or_number.WordOrNumber.TheVariants.{Word, Number}
use Rattle.label.specs.Kind.{Kind}
use Rattle.std.specs.Option.{option_map}
use Rattle.label.specs.Tokens.{in_range, number_token, read_number, read_word, word_label, word_token}

abbrev pub mixed_mine : WordOrNumber → Bool
mixed_mine (Word n) = word_label n
mixed_mine (Number z) = in_range z

abbrev pub mixed_read : Form → List ℕ → Option WordOrNumber
mixed_read forms.Word bs = option_map Word (read_word bs)
mixed_read forms.Number bs = option_map Number (read_number bs)

-- numbers by value, then words in numeric order, which is their byte order
abbrev pub mixed_lower : WordOrNumber → WordOrNumber → Bool
mixed_lower (Number a) (Number b) = int_lt a b
mixed_lower (Number a) (Word n) = true
mixed_lower (Word n) (Number b) = false
mixed_lower (Word n) (Word m) = nat_lt n m

abbrev pub mixed_token : WordOrNumber → Option (Form × List ℕ)
mixed_token (Word n) = word_token n
mixed_token (Number z) = number_token z

abbrev pub mixed_kind : Kind WordOrNumber
mixed_kind = record { mine = mixed_mine; read = mixed_read; lower = mixed_lower; token = mixed_token }

abbrev pub mixed_raw : SureWordOrNumber → WordOrNumber
mixed_raw (sures.Word s) = Word s.packed
mixed_raw (sures.Number s) = Number s.value
