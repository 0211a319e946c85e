-- Words and numbers as labels: what their tokens mean.
use Rattle.std.specs.Prelude.{ℕ, min, Bool, cond, ◌&&◌, List, [], ◌∷◌, ℤ, pos, negsuc, neg_ℤ, Some, None, Option, ◌==◌, nat_le}
use Rattle.std.specs.Fmt.{signed_decimal}
use Rattle.text.specs.Classes.{digit}
use Rattle.text.specs.Shapes.{begins, is_word, is_number}
use Rattle.text.specs.Numbers.{digits_value}
use Rattle.text.specs.Packed.{pack, spelling}
use Rattle.label.specs.declared.form.Form.{Form}
use Rattle.label.specs.declared.form.Form.TheVariants.{Word, Number}

-- a packed word: the bytes that it spells are a word, and pack to it again
abbrev pub word_label : ℕ → Bool
word_label n = is_word (spelling n) && pack (spelling n) == n

abbrev pub read_word : List ℕ → Option ℕ
read_word bs = cond (is_word bs) (Some (pack bs)) None

abbrev pub word_token : ℕ → Option (Form × List ℕ)
word_token n = cond (word_label n) (Some (Word, spelling n)) None

-- from -2147483648 to 2147483647; negsuc n is -(n + 1)
abbrev pub in_range : ℤ → Bool
in_range (pos n) = nat_le n 2147483647
in_range (negsuc n) = nat_le n 2147483647

-- the number that bytes write, a minus sign first or none
abbrev pub number_value : List ℕ → ℤ
number_value [] = pos 0
number_value (b ∷ bs) = cond (b == 45) (neg_ℤ (pos (digits_value 0 bs))) (pos (digits_value 0 (b ∷ bs)))

abbrev pub read_number : List ℕ → Option ℤ
read_number bs = cond (is_number bs && in_range (number_value bs)) (Some (number_value bs)) None

-- in decimal, with no zeros in front
abbrev pub number_token : ℤ → Option (Form × List ℕ)
number_token z = cond (in_range z) (Some (Number, signed_decimal z)) None

-- the value of digits, or the highest number of 32 bits where it is more; none for what is no digits
abbrev pub held_value : List ℕ → Option ℕ
held_value bs = cond (begins digit digit bs) (Some (min (digits_value 0 bs) 4294967295)) None

-- the number that a held value is after a minus sign, or with no sign, if it is in range
abbrev pub negative : Option ℕ → Option ℤ
negative None = None
negative (Some n) = cond (nat_le n 2147483648) (Some (neg_ℤ (pos n))) None

abbrev pub unsigned : Option ℕ → Option ℤ
unsigned None = None
unsigned (Some n) = cond (nat_le n 2147483647) (Some (pos n)) None
