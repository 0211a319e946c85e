-- Which bytes are a word, a line name or a number.
use Rattle.std.specs.Prelude.{ℕ, Bool, false, cond, ◌&&◌, List, [], ◌∷◌, length, ◌==◌, nat_le}
use Rattle.std.specs.List.{list_all}
use Rattle.text.specs.Classes.{lower, upper, digit, tail}

-- one byte that passes `first`, and then only such as pass `more`
abbrev pub begins : (ℕ → Bool) → (ℕ → Bool) → List ℕ → Bool
begins first more [] = false
begins first more (b ∷ bs) = first b && list_all more bs

-- the most characters of a word or a line name
abbrev pub name_limit : ℕ
name_limit = 8

abbrev pub is_word : List ℕ → Bool
is_word bs = begins lower tail bs && nat_le (length bs) name_limit

abbrev pub is_name : List ℕ → Bool
is_name bs = begins upper tail bs && nat_le (length bs) name_limit

-- at least one digit, perhaps after a minus sign
abbrev pub is_number : List ℕ → Bool
is_number [] = false
is_number (b ∷ bs) = cond (b == 45) (begins digit digit bs) (begins digit digit (b ∷ bs))
