-- Names as numbers: eight bytes, the first highest, zeros after the last.
use Rattle.std.specs.Prelude.{◌≡◌, ℕ, zero, suc, ◌+◌, ◌*◌, ◌/◌, ◌%◌, ◌^◌, Bool, true, false, cond, ◌&&◌, ◌||◌, List, [], ◌∷◌, ◌==◌, nat_lt}
use Rattle.text.specs.declared.packed.Name.{Name}
use Rattle.text.specs.declared.packed.Packing.{Packing}
use Rattle.text.specs.declared.packed.Packing.TheVariants.{Word, LineName}
use Rattle.text.specs.Classes.{lower, upper}
use Rattle.text.specs.Shapes.{is_word, is_name}

-- the first k bytes, with zeros after the last
unfoldable pub padded : ℕ → List ℕ → List ℕ
padded zero bs = []
padded (suc k) [] = 0 ∷ padded k []
padded (suc k) (b ∷ bs) = b ∷ padded k bs

-- the number that digits in base 256 write after n
unfoldable pub numeral : ℕ → List ℕ → ℕ
numeral n [] = n
numeral n (b ∷ bs) = numeral (n * 256 + b) bs

abbrev pub pack : List ℕ → ℕ
pack bs = numeral 0 (padded 8 bs)

-- the last k digits of n in base 256, before what follows
unfoldable pub digits : ℕ → ℕ → List ℕ → List ℕ
digits zero n after = after
digits (suc k) n after = digits k (n / 256) (n % 256 ∷ after)

-- what stands before the first zero
unfoldable pub before_zero : List ℕ → List ℕ
before_zero [] = []
before_zero (b ∷ bs) = cond (b == 0) [] (b ∷ before_zero bs)

-- the bytes of a packed name
abbrev pub spelling : ℕ → List ℕ
spelling n = before_zero (digits 8 n [])

-- a byte that a word, or a line name, begins with
abbrev pub heads : Packing → ℕ → Bool
heads Word = lower
heads LineName = upper

-- bytes that are a word, or a line name
abbrev pub spells : Packing → List ℕ → Bool
spells Word = is_word
spells LineName = is_name

-- byte order: the first difference decides, and a front comes first
abbrev pub before : List ℕ → List ℕ → Bool
before a [] = false
before [] (b ∷ bs) = true
before (a ∷ rest) (b ∷ bs) = nat_lt a b || (a == b && before rest bs)

-- a word or a line name
abbrev pub named : List ℕ → Bool
named bs = is_word bs || is_name bs

-- a name that begins with `_`
abbrev pub underscored : Name → Bool
underscored n = n.packed / 2 ^ 56 == 95

-- packing loses nothing
abbrev pub Lossless : Type 0
Lossless = (a : List ℕ) → named a ≡ true → spelling (pack a) ≡ a

-- numeric order of packed names is byte order
abbrev pub Ordered : Type 0
Ordered = (a b : List ℕ) → named a ≡ true → named b ≡ true → nat_lt (pack a) (pack b) ≡ before a b
