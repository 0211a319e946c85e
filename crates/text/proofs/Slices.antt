-- What a slice pattern says of a list.
use Rattle.std.proofs.Common.{◌≡◌, ℕ, ◌-◌, ◌<◌, List, [], ◌∷◌, length, get_or, take, drop, sym, refl, ap, arith, length-drop}
use Rattle.std.proofs.lemmas.List.{take_all}

-- what `after` holds under a pattern with n elements before `after @ ..`
abbrev pub past : {A : Type 0} → ℕ → List A → List A
past n s = take (length s - n) (drop n s)

pub past_is : {A : Type 0} (n : ℕ) (s : List A) → past n s ≡ drop n s
past_is n s = let l = length-drop n s in take_all _ (drop n s) (omega arith)

-- d is what a read past the end would give
pub at_first : {A : Type 0} (d : A) (s : List A) → 0 < length s → s ≡ get_or s 0 d ∷ past 1 s
at_first d [] h = absurd (omega arith)
at_first d (b ∷ bs) h = ap (λ t. b ∷ t) (sym (take_all _ bs (omega arith)))

pub at_none : {A : Type 0} (s : List A) → length s ≡ 0 → s ≡ []
at_none [] h = refl
at_none (b ∷ bs) h = absurd (omega arith)
