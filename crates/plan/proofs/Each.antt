-- Tests of every row.
use Rattle.std.proofs.Common.{◌≡◌, ℕ, zero, suc, Bool, true, false, ◌&&◌, List, [], ◌∷◌, ◌++◌, map, refl, ap, ◌∙◌, ap₂, add-one}
use Rattle.std.proofs.lemmas.List.Folds.{list_all-append, list_all-map}
use Rattle.std.specs.List.{list_all, range_with_len}
use Rattle.plan.specs.Sound.{rows}

pub each_append : {A : Type 0} (p : A → Bool) (s t : List A) → list_all p (s ++ t) ≡ (list_all p s && list_all p t)
each_append p s t = list_all-append p s t

pub each_map : {A B : Type 0} (p : B → Bool) (f : A → B) (s : List A) → list_all p (map f s) ≡ list_all (λ x. p (f x)) s
each_map p f s = list_all-map p f s

-- rows by number
pub rows_are : (i n : ℕ) → rows i n ≡ range_with_len i n
unfolding rows
rows_are i zero = refl
rows_are i (suc n) = let ih = rows_are (suc i) n in ap (λ s. i ∷ s) (rw add-one ih)

pub each_alike : {A : Type 0} (p q : A → Bool) → ((x : A) → p x ≡ q x) → (s : List A) → list_all p s ≡ list_all q s
each_alike p q h [] = refl
each_alike p q h (x ∷ s) = ap₂ ◌&&◌ (h x) (each_alike p q h s)

and_swap : (a b x y : Bool) → ((a && b) && (x && y)) ≡ ((a && x) && (b && y))
and_swap true true x y = refl
and_swap true false true y = refl
and_swap true false false y = refl
and_swap false b x y = refl

pub each_both : {A : Type 0} (p q : A → Bool) (s : List A) → list_all (λ x. p x && q x) s ≡ (list_all p s && list_all q s)
each_both p q [] = refl
each_both p q (x ∷ s) = ap (λ b. (p x && q x) && b) (each_both p q s) ∙ and_swap (p x) (q x) (list_all p s) (list_all q s)
