-- Counting the numbers of a list that pass a test.
use Rattle.std.proofs.Common.{◌≡◌, ℕ, zero, suc, ◌+◌, ◌<◌, ◌≤◌, Bool, true, cond, eqb, List, [], ◌∷◌, ◌++◌, map, length, filter, refl, ap, arith}
use Rattle.std.proofs.lemmas.Bool.Decides.{nat_tests}
use Rattle.plan.specs.Sound.{count, rows}

unfoldable pub tally : (ℕ → Bool) → List ℕ → ℕ
tally p [] = 0
tally p (y ∷ ys) = cond (p y) (suc (tally p ys)) (tally p ys)

pub tally_count : (x : ℕ) (s : List ℕ) → tally (eqb x) s ≡ count x s
unfolding tally count
tally_count x [] = refl
tally_count x (y ∷ s) = ap (λ n. cond (eqb x y) (suc n) n) (tally_count x s)

pub tally_length : (s : List ℕ) → tally (λ x. true) s ≡ length s
unfolding tally
tally_length [] = refl
tally_length (y ∷ s) = ap suc (tally_length s)

pub tally_append : (p : ℕ → Bool) (s t : List ℕ) → tally p (s ++ t) ≡ tally p s + tally p t
unfolding tally
tally_append p [] t = omega arith
tally_append p (y ∷ s) t = let ih = tally_append p s t in grind arith

-- ** a number left out

unfoldable pub without : ℕ → List ℕ → List ℕ
without a [] = []
without a (x ∷ xs) = cond (eqb a x) (without a xs) (x ∷ without a xs)

pub count_without : (a x : ℕ) (s : List ℕ) → count x (without a s) ≡ cond (eqb a x) 0 (count x s)
unfolding without count
count_without a x [] = grind (arith, nat_tests)
count_without a x (y ∷ s) = let ih = count_without a x s in grind (arith, nat_tests)

pub tally_split : (p : ℕ → Bool) (f g : ℕ → ℕ) (a : ℕ) (s : List ℕ) → ((x : ℕ) → (a ≡ x → ⊥) → f x ≡ g x) → tally p (map f s) ≡ cond (p (f a)) (count a s) 0 + tally p (map g (without a s))
unfolding tally without count
tally_split p f g a [] w = grind (arith, nat_tests)
tally_split p f g a (x ∷ s) w =
    let ih = tally_split p f g a s w in
    let other = w x in
    let same : a ≡ x → f a ≡ f x = λ e. ap f e in
    grind (arith, nat_tests)

-- ** numbers of a run that do not stand in a list

unfoldable sum_count : List ℕ → List ℕ → ℕ
sum_count [] s = 0
sum_count (x ∷ xs) s = count x s + sum_count xs s

sum_none : (xs : List ℕ) → sum_count xs [] ≡ 0
unfolding sum_count count
sum_none [] = refl
sum_none (x ∷ xs) = let ih = sum_none xs in omega arith

sum_more : (xs : List ℕ) (y : ℕ) (s : List ℕ) → sum_count xs (y ∷ s) ≡ count y xs + sum_count xs s
unfolding sum_count count
sum_more [] y s = omega arith
sum_more (x ∷ xs) y s = let ih = sum_more xs y s in grind (arith, nat_tests)

sum_least : (xs s : List ℕ) → ((y : ℕ) → count y xs ≤ 1) → sum_count xs s ≤ length s
sum_least xs [] h = omega (arith, sum_none xs)
sum_least xs (y ∷ s) h = omega (arith, sum_more xs y s, h y, sum_least xs s h)

sum_kept : (xs s : List ℕ) → ((x : ℕ) → 0 < count x s → count x s ≡ 2) → length xs + length xs ≡ sum_count xs s + (length (filter (λ x. eqb (count x s) 0) xs) + length (filter (λ x. eqb (count x s) 0) xs))
unfolding sum_count
sum_kept [] s h = refl
sum_kept (x ∷ xs) s h = let ih = sum_kept xs s h in let two = h x in grind (arith, nat_tests)

-- where each number stands twice, the list has twice as many places as numbers
pub many_left : (xs s : List ℕ) → ((y : ℕ) → count y xs ≤ 1) → ((x : ℕ) → 0 < count x s → count x s ≡ 2) → length xs + length xs ≤ length s + (length (filter (λ x. eqb (count x s) 0) xs) + length (filter (λ x. eqb (count x s) 0) xs))
many_left xs s once two = omega (arith, sum_least xs s once, sum_kept xs s two)

-- ** rows

rows_before : (j n a : ℕ) → a < j → count a (rows j n) ≡ 0
unfolding rows count
rows_before j zero a h = refl
rows_before j (suc n) a h = let ih = rows_before (suc j) n a (omega arith) in grind (arith, nat_tests)

pub rows_once : (j n a : ℕ) → count a (rows j n) ≤ 1
unfolding rows count
rows_once j zero a = omega arith
rows_once j (suc n) a =
    let ih = rows_once (suc j) n a in
    let none = rows_before (suc j) n a in
    grind (arith, nat_tests)

pub kept_least : (p : ℕ → Bool) (a : ℕ) (xs : List ℕ) → count a (filter p xs) ≤ count a xs
unfolding count
kept_least p a [] = omega arith
kept_least p a (x ∷ xs) = let ih = kept_least p a xs in grind (arith, nat_tests)

pub kept_passes : (p : ℕ → Bool) (a : ℕ) (xs : List ℕ) → 0 < count a (filter p xs) → p a ≡ true
unfolding count
kept_passes p a [] h = absurd (omega arith)
kept_passes p a (x ∷ xs) h =
    let ih = kept_passes p a xs in
    let same : a ≡ x → p a ≡ p x = λ e. ap p e in
    grind (arith, nat_tests)
