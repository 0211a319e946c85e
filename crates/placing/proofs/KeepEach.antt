-- Tests of every row, and counts.
use Rattle.std.proofs.lemmas.List.Folds.{list_all-append}
use Rattle.std.proofs.Common.{◌≡◌, ℕ, zero, suc, ◌+◌, ◌<◌, ◌≤◌, Bool, true, false, cond, eqb, List, [], ◌∷◌, ◌++◌, set, filter, refl, ap, ◌∙◌, ⊎_elim, arith}
use Rattle.std.proofs.lemmas.Bool.{and_from, and_parts, cases_eq, eq-eqb, eqb-true}
use Rattle.std.proofs.lemmas.Bool.Decides.{nat_tests}
use Rattle.std.specs.List.{list_all}
use Rattle.plan.specs.Sound.{count, distinct, rows}

module _ {A : Type 0} (p : A → Bool) where
  pub each_join : (s t : List A) → list_all p s ≡ true → list_all p t ≡ true → list_all p (s ++ t) ≡ true
  each_join s t a b = list_all-append p s t ∙ and_from (list_all p s) (list_all p t) a b

  pub each_one : (x : A) → p x ≡ true → list_all p (x ∷ []) ≡ true
  each_one x h = and_from (p x) true h refl

  pub each_set : (s : List A) (i : ℕ) (x : A) → list_all p s ≡ true → p x ≡ true → list_all p (set s i x) ≡ true
  each_set [] i x h k = refl
  each_set (y ∷ s) zero x h k = let both = and_parts (p y) (list_all p s) h in and_from (p x) (list_all p s) k both.1
  each_set (y ∷ s) (suc i) x h k =
      let both = and_parts (p y) (list_all p s) h in
      and_from (p y) (list_all p (set s i x)) both.0 (each_set s i x both.1 k)

  pub each_weaker : (q : A → Bool) → ((x : A) → p x ≡ true → q x ≡ true) → (s : List A) → list_all p s ≡ true → list_all q s ≡ true
  each_weaker q w [] h = refl
  each_weaker q w (x ∷ s) h =
      let both = and_parts (p x) (list_all p s) h in
      and_from (q x) (list_all q s) (w x both.0) (each_weaker q w s both.1)

  pub each_kept : (q : A → Bool) (s : List A) → list_all p s ≡ true → list_all p (filter q s) ≡ true
  each_kept q [] h = refl
  each_kept q (x ∷ s) h =
      let both = and_parts (p x) (list_all p s) h in
      let ih = each_kept q s both.1 in
      elim (q x) as (λ v. list_all p (cond v (x ∷ filter q s) (filter q s)) ≡ true) [
        | true ↦ and_from (p x) (list_all p (filter q s)) both.0 ih
        | false ↦ ih
      ]

pub each_row : (p : ℕ → Bool) (j n i : ℕ) → list_all p (rows j n) ≡ true → j ≤ i → i < j + n → p i ≡ true
unfolding rows
each_row p j zero i h a b = absurd (omega arith)
each_row p j (suc n) i h a b =
    let both = and_parts (p j) (list_all p (rows (suc j) n)) h in
    ⊎_elim
    (λ (e : i ≡ j). ap p e ∙ both.0)
    (λ (e : i ≡ j → ⊥). each_row p (suc j) n i both.1 (omega arith) (omega arith))
    (cases_eq i j)

pub row_each : (p : ℕ → Bool) (j n : ℕ) → ((i : ℕ) → i < j + n → p i ≡ true) → list_all p (rows j n) ≡ true
unfolding rows
row_each p j zero h = refl
row_each p j (suc n) h = and_from (p j) (list_all p (rows (suc j) n)) (h j (omega arith)) (row_each p (suc j) n (λ i l. h i (omega arith)))

-- what passes of every number passes of each that stands, and the other way
pub each_standing : (p : ℕ → Bool) (s : List ℕ) (x : ℕ) → list_all p s ≡ true → 0 < count x s → p x ≡ true
unfolding count
each_standing p [] x h k = absurd (omega arith)
each_standing p (y ∷ s) x h k =
    let both = and_parts (p y) (list_all p s) h in
    let ih = each_standing p s x both.1 in
    let here : x ≡ y → p x ≡ true = λ e. ap p e ∙ both.0 in
    grind (arith, nat_tests)

pub standing_each : (p : ℕ → Bool) (s : List ℕ) → ((x : ℕ) → 0 < count x s → p x ≡ true) → list_all p s ≡ true
unfolding count
standing_each p [] h = refl
standing_each p (y ∷ s) h =
    let self : cond (eqb y y) (suc (count y s)) (count y s) ≡ suc (count y s) = ap (λ b. cond b (suc (count y s)) (count y s)) (eq-eqb y y refl) in
    and_from (p y) (list_all p s) (h y (omega arith)) (standing_each p s (λ x k. h x (grind (arith, nat_tests))))

pub count_append : (x : ℕ) (s t : List ℕ) → count x (s ++ t) ≡ count x s + count x t
unfolding count
count_append x [] t = omega arith
count_append x (y ∷ s) t = let ih = count_append x s t in grind (arith, nat_tests)

pub distinct_once : (s : List ℕ) (x : ℕ) → distinct s ≡ true → count x s ≤ 1
unfolding distinct count
distinct_once [] x h = omega arith
distinct_once (y ∷ s) x h =
    let both = and_parts (eqb (count y s) 0) (distinct s) h in
    let none = eqb-true (count y s) 0 both.0 in
    let ih = distinct_once s x both.1 in
    let here : x ≡ y → count x s ≡ 0 = λ e. ap (λ z. count z s) e ∙ none in
    grind (arith, nat_tests)

pub once_distinct : (s : List ℕ) → ((x : ℕ) → count x s ≤ 1) → distinct s ≡ true
unfolding distinct count
once_distinct [] h = refl
once_distinct (y ∷ s) h =
    let hy = h y in
    let self : cond (eqb y y) (suc (count y s)) (count y s) ≡ suc (count y s) = ap (λ b. cond b (suc (count y s)) (count y s)) (eq-eqb y y refl) in
    and_from (eqb (count y s) 0) (distinct s) (eq-eqb (count y s) 0 (omega arith)) (once_distinct s (λ x. let hx = h x in grind (arith, nat_tests)))
