-- Sums over lists.
use Rattle.std.proofs.Common.{◌≡◌, ℕ, zero, suc, ◌+◌, ◌*◌, ◌<◌, ◌≤◌, Bool, true, false, cond, ◌&&◌, eqb, ltb, leb, List, [], ◌∷◌, ◌++◌, map, length, filter, sym, refl, ap, ◌∙◌, ap₂, ⊎_elim, arith}
use Rattle.std.specs.List.{AllByRecursion as All}
use Rattle.std.proofs.lemmas.Bool.Decides.{nat_tests}
use Rattle.std.proofs.lemmas.Bool.{and_parts, cases_eq}
use Rattle.std.specs.List.{list_all}
use Rattle.grammar.specs.declared.event.Event.{Event}
use Rattle.grammar.specs.Events.{summed}
use Rattle.plan.specs.Sound.{count, rows}
use Rattle.showing.specs.Reading.{stream}
use Rattle.std.specs.List.{flat_map}

unfoldable pub total : {A : Type 0} → (A → ℕ) → List A → ℕ
total f [] = 0
total f (x ∷ xs) = f x + total f xs

module _ {A : Type 0} where
  pub total_append : (f : A → ℕ) (xs ys : List A) → total f (xs ++ ys) ≡ total f xs + total f ys
  unfolding total
  total_append f [] ys = omega arith
  total_append f (x ∷ xs) ys = let ih = total_append f xs ys in omega arith

  pub total_empty : (f : A → ℕ) → total f [] ≡ 0
  unfolding total
  total_empty f = refl

  pub total_plus : (f g : A → ℕ) (xs : List A) → total (λ x. f x + g x) xs ≡ total f xs + total g xs
  unfolding total
  total_plus f g [] = omega arith
  total_plus f g (x ∷ xs) = let ih = total_plus f g xs in omega arith

  pub total_alike : (f g : A → ℕ) (xs : List A) → ((x : A) → f x ≡ g x) → total f xs ≡ total g xs
  unfolding total
  total_alike f g [] h = refl
  total_alike f g (x ∷ xs) h = ap₂ (λ a b. a + b) (h x) (total_alike f g xs h)

  pub total_none : (xs : List A) → total (λ x. 0) xs ≡ 0
  unfolding total
  total_none [] = refl
  total_none (x ∷ xs) = let ih = total_none xs in omega arith

  pub total_most : (f : A → ℕ) (n : ℕ) (xs : List A) → All (λ x. f x ≤ n) xs → total f xs ≤ length xs * n
  unfolding total
  total_most f n [] h = omega arith
  total_most f n (x ∷ xs) h = let a = h.0 in let ih = total_most f n xs h.1 in let e : suc (length xs) * n ≡ n + length xs * n = omega arith in omega arith

pub total_flat : {A B : Type 0} (g : B → ℕ) (f : A → List B) (xs : List A) → total g (flat_map f xs) ≡ total (λ x. total g (f x)) xs
unfolding total
total_flat g f [] = refl
total_flat g f (x ∷ xs) = let a = total_append g (f x) (flat_map f xs) in let ih = total_flat g f xs in omega arith

pub total_map : {A B : Type 0} (g : B → ℕ) (f : A → B) (xs : List A) → total g (map f xs) ≡ total (λ x. g (f x)) xs
unfolding total
total_map g f [] = refl
total_map g f (x ∷ xs) = ap (λ n. g (f x) + n) (total_map g f xs)

pub total_kept : {A : Type 0} (f : A → ℕ) (p : A → Bool) (xs : List A) → total f (filter p xs) ≡ total (λ x. cond (p x) (f x) 0) xs
unfolding total
total_kept f p [] = refl
total_kept f p (x ∷ xs) =
    elim (p x) as (λ v. total f (cond v (x ∷ filter p xs) (filter p xs)) ≡ cond v (f x) 0 + total (λ x. cond (p x) (f x) 0) xs) [
      | true ↦ ap (λ n. f x + n) (total_kept f p xs)
      | false ↦ let ih = total_kept f p xs in omega arith
    ]

-- two sums, one inside the other
pub total_swap : {A B : Type 0} (f : A → B → ℕ) (xs : List A) (ys : List B) → total (λ x. total (f x) ys) xs ≡ total (λ y. total (λ x. f x y) xs) ys
unfolding total
total_swap f [] ys = sym (total_none ys)
total_swap f (x ∷ xs) ys = ap (λ n. total (f x) ys + n) (total_swap f xs ys) ∙ sym (total_plus (f x) (λ y. total (λ x. f x y) xs) ys)

-- how often a number stands
pub count_total : (i : ℕ) (xs : List ℕ) → count i xs ≡ total (λ x. cond (eqb i x) 1 0) xs
unfolding total count
count_total i [] = refl
count_total i (x ∷ xs) = let ih = count_total i xs in grind (arith, nat_tests)

pub count_append : (i : ℕ) (xs ys : List ℕ) → count i (xs ++ ys) ≡ count i xs + count i ys
unfolding count
count_append i [] ys = omega arith
count_append i (x ∷ xs) ys = let ih = count_append i xs ys in grind (arith, nat_tests)

pub count_kept : (i : ℕ) (p : ℕ → Bool) (xs : List ℕ) → count i (filter p xs) ≡ cond (p i) (count i xs) 0
unfolding count
count_kept i p [] = grind (arith, nat_tests)
count_kept i p (x ∷ xs) = let ih = count_kept i p xs in grind (arith, nat_tests)

pub count_rows : (i j n : ℕ) → count i (rows j n) ≡ cond (leb j i && ltb i (j + n)) 1 0
unfolding count rows
count_rows i j zero = grind (arith, nat_tests)
count_rows i j (suc n) = let ih = count_rows i (suc j) n in grind (arith, nat_tests)

-- All of a list

module _ {A : Type 0} (P : A → Type 0) where
  pub all_append : (xs ys : List A) → All P xs → All P ys → All P (xs ++ ys)
  all_append [] ys h g = g
  all_append (x ∷ xs) ys h g = (h.0, all_append xs ys h.1 g)

  pub all_flat : {B : Type 0} (Q : B → Type 0) (f : B → List A) (ys : List B) → ((y : B) → Q y → All P (f y)) → All Q ys → All P (flat_map f ys)
  all_flat Q f [] g h = tt
  all_flat Q f (y ∷ ys) g h = all_append (f y) (flat_map f ys) (g y h.0) (all_flat Q f ys g h.1)

  pub all_kept : (p : A → Bool) (xs : List A) → All P xs → All (λ x. P x × (p x ≡ true)) (filter p xs)
  all_kept p [] h = tt
  all_kept p (x ∷ xs) h =
      elim (p x) as (λ v. (p x ≡ v) → All (λ x. P x × (p x ≡ true)) (cond v (x ∷ filter p xs) (filter p xs))) [
        | true ↦ λ e. ((h.0, e), all_kept p xs h.1)
        | false ↦ λ e. all_kept p xs h.1
      ] refl

  pub all_weaker : (Q : A → Type 0) (xs : List A) → ((x : A) → P x → Q x) → All P xs → All Q xs
  all_weaker Q [] f h = tt
  all_weaker Q (x ∷ xs) f h = (f x h.0, all_weaker Q xs f h.1)

  pub all_map : {B : Type 0} (f : B → A) (ys : List B) → All (λ y. P (f y)) ys → All P (map f ys)
  all_map f [] h = tt
  all_map f (y ∷ ys) h = (h.0, all_map f ys h.1)

  pub all_of : (xs : List A) → ((x : A) → P x) → All P xs
  all_of [] f = tt
  all_of (x ∷ xs) f = (f x, all_of xs f)

  pub all_both : (Q : A → Type 0) (xs : List A) → All P xs → All Q xs → All (λ x. P x × Q x) xs
  all_both Q [] h g = tt
  all_both Q (x ∷ xs) h g = ((h.0, g.0), all_both Q xs h.1 g.1)

pub each_all : {A : Type 0} (p : A → Bool) (xs : List A) → list_all p xs ≡ true → All (λ x. p x ≡ true) xs
each_all p [] h = tt
each_all p (x ∷ xs) h = let b = and_parts (p x) (list_all p xs) h in (b.0, each_all p xs b.1)

pub all_rows : (j n : ℕ) → All (λ r. r < j + n) (rows j n)
unfolding rows
all_rows j zero = tt
all_rows j (suc n) = (omega arith, all_weaker (λ r. r < suc j + n) (λ r. r < j + suc n) (rows (suc j) n) (λ r h. omega arith) (all_rows (suc j) n))

pub total_all : {A : Type 0} (f g : A → ℕ) (xs : List A) → All (λ x. f x ≡ g x) xs → total f xs ≡ total g xs
unfolding total
total_all f g [] h = refl
total_all f g (x ∷ xs) h = ap₂ (λ a b. a + b) h.0 (total_all f g xs h.1)

pub total_less : {A : Type 0} (f g : A → ℕ) (xs : List A) → All (λ x. f x ≤ g x) xs → total f xs ≤ total g xs
unfolding total
total_less f g [] h = omega arith
total_less f g (x ∷ xs) h = let a = h.0 in let ih = total_less f g xs h.1 in omega arith

pub length_total : {A : Type 0} (xs : List A) → length xs ≡ total (λ x. 1) xs
unfolding total
length_total [] = refl
length_total (x ∷ xs) = let ih = length_total xs in omega arith

pub length_rows : (j n : ℕ) → length (rows j n) ≡ n
unfolding rows
length_rows j zero = refl
length_rows j (suc n) = ap suc (length_rows (suc j) n)

-- what stands at a number that stands once
total_never : (i n : ℕ) (ys : List ℕ) → count i ys ≡ 0 → total (λ r. cond (eqb i r) n 0) ys ≡ 0
unfolding total count
total_never i n [] h = refl
total_never i n (y ∷ ys) h = let ih = total_never i n ys in grind (arith, nat_tests)

pub total_once : (i n : ℕ) (ys : List ℕ) → count i ys ≡ 1 → total (λ r. cond (eqb i r) n 0) ys ≡ n
unfolding total count
total_once i n [] h = absurd (omega arith)
total_once i n (y ∷ ys) h = let ih = total_once i n ys in let none = total_never i n ys in grind (arith, nat_tests)

pub total_same : {A : Type 0} (n : ℕ) (xs : List A) → total (λ x. n) xs ≡ length xs * n
unfolding total
total_same n [] = omega arith
total_same n (x ∷ xs) = let ih = total_same n xs in let e : suc (length xs) * n ≡ n + length xs * n = omega arith in omega arith

-- what passes of each row passes of a row
pub each_row : (p : ℕ → Bool) (j n i : ℕ) → list_all p (rows j n) ≡ true → j ≤ i → i < j + n → p i ≡ true
unfolding rows
each_row p j zero i h a b = absurd (omega arith)
each_row p j (suc n) i h a b =
    let both = and_parts (p j) (list_all p (rows (suc j) n)) h in
    ⊎_elim
    (λ (e : i ≡ j). ap p e ∙ both.0)
    (λ (e : i ≡ j → ⊥). each_row p (suc j) n i both.1 (omega arith) (omega arith))
    (cases_eq i j)

-- what is summed over events
pub summed_total : {L : Type 0} (f : Event L → ℕ) (es : List (Event L)) → summed f (stream es) ≡ total f es
unfolding stream summed total
summed_total f [] = refl
summed_total f (e ∷ es) = ap (λ n. f e + n) (summed_total f es)
