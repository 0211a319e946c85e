-- Rows of tables, by what stands there.
use Rattle.std.proofs.lemmas.Option.{slice_get_past}
use Rattle.std.proofs.lemmas.List.{map-id}
use Rattle.std.proofs.Common.{◌≡◌, ℕ, zero, suc, ◌+◌, ◌<◌, ◌≤◌, true, cond, eqb, List, [], ◌∷◌, map, length, Some, None, Option, sym, refl, ap, ◌∙◌, subst, ⊎_elim, arith}
use Rattle.std.specs.List.{slice_get}
use Rattle.std.proofs.lemmas.Bool.{and_parts, cases_eq, cond-true, cond-false, eq-eqb, ne_eqb, eqb-true}
use Rattle.std.proofs.lemmas.Bool.Decides.{nat_tests}
use Rattle.plan.specs.Sound.{count, distinct}
use Rattle.placing.proofs.KeepTally.{count_without, tally, tally_length, tally_split, without}
use Rattle.sameness.specs.Reordering.{Renumbering}

-- the row of a number
unfoldable pub row : ℕ → List ℕ → ℕ
row x [] = 0
row x (y ∷ ys) = cond (eqb x y) 0 (suc (row x ys))

row_head : (x y : ℕ) (ys : List ℕ) → x ≡ y → row x (y ∷ ys) ≡ 0
unfolding row
row_head x y ys e = cond-true (eqb x y) 0 (suc (row x ys)) (eq-eqb x y e)

row_later : (x y : ℕ) (ys : List ℕ) → (x ≡ y → ⊥) → row x (y ∷ ys) ≡ suc (row x ys)
unfolding row
row_later x y ys d = cond-false (eqb x y) 0 (suc (row x ys)) (ne_eqb x y d)

pub row_in : (x : ℕ) (ys : List ℕ) → 0 < count x ys → slice_get ys (row x ys) ≡ Some x
unfolding count
row_in x [] h = absurd (omega arith)
row_in x (y ∷ ys) h =
    ⊎_elim
    (λ (e : x ≡ y). ap (slice_get (y ∷ ys)) (row_head x y ys e) ∙ ap Some (sym e))
    (λ (d : x ≡ y → ⊥).
    let c = cond-false (eqb x y) (suc (count x ys)) (count x ys) (ne_eqb x y d) in
    ap (slice_get (y ∷ ys)) (row_later x y ys d) ∙ row_in x ys (omega arith))
    (cases_eq x y)

pub nth_counts : (ys : List ℕ) (i x : ℕ) → slice_get ys i ≡ Some x → 0 < count x ys
unfolding count
nth_counts [] i x e = absurd (let z : ◌≡◌ {A = ℕ} 0 1 = cc in omega arith)
nth_counts (y ∷ ys) zero x e = let s : x ≡ y = cc in let c = cond-true (eqb x y) (suc (count x ys)) (count x ys) (eq-eqb x y s) in omega arith
nth_counts (y ∷ ys) (suc i) x e = let ih = nth_counts ys i x e in grind (arith, nat_tests)

row_of : (x : ℕ) (ys : List ℕ) (i : ℕ) → distinct ys ≡ true → slice_get ys i ≡ Some x → row x ys ≡ i
unfolding distinct
row_of x [] i d e = absurd (let z : ◌≡◌ {A = ℕ} 0 1 = cc in omega arith)
row_of x (y ∷ ys) zero d e = row_head x y ys (cc)
row_of x (y ∷ ys) (suc i) d e =
    let parts = and_parts (eqb (count y ys) 0) (distinct ys) d in
    let none = eqb-true (count y ys) 0 parts.0 in
    let c = nth_counts ys i x e in
    row_later x y ys (λ s. let z : 0 < count y ys = subst (λ w. 0 < count w ys) s c in omega arith) ∙ ap suc (row_of x ys i parts.1 e)

pub nth_past : {A : Type 0} (xs : List A) (i : ℕ) → slice_get xs i ≡ None → length xs ≤ i
nth_past [] i e = omega arith
nth_past (x ∷ xs) zero e = absurd (let z : ◌≡◌ {A = ℕ} 0 1 = cc in omega arith)
nth_past (x ∷ xs) (suc i) e = let l = nth_past xs i e in omega arith

-- ** lists with the same numbers are as long

length_without : (a : ℕ) (s : List ℕ) → length s ≡ count a s + length (without a s)
length_without a s =
    let e = tally_split (λ x. true) (λ x. x) (λ x. x) a s (λ x d. refl) in
    let b : tally (λ x. true) (map (λ x. x) s) ≡ length s = ap (tally (λ x. true)) (map-id s) ∙ tally_length s in
    let c : tally (λ x. true) (map (λ x. x) (without a s)) ≡ length (without a s) = ap (tally (λ x. true)) (map-id (without a s)) ∙ tally_length (without a s) in
    omega arith

no_numbers : (ys : List ℕ) → ((x : ℕ) → 0 ≡ count x ys) → length ys ≡ 0
unfolding count
no_numbers [] h = refl
no_numbers (y ∷ ys) h = let e = h y in let c = cond-true (eqb y y) (suc (count y ys)) (count y ys) (eq-eqb y y refl) in absurd (omega arith)

pub same_length : (xs ys : List ℕ) → distinct xs ≡ true → ((x : ℕ) → count x xs ≡ count x ys) → length xs ≡ length ys
unfolding count distinct
same_length [] ys d h = sym (no_numbers ys h)
same_length (x ∷ xs) ys d h =
    let parts = and_parts (eqb (count x xs) 0) (distinct xs) d in
    let none = eqb-true (count x xs) 0 parts.0 in
    let one : count x ys ≡ 1 = let e = h x in let c = cond-true (eqb x x) (suc (count x xs)) (count x xs) (eq-eqb x x refl) in omega arith in
    let ih = same_length xs (without x ys) parts.1 (λ y. let w = count_without x y ys in let e = h y in let here = λ (s : x ≡ y). subst (λ z. count z xs ≡ 0) s none in grind (arith, nat_tests)) in
    let l = length_without x ys in
    omega arith

-- ** rows of the same numbers in another order

abbrev pub sent : Option ℕ → List ℕ → ℕ → ℕ
sent None ys i = i
sent (Some x) ys i = row x ys

-- a row goes to where the other list has its number
abbrev pub there : List ℕ → List ℕ → ℕ → ℕ
there xs ys i = sent (slice_get xs i) ys i

pub there_back : (xs ys : List ℕ) → distinct xs ≡ true → length xs ≡ length ys → ((x : ℕ) → count x xs ≡ count x ys) → (i : ℕ) (o : Option ℕ) → slice_get xs i ≡ o → there ys xs (sent o ys i) ≡ i
there_back xs ys d l h i None e =
    let p = nth_past xs i e in
    ap (λ z. sent z xs i) (slice_get_past ys i (omega arith))
there_back xs ys d l h i (Some x) e =
    let c = nth_counts xs i x e in
    let k = h x in
    ap (λ z. sent z xs (row x ys)) (row_in x ys (omega arith)) ∙ row_of x xs i d e

unfoldable pub renumbering : (xs ys : List ℕ) → distinct xs ≡ true → distinct ys ≡ true → ((x : ℕ) → count x xs ≡ count x ys) → Renumbering
renumbering xs ys d e h =
    let l = same_length xs ys d h in
    record {
      to = there xs ys;
      back = there ys xs;
      back_to = λ i. there_back xs ys d l h i (slice_get xs i) refl;
      to_back = λ i. there_back ys xs e (sym l) (λ x. sym (h x)) i (slice_get ys i) refl;
    }
