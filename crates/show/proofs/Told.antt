-- The numbers in the table are those of the definition.
use Rattle.showing.proofs.Named.{joined_new}
use Rattle.showing.proofs.Named.{place_most}
use Rattle.std.proofs.Common.{◌≡◌, ℕ, zero, suc, ◌+◌, ◌<◌, ◌≤◌, true, false, cond, eqb, ltb, List, [], ◌∷◌, ◌++◌, length, get_or, set, replicate, is_some, Some, None, Option, sym, refl, ap, ◌∙◌, subst, ⊎_elim, append_assoc, append-nil, arith, length-set}
use Rattle.std.proofs.lemmas.List.{get_or-set_same, get_or-set_other, get_or-replicate, length_push, length-replicate}
use Rattle.std.proofs.lemmas.Bool.{cases_eq, cases_lt, cond-true, cond-false, eq-eqb, ne_eqb, lt-ltb, le-ltb}
use Rattle.std.proofs.lemmas.Bool.Decides.{nat_tests}
use Rattle.showing.specs.Shown.{place, joins, firsts}
use Rattle.show.specs.Page.{Numbers}
use Rattle.show.specs.Steps.{next_to}
use Rattle.show.proofs.Linking.{next_given, next_kept}

-- places in a list
place_front : (x : ℕ) (xs ys : List ℕ) → place x xs < length xs → place x (xs ++ ys) ≡ place x xs
unfolding place
place_front x [] ys h = absurd (omega arith)
place_front x (y ∷ xs) ys h = let ih = place_front x xs ys in grind (arith, nat_tests)

place_last : (x : ℕ) (xs : List ℕ) → place x xs ≡ length xs → place x (xs ++ (x ∷ [])) ≡ length xs
unfolding place
place_last x [] h = grind (arith, nat_tests)
place_last x (y ∷ xs) h = let ih = place_last x xs in grind (arith, nat_tests)

place_past : (y x : ℕ) (xs : List ℕ) → (y ≡ x → ⊥) → place y xs ≡ length xs → place y (xs ++ (x ∷ [])) ≡ length xs + 1
unfolding place
place_past y x [] n h = grind (arith, nat_tests)
place_past y x (z ∷ xs) n h = let ih = place_past y x xs n in grind (arith, nat_tests)

-- how many links have no number
unfoldable pub nones : List (Option ℕ) → ℕ
nones [] = 0
nones (o ∷ os) = cond (is_some o) (nones os) (suc (nones os))

nones_less : (t : List (Option ℕ)) (x v : ℕ) → x < length t → get_or t x None ≡ None → nones (set t x (Some v)) + 1 ≡ nones t
unfolding nones
nones_less [] x v h e = absurd (omega arith)
nones_less (o ∷ t) zero v h e = grind arith
nones_less (o ∷ t) (suc x) v h e = let ih = nones_less t x v in grind (arith, nat_tests)

nones_all : (n : ℕ) → nones (replicate n None) ≡ n
unfolding nones
nones_all zero = refl
nones_all (suc n) = ap suc (nones_all n)

-- the table has the links of a list, each with its place there
pub record Told (n : Numbers) (xs : List ℕ) : Type 0 where
  pub size : length n.table ≡ 8256
  pub count : n.count ≡ length xs
  pub told : (x : ℕ) → x < 8256 → get_or n.table x None ≡ cond (ltb (place x xs) (length xs)) (Some (place x xs)) None
  pub left : nones n.table + length xs ≡ 8256

pub told_none : Told (record { table = replicate 8256 None; count = 0 }) []
unfolding place
told_none = record {
  size = length-replicate {A = Option ℕ} 8256 None;
  count = refl;
  told = λ x h. get_or-replicate 8256 x None None h;
  left = omega (arith, nones_all 8256);
}

-- one link more
told_new : (n : Numbers) (xs : List ℕ) (x : ℕ) → Told n xs → x < 8256 → place x xs ≡ length xs → Told (next_to n x) (xs ++ (x ∷ []))
told_new n xs x t h e =
    let blank : get_or n.table x None ≡ None = t.told x h ∙ cond-false (ltb (place x xs) (length xs)) _ _ (le-ltb _ _ (omega arith)) in
    let in' : x < length n.table = omega (arith, t.size) in
    let less = nones_less n.table x n.count in' blank in
    let l : length (xs ++ (x ∷ [])) ≡ length xs + 1 = length_push xs x in
    let Is : Numbers → Type 0 = λ m. Told m (xs ++ (x ∷ [])) in
    subst Is (sym (next_given n x in' blank))
    (record {
      size = length-set n.table x (Some n.count) ∙ t.size;
      count = omega (arith, t.left, t.count);
      told = λ y k. ⊎_elim
          (λ (s : y ≡ x).
          let p : place x (xs ++ (x ∷ [])) ≡ length xs = place_last x xs e in
          let g : get_or (set n.table x (Some n.count)) x None ≡ Some n.count = get_or-set_same n.table x (Some n.count) None in' in
          let At : ℕ → Type 0 = λ z. get_or (set n.table x (Some n.count)) z None ≡ cond (ltb (place z (xs ++ (x ∷ []))) (length (xs ++ (x ∷ [])))) (Some (place z (xs ++ (x ∷ [])))) None in
          subst At (sym s) (g ∙ ap Some (t.count ∙ sym p) ∙ sym (cond-true (ltb (place x (xs ++ (x ∷ []))) (length (xs ++ (x ∷ [])))) _ _ (lt-ltb _ _ (omega arith)))))
          (λ (s : y ≡ x → ⊥).
          let g : get_or (set n.table x (Some n.count)) y None ≡ get_or n.table y None = get_or-set_other n.table x y (Some n.count) None s in
          let w = place_most y xs in
          let old = t.told y k in
          ⊎_elim
          (λ (r : place y xs < length xs).
          let p = place_front y xs (x ∷ []) r in
          g ∙ old ∙ cond-true (ltb (place y xs) (length xs)) _ _ (lt-ltb _ _ r) ∙ ap Some (sym p)
          ∙ sym (cond-true (ltb (place y (xs ++ (x ∷ []))) (length (xs ++ (x ∷ [])))) _ _ (lt-ltb _ _ (omega arith))))
          (λ (r : length xs ≤ place y xs).
          let p = place_past y x xs s (omega arith) in
          g ∙ old ∙ cond-false (ltb (place y xs) (length xs)) _ _ (le-ltb _ _ r)
          ∙ sym (cond-false (ltb (place y (xs ++ (x ∷ []))) (length (xs ++ (x ∷ [])))) _ _ (le-ltb _ _ (omega arith))))
          (cases_lt (place y xs) (length xs)))
          (cases_eq y x);
      left = omega (arith, t.left);
    })

told_old : (n : Numbers) (xs : List ℕ) (x : ℕ) → Told n xs → x < 8256 → place x xs < length xs → Told (next_to n x) xs
told_old n xs x t h e =
    let at : get_or n.table x None ≡ Some (place x xs) = t.told x h ∙ cond-true (ltb (place x xs) (length xs)) _ _ (lt-ltb _ _ e) in
    let Is : Numbers → Type 0 = λ m. Told m xs in
    subst Is (sym (next_kept n x (place x xs) at)) t

pub told_more : (n : Numbers) (xs : List ℕ) (x : ℕ) → Told n xs → x < 8256 → Told (next_to n x) (joins xs x)
told_more n xs x t h =
    let w = place_most x xs in
    let Is : List ℕ → Type 0 = Told (next_to n x) in
    ⊎_elim
    (λ (r : place x xs < length xs). subst Is (sym (cond-false (eqb (place x xs) (length xs)) _ _ (ne_eqb _ _ (omega arith)))) (told_old n xs x t h r))
    (λ (r : length xs ≤ place x xs).
    let e : place x xs ≡ length xs = omega arith in
    subst Is (sym (cond-true (eqb (place x xs) (length xs)) _ _ (eq-eqb _ _ e))) (told_new n xs x t h e))
    (cases_lt (place x xs) (length xs))

-- a link stands where it joined
-- what is listed stays, and more comes after it
joins_on : (xs : List ℕ) (x : ℕ) → (zs : List ℕ) × (joins xs x ≡ xs ++ zs)
joins_on xs x =
    elim (eqb (place x xs) (length xs)) as (λ v. (zs : List ℕ) × (cond v (xs ++ (x ∷ [])) xs ≡ xs ++ zs)) [ true ↦ (x ∷ [], refl) | false ↦ ([], sym (append-nil xs)) ]

firsts_on : (ys xs : List ℕ) → (zs : List ℕ) × (firsts xs ys ≡ xs ++ zs)
unfolding firsts
firsts_on [] xs = ([], sym (append-nil xs))
firsts_on (y ∷ ys) xs =
    let a = joins_on xs y in
    let b = firsts_on ys (joins xs y) in
    (a.0 ++ b.0, b.1 ∙ ap (λ t. t ++ b.0) a.1 ∙ append_assoc xs a.0 b.0)

pub firsts_next : (xs ys : List ℕ) (x : ℕ) → firsts xs (x ∷ ys) ≡ firsts (joins xs x) ys
unfolding firsts
firsts_next xs ys x = refl

-- the number in the table is the place among all links
pub told_place : (n : Numbers) (xs ys : List ℕ) (x : ℕ) → Told n xs → x < 8256 → get_or (next_to n x).table x None ≡ Some (place x (firsts (joins xs x) ys))
told_place n xs ys x t h =
    let all = firsts_on ys (joins xs x) in
    let r = joined_new x xs in
    (told_more n xs x t h).told x h ∙ cond-true (ltb (place x (joins xs x)) (length (joins xs x))) _ _ (lt-ltb _ _ r)
    ∙ ap Some (sym (place_front x (joins xs x) all.0 r) ∙ ap (place x) (sym all.1))
