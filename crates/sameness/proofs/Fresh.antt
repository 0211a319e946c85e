-- The unused numbers of a plan, and of one with its links renamed.
use Rattle.std.proofs.Common.{◌≡◌, ℕ, zero, suc, ◌+◌, ◌<◌, ◌≤◌, Bool, true, cond, eqb, ltb, ◌⊎◌, List, [], ◌∷◌, map, length, filter, sym, refl, ap, ◌∙◌, subst, ap₂, inl, inr, ⊎_elim, arith}
use Rattle.std.proofs.lemmas.List.{length-map}
use Rattle.std.proofs.lemmas.Bool.{cases_eq, cases_lt, cond-false, cond-true, eq-eqb, eqb-true, le-ltb, lt-ltb, ltb-true, ne_eqb}
use Rattle.std.proofs.lemmas.Bool.Decides.{nat_tests}
use Rattle.label.specs.Kind.{Kind}
use Rattle.plan.specs.Model.{Model}
use Rattle.plan.specs.Sound.{count, ends, rows}
use Rattle.placing.specs.Keeps.{SoundModel}
use Rattle.placing.specs.Links.{unused}
use Rattle.placing.proofs.KeepAbsorb.{Twice, length_rows}
use Rattle.placing.proofs.KeepEach.{each_standing}
use Rattle.placing.proofs.KeepSound.{unused_below, unused_new, unused_once}
use Rattle.placing.proofs.KeepTally.{rows_once}
use Rattle.sameness.specs.Renaming.{OneToOne, Stands, renamed_by}
use Rattle.sameness.proofs.Renaming.{back, count_first, count_later, ends_by, map_agree, renamed_agree, stands_by, way_back}
use Rattle.sameness.proofs.Hanging.{Within}

-- ** how many there are

unfoldable sum : List ℕ → List ℕ → ℕ
sum [] s = 0
sum (x ∷ xs) s = count x s + sum xs s

sum_none : (xs : List ℕ) → sum xs [] ≡ 0
unfolding sum count
sum_none [] = refl
sum_none (x ∷ xs) = let ih = sum_none xs in omega arith

sum_more : (xs : List ℕ) (y : ℕ) (s : List ℕ) → sum xs (y ∷ s) ≡ count y xs + sum xs s
unfolding sum count
sum_more [] y s = omega arith
sum_more (x ∷ xs) y s = let ih = sum_more xs y s in grind (arith, nat_tests)

sum_all : (xs s : List ℕ) → ((y : ℕ) → 0 < count y s → count y xs ≡ 1) → sum xs s ≡ length s
sum_all xs [] h = sum_none xs
sum_all xs (y ∷ s) h =
    omega (arith, sum_more xs y s, h y (count_first y s), sum_all xs s (λ z k. h z (count_later z y s k)))

sum_kept : (xs s : List ℕ) → Twice s → length xs + length xs ≡ sum xs s + (length (filter (λ x. eqb (count x s) 0) xs) + length (filter (λ x. eqb (count x s) 0) xs))
unfolding sum
sum_kept [] s h = refl
sum_kept (x ∷ xs) s h = let ih = sum_kept xs s h in let two = h x in grind (arith, nat_tests)

rows_has : (j n a : ℕ) → j ≤ a → a < j + n → 0 < count a (rows j n)
unfolding rows count
rows_has j zero a l h = absurd (omega arith)
rows_has j (suc n) a l h = let ih = rows_has (suc j) n a in grind (arith, nat_tests)

kept_has : (p : ℕ → Bool) (a : ℕ) (xs : List ℕ) → p a ≡ true → 0 < count a xs → 0 < count a (filter p xs)
unfolding count
kept_has p a [] e h = absurd (omega arith)
kept_has p a (x ∷ xs) e h =
    let ih = kept_has p a xs e in
    let same : a ≡ x → p a ≡ p x = λ e. ap p e in
    grind (arith, nat_tests)

module _ {L : Type 0} (k : Kind L) (m : Model L) (s : SoundModel k m) where
  two : Twice (ends m)
  two x h = eqb-true (count x (ends m)) 2 (each_standing (λ y. eqb (count y (ends m)) 2) (ends m) x s.pairs h)

  low_end : (x : ℕ) → Stands m x → x < 8256
  low_end x h = ltb-true x 8256 (each_standing (λ y. ltb y 8256) (ends m) x s.links h)

  once_row : (y : ℕ) → Stands m y → count y (rows 0 8256) ≡ 1
  once_row y h =
      let low = low_end y h in
      let a = rows_once 0 8256 y in
      let b = rows_has 0 8256 y (omega arith) (omega arith) in
      omega arith

  many_unused : 16512 ≡ length (ends m) + (length (unused m) + length (unused m))
  unfolding unused
  many_unused =
      let all = sum_all (rows 0 8256) (ends m) once_row in
      let kept = sum_kept (rows 0 8256) (ends m) two in
      let n = length_rows 0 8256 in
      omega arith

  unused_has : (x : ℕ) → x < 8256 → count x (ends m) ≡ 0 → 0 < count x (unused m)
  unfolding unused
  unused_has x l z = kept_has (λ y. eqb (count y (ends m)) 0) x (rows 0 8256) (eq-eqb (count x (ends m)) 0 z) (rows_has 0 8256 x (omega arith) (omega arith))

-- ** numbers of one list paired with those of another

unfoldable pair : List ℕ → List ℕ → ℕ → ℕ
pair [] vs x = x
pair (u ∷ us) [] x = x
pair (u ∷ us) (v ∷ vs) x = cond (eqb x u) v (pair us vs x)

pair_out : (us vs : List ℕ) (x : ℕ) → count x us ≡ 0 → pair us vs x ≡ x
unfolding pair count
pair_out [] vs x h = refl
pair_out (u ∷ us) [] x h = refl
pair_out (u ∷ us) (v ∷ vs) x h = let ih = pair_out us vs x in grind (arith, nat_tests)

pair_in : (us vs : List ℕ) (x : ℕ) → length us ≡ length vs → 0 < count x us → 0 < count (pair us vs x) vs
unfolding pair count
pair_in [] vs x l h = absurd (omega arith)
pair_in (u ∷ us) [] x l h = absurd (omega arith)
pair_in (u ∷ us) (v ∷ vs) x l h =
    let n : length us ≡ length vs = omega arith in
    let ih = pair_in us vs x n in
    grind (arith, nat_tests)

tail_once : (v : ℕ) (vs : List ℕ) → ((y : ℕ) → count y (v ∷ vs) ≤ 1) → (y : ℕ) → count y vs ≤ 1
unfolding count
tail_once v vs once y = let h = once y in grind (arith, nat_tests)

head_once : (v : ℕ) (vs : List ℕ) → ((y : ℕ) → count y (v ∷ vs) ≤ 1) → count v vs ≡ 0
unfolding count
head_once v vs once = let h = once v in let e = eq-eqb v v refl in grind (arith, nat_tests)

pair_back : (us vs : List ℕ) (x : ℕ) → length us ≡ length vs → ((y : ℕ) → count y vs ≤ 1) → 0 < count x us → pair vs us (pair us vs x) ≡ x
unfolding pair count
pair_back [] vs x l once h = absurd (omega arith)
pair_back (u ∷ us) [] x l once h = absurd (omega arith)
pair_back (u ∷ us) (v ∷ vs) x l once h =
    let n : length us ≡ length vs = omega arith in
    let new = head_once v vs once in
    ⊎_elim
    (λ (e : x ≡ u).
    ap (pair (v ∷ vs) (u ∷ us)) (cond-true (eqb x u) v (pair us vs x) (eq-eqb x u e))
    ∙ cond-true (eqb v v) u (pair vs us v) (eq-eqb v v refl) ∙ sym e)
    (λ (e : x ≡ u → ⊥).
    let p = pair us vs x in
    let rest : 0 < count x us = grind (arith, nat_tests) in
    let inside = pair_in us vs x n rest in
    let ne : p ≡ v → ⊥ = λ a. let c : count p vs ≡ count v vs = ap (λ z. count z vs) a in omega arith in
    ap (pair (v ∷ vs) (u ∷ us)) (cond-false (eqb x u) v p (ne_eqb x u e))
    ∙ cond-false (eqb p v) u (pair vs us p) (ne_eqb p v ne) ∙ pair_back us vs x n (tail_once v vs once) rest)
    (cases_eq x u)

pair_map : (us vs : List ℕ) → length us ≡ length vs → ((y : ℕ) → count y us ≤ 1) → map (pair us vs) us ≡ vs
unfolding pair
pair_map [] [] l once = refl
pair_map [] (v ∷ vs) l once = absurd (omega arith)
pair_map (u ∷ us) [] l once = absurd (omega arith)
pair_map (u ∷ us) (v ∷ vs) l once =
    let new = head_once u us once in
    ap₂ (λ t ts. t ∷ ts) (cond-true (eqb u u) v (pair us vs u) (eq-eqb u u refl))
    (map_agree (pair (u ∷ us) (v ∷ vs)) (pair us vs) us (λ x h.
    let ne : x ≡ u → ⊥ = λ e. let c : count x us ≡ count u us = ap (λ z. count z us) e in omega arith in
    cond-false (eqb x u) v (pair us vs x) (ne_eqb x u ne))
    ∙ pair_map us vs (omega arith) (tail_once u us once))

-- ** links by the renaming, unused numbers in their order

module _ {L : Type 0} (k : Kind L) (m : Model L) (f : ℕ → ℕ) (one : OneToOne f m) (s : SoundModel k m) (s' : SoundModel k (renamed_by f m)) where
  n : Model L
  n = renamed_by f m

  pub along : ℕ → ℕ
  along x = cond (ltb 0 (count x (ends m))) (f x) (pair (unused m) (unused n) x)

  against : ℕ → ℕ
  against y = cond (ltb 0 (count y (ends n))) (back f (ends m) y) (pair (unused n) (unused m) y)

  as_many : length (unused m) ≡ length (unused n)
  unfolding n
  as_many =
      let a = many_unused k m s in
      let b = many_unused k (renamed_by f m) s' in
      let c : length (ends (renamed_by f m)) ≡ length (ends m) = ap length (ends_by f m) ∙ length-map (ends m) f in
      omega arith

  to_end : (x : ℕ) → Stands m x → Stands n (f x)
  unfolding n
  to_end x h = subst (λ t. 0 < count (f x) t) (sym (ends_by f m)) (stands_by f (ends m) x h)

  along_end : (x : ℕ) → Stands m x → along x ≡ f x
  unfolding along
  along_end x h = cond-true (ltb 0 (count x (ends m))) (f x) (pair (unused m) (unused n) x) (lt-ltb 0 (count x (ends m)) h)

  along_other : (x : ℕ) → count x (ends m) ≤ 0 → along x ≡ pair (unused m) (unused n) x
  unfolding along
  along_other x h = cond-false (ltb 0 (count x (ends m))) (f x) (pair (unused m) (unused n) x) (le-ltb 0 (count x (ends m)) h)

  against_end : (y : ℕ) → Stands n y → against y ≡ back f (ends m) y
  unfolding against
  against_end y h = cond-true (ltb 0 (count y (ends n))) (back f (ends m) y) (pair (unused n) (unused m) y) (lt-ltb 0 (count y (ends n)) h)

  against_other : (y : ℕ) → count y (ends n) ≤ 0 → against y ≡ pair (unused n) (unused m) y
  unfolding against
  against_other y h = cond-false (ltb 0 (count y (ends n))) (back f (ends m) y) (pair (unused n) (unused m) y) (le-ltb 0 (count y (ends n)) h)

  -- a number is a link of the plan, unused, or past the limit
  kinds : (x : ℕ) → Stands m x ⊎ ((0 < count x (unused m)) ⊎ (8256 ≤ x))
  kinds x =
      ⊎_elim
      (λ (a : 0 < count x (ends m)). inl a)
      (λ (a : count x (ends m) ≤ 0).
      ⊎_elim
      (λ (b : x < 8256). inr (inl (unused_has k m s x b (omega arith))))
      (λ (b : 8256 ≤ x). inr (inr b))
      (cases_lt x 8256))
      (cases_lt 0 (count x (ends m)))

  high_none : (x : ℕ) → 8256 ≤ x → (count x (ends m) ≤ 0) × (count x (unused m) ≡ 0)
  high_none x l = (
    ⊎_elim
        (λ (a : 0 < count x (ends m)). absurd (omega (arith, low_end k m s x a)))
        (λ (a : count x (ends m) ≤ 0). a)
        (cases_lt 0 (count x (ends m))),
    ⊎_elim
        (λ (a : 0 < count x (unused m)). absurd (omega (arith, unused_below m x a)))
        (λ (a : count x (unused m) ≤ 0). omega arith)
        (cases_lt 0 (count x (unused m))),
  )

  high_along : (x : ℕ) → 8256 ≤ x → along x ≡ x
  high_along x l = let none = high_none x l in along_other x none.0 ∙ pair_out (unused m) (unused n) x none.1

  pair_new : (x : ℕ) → 0 < count x (unused m) → 0 < count (along x) (unused n)
  pair_new x h =
      let old = unused_new m x h in
      subst (λ y. 0 < count y (unused n)) (sym (along_other x (omega arith))) (pair_in (unused m) (unused n) x as_many h)

  high_against : (x : ℕ) → 8256 ≤ x → against x ≡ x
  unfolding n
  high_against x l =
      against_other x (⊎_elim
      (λ (a : 0 < count x (ends n)). absurd (omega (arith, low_end k (renamed_by f m) s' x a)))
      (λ (a : count x (ends n) ≤ 0). a)
      (cases_lt 0 (count x (ends n))))
      ∙ pair_out (unused n) (unused m) x (⊎_elim
      (λ (a : 0 < count x (unused n)). absurd (omega (arith, unused_below n x a)))
      (λ (a : count x (unused n) ≤ 0). omega arith)
      (cases_lt 0 (count x (unused n))))

  returned : (x : ℕ) → against (along x) ≡ x
  returned x =
      ⊎_elim
      (λ (a : Stands m x). ap against (along_end x a) ∙ against_end (f x) (to_end x a) ∙ way_back m f one x a)
      (⊎_elim
      (λ (a : 0 < count x (unused m)).
      let old = unused_new m x a in
      let new = unused_new n (along x) (pair_new x a) in
      against_other (along x) (omega arith) ∙ ap (pair (unused n) (unused m)) (along_other x (omega arith))
      ∙ pair_back (unused m) (unused n) x as_many (unused_once n) a)
      (λ (a : 8256 ≤ x). ap against (high_along x a) ∙ high_against x a))
      (kinds x)

  pub within : Within along 8256
  unfolding n
  within =
      record {
        apart = λ x y e. sym (returned x) ∙ ap against e ∙ returned y;
        low = λ x l.
            ⊎_elim
            (λ (a : Stands m x). let e = along_end x a in let b = low_end k (renamed_by f m) s' (f x) (to_end x a) in omega arith)
            (⊎_elim
            (λ (a : 0 < count x (unused m)). unused_below n (along x) (pair_new x a))
            (λ (a : 8256 ≤ x). absurd (omega arith)))
            (kinds x);
        high = high_along;
      }

  pub same_along : renamed_by f m ≡ renamed_by along m
  same_along = renamed_agree f along m (λ x h. sym (along_end x h))

  pub unused_along : unused (renamed_by f m) ≡ map along (unused m)
  unfolding n
  unused_along =
      sym (pair_map (unused m) (unused n) as_many (unused_once m))
      ∙ map_agree (pair (unused m) (unused n)) along (unused m) (λ x h. let old = unused_new m x h in sym (along_other x (omega arith)))
