-- Looking for a name among those that stood.
use Rattle.std.proofs.Common.{◌≡◌, ℕ, suc, ◌+◌, ◌<◌, ◌≤◌, true, false, cond, eqb, ltb, not, List, [], ◌∷◌, ◌++◌, length, get_or, set, Option, Some, None, sym, refl, ap, ◌∙◌, one-add, append-nil, length-set, arith}
use Rattle.std.proofs.lemmas.Option.{none-some}
use Rattle.std.proofs.lemmas.Bool.{ltb-true, ltb-false}
use Rattle.std.proofs.lemmas.List.Sums.{prefix_len-le-length, sum_by-cons}
use Rattle.std.proofs.lemmas.List.{take_all, drop_all}
use Rattle.std.specs.Option.{option_map}
use Rattle.std.specs.List.{refill, find, count_by, sum_by, position_or_len}
use Rattle.std.specs.Prelude.{◌==◌}
use Rattle.text.specs.declared.packed.Name.{Name}
use Rattle.grammar.specs.declared.stand.Standing.{Standing}
use Rattle.grammar.specs.State.{times, noted}
use Rattle.grammar.specs.Names.{position, found}
use Rattle.grammar.specs.Reading.{lone, first_lone}
use Rattle.grammar.specs.Sheets.{once_in}

-- what the code reads past the end
abbrev pub blank : Standing
blank = record { name = record { packed = 0 }; twice = false; place = 0 }

-- the row of a name in the library's words
pub position_is : (n : Name) (s : List Standing) → position_or_len (λ x. x.name.packed == n.packed) s ≡ position n s
unfolding position
position_is n [] = refl
position_is n (x ∷ xs) =
    elim (eqb x.name.packed n.packed) as (λ v. cond (not v) (1 + position_or_len (λ y. y.name.packed == n.packed) xs) 0 ≡ cond v 0 (suc (position n xs))) [
      | true ↦ refl
      | false ↦ rw one-add (ap suc (position_is n xs))
    ]

abbrev held : Option ℕ → ℕ
held None = 0
held (Some x) = x

pub found_some : (n : Name) (s : List Standing) (r : ℕ) → Some r ≡ found n s → (r ≡ position n s) × (r < length s)
found_some n s r e =
    let p = position_is n s in
    let q : position_or_len (λ x. x.name.packed == n.packed) s ≤ length s = prefix_len-le-length _ s in
    elim (ltb (position_or_len (λ x. x.name.packed == n.packed) s) (length s)) as (λ v. (ltb (position_or_len (λ x. x.name.packed == n.packed) s) (length s) ≡ v) → (Some r ≡ cond v (Some (position_or_len (λ x. x.name.packed == n.packed) s)) None) → (r ≡ position n s) × (r < length s)) [
      | true ↦ λ t f. (let i : r ≡ position_or_len (λ x. x.name.packed == n.packed) s = ap held f in let l : position_or_len (λ x. x.name.packed == n.packed) s < length s = ltb-true _ _ t in (i ∙ p, omega (arith, i, l)))
      | false ↦ λ t f. absurd (none-some r (sym f))
    ] refl e

pub found_none : (n : Name) (s : List Standing) → None ≡ found n s → length s ≤ position n s
found_none n s e =
    let p = position_is n s in
    elim (ltb (position_or_len (λ x. x.name.packed == n.packed) s) (length s)) as (λ v. (ltb (position_or_len (λ x. x.name.packed == n.packed) s) (length s) ≡ v) → (None ≡ cond v (Some (position_or_len (λ x. x.name.packed == n.packed) s)) None) → length s ≤ position n s) [
      | true ↦ λ t f. absurd (none-some _ f)
      | false ↦ λ t f. (let l : length s ≤ position_or_len (λ x. x.name.packed == n.packed) s = ltb-false _ _ t in omega (arith, p, l))
    ] refl e

-- a name that stood is marked in its row
pub noted_again : (n : Name) (p : ℕ) (s : List Standing) (d : Standing) → position n s < length s → noted n p s ≡ set s (position n s) (record { name = (get_or s (position n s) d).name; twice = true; place = (get_or s (position n s) d).place })
unfolding noted position
noted_again n p [] d h = absurd (omega arith)
noted_again n p (x ∷ xs) d h =
    elim (eqb x.name.packed n.packed) as (λ v. cond v 0 (suc (position n xs)) < suc (length xs) → cond v (record { name = x.name; twice = true; place = x.place } ∷ xs) (x ∷ noted n p xs) ≡ set (x ∷ xs) (cond v 0 (suc (position n xs))) (record { name = (get_or (x ∷ xs) (cond v 0 (suc (position n xs))) d).name; twice = true; place = (get_or (x ∷ xs) (cond v 0 (suc (position n xs))) d).place })) [
      | true ↦ λ k. refl
      | false ↦ λ k. ap (λ t. x ∷ t) (noted_again n p xs d (omega arith))
    ] h

-- a new name comes last
pub noted_new : (n : Name) (p : ℕ) (s : List Standing) → length s ≤ position n s → noted n p s ≡ s ++ (record { name = n; twice = false; place = p } ∷ [])
unfolding noted position
noted_new n p [] h = refl
noted_new n p (x ∷ xs) h =
    elim (eqb x.name.packed n.packed) as (λ v. suc (length xs) ≤ cond v 0 (suc (position n xs)) → cond v (record { name = x.name; twice = true; place = x.place } ∷ xs) (x ∷ noted n p xs) ≡ x ∷ (xs ++ (record { name = n; twice = false; place = p } ∷ []))) [
      | true ↦ λ k. absurd (omega arith)
      | false ↦ λ k. ap (λ t. x ∷ t) (noted_new n p xs (omega arith))
    ] h

-- what a table holds once it was written through a loan
pub refilled : (s : List Standing) (i : ℕ) (x : Standing) → refill (length s) s (set s i x) ≡ set s i x
refilled s i x = let l = length-set s i x in rw (l, drop_all (length s) s (omega arith), append-nil) (take_all (length s) (set s i x) (omega arith))

-- a standing more in the table
pub note_again : (n : Name) (p r : ℕ) (s : List Standing) (d : Standing) → Some r ≡ found n s → set s r (record { name = (get_or s r d).name; twice = true; place = (get_or s r d).place }) ≡ noted n p s
note_again n p r s d e = let f = found_some n s r e in rw (f.0) (sym (noted_again n p s d (rw (f.0) at f.1)))

pub note_new : (n : Name) (p : ℕ) (s : List Standing) → None ≡ found n s → s ++ (record { name = n; twice = false; place = p } ∷ []) ≡ noted n p s
note_new n p s e = sym (noted_new n p s (found_none n s e))

-- the first `_` name that stood once
pub lone_find : (s : List Standing) → option_map (λ x. x.place) (find lone s) ≡ first_lone s
unfolding first_lone
lone_find [] = refl
lone_find (x ∷ xs) = elim (lone x) as (λ v. option_map (λ y. y.place) (cond v (Some x) (find lone xs)) ≡ cond v (Some x.place) (first_lone xs)) [ true ↦ refl | false ↦ lone_find xs ]

-- how many names stood once
pub once_count : (s : List Standing) → count_by (λ x. not x.twice) s ≡ once_in s
unfolding once_in
once_count [] = refl
once_count (x ∷ xs) =
    let f : Standing → ℕ = λ y. cond (not y.twice) 1 0 in
    let ih : sum_by f xs ≡ once_in xs = once_count xs in
    sum_by-cons f x xs
    ∙ elim x.twice as (λ v. cond (not v) 1 0 + sum_by f xs ≡ cond v (once_in xs) (once_in xs + 1)) [ true ↦ omega arith | false ↦ omega arith ]

-- how often a name stood, by its row
times_at : (n : Name) (s : List Standing) (r : ℕ) (d : Standing) → r ≡ position n s → r < length s → times n s ≡ cond (get_or s r d).twice 2 1
unfolding times position
times_at n [] r d e h = absurd (omega arith)
times_at n (x ∷ xs) r d e h =
    elim (eqb x.name.packed n.packed) as (λ v. r ≡ cond v 0 (suc (position n xs)) → cond v (cond x.twice 2 1) (times n xs) ≡ cond (get_or (x ∷ xs) r d).twice 2 1) [
      | true ↦ λ k. rw k refl
      | false ↦ λ k. rw k (times_at n xs (position n xs) d refl (omega (arith, k, h)))
    ] e

times_past : (n : Name) (s : List Standing) → length s ≤ position n s → times n s ≡ 0
unfolding times position
times_past n [] h = refl
times_past n (x ∷ xs) h =
    elim (eqb x.name.packed n.packed) as (λ v. suc (length xs) ≤ cond v 0 (suc (position n xs)) → cond v (cond x.twice 2 1) (times n xs) ≡ 0) [
      | true ↦ λ k. absurd (omega (arith, k))
      | false ↦ λ k. times_past n xs (omega (arith, k))
    ] h

pub times_some : (n : Name) (s : List Standing) (r : ℕ) (d : Standing) → Some r ≡ found n s → times n s ≡ cond (get_or s r d).twice 2 1
times_some n s r d e = let f = found_some n s r e in times_at n s r d f.0 f.1

pub times_none : (n : Name) (s : List Standing) → None ≡ found n s → times n s ≡ 0
times_none n s e = times_past n s (found_none n s e)
