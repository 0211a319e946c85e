-- The cells of a sound plan in the order of its whole walk.
use Rattle.std.proofs.Common.{◌≡◌, ℕ, suc, ◌<◌, ◌≤◌, true, List, [], ◌∷◌, length, None, filter, sym, refl, ap, ◌∙◌, subst, ⊎_elim, arith}
use Rattle.std.specs.List.{AllByRecursion as All}
use Rattle.std.proofs.lemmas.Bool.{cases_eq, cases_lt, cond-false}
use Rattle.plan.specs.declared.tables.Cell.{Cell}
use Rattle.plan.specs.Sound.{count, leads}
use Rattle.std.specs.List.{flat_map}
use Rattle.showing.specs.Walk.{has_parent, cells_in}
use Rattle.showing.specs.Shown.{place}
use Rattle.showing.proofs.Visits.{parent, visits, visited_once, visits_within}
use Rattle.showing.proofs.Freed.{count_later}
use Rattle.roundtrip.proofs.Preorder.{Enough, enough, below, count_none, place_past}

pub all_count : (P : ℕ → Type 0) (x : ℕ) (xs : List ℕ) → All P xs → 0 < count x xs → P x
all_count P x [] h l = let n = count_none x in absurd (omega arith)
all_count P x (y ∷ ys) h l =
    ⊎_elim
    (λ (e : x ≡ y). subst P (sym e) h.0)
    (λ (e : x ≡ y → ⊥). let c = count_later x y ys e in all_count P x ys h.1 (omega arith))
    (cases_eq x y)

module _ (cells : List Cell) (top : parent cells 0 ≡ None) (some : 0 < length cells) (lead : (i : ℕ) → i < length cells → leads 16 cells i ≡ true) where
  abbrev pub order : List ℕ
  order = visits cells 17 0

  first : (n c : ℕ) → visits cells (suc n) c ≡ c ∷ flat_map (visits cells n) (cells_in c cells)
  unfolding visits
  first n c = refl

  pub order_covers : (r : ℕ) → r < length cells → count r order ≡ 1
  order_covers r l = visited_once cells top some lead r l

  pub order_once : (r : ℕ) → count r order ≤ 1
  order_once r =
      ⊎_elim
      (λ (l : r < length cells). let e = order_covers r l in omega arith)
      (λ (l : length cells ≤ r).
      ⊎_elim
      (λ (c : 0 < count r order). let w = all_count (λ r. r < length cells) r order (visits_within cells 17 0 some) c in absurd (omega arith))
      (λ (c : count r order ≤ 0). omega arith)
      (cases_lt 0 (count r order)))
      (cases_lt r (length cells))

  pub order_enough : Enough cells 17 0
  order_enough = enough cells top lead 17 0 0 refl refl some

  pub order_inner : (c : ℕ) → c < length cells → filter (λ r. has_parent c (parent cells r)) order ≡ cells_in c cells
  order_inner c l =
      ap (filter (λ r. has_parent c (parent cells r))) (first 16 0)
      ∙ (cond-false (has_parent c (parent cells 0)) _ _ (ap (has_parent c) top)
      ∙ (below cells c 16 0 order_enough).1 (order_covers c l))

  pub order_first : place 0 order ≡ 0
  order_first = ap (place 0) (first 16 0) ∙ place_past 0 [] (flat_map (visits cells 16) (cells_in 0 cells)) (count_none 0)
