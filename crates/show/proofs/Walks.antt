-- The walk, turn by turn, and what any fold makes of it.
use Rattle.std.proofs.Common.{◌≡◌, ℕ, suc, ◌+◌, ◌-◌, ◌<◌, ◌≤◌, Bool, true, false, cond, List, [], ◌∷◌, ◌++◌, map, get_or, fold, filter, refl, ap, ◌∙◌, arith}
use Rattle.std.proofs.lemmas.Bool.{cond-true, cond-false}
use Rattle.plan.specs.Model.{Model}
use Rattle.plan.specs.Sound.{no_cell, rows}
use Rattle.std.specs.List.{flat_map}
use Rattle.showing.specs.Walk.{Step, atom, enter, leave, atoms_in, cells_in, walk}
use Rattle.std.proofs.lemmas.List.Sums.{fold-append}

-- a cell that is met: it is entered, walked through and left
abbrev pub cell_walk : {L : Type 0} → ℕ → Model L → ℕ → List (Step L)
cell_walk n m r = enter (get_or m.cells r no_cell).set ∷ (walk n m r ++ (leave ∷ []))

module _ {L S : Type 0} (f : S → Step L → S) where
  -- cells, by their rows
  row_next : (F : ℕ → List (Step L)) (P : ℕ → Bool) (i n k : ℕ) (p : S) → n ≡ suc k → fold f p (flat_map F (filter P (rows i n))) ≡ fold f p (flat_map F (cond (P i) (i ∷ filter P (rows (suc i) k)) (filter P (rows (suc i) k))))
  unfolding rows
  row_next F P i n k p e = ap (λ m. fold f p (flat_map F (filter P (rows i m)))) e

  pub row_here : (F : ℕ → List (Step L)) (P : ℕ → Bool) (i n : ℕ) (p : S) → i < n → P i ≡ true → fold f p (flat_map F (filter P (rows i (n - i)))) ≡ fold f (fold f p (F i)) (flat_map F (filter P (rows (i + 1) (n - (i + 1)))))
  row_here F P i n p h e =
      let k = n - (i + 1) in
      row_next F P i (n - i) k p (omega arith)
      ∙ ap (λ t. fold f p (flat_map F t)) (cond-true (P i) (i ∷ filter P (rows (suc i) k)) (filter P (rows (suc i) k)) e)
      ∙ fold-append f p (F i) (flat_map F (filter P (rows (suc i) k)))
      ∙ ap (λ j. fold f (fold f p (F i)) (flat_map F (filter P (rows j k)))) (omega arith)

  pub row_other : (F : ℕ → List (Step L)) (P : ℕ → Bool) (i n : ℕ) (p : S) → i < n → P i ≡ false → fold f p (flat_map F (filter P (rows i (n - i)))) ≡ fold f p (flat_map F (filter P (rows (i + 1) (n - (i + 1)))))
  row_other F P i n p h e =
      let k = n - (i + 1) in
      row_next F P i (n - i) k p (omega arith)
      ∙ ap (λ t. fold f p (flat_map F t)) (cond-false (P i) (i ∷ filter P (rows (suc i) k)) (filter P (rows (suc i) k)) e)
      ∙ ap (λ j. fold f p (flat_map F (filter P (rows j k)))) (omega arith)

  pub row_end : (F : ℕ → List (Step L)) (P : ℕ → Bool) (i n : ℕ) (p : S) → n ≤ i → fold f p (flat_map F (filter P (rows i (n - i)))) ≡ p
  unfolding rows
  row_end F P i n p h = let z : n - i ≡ 0 = omega arith in ap (λ m. fold f p (flat_map F (filter P (rows i m)))) z

  -- a level of the walk
  pub walk_none : (m : Model L) (c : ℕ) (p : S) → fold f p (walk 0 m c) ≡ p
  unfolding walk
  walk_none m c p = refl

  pub walk_more : (n : ℕ) (m : Model L) (c : ℕ) (p : S) → fold f p (walk (suc n) m c) ≡ fold f (fold f p (map atom (atoms_in c m.atoms))) (flat_map (cell_walk n m) (cells_in c m.cells))
  unfolding walk
  walk_more n m c p = fold-append f p (map atom (atoms_in c m.atoms)) (flat_map (cell_walk n m) (cells_in c m.cells))

  -- a cell that is met
  pub cell_met : (n : ℕ) (m : Model L) (r : ℕ) (p : S) → fold f p (cell_walk n m r) ≡ f (fold f (f p (enter (get_or m.cells r no_cell).set)) (walk n m r)) leave
  cell_met n m r p = fold-append f (f p (enter (get_or m.cells r no_cell).set)) (walk n m r) (leave ∷ [])
