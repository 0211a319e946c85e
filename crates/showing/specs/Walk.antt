-- The order in which a plan is shown.
use Rattle.std.specs.Prelude.{ℕ, zero, suc, ◌+◌, Bool, false, List, [], ◌∷◌, ◌++◌, map, length, Some, None, filter, Option, ◌==◌, nat_eq, slice_index_or}
use Rattle.std.specs.List.{flat_map}
use Rattle.plan.specs.declared.tables.Cell.{Cell}
use Rattle.plan.specs.Model.{Model, Node}
use Rattle.text.specs.Limits.{depth_limit}
use Rattle.plan.specs.Sound.{no_cell, rows}

-- a walk through a plan: an atom is met, a cell with its set is entered, the innermost cell is left
pub data Step (L : Type 0) : Type 0 where
  atom : Node L → Step L
  enter : ℕ → Step L
  leave : Step L

abbrev pub has_parent : ℕ → Option ℕ → Bool
has_parent c None = false
has_parent c (Some p) = p == c

-- the atoms directly in a cell, in table order
abbrev pub atoms_in : {L : Type 0} → ℕ → List (Node L) → List (Node L)
atoms_in c atoms = filter (λ a. nat_eq a.cell c) atoms

-- the rows of the cells directly in a cell, in table order
abbrev pub cells_in : ℕ → List Cell → List ℕ
cells_in c cells = filter (λ r. has_parent c (slice_index_or cells r no_cell).parent) (rows 0 (length cells))

-- through the contents of a cell, and at most so many levels down: atoms, then cells, each with its contents
unfoldable pub walk : {L : Type 0} → ℕ → Model L → ℕ → List (Step L)
walk zero m c = []
walk (suc n) m c =
    map atom (atoms_in c m.atoms)
    ++ flat_map (λ r. enter (slice_index_or m.cells r no_cell).set ∷ (walk n m r ++ (leave ∷ []))) (cells_in c m.cells)

-- through the whole plan: the root, and the levels below it
abbrev pub whole_walk : {L : Type 0} → Model L → List (Step L)
whole_walk m = walk (depth_limit + 1) m 0
