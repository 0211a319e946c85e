-- What soundness gives, in other words than the tests.
use Rattle.std.specs.Prelude.{◌≡◌, ℕ, ◌<◌, ◌≤◌, List, [], ◌∷◌, length, Some, slice_index_or}
use Rattle.plan.specs.declared.tables.Cell.{Cell}
use Rattle.plan.specs.Model.{Model}
use Rattle.text.specs.Limits.{depth_limit}
use Rattle.plan.specs.Sound.{count, ends, no_cell}

-- up from a cell: each row is the parent of the one before it, and the last is the root
abbrev pub climbs : List Cell → ℕ → List ℕ → Type 0
climbs cells row [] = row ≡ 0
climbs cells row (parent ∷ rest) = ((slice_index_or cells row no_cell).parent ≡ Some parent) × climbs cells parent rest

pub record Whole {L : Type 0} (m : Model L) : Type 0 where
  -- a link that stands has two ends
  pub two_ended : (x : ℕ) → 0 < count x (ends m) → count x (ends m) ≡ 2
  -- from each cell a few parents lead up to the root
  pub led : (row : ℕ) → row < length m.cells → (parents : List ℕ) × ((length parents ≤ depth_limit) × climbs m.cells row parents)
