-- Plans that are the same but for the numbers of their links and the order of their rows.
use Rattle.std.specs.Prelude.{◌≡◌, ℕ, map, option_map}
use Rattle.std.specs.List.{slice_get}
use Rattle.plan.specs.declared.tables.Cell.{Cell}
use Rattle.plan.specs.Model.{Model, Node}
use Rattle.sameness.specs.Renaming.{OneToOne, Renamed, free_by}

-- every number, and so every row, gets another, one to one and onto
pub record Renumbering : Type 0 where
  pub to : ℕ → ℕ
  pub back : ℕ → ℕ
  pub back_to : (i : ℕ) → back (to i) ≡ i
  pub to_back : (i : ℕ) → to (back i) ≡ i

-- a cell where rows of cells are renumbered
abbrev pub cell_by : (ℕ → ℕ) → Cell → Cell
cell_by r c = record { parent = option_map r c.parent; set = c.set }

-- an atom where these are, and links renamed
abbrev pub atom_by : {L : Type 0} → (ℕ → ℕ) → (ℕ → ℕ) → Node L → Node L
atom_by r f a = record { label = a.label; cell = r a.cell; links = map f a.links }

-- the second plan is the first with its links renamed and its rows in another order, but for the root, which stays the first
pub record Reordered {L : Type 0} (m m' : Model L) : Type 0 where
  pub link : ℕ → ℕ
  pub one_to_one : OneToOne link m
  pub cells : Renumbering
  pub root : cells.to 0 ≡ 0
  pub atoms : Renumbering
  pub free : Renumbering
  pub each_cell : (i : ℕ) → slice_get m'.cells (cells.to i) ≡ option_map (cell_by cells.to) (slice_get m.cells i)
  pub each_atom : (i : ℕ) → slice_get m'.atoms (atoms.to i) ≡ option_map (atom_by cells.to link) (slice_get m.atoms i)
  pub each_free : (i : ℕ) → slice_get m'.free (free.to i) ≡ option_map (free_by link) (slice_get m.free i)
  pub register : m'.register ≡ m.register

pub record ReorderedEquivalence (L : Type 0) : Type 0 where
  pub reflexive : (m : Model L) → Reordered m m
  pub symmetric : (m n : Model L) → Reordered m n → Reordered n m
  pub transitive : (m n o : Model L) → Reordered m n → Reordered n o → Reordered m o
  -- plans that are the same but for links are a case
  pub renamed : (m n : Model L) → Renamed m n → Reordered m n
