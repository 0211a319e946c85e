-- When a plan is sound.
use Rattle.std.specs.Prelude.{◌≡◌, ℕ, zero, suc, min, Bool, true, false, cond, not, ◌&&◌, ◌||◌, ltb, leb, List, [], ◌∷◌, ◌++◌, map, length, take, Some, None, Option, ◌==◌, nat_eq, nat_le, nat_lt, slice_index_or}
use Rattle.std.specs.List.{flat_map, list_all}
use Rattle.label.specs.Kind.{Kind}
use Rattle.text.specs.declared.packed.Name.{Name}
use Rattle.text.specs.Limits.{depth_limit, port_limit, set_limit}
use Rattle.text.specs.Packed.{pack, spelling, underscored}
use Rattle.text.specs.Shapes.{is_name}
use Rattle.plan.specs.declared.tables.Cell.{Cell}
use Rattle.plan.specs.declared.tables.Census.{Census}
use Rattle.plan.specs.declared.tables.Plan.{Plan}
use Rattle.plan.specs.Model.{Node, Model, model_of}

-- how often a number stands in a list
unfoldable pub count : ℕ → List ℕ → ℕ
count x [] = 0
count x (y ∷ ys) = cond (x == y) (suc (count x ys)) (count x ys)

-- no number stands twice
unfoldable pub distinct : List ℕ → Bool
distinct [] = true
distinct (x ∷ xs) = count x xs == 0 && distinct xs

-- the rows of a table that may be used
abbrev pub room : ℕ → {A : Type 0} → List A → ℕ
room limit table = min (length table) limit

-- the limits of a plan
abbrev pub atom_limit : ℕ
atom_limit = 1024

abbrev pub cell_limit : ℕ
cell_limit = 128

abbrev pub free_limit : ℕ
free_limit = 64

abbrev pub label_limit : ℕ
label_limit = 1024

abbrev pub link_limit : ℕ
link_limit = 8256

-- no count passes its table
abbrev pub counts_fit : {L : Type 0} → Plan L → Bool
counts_fit p =
    nat_le p.atom_count (room atom_limit p.atoms.now) && (nat_le p.cell_count (room cell_limit p.cells.now)
    && (nat_le p.free_count (room free_limit p.free.now) && nat_le p.label_count (room label_limit p.register.now)))

-- what is read past the cells: a cell that leads nowhere
abbrev pub no_cell : Cell
no_cell = record { parent = None; set = 0 }

abbrev pub parentless : Option ℕ → Bool
parentless None = true
parentless (Some p) = false

-- the first cell is the root: it lies in no cell, and has set 1
abbrev pub is_root : List Cell → Bool
is_root [] = false
is_root (c ∷ cs) = parentless c.parent && c.set == 1

abbrev pub onward : (ℕ → Bool) → Option ℕ → Bool
onward f None = false
onward f (Some p) = f p

-- the rows from one on, so many
unfoldable pub rows : ℕ → ℕ → List ℕ
rows i zero = []
rows i (suc n) = i ∷ rows (suc i) n

-- a cell leads to the root through at most so many parents
unfoldable pub leads : ℕ → List Cell → ℕ → Bool
leads zero cs i = i == 0
leads (suc n) cs i = i == 0 || onward (λ p. leads n cs p) (slice_index_or cs i no_cell).parent

-- each cell, by its row, leads to the root
abbrev pub all_lead : List Cell → Bool
all_lead cs = list_all (leads depth_limit cs) (rows 0 (length cs))

-- the links at ports, then those of free links: the ends of the plan's links
unfoldable pub port_links : {L : Type 0} → List (Node L) → List ℕ
port_links atoms = flat_map (λ a. a.links) atoms

abbrev pub ends : {L : Type 0} → Model L → List ℕ
ends m = port_links m.atoms ++ map (λ f. f.link) m.free

-- a line name that begins with a letter
abbrev pub open_name : Name → Bool
open_name n = is_name (spelling n.packed) && (pack (spelling n.packed) == n.packed && not (underscored n))

-- two labels are the same where neither is lower
abbrev pub alike : {L : Type 0} → Kind L → L → L → Bool
alike k a b = not (k.lower a b) && not (k.lower b a)

-- how many atoms have a label
unfoldable pub atoms_of : {L : Type 0} → Kind L → L → List (Node L) → ℕ
atoms_of k l [] = 0
atoms_of k l (a ∷ atoms) = cond (alike k l a.label) (suc (atoms_of k l atoms)) (atoms_of k l atoms)

abbrev pub first_above : {L : Type 0} → Kind L → L → List (Census L) → Bool
first_above k l [] = true
first_above k l (c ∷ cs) = k.lower l c.label

-- each label is lower than the next
unfoldable pub ascending : {L : Type 0} → Kind L → List (Census L) → Bool
ascending k [] = true
ascending k (c ∷ cs) = first_above k c.label cs && ascending k cs

-- the register has a label
unfoldable pub registered : {L : Type 0} → Kind L → L → List (Census L) → Bool
registered k l [] = false
registered k l (c ∷ cs) = alike k l c.label || registered k l cs

-- a row of the register: a label of the kind that some atom has, with the number of its atoms
abbrev pub row_right : {L : Type 0} → Kind L → List (Node L) → Census L → Bool
row_right k atoms c = k.mine c.label && (nat_lt 0 c.atoms && c.atoms == atoms_of k c.label atoms)

-- a field for each sentence of the rule
pub record Sound {L : Type 0} (k : Kind L) (p : Plan L) : Type 0 where
  pub counts : counts_fit p ≡ true
  pub root : is_root (model_of p).cells ≡ true
  pub depth : all_lead (model_of p).cells ≡ true
  pub sets : list_all (λ c. leb c.set set_limit) (model_of p).cells ≡ true
  pub labels : list_all (λ a. k.mine a.label) (model_of p).atoms ≡ true
  pub homes : list_all (λ a. ltb a.cell (length (model_of p).cells)) (model_of p).atoms ≡ true
  pub ports : list_all (λ a. leb a.arity port_limit) (take p.atom_count p.atoms.now) ≡ true
  pub links : list_all (λ x. ltb x link_limit) (ends (model_of p)) ≡ true
  pub pairs : list_all (λ x. nat_eq (count x (ends (model_of p))) 2) (ends (model_of p)) ≡ true
  pub names : list_all (λ f. open_name f.name) (model_of p).free ≡ true
  pub apart : distinct (map (λ f. f.name.packed) (model_of p).free) ≡ true
  pub order : ascending k (model_of p).register ≡ true
  pub rows_right : list_all (row_right k (model_of p).atoms) (model_of p).register ≡ true
  pub complete : list_all (λ a. registered k a.label (model_of p).register) (model_of p).atoms ≡ true
