-- Soundness as one test.
use Rattle.std.specs.Prelude.{ℕ, Bool, ◌&&◌, List, ◌++◌, map, length, take, nat_eq, nat_le, nat_lt}
use Rattle.label.specs.Kind.{Kind}
use Rattle.plan.specs.declared.tables.Atom.{Atom}
use Rattle.plan.specs.declared.tables.Cell.{Cell}
use Rattle.plan.specs.declared.tables.FreeLink.{FreeLink}
use Rattle.plan.specs.declared.tables.Census.{Census}
use Rattle.plan.specs.declared.tables.Plan.{Plan}
use Rattle.plan.specs.Model.{Node, node_of}
use Rattle.std.specs.List.{list_all}
use Rattle.text.specs.Limits.{set_limit, port_limit}
use Rattle.plan.specs.Sound.{count, distinct, link_limit, counts_fit, is_root, all_lead, port_links, open_name, ascending, registered, row_right}

-- what is asked of the cells
abbrev pub cells_test : List Cell → Bool
cells_test cs = is_root cs && (all_lead cs && list_all (λ c. nat_le c.set set_limit) cs)

-- of the atoms, one by one, with this many cells
abbrev pub atoms_test : {L : Type 0} → Kind L → ℕ → List (Atom L) → Bool
atoms_test k cells atoms =
    list_all (λ a. k.mine a.label) atoms && (list_all (λ a. nat_lt a.cell cells) atoms && list_all (λ a. nat_le a.arity port_limit) atoms)

-- of the free links' names
abbrev pub names_test : List FreeLink → Bool
names_test free = list_all (λ f. open_name f.name) free && distinct (map (λ f. f.name.packed) free)

-- of the register
abbrev pub register_test : {L : Type 0} → Kind L → List (Node L) → List (Census L) → Bool
register_test k nodes register =
    ascending k register && (list_all (row_right k nodes) register && list_all (λ a. registered k a.label register) nodes)

-- of the ends of links
abbrev pub links_test : {L : Type 0} → List (Node L) → List FreeLink → Bool
links_test nodes free =
    list_all (λ x. nat_lt x link_limit) (port_links nodes ++ map (λ f. f.link) free)
    && list_all (λ x. nat_eq (count x (port_links nodes ++ map (λ f. f.link) free)) 2) (port_links nodes ++ map (λ f. f.link) free)

-- of the tables, cut to the rows that count
abbrev pub tables_test : {L : Type 0} → Kind L → List Cell → List (Atom L) → List FreeLink → List (Census L) → Bool
tables_test k cells atoms free register =
    cells_test cells
    && (atoms_test k (length cells) atoms
    && (links_test (map node_of atoms) free && (names_test free && register_test k (map node_of atoms) register)))

-- a plan is sound: every test of `Sound` passes
abbrev pub sound_test : {L : Type 0} → Kind L → Plan L → Bool
sound_test k p =
    counts_fit p
    && tables_test k (take p.cell_count p.cells.now) (take p.atom_count p.atoms.now) (take p.free_count p.free.now) (take p.label_count p.register.now)
