-- Where the items of a text lie on the plan.
use Rattle.std.specs.Prelude.{◌≡◌, ℕ, suc, ◌+◌, ◌<◌, Bool, not, ◌&&◌, List, [], ◌∷◌, ◌++◌, map, length, Some, None, filter, Option, ◌==◌}
use Rattle.label.specs.Kind.{Kind}
use Rattle.text.specs.declared.packed.Name.{Name}
use Rattle.grammar.specs.Tests.{label_read, set_of}
use Rattle.grammar.specs.Reading.{hang_events}
use Rattle.grammar.specs.Laws.{fault_of, text_tokens}
use Rattle.grammar.specs.Sheets.{text_names}
use Rattle.grammar.specs.Form.{Items, none, atom, cell, connector, set, item_tokens, label_token}
use Rattle.plan.specs.declared.tables.Cell.{Cell}
use Rattle.plan.specs.Model.{Model, Node}
use Rattle.plan.specs.Sound.{count, link_limit, rows}
use Rattle.placing.specs.Links.{link_at}
use Rattle.placing.specs.Placing.{become, joined, links_in, relinked}
use Rattle.placing.specs.Answer.{hung_text}
use Rattle.placing.specs.Laws.{is_open}

-- how many cells a form has
abbrev pub cell_count : Items → ℕ
cell_count none = 0
cell_count (atom w ns rest) = cell_count rest
cell_count (cell inner rest) = suc (cell_count inner + cell_count rest)
cell_count (connector a b rest) = cell_count rest
cell_count (set w rest) = cell_count rest

abbrev pub set_or : ℕ → Option ℕ → ℕ
set_or j None = j
set_or j (Some i) = i

-- the set that stands directly in a list of items, and not in a cell of theirs; without one the set stays as it was
abbrev pub direct_set : ℕ → Items → ℕ
direct_set j none = j
direct_set j (atom w ns rest) = direct_set j rest
direct_set j (cell inner rest) = direct_set j rest
direct_set j (connector a b rest) = direct_set j rest
direct_set j (set w rest) = direct_set (set_or j (set_of w)) rest

-- the cells of items that lie in the cell of row `c`, where `r` is the next row: each in the cell directly around it, with the set directly in it or 0,
-- in the order of their opening braces
abbrev pub written_cells : ℕ → ℕ → Items → List Cell
written_cells c r none = []
written_cells c r (atom w ns rest) = written_cells c r rest
written_cells c r (cell inner rest) =
    record { parent = Some c; set = direct_set 0 inner } ∷ (written_cells r (suc r) inner ++ written_cells c (suc (r + cell_count inner)) rest)
written_cells c r (connector a b rest) = written_cells c r rest
written_cells c r (set w rest) = written_cells c r rest

-- an atom as it is written: its label, the row of the cell directly around it, and the names at its ports
pub record AtomText (L : Type 0) : Type 0 where
  pub label : L
  pub cell : ℕ
  pub names : List Name

abbrev pub with_label : {L : Type 0} → Option L → ℕ → List Name → List (AtomText L) → List (AtomText L)
with_label None c ns rest = rest
with_label (Some l) c ns rest = record { label = l; cell = c; names = ns } ∷ rest

-- the atoms of items that lie in the cell of row `c`, where `r` is the next row, in the order of their labels
abbrev pub written_atoms : {L : Type 0} → Kind L → ℕ → ℕ → Items → List (AtomText L)
written_atoms k c r none = []
written_atoms k c r (atom w ns rest) = with_label (label_read k (label_token w)) c ns (written_atoms k c r rest)
written_atoms k c r (cell inner rest) = written_atoms k r (suc r) inner ++ written_atoms k c (suc (r + cell_count inner)) rest
written_atoms k c r (connector a b rest) = written_atoms k c r rest
written_atoms k c r (set w rest) = written_atoms k c r rest

-- a written atom on the plan, where each name has its link
abbrev pub node : {L : Type 0} → (Name → ℕ) → AtomText L → Node L
node link a = record { label = a.label; cell = a.cell; links = map link a.names }

-- the connectors of a form, in their order
abbrev pub connectors : Items → List (Name × Name)
connectors none = []
connectors (atom w ns rest) = connectors rest
connectors (cell inner rest) = connectors inner ++ connectors rest
connectors (connector a b rest) = (a, b) ∷ connectors rest
connectors (set w rest) = connectors rest

-- the names of a form, in their order, as often as they stand
abbrev pub written_names : Items → List Name
written_names none = []
written_names (atom w ns rest) = ns ++ written_names rest
written_names (cell inner rest) = written_names inner ++ written_names rest
written_names (connector a b rest) = a ∷ (b ∷ written_names rest)
written_names (set w rest) = written_names rest

-- a name stands just once in a form
abbrev pub once : Items → Name → Bool
once h n = count n.packed (map (λ x. x.packed) (written_names h)) == 1

-- what links have become by connectors
abbrev pub joined_by : (Name → ℕ) → List (Name × Name) → List ℕ → List ℕ
joined_by link [] became = became
joined_by link (c ∷ cs) became = joined_by link cs (joined (link c.0) (link c.1) became)

-- the link of a name of a text, before the connectors are absorbed
abbrev pub name_link : {L : Type 0} → Model L → List ℕ → Name → ℕ
name_link m bs = link_at (text_names bs) (links_in m (text_names bs))

-- what each link has become by the connectors of a text
abbrev pub became : {L : Type 0} → Model L → List ℕ → Items → List ℕ
became m bs h = joined_by (name_link m bs) (connectors h) (rows 0 link_limit)

-- the plan after a text of a form: the cells and the atoms that were there stand first, as they were but for links; each cell and each atom of the text
-- stands once after them, in the cell of the braces directly around it
pub record Placed {L : Type 0} (k : Kind L) (m : Model L) (bs : List ℕ) (h : Items) : Type 0 where
  pub cells : (hung_text k m bs).cells ≡ m.cells ++ written_cells 0 (length m.cells) h
  pub atoms : (hung_text k m bs).atoms
      ≡ map (relinked (became m bs h)) m.atoms ++ map (node (λ n. become (became m bs h) (name_link m bs n))) (written_atoms k 0 (length m.cells) h)
  -- the free links left over keep their order; the new ones follow, in the order of their names in the text: those that stand just once and were not open
  pub free : map (λ f. f.name) (hung_text k m bs).free
      ≡ filter (λ n. not (once h n)) (map (λ f. f.name) m.free) ++ filter (λ n. once h n && not (is_open n m.free)) (written_names h)
  -- and no set stands outside of all cells
  pub no_set : (j : ℕ) → direct_set j h ≡ j

-- of a plan that has a root, and every text without fault
abbrev pub PlaceLaw : {L : Type 0} → Kind L → Type 0
PlaceLaw {L} k =
    (m : Model L) (bs : List ℕ) (h : Items) → 0 < length m.cells → fault_of (hang_events k 0 bs) ≡ None → item_tokens h ≡ text_tokens k bs → Placed k m bs h
