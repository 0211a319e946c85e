-- What hanging a text means for the plan: which names are open after it, and what stays as it was.
use Rattle.std.specs.Prelude.{◌≡◌, ℕ, ◌+◌, Bool, cond, not, List, ◌++◌, map, length, take, is_some, None, filter, ◌==◌}
use Rattle.label.specs.Kind.{Kind}
use Rattle.text.specs.declared.packed.Name.{Name}
use Rattle.grammar.specs.Reading.{hang_events}
use Rattle.grammar.specs.Laws.{fault_of}
use Rattle.grammar.specs.Sheets.{text_names}
use Rattle.plan.specs.declared.tables.FreeLink.{FreeLink}
use Rattle.plan.specs.Model.{Model, Node}
use Rattle.plan.specs.Sound.{atoms_of, count}
use Rattle.placing.specs.Links.{open_link, opens}
use Rattle.placing.specs.Answer.{hung_text}
use Rattle.grammar.specs.Events.{name_standings}
use Rattle.placing.specs.Counts.{cells_in, label_count, labels_in}

-- a name is open
abbrev pub is_open : Name → List FreeLink → Bool
is_open n free = is_some (open_link n free)

-- all of an atom but for its links
pub record Shape (L : Type 0) : Type 0 where
  pub label : L
  pub cell : ℕ
  pub ports : ℕ

abbrev pub shape : {L : Type 0} → Node L → Shape L
shape a = record { label = a.label; cell = a.cell; ports = length a.links }

module _ {L : Type 0} (k : Kind L) (m : Model L) (bs : List ℕ) where
  -- the plan after the text
  abbrev pub after : Model L
  after = hung_text k m bs

  -- a name stands just once in the text
  abbrev pub stands_once : Name → Bool
  stands_once n = count n.packed (name_standings (hang_events k 0 bs)) == 1

  pub record HangLaws : Type 0 where
    -- a name is open after the text exactly where it was and the text does not have it just once, or was not and the text does
    pub open_names : (n : Name) → is_open n after.free ≡ cond (stands_once n) (not (is_open n m.free)) (is_open n m.free)
    -- the open names that stay keep their order, and those that the text opens follow, in the order of their first standing
    pub free_names : map (λ f. f.name) after.free ≡ filter (λ n. not (stands_once n)) (map (λ f. f.name) m.free) ++ map (λ s. s.name) (filter (opens m.free) (text_names bs))
    -- of each label there are as many atoms more as the text has
    pub labels : (l : L) → atoms_of k l after.atoms ≡ atoms_of k l m.atoms + label_count k l (hang_events k 0 bs)
    -- the atoms of the plan stay in their rows, and nothing of them changes but their links; the text's follow
    pub atoms_stay : map shape (take (length m.atoms) after.atoms) ≡ map shape m.atoms
    pub atom_number : length after.atoms ≡ length m.atoms + labels_in (hang_events k 0 bs)
    -- the cells of the plan stay as they were; the text's follow
    pub cells_stay : take (length m.cells) after.cells ≡ m.cells
    pub cell_number : length after.cells ≡ length m.cells + cells_in (hang_events k 0 bs)

-- of every plan and every text without fault
abbrev pub HangLaw : {L : Type 0} → Kind L → Type 0
HangLaw k = (m : Model _) (bs : List ℕ) → fault_of (hang_events k 0 bs) ≡ None → HangLaws k m bs
