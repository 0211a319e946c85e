-- How many atoms, cells and connectors the events of a text have.
use Rattle.std.specs.Prelude.{◌≡◌, ℕ, ◌≤◌, true, false, cond, List, Some, None, Ok, Err, Result}
use Rattle.fault.specs.declared.Fault.{Fault}
use Rattle.label.specs.Kind.{Kind}
use Rattle.grammar.specs.declared.event.Event.{Event}
use Rattle.grammar.specs.declared.event.Event.TheVariants as events
use Rattle.grammar.specs.declared.sheet.Sheet.{Sheet}
use Rattle.grammar.specs.Tests.{connector_limit}
use Rattle.grammar.specs.Reading.{Events, hang_events}
use Rattle.grammar.specs.Events.{connectors_in, summed}
use Rattle.grammar.specs.Laws.{fault_of}
use Rattle.grammar.specs.Sheets.{once_in, sheet_of, text_names}
use Rattle.plan.specs.Sound.{alike}
use Rattle.placing.specs.Orderly.{orderly}

-- an event begins so many atoms
abbrev pub labels_at : {L : Type 0} → Event L → ℕ
labels_at (events.Label l) = 1
labels_at (events.Port n) = 0
labels_at events.Enter = 0
labels_at events.Leave = 0
labels_at (events.Set j) = 0
labels_at (events.First n) = 0
labels_at (events.Second n) = 0

-- an event begins so many cells
abbrev pub cells_at : {L : Type 0} → Event L → ℕ
cells_at (events.Label l) = 0
cells_at (events.Port n) = 0
cells_at events.Enter = 1
cells_at events.Leave = 0
cells_at (events.Set j) = 0
cells_at (events.First n) = 0
cells_at (events.Second n) = 0

-- an event begins so many atoms with a label
abbrev pub label_at : {L : Type 0} → Kind L → L → Event L → ℕ
label_at k l (events.Label x) = cond (alike k l x) 1 0
label_at k l (events.Port n) = 0
label_at k l events.Enter = 0
label_at k l events.Leave = 0
label_at k l (events.Set j) = 0
label_at k l (events.First n) = 0
label_at k l (events.Second n) = 0

abbrev pub labels_in : {L : Type 0} → Events L → ℕ
labels_in es = summed labels_at es

abbrev pub cells_in : {L : Type 0} → Events L → ℕ
cells_in es = summed cells_at es

-- how many atoms of the text have a label
abbrev pub label_count : {L : Type 0} → Kind L → L → Events L → ℕ
label_count k l es = summed (label_at k l) es

-- what the sheet of a text says of its events
pub record SheetCounts {L : Type 0} (k : Kind L) (bs : List ℕ) (s : Sheet) : Type 0 where
  pub clean : fault_of (hang_events k 0 bs) ≡ None
  pub atoms : s.atoms ≡ labels_in (hang_events k 0 bs)
  pub cells : s.cells ≡ cells_in (hang_events k 0 bs)
  pub connectors : s.connectors ≡ connectors_in (hang_events k 0 bs)
  pub once : s.once ≡ once_in (text_names bs)

abbrev pub SheetMeans : {L : Type 0} → Kind L → List ℕ → Result Sheet Fault → Type 0
SheetMeans k bs (Ok s) = SheetCounts k bs s
SheetMeans k bs (Err f) = fault_of (hang_events k 0 bs) ≡ Some f

-- what the grammar sees to in the events of every text
pub record EventsRight {L : Type 0} (k : Kind L) : Type 0 where
  pub order : (bs : List ℕ) → orderly k 0 0 false (hang_events k 0 bs) ≡ true
  pub connectors : (bs : List ℕ) → connectors_in (hang_events k 0 bs) ≤ connector_limit
  pub sheet : (bs : List ℕ) → SheetMeans k bs (sheet_of k bs)
