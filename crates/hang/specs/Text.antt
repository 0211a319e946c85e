-- A text without fault on a sound plan.
use Rattle.std.specs.Prelude.{◌≡◌, ℕ, ◌+◌, ◌≤◌, Bool, cond, ◌&&◌, List, length, None, Ok, Err, Result, MatchResult, nat_le}
use Rattle.fault.specs.declared.Refusal.{Refusal}
use Rattle.fault.specs.declared.Refusal.TheVariants.{FullTables}
use Rattle.label.specs.Kind.{Kind}
use Rattle.grammar.specs.Laws.{fault_of}
use Rattle.grammar.specs.Reading.{hang_events}
use Rattle.plan.specs.declared.tables.Plan.{Plan}
use Rattle.plan.specs.Model.{SameTables, model_of, tables_of}
use Rattle.plan.specs.Sound.{Sound, atom_limit, cell_limit, free_limit, label_limit, room}
use Rattle.placing.specs.Answer.{hung_text}
use Rattle.hang.specs.Hand.{Placed}

-- the tables take so many atoms and cells more
abbrev pub has_room : {L : Type 0} → Plan L → ℕ → ℕ → Bool
has_room p atoms cells =
    nat_le (p.atom_count + atoms) (room atom_limit p.atoms.now) && nat_le (p.cell_count + cells) (room cell_limit p.cells.now)

-- a sound plan and a text without fault
pub record Hangable {L : Type 0} (k : Kind L) (p : Plan L) (text : List ℕ) : Type 0 where
  pub sound : Sound k p
  pub clean : fault_of (hang_events k 0 text) ≡ None
  pub short : length text ≤ 65535

-- all but the free links of the plan after the text have room
abbrev pub atoms_fit : {L : Type 0} → Kind L → Plan L → List ℕ → Bool
atoms_fit k p text = nat_le (length (hung_text k (model_of p) text).atoms) (room atom_limit p.atoms.now)

abbrev pub cells_fit : {L : Type 0} → Kind L → Plan L → List ℕ → Bool
cells_fit k p text = nat_le (length (hung_text k (model_of p) text).cells) (room cell_limit p.cells.now)

abbrev pub free_fit : {L : Type 0} → Kind L → Plan L → List ℕ → Bool
free_fit k p text = nat_le (length (hung_text k (model_of p) text).free) (room free_limit p.free.now)

abbrev pub labels_fit : {L : Type 0} → Kind L → Plan L → List ℕ → Bool
labels_fit k p text = nat_le (length (hung_text k (model_of p) text).register) (room label_limit p.register.now)

-- refused where the tables have no room
abbrev pub if_room : Bool → Result (Unit {0}) Refusal
if_room b = cond b (Ok tt) (Err FullTables)

-- the text was placed, or the tables are as they were
abbrev pub Hung : {L : Type 0} → Kind L → Plan L → List ℕ → Result (Unit {0}) Refusal → Plan L → Type 0
Hung k p text r q =
    MatchResult r (λ _. (model_of q ≡ hung_text k (model_of p) text) × Placed p q) (λ _. (tables_of q ≡ tables_of p) × SameTables p q)
