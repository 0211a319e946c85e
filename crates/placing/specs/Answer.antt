-- What hang answers.
use Rattle.std.specs.Prelude.{ℕ, Bool, cond, ◌&&◌, List, length, Some, None, Ok, Err, Option, Result, nat_le}
use Rattle.fault.specs.declared.Refusal.TheVariants.{UnsoundPlan, FullTables}
use Rattle.fault.specs.declared.Fault.{Fault}
use Rattle.label.specs.Kind.{Kind}
use Rattle.grammar.specs.Reading.{hang_events}
use Rattle.grammar.specs.Laws.{fault_of}
use Rattle.grammar.specs.Sheets.{text_names}
use Rattle.plan.specs.declared.tables.Plan.{Plan}
use Rattle.plan.specs.Model.{Model, model_of}
use Rattle.plan.specs.Sound.{atom_limit, cell_limit, free_limit, label_limit, room}
use Rattle.plan.specs.Tests.{sound_test}
use Rattle.placing.specs.Placing.{hung}

-- the plan after a text
abbrev pub hung_text : {L : Type 0} → Kind L → Model L → List ℕ → Model L
hung_text k m text = hung k m (text_names text) (hang_events k 0 text)

-- the tables take a plan
abbrev pub takes : {L : Type 0} → Plan L → Model L → Bool
takes p m =
    nat_le (length m.atoms) (room atom_limit p.atoms.now) && (nat_le (length m.cells) (room cell_limit p.cells.now)
    && (nat_le (length m.free) (room free_limit p.free.now) && nat_le (length m.register) (room label_limit p.register.now)))

abbrev pub unless_fault : Option Fault → Result (Unit {0}) Fault → Result (Unit {0}) Fault
unless_fault (Some f) r = Err f
unless_fault None r = r

-- the fault of the text, then 20 of a plan that is not sound, then 21 of tables that do not take the plan after it
abbrev pub hang_answer : {L : Type 0} → Kind L → Plan L → List ℕ → Result (Unit {0}) Fault
hang_answer k p text =
    unless_fault (fault_of (hang_events k 0 text))
    (cond (sound_test k p) (cond (takes p (hung_text k (model_of p) text)) (Ok tt) (Err (record { refusal = FullTables; place = 0 })))
    (Err (record { refusal = UnsoundPlan; place = 0 })))
