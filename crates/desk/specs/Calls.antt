-- What hang and show answer on a desk, and what they leave.
use Rattle.std.specs.Prelude.{ℕ, min, Bool, cond, ◌&&◌, List, ◌++◌, length, drop, Ok, Err, Result, ◌==◌, nat_le}
use Rattle.fault.specs.declared.Refusal.TheVariants.{FullTables, ShortBuffer}
use Rattle.fault.specs.declared.Fault.{Fault}
use Rattle.label.specs.Kind.{Kind}
use Rattle.grammar.specs.Reading.{hang_events}
use Rattle.grammar.specs.Laws.{fault_of}
use Rattle.plan.specs.Model.{Model}
use Rattle.plan.specs.Sound.{atom_limit, cell_limit, free_limit, label_limit}
use Rattle.placing.specs.Answer.{hung_text, unless_fault}
use Rattle.showing.specs.Shown.{shown}
use Rattle.desk.specs.declared.desk.Rows.{Rows}
use Rattle.desk.specs.Held.{Held, after_call, unsound}

-- tables of so many rows take a plan
abbrev pub takes_in : {L : Type 0} → Rows → Model L → Bool
takes_in n m =
    nat_le (length m.atoms) (min n.atoms atom_limit) && (nat_le (length m.cells) (min n.cells cell_limit)
    && (nat_le (length m.free) (min n.free free_limit) && nat_le (length m.register) (min n.labels label_limit)))

-- the fault of the text; then 20 where there is no row for the root, then 21 where the tables do not take the plan after it
abbrev pub hang_told : {L : Type 0} → Kind L → Held L → List ℕ → Result (Unit {0}) Fault
hang_told k h text =
    unless_fault (fault_of (hang_events k 0 text))
    (cond (h.rows.cells == 0) (Err unsound)
    (cond (takes_in h.rows (hung_text k h.model text)) (Ok tt) (Err (record { refusal = FullTables; place = 0 }))))

abbrev pub after_hang : {L : Type 0} → Kind L → List ℕ → Held L → Held L
after_hang k text h = after_call (hang_told k h text) (hung_text k h.model text) h

-- 20 where there is no row for the root, then 23 of a buffer that is too short; else the number of bytes
abbrev pub show_told : {L : Type 0} → Kind L → Held L → ℕ → Result ℕ Fault
show_told k h room =
    cond (h.rows.cells == 0) (Err unsound)
    (cond (nat_le (length (shown k h.model)) room) (Ok (length (shown k h.model))) (Err (record { refusal = ShortBuffer; place = 0 })))

-- the buffer after it: the text, and past it what stood there; as it was where the call is refused
abbrev pub shown_over : Result ℕ Fault → List ℕ → List ℕ → List ℕ
shown_over (Ok n) text old = text ++ drop (length text) old
shown_over (Err f) text old = old
