-- Lists of calls on a plan: what each answers, and the plan that they make.
use Rattle.std.specs.Prelude.{ℕ, Bool, cond, ◌&&◌, List, [], ◌∷◌, ◌++◌, length, Ok, Err, Result, ◌==◌, nat_le}
use Rattle.fault.specs.declared.Refusal.TheVariants.{UnsoundPlan, FullTables, ShortBuffer}
use Rattle.fault.specs.declared.Fault.{Fault}
use Rattle.label.specs.Kind.{Kind}
use Rattle.grammar.specs.Reading.{hang_events}
use Rattle.grammar.specs.Laws.{fault_of}
use Rattle.plan.specs.declared.tables.Plan.{Plan}
use Rattle.plan.specs.Model.{Model, struck}
use Rattle.plan.specs.Sound.{atom_limit, cell_limit, free_limit, label_limit, room}
use Rattle.placing.specs.Answer.{hung_text, unless_fault}
use Rattle.showing.specs.Shown.{shown}

-- a strike, a hang of a text, or a show into a buffer of so many bytes
pub data Call : Type 0 where
  strike : Call
  hang : List ℕ → Call
  show : ℕ → Call

-- how many rows of each table may be used
pub record Limits : Type 0 where
  pub atoms : ℕ
  pub cells : ℕ
  pub free : ℕ
  pub labels : ℕ

abbrev pub limits_of : {L : Type 0} → Plan L → Limits
limits_of p = record {
  atoms = room atom_limit p.atoms.now;
  cells = room cell_limit p.cells.now;
  free = room free_limit p.free.now;
  labels = room label_limit p.register.now;
}

-- a plan is in its limits
abbrev pub within : {L : Type 0} → Limits → Model L → Bool
within l m =
    nat_le (length m.atoms) l.atoms && (nat_le (length m.cells) l.cells
    && (nat_le (length m.free) l.free && nat_le (length m.register) l.labels))

-- a strike wants a row for the root
abbrev pub strike_on : Limits → Result (Unit {0}) Fault
strike_on l = cond (l.cells == 0) (Err (record { refusal = UnsoundPlan; place = 0 })) (Ok tt)

-- a hang on a sound plan: the fault of the text, then 21 of limits that the plan after it would pass
abbrev pub hang_on : {L : Type 0} → Kind L → Limits → Model L → List ℕ → Result (Unit {0}) Fault
hang_on k l m text =
    unless_fault (fault_of (hang_events k 0 text))
    (cond (within l (hung_text k m text)) (Ok tt) (Err (record { refusal = FullTables; place = 0 })))

-- a show of a sound plan: the number of its bytes, or 23 of a buffer that is too short
abbrev pub show_on : {L : Type 0} → Kind L → Model L → ℕ → Result ℕ Fault
show_on k m room = cond (nat_le (length (shown k m)) room) (Ok (length (shown k m))) (Err (record { refusal = ShortBuffer; place = 0 }))

-- one where a call is accepted, another where it is refused
abbrev pub accepts : {A B : Type 0} → Result B Fault → A → A → A
accepts (Ok x) new old = new
accepts (Err f) new old = old

-- the plan after a call
abbrev pub next : {L : Type 0} → Kind L → Limits → Model L → Call → Model L
next k l m strike = accepts (strike_on l) struck m
next k l m (hang text) = accepts (hang_on k l m text) (hung_text k m text) m
next k l m (show room) = m

-- the plan after calls
unfoldable pub after : {L : Type 0} → Kind L → Limits → Model L → List Call → Model L
after k l m [] = m
after k l m (c ∷ cs) = after k l (next k l m c) cs

-- the plan that calls make of a struck one
abbrev pub made : {L : Type 0} → Kind L → Limits → List Call → Model L
made k l calls = after k l struck calls

-- what a call answers: it is done, it shows bytes, or it is refused
pub data Answer : Type 0 where
  done : Answer
  shows : List ℕ → Answer
  refused : Fault → Answer

abbrev pub answered : {A : Type 0} → Result A Fault → Answer → Answer
answered (Ok x) a = a
answered (Err f) a = refused f

abbrev pub answer : {L : Type 0} → Kind L → Limits → Model L → Call → Answer
answer k l m strike = answered (strike_on l) done
answer k l m (hang text) = answered (hang_on k l m text) done
answer k l m (show room) = answered (show_on k m room) (shows (shown k m))

-- the answers of calls, each after those before it
unfoldable pub answers : {L : Type 0} → Kind L → Limits → Model L → List Call → List Answer
answers k l m [] = []
answers k l m (c ∷ cs) = answer k l m c ∷ answers k l (next k l m c) cs

-- the texts hung since the last strike, after a call
abbrev pub next_texts : {L : Type 0} → Kind L → Limits → Model L → List (List ℕ) → Call → List (List ℕ)
next_texts k l m ts strike = accepts (strike_on l) [] ts
next_texts k l m ts (hang text) = accepts (hang_on k l m text) (ts ++ (text ∷ [])) ts
next_texts k l m ts (show room) = ts

unfoldable pub texts_after : {L : Type 0} → Kind L → Limits → Model L → List (List ℕ) → List Call → List (List ℕ)
texts_after k l m ts [] = ts
texts_after k l m ts (c ∷ cs) = texts_after k l (next k l m c) (next_texts k l m ts c) cs

-- of calls on a struck plan, the texts that were accepted since the last strike, in their order
abbrev pub texts : {L : Type 0} → Kind L → Limits → List Call → List (List ℕ)
texts k l calls = texts_after k l struck [] calls
