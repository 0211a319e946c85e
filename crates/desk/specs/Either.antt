-- A plan of either kind of labels.
use Rattle.std.specs.Prelude.{ℕ, List, Result}
use Rattle.fault.specs.declared.Fault.{Fault}
use Rattle.label.specs.declared.word.WordLabel.{WordLabel}
use Rattle.label.specs.declared.word_or_number.WordOrNumber.{WordOrNumber}
use Rattle.label.specs.WordKind.{word_kind}
use Rattle.label.specs.WordOrNumberKind.{mixed_kind}
use Rattle.showing.specs.Shown.{shown}
use Rattle.desk.specs.declared.desk.Rows.{Rows}
use Rattle.label.specs.declared.named.KindName.{KindName}
use Rattle.label.specs.declared.named.KindName.TheVariants as kinds
use Rattle.desk.specs.declared.either.EitherDesk.{EitherDesk}
use Rattle.desk.specs.declared.either.EitherDesk.TheVariants as desks
use Rattle.desk.specs.Held.{Held, Ready, after_strike, held, nothing, on_desk, strike_told}
use Rattle.desk.specs.Calls.{after_hang, hang_told, show_told}

-- a plan with the kind of its labels
pub data State : Type 0 where
  words : Held WordLabel → State
  numbers : Held WordOrNumber → State

-- what a desk holds
abbrev pub state_of : EitherDesk → State
state_of (desks.Words d) = words (held (on_desk d))
state_of (desks.Numbers d) = numbers (held (on_desk d))

abbrev pub Prepared : EitherDesk → Type 0
Prepared (desks.Words d) = Ready word_kind (on_desk d)
Prepared (desks.Numbers d) = Ready mixed_kind (on_desk d)

abbrev pub kind_in : State → KindName
kind_in (words h) = kinds.Words
kind_in (numbers h) = kinds.Numbers

abbrev pub rows_in : State → Rows
rows_in (words h) = h.rows
rows_in (numbers h) = h.rows

-- new tables, of which no row counts
abbrev pub unstruck : KindName → Rows → State
unstruck kinds.Words n = words (record { rows = n; model = nothing })
unstruck kinds.Numbers n = numbers (record { rows = n; model = nothing })

abbrev pub strike_answered : State → Result (Unit {0}) Fault
strike_answered (words h) = strike_told h
strike_answered (numbers h) = strike_told h

abbrev pub past_strike : State → State
past_strike (words h) = words (after_strike h)
past_strike (numbers h) = numbers (after_strike h)

abbrev pub hang_answered : State → List ℕ → Result (Unit {0}) Fault
hang_answered (words h) text = hang_told word_kind h text
hang_answered (numbers h) text = hang_told mixed_kind h text

abbrev pub past_hang : State → List ℕ → State
past_hang (words h) text = words (after_hang word_kind text h)
past_hang (numbers h) text = numbers (after_hang mixed_kind text h)

abbrev pub show_answered : State → ℕ → Result ℕ Fault
show_answered (words h) room = show_told word_kind h room
show_answered (numbers h) room = show_told mixed_kind h room

-- the text of the plan
abbrev pub text_in : State → List ℕ
text_in (words h) = shown word_kind h.model
text_in (numbers h) = shown mixed_kind h.model
