-- What a text holds, in numbers.
use Rattle.std.specs.Prelude.{ℕ, ◌+◌, cond, List, [], ◌∷◌, Some, None, Ok, Err, Option, Result}
use Rattle.fault.specs.declared.Fault.{Fault}
use Rattle.label.specs.Kind.{Kind}
use Rattle.text.specs.Tokens.{tokens}
use Rattle.grammar.specs.declared.event.Event.{Event}
use Rattle.grammar.specs.declared.event.Event.TheVariants as events
use Rattle.grammar.specs.declared.sheet.Sheet.{Sheet}
use Rattle.grammar.specs.declared.stand.Standing.{Standing}
use Rattle.grammar.specs.State.{start}
use Rattle.grammar.specs.Reading.{Events, event, end, fault, hang_events}
use Rattle.grammar.specs.Laws.{spots, state_after}

abbrev pub empty : Sheet
empty = record { atoms = 0; cells = 0; connectors = 0; once = 0 }

-- one atom more at a label, one cell at its beginning, one connector at its first name
abbrev pub tally : {L : Type 0} → Sheet → Event L → Sheet
tally s (events.Label l) = record { atoms = s.atoms + 1; cells = s.cells; connectors = s.connectors; once = s.once }
tally s (events.Port n) = s
tally s events.Enter = record { atoms = s.atoms; cells = s.cells + 1; connectors = s.connectors; once = s.once }
tally s events.Leave = s
tally s (events.Set k) = s
tally s (events.First n) = record { atoms = s.atoms; cells = s.cells; connectors = s.connectors + 1; once = s.once }
tally s (events.Second n) = s

unfoldable pub tallied : {L : Type 0} → Sheet → Events L → Result Sheet Fault
tallied s (event e rest) = tallied (tally s e) rest
tallied s end = Ok s
tallied s (fault f) = Err f

-- how many names stood once
unfoldable pub once_in : List Standing → ℕ
once_in [] = 0
once_in (s ∷ ss) = cond s.twice (once_in ss) (once_in ss + 1)

-- the names that stand in a text, after all its tokens
abbrev pub text_names : List ℕ → List Standing
text_names bs = (state_after start (spots (tokens 0 0 bs))).names

abbrev pub with_once : ℕ → Result Sheet Fault → Result Sheet Fault
with_once n (Ok s) = Ok (record { atoms = s.atoms; cells = s.cells; connectors = s.connectors; once = n })
with_once n (Err f) = Err f

-- what reading a text answers
abbrev pub sheet_of : {L : Type 0} → Kind L → List ℕ → Result Sheet Fault
sheet_of k bs = with_once (once_in (text_names bs)) (tallied empty (hang_events k 0 bs))

abbrev pub refusal_of : Result Sheet Fault → Option Fault
refusal_of (Ok s) = None
refusal_of (Err f) = Some f
