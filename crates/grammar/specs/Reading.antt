-- The events of a text.
use Rattle.std.specs.Prelude.{ℕ, Bool, true, false, cond, not, ◌&&◌, List, [], ◌∷◌, length, Some, None, Ok, Err, Option, Result, nat_lt}
use Rattle.fault.specs.declared.Refusal.{Refusal}
use Rattle.fault.specs.declared.Refusal.TheVariants.{TextTooLong, ForeignLabel, Unexpected, TooDeep, NinthPort, HangName, MisplacedSet, TooManyItems, SetNumber}
use Rattle.fault.specs.declared.Fault.{Fault}
use Rattle.label.specs.Kind.{Kind}
use Rattle.text.specs.declared.packed.Name.{Name}
use Rattle.text.specs.Packed.{underscored}
use Rattle.text.specs.Tokens as tokens
use Rattle.grammar.specs.declared.event.Event.{Event}
use Rattle.grammar.specs.declared.event.Event.TheVariants as events
use Rattle.grammar.specs.declared.stand.Phase.{Phase}
use Rattle.grammar.specs.declared.stand.Phase.TheVariants.{Start, Item, Label, Ports, Port, First, Second, Set, After}
use Rattle.grammar.specs.declared.stand.Standing.{Standing}
use Rattle.grammar.specs.Seen.{Seen, sees, word, number, name, comma, open_paren, close_paren, open_brace, close_brace, equal, at_sign, other}
use Rattle.grammar.specs.State.{State, start, next_state}
use Rattle.grammar.specs.Tests.{text_limit, label_read, set_of, foreign_label, unexpected, too_deep, ninth_port, third_standing, misplaced_set, crowded, wrong_set, inside}

abbrev pub labelled : {L : Type 0} → Option L → Option (Event L)
labelled None = None
labelled (Some l) = Some (events.Label l)

abbrev pub setting : {L : Type 0} → Option ℕ → Option (Event L)
setting None = None
setting (Some k) = Some (events.Set k)

abbrev pub name_event : {L : Type 0} → Phase → Name → Event L
name_event Start n = events.First n
name_event Item n = events.First n
name_event Label n = events.First n
name_event (Ports k) n = events.Port n
name_event (Port k) n = events.First n
name_event First n = events.First n
name_event Second n = events.Second n
name_event Set n = events.First n
name_event After n = events.First n

abbrev pub number_event : {L : Type 0} → Kind L → Phase → List ℕ → Option (Event L)
number_event k Start w = labelled (label_read k (number w))
number_event k Item w = labelled (label_read k (number w))
number_event k Label w = labelled (label_read k (number w))
number_event k (Ports n) w = labelled (label_read k (number w))
number_event k (Port n) w = labelled (label_read k (number w))
number_event k First w = labelled (label_read k (number w))
number_event k Second w = labelled (label_read k (number w))
number_event k Set w = setting (set_of w)
number_event k After w = labelled (label_read k (number w))

-- what a token that is not at fault gives
abbrev pub event_of : {L : Type 0} → Kind L → State → Seen → Option (Event L)
event_of k st (word w) = labelled (label_read k (word w))
event_of k st (number w) = number_event k st.phase w
event_of k st (name n) = Some (name_event st.phase n)
event_of k st comma = None
event_of k st open_paren = None
event_of k st close_paren = None
event_of k st open_brace = Some events.Enter
event_of k st close_brace = Some events.Leave
event_of k st equal = None
event_of k st at_sign = None
event_of k st other = None

-- the event of a label, or that its token means none
abbrev pub label_answer : {L : Type 0} → Option L → Result (Option (Event L)) Refusal
label_answer None = Err ForeignLabel
label_answer (Some l) = Ok (labelled (Some l))

-- a token is refused by the lowest number that is at fault there
abbrev pub judged : {L : Type 0} → Kind L → State → Seen → Result (Option (Event L)) Refusal
judged k st s =
    cond (foreign_label k st s) (Err ForeignLabel)
    (cond (unexpected st s) (Err Unexpected)
    (cond (too_deep st s) (Err TooDeep)
    (cond (ninth_port st s) (Err NinthPort)
    (cond (third_standing st s) (Err HangName)
    (cond (misplaced_set st s) (Err MisplacedSet)
    (cond (crowded st s) (Err TooManyItems)
    (cond (wrong_set st s) (Err SetNumber)
    (Ok (event_of k st s)))))))))

-- a list of items may end here
abbrev pub may_end : Phase → Bool
may_end Start = true
may_end Item = false
may_end Label = true
may_end (Ports n) = false
may_end (Port n) = false
may_end First = false
may_end Second = false
may_end Set = false
may_end After = true

-- a hang may end here
abbrev pub complete : State → Bool
complete st = may_end st.phase && not (inside st.cells)

-- a `_` name that stood once
abbrev pub lone : Standing → Bool
lone s = underscored s.name && not s.twice

-- where the first `_` name that stood once stood
unfoldable pub first_lone : List Standing → Option ℕ
first_lone [] = None
first_lone (s ∷ ss) = cond (lone s) (Some s.place) (first_lone ss)

-- events, ended by the text's end or by one fault
pub data Events (L : Type 0) : Type 0 where
  event : Event L → Events L → Events L
  end : Events L
  fault : Fault → Events L

abbrev pub at_place : {L : Type 0} → Refusal → ℕ → Events L
at_place r p = fault (record { refusal = r; place = p })

-- what a token's verdict makes of the events that follow
abbrev pub follow : {L : Type 0} → Result (Option (Event L)) Refusal → ℕ → Events L → Events L
follow (Err r) p rest = at_place r p
follow (Ok None) p rest = rest
follow (Ok (Some e)) p rest = event e rest

abbrev pub unless_lone : {L : Type 0} → Option ℕ → Events L
unless_lone None = end
unless_lone (Some p) = at_place HangName p

-- what the end of a text at a place gives
abbrev pub ended : {L : Type 0} → State → ℕ → Events L
ended st n = cond (complete st) (unless_lone (first_lone st.names)) (at_place Unexpected n)

-- the events of a stream of tokens, after the tokens that led to a state
unfoldable pub events_from : {L : Type 0} → Kind L → State → tokens.Stream → Events L
events_from k st (tokens.token t p s) = follow (judged k st (sees t)) p (events_from k (next_state st (sees t) p) s)
events_from k st (tokens.end n) = ended st n
events_from k st (tokens.fault f) = fault f

-- the events of a text whose first byte is at a place
abbrev pub hang_events : {L : Type 0} → Kind L → ℕ → List ℕ → Events L
hang_events k at bs = cond (nat_lt text_limit (length bs)) (at_place TextTooLong 0) (events_from k start (tokens.tokens 0 at bs))
