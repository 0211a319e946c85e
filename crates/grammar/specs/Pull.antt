-- What a reader has yet to give.
use Rattle.std.specs.Prelude.{◌≡◌, ℕ, ◌<◌, cond, List, length, Some, None, Ok, Err, Option, Result, nat_lt}
use Rattle.fault.specs.declared.Refusal.TheVariants.{TextTooLong}
use Rattle.fault.specs.declared.Fault.{Fault}
use Rattle.label.specs.Kind.{Kind}
use Rattle.text.specs.declared.token.Found.{Found}
use Rattle.text.specs.Answer.{shape}
use Rattle.text.specs.Tokens as tokens
use Rattle.grammar.specs.declared.event.Event.{Event}
use Rattle.grammar.specs.declared.reader.Reader.{Reader}
use Rattle.grammar.specs.Seen.{Seen, sees}
use Rattle.grammar.specs.State.{State, start, state_of, next_state}
use Rattle.grammar.specs.Names.{names_of}
use Rattle.grammar.specs.Tests.{text_limit}
use Rattle.grammar.specs.Reading.{Events, event, end, fault, judged, events_from}
use Rattle.grammar.specs.Laws.{spots, state_after}

-- the state of a reader
abbrev pub view : Reader → State
view rd = state_of rd.stand (names_of rd.names)

-- the events that a reader has yet to give
abbrev pub left : {L : Type 0} → Kind L → Reader → Events L
left k rd = events_from k (view rd) (tokens.tokens 0 rd.at rd.rest.now)

-- a text that is too long is refused
abbrev pub limited : List ℕ → Result (Unit {0}) Fault
limited bs = cond (nat_lt text_limit (length bs)) (Err (record { refusal = TextTooLong; place = 0 })) (Ok tt)

-- a reader at the start of a text
abbrev pub Begun : ℕ → List ℕ → Reader → Type 0
Begun at bs rd = (rd.rest.now ≡ bs) × (rd.at ≡ at) × (view rd ≡ start)

-- the verdict on a token, a refusal at its place
abbrev pub Judged : {L : Type 0} → Kind L → State → Seen → ℕ → Result (Option (Event L)) Fault → Type 0
Judged k st s place (Ok e) = judged k st s ≡ Ok e
Judged k st s place (Err f) = (judged k st s ≡ Err f.refusal) × (f.place ≡ place)

-- a token taken from a text: the reader goes on past it, or stays where it is refused
abbrev pub Taken : {L : Type 0} → Kind L → Reader → Found → Result (Option (Event L)) Fault → Reader → Type 0
Taken k a x (Ok e) b = (judged k (view a) (sees (shape x.token)) ≡ Ok e) × (view b ≡ next_state (view a) (sees (shape x.token)) x.place) × (b.rest.now ≡ x.rest.now) × (b.at ≡ x.next)
Taken k a x (Err f) b = (judged k (view a) (sees (shape x.token)) ≡ Err f.refusal) × (f.place ≡ x.place) × (view b ≡ view a) × (b.rest.now ≡ a.rest.now) × (b.at ≡ a.at)

-- what is left once an answer is given: the answer is the head, and the reader after it has the tail
abbrev pub given : {L : Type 0} → Kind L → Result (Option (Event L)) Fault → Reader → Events L
given k (Ok None) rd = end
given k (Ok (Some e)) rd = event e (left k rd)
given k (Err f) rd = fault f

-- at the end and at a fault the reader stays there; at an event less of the text is left
abbrev pub Goes : {L : Type 0} → Kind L → Result (Option (Event L)) Fault → Reader → Reader → Type 0
Goes k (Ok None) a b = left k b ≡ left k a
Goes k (Ok (Some e)) a b = length b.rest.now < length a.rest.now
Goes k (Err f) a b = left k b ≡ left k a

-- the answer at the end of a text
abbrev pub answered : {L : Type 0} → Result (Option (Event L)) Fault → Events L
answered (Ok None) = end
answered (Ok (Some e)) = event e end
answered (Err f) = fault f

-- the state after all the tokens that are left
abbrev pub final : Reader → State
final rd = state_after (view rd) (spots (tokens.tokens 0 rd.at rd.rest.now))

-- an event leaves the final state as it is, and at the text's end it is the reader's
abbrev pub ComesTo : {L : Type 0} → Result (Option (Event L)) Fault → Reader → Reader → Type 0
ComesTo (Ok None) a b = view b ≡ final a
ComesTo (Ok (Some e)) a b = final b ≡ final a
ComesTo (Err f) a b = Unit {0}
