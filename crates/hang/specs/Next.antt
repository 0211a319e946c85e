-- The events that a reader has yet to give, one by one.
use Rattle.std.specs.Prelude.{◌≡◌, ◌<◌, Bool, true, false, length, Some, None, Option}
use Rattle.label.specs.Kind.{Kind}
use Rattle.grammar.specs.declared.event.Event.{Event}
use Rattle.grammar.specs.declared.reader.Reader.{Reader}
use Rattle.grammar.specs.Pull.{final, left, view}
use Rattle.grammar.specs.Reading.{Events, event, end, fault}

-- no event comes
abbrev pub halted : {L : Type 0} → Events L → Bool
halted (event e rest) = false
halted end = true
halted (fault f) = true

-- the head of the events is given and the tail left, or there is none; at the end of the text all its tokens have been taken
abbrev pub Heads : {L : Type 0} → Kind L → Reader → Option (Event L) → Reader → Type 0
Heads k a (Some e) b = (event e (left k b) ≡ left k a) × (length b.rest.now < length a.rest.now) × (final b ≡ final a)
Heads k a None b = (halted (left k a) ≡ true) × (left k a ≡ end → view b ≡ final a)
