-- What reading a text answers.
use Rattle.std.proofs.Common.{◌≡◌, ℕ, ◌+◌, ◌≤◌, Bool, true, false, cond, ltb, List, length, Ok, Err, Result, refl, ap, arith}
use Rattle.std.proofs.lemmas.Bool.{cond-false}
use Rattle.fault.specs.declared.Refusal.TheVariants.{TextTooLong}
use Rattle.fault.specs.declared.Fault.{Fault}
use Rattle.label.specs.Kind.{Kind}
use Rattle.text.specs.Tokens.{tokens}
use Rattle.grammar.specs.declared.event.Event.{Event}
use Rattle.grammar.specs.declared.event.Event.TheVariants as events
use Rattle.grammar.specs.declared.sheet.Sheet.{Sheet}
use Rattle.grammar.specs.State.{start}
use Rattle.grammar.specs.Tests.{text_limit}
use Rattle.grammar.specs.Reading.{Events, event, end, fault, at_place, events_from, hang_events}
use Rattle.grammar.specs.Laws.{fault_of}
use Rattle.grammar.specs.Pull.{limited}
use Rattle.grammar.specs.Sheets.{tally, tallied, with_once, refusal_of}

pub tallied_event : {L : Type 0} (s : Sheet) (e : Event L) (rest : Events L) → tallied s (event e rest) ≡ tallied (tally s e) rest
unfolding tallied
tallied_event s e rest = refl

pub tallied_end : (L : Type 0) (s : Sheet) → tallied {L = L} s end ≡ Ok s
unfolding tallied
tallied_end L s = refl

pub tallied_fault : (L : Type 0) (s : Sheet) (f : Fault) → tallied {L = L} s (fault f) ≡ Err f
unfolding tallied
tallied_fault L s f = refl

-- the answer is a refusal where the reading has a fault
pub refusal_is : {L : Type 0} (n : ℕ) (s : Sheet) (ev : Events L) → refusal_of (with_once n (tallied s ev)) ≡ fault_of ev
unfolding tallied
refusal_is n s (event e rest) = refusal_is n (tally s e) rest
refusal_is n s end = refl
refusal_is n s (fault f) = refl

abbrev too_long : Fault
too_long = record { refusal = TextTooLong; place = 0 }

abbrev shorter : Bool → Result (Unit {0}) Fault
shorter v = cond v (Err too_long) (Ok tt)

abbrev refused : {L : Type 0} → Result (Unit {0}) Fault → Events L
refused (Ok u) = end
refused (Err f) = fault f

module _ {L : Type 0} (k : Kind L) (bs : List ℕ) where
  by_length : (v : Bool) (f : Fault) → shorter v ≡ Err f → cond v (at_place {L = L} TextTooLong 0) (events_from k start (tokens 0 0 bs)) ≡ fault f
  by_length true f e = ap refused e
  by_length false f e = absurd (let z : ◌≡◌ {A = ℕ} 0 1 = cc in omega arith)

  pub long_text : (f : Fault) → limited bs ≡ Err f → hang_events k 0 bs ≡ fault f
  long_text f e = by_length (ltb text_limit (length bs)) f e

  by_short : (v : Bool) (u : Unit {0}) → shorter v ≡ Ok u → v ≡ false
  by_short true u e = absurd (let z : ◌≡◌ {A = ℕ} 0 1 = cc in omega arith)
  by_short false u e = refl

  pub short_text : (u : Unit {0}) → limited bs ≡ Ok u → hang_events k 0 bs ≡ events_from k start (tokens 0 0 bs)
  short_text u e = cond-false _ _ _ (by_short (ltb text_limit (length bs)) u e)

-- one event more counts at most one thing more
pub tally_room : {L : Type 0} (s : Sheet) (e : Event L) → (tally s e).atoms + (tally s e).cells + (tally s e).connectors ≤ s.atoms + s.cells + s.connectors + 1
tally_room s (events.Label l) = omega arith
tally_room s (events.Port n) = omega arith
tally_room s events.Enter = omega arith
tally_room s events.Leave = omega arith
tally_room s (events.Set n) = omega arith
tally_room s (events.First n) = omega arith
tally_room s (events.Second n) = omega arith
