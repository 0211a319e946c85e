-- What the bytes of each event make of the state of a reading.
use Rattle.std.proofs.Common.{◌≡◌, ℕ, suc, ◌+◌, Bool, true, false, eqb, leb, List, [], ◌∷◌, ◌++◌, length, Some, None, codes, refl, ap, ◌∙◌}
use Rattle.std.proofs.lemmas.Bool.{and_parts, eqb-true, false≢true}
use Rattle.label.specs.declared.form.Form.{Form}
use Rattle.label.specs.declared.form.Form.TheVariants as forms
use Rattle.label.specs.Kind.{Kind, proper}
use Rattle.text.specs.declared.packed.Name.{Name}
use Rattle.text.specs.Packed.{pack, spelling}
use Rattle.text.specs.Classes.{class_of, tail, digit}
use Rattle.text.specs.Shapes.{is_name, is_number}
use Rattle.std.specs.List.{prefix_len}
use Rattle.text.specs.Tokens.{tokens, Stream, token, number}
use Rattle.grammar.specs.declared.event.Event.{Event}
use Rattle.grammar.specs.declared.event.Event.TheVariants as events
use Rattle.grammar.specs.declared.stand.Phase.{Phase}
use Rattle.grammar.specs.declared.stand.Phase.TheVariants.{Start, Item, Label, Ports, Port, First, Second, Set, After}
use Rattle.grammar.specs.declared.stand.Standing.{Standing}
use Rattle.grammar.specs.Seen.{name}
use Rattle.grammar.specs.State.{State, times, noted, next_state}
use Rattle.grammar.specs.Tests.{set_of}
use Rattle.grammar.specs.Reading.{event, end, follow, judged, first_lone, events_from}
use Rattle.showing.specs.declared.last.Last.{Last}
use Rattle.showing.specs.declared.last.Last.TheVariants as last
use Rattle.showing.specs.Text.{before_item, before_port, at_end, text_of}
use Rattle.grammar.specs.Events.{proper_name}
use Rattle.showing.specs.Reading.{Before, opening, label, ports, halfway, item, whole, opens}
use Rattle.showing.proofs.Lexing.{word_first, name_first, number_first}

-- a text that goes on no word, name or number
abbrev pub Stop : List ℕ → Type 0
Stop s = (prefix_len tail s ≡ 0) × (prefix_len digit s ≡ 0)

abbrev written : Last → Bool
written last.Nothing = false
written last.Label = true
written last.Port = true
written last.Item = true

item_stops : (b : Last) (s : List ℕ) → written b ≡ true → Stop (before_item b ++ s)
unfolding class_of
item_stops last.Nothing s h = absurd (false≢true h)
item_stops last.Label s h = (refl, refl)
item_stops last.Port s h = (refl, refl)
item_stops last.Item s h = (refl, refl)

port_stops : (b : Last) (s : List ℕ) → Stop (before_port b ++ s)
unfolding class_of
port_stops last.Nothing s = (refl, refl)
port_stops last.Label s = (refl, refl)
port_stops last.Port s = (refl, refl)
port_stops last.Item s = (refl, refl)

leave_stops : (b : Last) (s : List ℕ) → Stop (at_end b ++ (codes "}" ++ s))
unfolding class_of
leave_stops last.Nothing s = (refl, refl)
leave_stops last.Label s = (refl, refl)
leave_stops last.Port s = (refl, refl)
leave_stops last.Item s = (refl, refl)

end_stops : (b : Last) → Stop (at_end b)
unfolding class_of
end_stops last.Nothing = (refl, refl)
end_stops last.Label = (refl, refl)
end_stops last.Port = (refl, refl)
end_stops last.Item = (refl, refl)

equal_stops : (s : List ℕ) → Stop (codes "=" ++ s)
unfolding class_of
equal_stops s = (refl, refl)

-- what is written after something begins with a mark
pub stops : {L : Type 0} (k : Kind L) (b : Last) (es : List (Event L)) → written b ≡ true → Stop (text_of k b es)
unfolding text_of
stops k b [] h = end_stops b
stops k b (events.Label l ∷ es) h = item_stops b _ h
stops k b (events.Port n ∷ es) h = port_stops b _
stops k b (events.Enter ∷ es) h = item_stops b _ h
stops k b (events.Leave ∷ es) h = leave_stops b _
stops k b (events.Set j ∷ es) h = item_stops b _ h
stops k b (events.First n ∷ es) h = item_stops b _ h
stops k b (events.Second n ∷ es) h = equal_stops _

abbrev pub state : Phase → List Bool → ℕ → List Standing → State
state p cs c ns = record { phase = p; cells = cs; connectors = c; names = ns }

-- the phase of a reading after events
abbrev pub phase_of : Before → Phase
phase_of opening = Start
phase_of label = Label
phase_of (ports n) = Port n
phase_of halfway = First
phase_of item = After

abbrev pub last_of : Before → Last
last_of opening = last.Nothing
last_of label = last.Label
last_of (ports n) = last.Port
last_of halfway = last.Item
last_of item = last.Item

-- where an item is due: at the start of a list, or after a comma
abbrev pub due : Bool → Phase
due true = Start
due false = Item

-- the place past what goes before an item
abbrev pub past_lead : Before → ℕ → ℕ
past_lead opening at = at
past_lead label at = suc at
past_lead (ports n) at = suc (suc at)
past_lead halfway at = suc at
past_lead item at = suc at

-- the place past what ends a list
abbrev pub past_end : Before → ℕ → ℕ
past_end opening at = at
past_end label at = at
past_end (ports n) at = suc at
past_end halfway at = at
past_end item at = at

module _ {L : Type 0} (k : Kind L) (cs : List Bool) (c : ℕ) (ns : List Standing) where
  pub led : (x : Before) (at : ℕ) (rest : List ℕ) → whole x ≡ true → events_from k (state (phase_of x) cs c ns) (tokens 0 at (before_item (last_of x) ++ rest)) ≡ events_from k (state (due (opens x)) cs c ns) (tokens 0 (past_lead x at) rest)
  unfolding events_from tokens class_of
  led opening at rest h = refl
  led label at rest h = refl
  led (ports n) at rest h = refl
  led halfway at rest h = absurd (false≢true h)
  led item at rest h = refl

  pub label_read : (f : Form) (w : List ℕ) (l : L) (b : Bool) (at : ℕ) (rest : List ℕ) → proper f w ≡ true → k.read f w ≡ Some l → Stop rest → events_from k (state (due b) cs c ns) (tokens 0 at (w ++ rest)) ≡ event (events.Label l) (events_from k (state Label cs c ns) (tokens 0 (at + length w) rest))
  unfolding events_from
  label_read forms.Word w l true at rest p r s = ap (events_from k (state Start cs c ns)) (word_first w rest at p s.0) ∙ rw r
  label_read forms.Word w l false at rest p r s = ap (events_from k (state Item cs c ns)) (word_first w rest at p s.0) ∙ rw r
  label_read forms.Number w l true at rest p r s = ap (events_from k (state Start cs c ns)) (number_first w rest at p s.1) ∙ rw r
  label_read forms.Number w l false at rest p r s = ap (events_from k (state Item cs c ns)) (number_first w rest at p s.1) ∙ rw r

name_seen : {L : Type 0} (k : Kind L) (st : State) (n : Name) (at : ℕ) (rest : List ℕ) → proper_name n ≡ true → Stop rest → events_from k st (tokens 0 at (spelling n.packed ++ rest)) ≡ follow (judged k st (name n)) at (events_from k (next_state st (name n) at) (tokens 0 (at + length (spelling n.packed)) rest))
unfolding events_from
name_seen k st n at rest p s =
    let w = spelling n.packed in
    let h = and_parts (is_name w) (eqb (pack w) n.packed) p in
    let e = eqb-true (pack w) n.packed h.1 in
    ap (events_from k st) (name_first w rest at h.0 s.0)
    ∙ ap (λ m. follow (judged k st (name (record { packed = m }))) at (events_from k (next_state st (name (record { packed = m })) at) (tokens 0 (at + length w) rest))) e

module _ {L : Type 0} (k : Kind L) (cs : List Bool) (c : ℕ) (ns : List Standing) where
  pub first_read : (n : Name) (b : Bool) (at : ℕ) (rest : List ℕ) → proper_name n ≡ true → leb 2 (times n ns) ≡ false → leb 64 c ≡ false → Stop rest → events_from k (state (due b) cs c ns) (tokens 0 at (spelling n.packed ++ rest)) ≡ event (events.First n) (events_from k (state First cs (c + 1) (noted n at ns)) (tokens 0 (at + length (spelling n.packed)) rest))
  first_read n true at rest p t f s = name_seen k (state Start cs c ns) n at rest p s ∙ rw (t, f)
  first_read n false at rest p t f s = name_seen k (state Item cs c ns) n at rest p s ∙ rw (t, f)

  equal_read : (at : ℕ) (rest : List ℕ) → events_from k (state First cs c ns) (tokens 0 at (codes "=" ++ rest)) ≡ events_from k (state Second cs c ns) (tokens 0 (suc at) rest)
  unfolding events_from tokens class_of
  equal_read at rest = refl

  open_read : (at : ℕ) (rest : List ℕ) → events_from k (state Label cs c ns) (tokens 0 at (codes "(" ++ rest)) ≡ events_from k (state (Ports 0) cs c ns) (tokens 0 (suc at) rest)
  unfolding events_from tokens class_of
  open_read at rest = refl

  comma_read : (j at : ℕ) (rest : List ℕ) → events_from k (state (Port j) cs c ns) (tokens 0 at (codes "," ++ rest)) ≡ events_from k (state (Ports j) cs c ns) (tokens 0 (suc at) rest)
  unfolding events_from tokens class_of
  comma_read j at rest = refl

  at_read : (at : ℕ) (rest : List ℕ) → events_from k (state Start (false ∷ cs) c ns) (tokens 0 at (codes "@" ++ rest)) ≡ events_from k (state Set (true ∷ cs) c ns) (tokens 0 (suc at) rest)
  unfolding events_from tokens class_of
  at_read at rest = refl

  number_read : (w : List ℕ) (j at : ℕ) (more : Stream) → set_of w ≡ Some j → events_from k (state Set (true ∷ cs) c ns) (token (number w) at more) ≡ event (events.Set j) (events_from k (state After (true ∷ cs) c ns) more)
  unfolding events_from
  number_read w j at more e = rw e

  pub second_read : (n : Name) (at : ℕ) (rest : List ℕ) → proper_name n ≡ true → leb 2 (times n ns) ≡ false → Stop rest → events_from k (state First cs c ns) (tokens 0 at (codes "=" ++ (spelling n.packed ++ rest))) ≡ event (events.Second n) (events_from k (state After cs c (noted n (suc at) ns)) (tokens 0 (suc at + length (spelling n.packed)) rest))
  second_read n at rest p t s = equal_read at (spelling n.packed ++ rest) ∙ name_seen k (state Second cs c ns) n (suc at) rest p s ∙ rw t

  pub first_port_read : (n : Name) (at : ℕ) (rest : List ℕ) → proper_name n ≡ true → leb 2 (times n ns) ≡ false → Stop rest → events_from k (state Label cs c ns) (tokens 0 at (codes "(" ++ (spelling n.packed ++ rest))) ≡ event (events.Port n) (events_from k (state (Port 1) cs c (noted n (suc at) ns)) (tokens 0 (suc at + length (spelling n.packed)) rest))
  first_port_read n at rest p t s = open_read at (spelling n.packed ++ rest) ∙ name_seen k (state (Ports 0) cs c ns) n (suc at) rest p s ∙ rw t

  pub port_read : (j : ℕ) (n : Name) (at : ℕ) (rest : List ℕ) → proper_name n ≡ true → leb 8 j ≡ false → leb 2 (times n ns) ≡ false → Stop rest → events_from k (state (Port j) cs c ns) (tokens 0 at (codes "," ++ (spelling n.packed ++ rest))) ≡ event (events.Port n) (events_from k (state (Port (j + 1)) cs c (noted n (suc at) ns)) (tokens 0 (suc at + length (spelling n.packed)) rest))
  port_read j n at rest p f t s = comma_read j at (spelling n.packed ++ rest) ∙ name_seen k (state (Ports j) cs c ns) n (suc at) rest p s ∙ rw (f, t)

  pub enter_read : (b : Bool) (at : ℕ) (rest : List ℕ) → leb 16 (length cs) ≡ false → events_from k (state (due b) cs c ns) (tokens 0 at (codes "{" ++ rest)) ≡ event events.Enter (events_from k (state Start (false ∷ cs) c ns) (tokens 0 (suc at) rest))
  unfolding events_from tokens class_of
  enter_read true at rest f = rw f
  enter_read false at rest f = rw f

  pub leave_read : (x : Before) (b : Bool) (at : ℕ) (rest : List ℕ) → whole x ≡ true → events_from k (state (phase_of x) (b ∷ cs) c ns) (tokens 0 at (at_end (last_of x) ++ (codes "}" ++ rest))) ≡ event events.Leave (events_from k (state After cs c ns) (tokens 0 (suc (past_end x at)) rest))
  unfolding events_from tokens class_of
  leave_read opening b at rest h = refl
  leave_read label b at rest h = refl
  leave_read (ports n) b at rest h = refl
  leave_read halfway b at rest h = absurd (false≢true h)
  leave_read item b at rest h = refl

  pub set_read : (w : List ℕ) (j at : ℕ) (rest : List ℕ) → is_number w ≡ true → set_of w ≡ Some j → Stop rest → events_from k (state Start (false ∷ cs) c ns) (tokens 0 at ((codes "@" ++ w) ++ rest)) ≡ event (events.Set j) (events_from k (state After (true ∷ cs) c ns) (tokens 0 (suc at + length w) rest))
  set_read w j at rest n e s = at_read at (w ++ rest) ∙ ap (events_from k (state Set (true ∷ cs) c ns)) (number_first w rest (suc at) n s.1) ∙ number_read w j (suc at) (tokens 0 (suc at + length w) rest) e

  pub end_read : (x : Before) (at : ℕ) → whole x ≡ true → first_lone ns ≡ None → events_from k (state (phase_of x) [] c ns) (tokens 0 at (at_end (last_of x))) ≡ end
  unfolding events_from tokens class_of
  end_read opening at h f = rw f
  end_read label at h f = rw f
  end_read (ports n) at h f = rw f
  end_read halfway at h f = absurd (false≢true h)
  end_read item at h f = rw f
