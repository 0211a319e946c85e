-- What the sheet of a text says of its events, and how many connectors they have.
use Rattle.std.proofs.Common.{◌≡◌, ℕ, ◌+◌, ◌≤◌, Bool, ltb, List, length, Some, None, Ok, Err, Option, Result, refl, ap, subst, arith}
use Rattle.std.proofs.lemmas.Bool.{cond_both, true≢false, leb-false}
use Rattle.fault.specs.declared.Fault.{Fault}
use Rattle.label.specs.Kind.{Kind, Lawful}
use Rattle.text.specs.declared.packed.Name.{Name}
use Rattle.text.specs.Tokens as tokens
use Rattle.grammar.specs.declared.event.Event.{Event}
use Rattle.grammar.specs.declared.event.Event.TheVariants as events
use Rattle.grammar.specs.declared.sheet.Sheet.{Sheet}
use Rattle.grammar.specs.declared.stand.Phase.{Phase}
use Rattle.grammar.specs.declared.stand.Phase.TheVariants.{Start, Item, Label, Ports, Port, First, Second, Set, After}
use Rattle.grammar.specs.declared.stand.Standing.{Standing}
use Rattle.grammar.specs.Seen.{Seen, sees, word, number, name, comma, open_paren, close_paren, open_brace, close_brace, equal, at_sign, other}
use Rattle.grammar.specs.State.{State, start, next_state, next_connectors}
use Rattle.grammar.specs.Tests.{set_of, label_read, text_limit}
use Rattle.grammar.specs.Reading.{Events, event, end, fault, follow, event_of, labelled, setting, number_event, events_from, hang_events, complete, unless_lone, first_lone, at_place}
use Rattle.grammar.specs.Laws.{fault_of}
use Rattle.grammar.specs.Sheets.{empty, tally, tallied, once_in, text_names, sheet_of, with_once}
use Rattle.grammar.specs.Events.{summed, connectors_at, connectors_in}
use Rattle.placing.specs.Counts.{labels_at, cells_at, labels_in, cells_in, SheetCounts, SheetMeans, EventsRight}
use Rattle.placing.proofs.Judging.{Right, by_verdict}
use Rattle.placing.proofs.Ordering.{orderly_text}

-- what is counted on from a sheet
pub record Counted {L : Type 0} (s : Sheet) (es : Events L) (t : Sheet) : Type 0 where
  pub clean : fault_of es ≡ None
  pub atoms : t.atoms ≡ s.atoms + labels_in es
  pub cells : t.cells ≡ s.cells + cells_in es
  pub connectors : t.connectors ≡ s.connectors + connectors_in es

abbrev Tallying : {L : Type 0} → Sheet → Events L → Result Sheet Fault → Type 0
Tallying s es (Ok t) = Counted s es t
Tallying s es (Err f) = fault_of es ≡ Some f

tally_parts : {L : Type 0} (s : Sheet) (e : Event L) → ((tally s e).atoms ≡ s.atoms + labels_at e) × ((tally s e).cells ≡ s.cells + cells_at e) × ((tally s e).connectors ≡ s.connectors + connectors_at e)
tally_parts s (events.Label l) = (omega arith, omega arith, omega arith)
tally_parts s (events.Port n) = (omega arith, omega arith, omega arith)
tally_parts s events.Enter = (omega arith, omega arith, omega arith)
tally_parts s events.Leave = (omega arith, omega arith, omega arith)
tally_parts s (events.Set j) = (omega arith, omega arith, omega arith)
tally_parts s (events.First n) = (omega arith, omega arith, omega arith)
tally_parts s (events.Second n) = (omega arith, omega arith, omega arith)

one_more : {L : Type 0} (s : Sheet) (e : Event L) (rest : Events L) (r : Result Sheet Fault) → Tallying (tally s e) rest r → Tallying s (event e rest) r
unfolding summed
one_more s e rest (Ok t) h =
    let a = h.atoms in let c = h.cells in let n = h.connectors in let p = tally_parts s e in
    let pa = p.0 in let pc = p.1 in let pn = p.2 in
    record { clean = h.clean; atoms = omega arith; cells = omega arith; connectors = omega arith }
one_more s e rest (Err f) h = h

tallying : {L : Type 0} (s : Sheet) (es : Events L) → Tallying s es (tallied s es)
unfolding tallied summed
tallying s (event e rest) = one_more s e rest (tallied (tally s e) rest) (tallying (tally s e) rest)
tallying s end = record { clean = refl; atoms = omega arith; cells = omega arith; connectors = omega arith }
tallying s (fault f) = refl

module _ {L : Type 0} (k : Kind L) (bs : List ℕ) where
  sheet_from : (r : Result Sheet Fault) → Tallying empty (hang_events k 0 bs) r → SheetMeans k bs (with_once (once_in (text_names bs)) r)
  sheet_from (Ok t) h =
      let a = h.atoms in let c = h.cells in let n = h.connectors in
      record { clean = h.clean; atoms = omega arith; cells = omega arith; connectors = omega arith; once = refl }
  sheet_from (Err f) h = h

  pub sheet_means : SheetMeans k bs (sheet_of k bs)
  sheet_means = sheet_from (tallied empty (hang_events k 0 bs)) (tallying empty (hang_events k 0 bs))

  pub sheet_ok : (s : Sheet) → sheet_of k bs ≡ Ok s → SheetCounts k bs s
  sheet_ok s e = subst (SheetMeans k bs) e sheet_means

module _ {L : Type 0} (k : Kind L) where
  abbrev InAfter : State → Seen → ℕ → Events L → Type 0
  InAfter st t place rest =
      connectors_in (follow (Ok (event_of k st t)) place rest) + st.connectors ≡ connectors_in rest + next_connectors st.phase st.connectors t

  labelled_none : (o : Option L) (place : ℕ) (rest : Events L) → connectors_in (follow (Ok (labelled o)) place rest) ≡ connectors_in rest
  unfolding summed
  labelled_none None place rest = refl
  labelled_none (Some l) place rest = omega arith

  setting_none : (o : Option ℕ) (place : ℕ) (rest : Events L) → connectors_in (follow (Ok (setting o)) place rest) ≡ connectors_in rest
  unfolding summed
  setting_none None place rest = refl
  setting_none (Some j) place rest = omega arith

  number_none : (ph : Phase) (w : List ℕ) (place : ℕ) (rest : Events L) → connectors_in (follow (Ok (number_event k ph w)) place rest) ≡ connectors_in rest
  number_none Start w place rest = labelled_none (label_read k (number w)) place rest
  number_none Item w place rest = labelled_none (label_read k (number w)) place rest
  number_none Label w place rest = labelled_none (label_read k (number w)) place rest
  number_none (Ports n) w place rest = labelled_none (label_read k (number w)) place rest
  number_none (Port n) w place rest = labelled_none (label_read k (number w)) place rest
  number_none First w place rest = labelled_none (label_read k (number w)) place rest
  number_none Second w place rest = labelled_none (label_read k (number w)) place rest
  number_none Set w place rest = setting_none (set_of w) place rest
  number_none After w place rest = labelled_none (label_read k (number w)) place rest

  abbrev Kept : State → Seen → Type 0
  Kept st t = (place : ℕ) (rest : Events L) → Right k st t → st.connectors ≤ 64 → InAfter st t place rest × (next_connectors st.phase st.connectors t ≤ 64)

  name_kept : (ph : Phase) (cs : List Bool) (c : ℕ) (ns : List Standing) (n : Name) → Kept (record { phase = ph; cells = cs; connectors = c; names = ns }) (name n)
  unfolding summed
  name_kept Start cs c ns n place rest r h = let l = leb-false 64 c r.connectors in (omega arith, omega arith)
  name_kept Item cs c ns n place rest r h = let l = leb-false 64 c r.connectors in (omega arith, omega arith)
  name_kept Label cs c ns n place rest r h = absurd (true≢false r.form)
  name_kept (Ports m) cs c ns n place rest r h = (omega arith, h)
  name_kept (Port m) cs c ns n place rest r h = absurd (true≢false r.form)
  name_kept First cs c ns n place rest r h = absurd (true≢false r.form)
  name_kept Second cs c ns n place rest r h = (omega arith, h)
  name_kept Set cs c ns n place rest r h = absurd (true≢false r.form)
  name_kept After cs c ns n place rest r h = absurd (true≢false r.form)

  kept : (t : Seen) (st : State) → Kept st t
  unfolding summed
  kept (word w) st place rest r h = (ap (λ x. x + st.connectors) (labelled_none (label_read k (word w)) place rest), h)
  kept (number w) st place rest r h = (ap (λ x. x + st.connectors) (number_none st.phase w place rest), h)
  kept (name n) st place rest r h = name_kept st.phase st.cells st.connectors st.names n place rest r h
  kept comma st place rest r h = (refl, h)
  kept open_paren st place rest r h = (refl, h)
  kept close_paren st place rest r h = (refl, h)
  kept open_brace st place rest r h = (omega arith, h)
  kept close_brace st place rest r h = (omega arith, h)
  kept equal st place rest r h = (refl, h)
  kept at_sign st place rest r h = (refl, h)
  kept other st place rest r h = (refl, h)

  lone_none : (o : Option ℕ) → connectors_in (unless_lone {L = L} o) ≡ 0
  unfolding summed
  lone_none None = refl
  lone_none (Some x) = refl

  connectors_from : (s : tokens.Stream) (st : State) → st.connectors ≤ 64 → connectors_in (events_from k st s) + st.connectors ≤ 64
  unfolding summed events_from
  connectors_from (tokens.token t place s) st h =
      by_verdict k st (sees t) (λ j. connectors_in (follow j place (events_from k (next_state st (sees t) place) s)) + st.connectors ≤ 64)
      (λ r. omega arith)
      (λ r. let g = kept (sees t) st place (events_from k (next_state st (sees t) place) s) r h in
      let a = g.0 in let b = g.1 in
      let ih = connectors_from s (next_state st (sees t) place) b in
      omega arith)
  connectors_from (tokens.end n) st h =
      cond_both (complete st) (unless_lone (first_lone st.names)) (at_place _ n) (λ e. connectors_in {L = L} e + st.connectors ≤ 64)
      (λ c. let z = lone_none (first_lone st.names) in omega arith) (λ c. omega arith)
  connectors_from (tokens.fault f) st h = omega arith

  pub connectors_text : (bs : List ℕ) → connectors_in (hang_events k 0 bs) ≤ 64
  unfolding summed
  connectors_text bs =
      cond_both (ltb text_limit (length bs)) (at_place _ 0) (events_from k start (tokens.tokens 0 0 bs)) (λ e. connectors_in e ≤ 64)
      (λ c. omega arith) (λ c. let h = connectors_from (tokens.tokens 0 0 bs) start (omega arith) in omega arith)

pub events_right : {L : Type 0} (k : Kind L) → Lawful k → EventsRight k
events_right k law = record { order = orderly_text k law; connectors = connectors_text k; sheet = sheet_means k }
