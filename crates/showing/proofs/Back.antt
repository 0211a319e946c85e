-- The text of events is read to these events.
use Rattle.std.proofs.Common.{◌≡◌, ℕ, suc, ◌+◌, ◌-◌, ◌≤◌, Bool, true, false, ◌&&◌, eqb, ltb, leb, List, [], ◌∷◌, ◌++◌, length, decimal, refl, ap, ◌∙◌, arith}
use Rattle.std.proofs.lemmas.Bool.{and_parts, eqb-true, leb-true, ltb-true, lt-leb, le-ltb, cond-false, false≢true}
use Rattle.label.specs.Kind.{Kind, Lawful}
use Rattle.text.specs.declared.packed.Name.{Name}
use Rattle.text.specs.Packed.{spelling}
use Rattle.text.specs.Tokens.{tokens}
use Rattle.grammar.specs.declared.event.Event.{Event}
use Rattle.grammar.specs.declared.event.Event.TheVariants as events
use Rattle.grammar.specs.declared.stand.Standing.{Standing}
use Rattle.grammar.specs.State.{noted}
use Rattle.grammar.specs.Reading.{event, events_from}
use Rattle.showing.specs.declared.last.Last.TheVariants as last
use Rattle.showing.specs.Text.{token_bytes, text_of}
use Rattle.grammar.specs.Events.{summed, depth_after, proper_name, name_standings}
use Rattle.showing.specs.Reading.{stream, Before, opening, label, ports, halfway, item, whole, opens, then, may_stand, in_order, connectors, names_in, ReadsBack}
use Rattle.showing.proofs.Noting.{Stands, none_yet, not_third, stands_on, not_lone}
use Rattle.showing.proofs.Setting.{set_back}
use Rattle.showing.proofs.Steps.{stops, state, phase_of, last_of, due, past_lead, past_end, led, label_read, first_read, second_read, first_port_read, port_read, enter_read, leave_read, set_read, end_read}

-- where a list of items begins, its cell has no set yet
abbrev Fresh : Before → List Bool → Type 0
Fresh opening [] = Unit {0}
Fresh opening (b ∷ bs) = b ≡ false
Fresh label cs = Unit {0}
Fresh (ports n) cs = Unit {0}
Fresh halfway cs = Unit {0}
Fresh item cs = Unit {0}

module _ {L : Type 0} (k : Kind L) where
  -- where a reading stands that has these events before it
  record Reached (x : Before) (cs : List Bool) (c : ℕ) (ns : List Standing) (es : List (Event L)) : Type 0 where
    pub order : in_order k (length cs) x es ≡ true
    pub fresh : Fresh x cs
    pub few : c + connectors es ≤ 64
    pub names : Stands ns (names_in es)

  -- the first event may stand, and the others are in order after it
  parts : (e : Event L) (es : List (Event L)) (d : ℕ) (x : Before) → in_order k d x (e ∷ es) ≡ true → (may_stand k d x e ≡ true) × (in_order k (depth_after d e) (then x e) es ≡ true)
  unfolding in_order
  parts e es d x h = and_parts (may_stand k d x e) (in_order k (depth_after d e) (then x e) es) h

  abbrev Reads : List (Event L) → Type 0
  Reads es = (x : Before) (cs : List Bool) (c : ℕ) (ns : List Standing) (at : ℕ) → Reached x cs c ns es → events_from k (state (phase_of x) cs c ns) (tokens 0 at (text_of k (last_of x) es)) ≡ stream es

  none : Reads []
  unfolding text_of stream in_order name_standings
  none x [] c ns at r = end_read k [] c ns x at (and_parts (whole x) true r.order).0 (not_lone ns r.names)
  none x (b ∷ cs) c ns at r = let z = eqb-true (suc (length cs)) 0 (and_parts (whole x) (eqb (suc (length cs)) 0) r.order).1 in absurd (omega arith)

  labelled : Lawful k → (l : L) (es : List (Event L)) → Reads es → Reads (events.Label l ∷ es)
  unfolding text_of stream name_standings summed
  labelled law l es ih x cs c ns at r =
      let o = parts (events.Label l) es (length cs) x r.order in
      let m = and_parts (whole x) (k.mine l) o.0 in
      let sh = law.shown l m.1 in
      let rest = text_of k last.Label es in
      led k cs c ns x at (token_bytes (k.token l) ++ rest) m.0
      ∙ ap (λ t. events_from k (state (due (opens x)) cs c ns) (tokens 0 (past_lead x at) (token_bytes t ++ rest))) sh.is
      ∙ label_read k cs c ns sh.form sh.bytes l (opens x) (past_lead x at) rest sh.whole sh.back (stops k last.Label es refl)
      ∙ ap (event (events.Label l)) (ih label cs c ns (past_lead x at + length sh.bytes) (record { order = o.1; fresh = tt; few = omega (arith, r.few); names = r.names }))

  entered : (es : List (Event L)) → Reads es → Reads (events.Enter ∷ es)
  unfolding text_of stream name_standings summed
  entered es ih x cs c ns at r =
      let o = parts events.Enter es (length cs) x r.order in
      let m = and_parts (whole x) (ltb (length cs) 16) o.0 in
      let deep : leb 16 (length cs) ≡ false = lt-leb 16 (length cs) (ltb-true (length cs) 16 m.1) in
      let e : length cs + 1 ≡ suc (length cs) = omega arith in
      let next : in_order k (suc (length cs)) opening es ≡ true = rw e at o.1 in
      led k cs c ns x at _ m.0
      ∙ enter_read k cs c ns (opens x) (past_lead x at) (text_of k last.Nothing es) deep
      ∙ ap (event events.Enter) (ih opening (false ∷ cs) c ns (suc (past_lead x at)) (record { order = next; fresh = refl; few = omega (arith, r.few); names = r.names }))

  left : (es : List (Event L)) → Reads es → Reads (events.Leave ∷ es)
  unfolding text_of stream name_standings summed
  left es ih x [] c ns at r =
      let o = parts events.Leave es 0 x r.order in
      let m = ltb-true 0 0 (and_parts (whole x) (ltb 0 0) o.0).1 in absurd (omega arith)
  left es ih x (b ∷ cs) c ns at r =
      let o = parts events.Leave es (suc (length cs)) x r.order in
      let m = and_parts (whole x) (ltb 0 (suc (length cs))) o.0 in
      let e : suc (length cs) - 1 ≡ length cs = omega arith in
      let next : in_order k (length cs) item es ≡ true = rw e at o.1 in
      leave_read k cs c ns x b at (text_of k last.Item es) m.0
      ∙ ap (event events.Leave) (ih item cs c ns (suc (past_end x at)) (record { order = next; fresh = tt; few = omega (arith, r.few); names = r.names }))

  set : (j : ℕ) (es : List (Event L)) → Reads es → Reads (events.Set j ∷ es)
  unfolding text_of stream name_standings summed
  set j es ih opening [] c ns at r =
      let o = parts (events.Set j) es 0 opening r.order in
      let m = ltb-true 0 0 (and_parts (ltb 0 0) (leb 1 j && leb j 15) o.0).0 in absurd (omega arith)
  set j es ih opening (b ∷ cs) c ns at r =
      let o = parts (events.Set j) es (suc (length cs)) opening r.order in
      let m = and_parts (ltb 0 (suc (length cs))) (leb 1 j && leb j 15) o.0 in
      let l = and_parts (leb 1 j) (leb j 15) m.1 in
      let s = set_back j (leb-true 1 j l.0) (leb-true j 15 l.1) in
      let rest = text_of k last.Item es in
      ap (λ v. events_from k (state (phase_of opening) (v ∷ cs) c ns) (tokens 0 at (text_of k last.Nothing (events.Set j ∷ es)))) r.fresh
      ∙ set_read k cs c ns (decimal j) j at rest s.0 s.1 (stops k last.Item es refl)
      ∙ ap (event (events.Set j)) (ih item (true ∷ cs) c ns (suc at + length (decimal j)) (record { order = o.1; fresh = tt; few = omega (arith, r.few); names = r.names }))
  set j es ih label cs c ns at r = absurd (false≢true (parts (events.Set j) es (length cs) label r.order).0)
  set j es ih (ports n) cs c ns at r = absurd (false≢true (parts (events.Set j) es (length cs) (ports n) r.order).0)
  set j es ih halfway cs c ns at r = absurd (false≢true (parts (events.Set j) es (length cs) halfway r.order).0)
  set j es ih item cs c ns at r = absurd (false≢true (parts (events.Set j) es (length cs) item r.order).0)

  -- a name stands
  naming : (n : Name) (p : ℕ) (x : Before) (cs : List Bool) (c : ℕ) (ns : List Standing) (es : List (Event L)) → in_order k (length cs) x es ≡ true → Fresh x cs → c + connectors es ≤ 64 → Stands ns (n.packed ∷ names_in es) → Reached x cs c (noted n p ns) es
  naming n p x cs c ns es o f few h = record { order = o; fresh = f; few = few; names = stands_on n p ns (names_in es) h }

  firsts : (n : Name) (es : List (Event L)) → Reads es → Reads (events.First n ∷ es)
  unfolding text_of stream name_standings summed
  firsts n es ih x cs c ns at r =
      let o = parts (events.First n) es (length cs) x r.order in
      let m = and_parts (whole x) (proper_name n) o.0 in
      let rest = text_of k last.Item es in
      let room : leb 64 c ≡ false = lt-leb 64 c (omega (arith, r.few)) in
      led k cs c ns x at (spelling n.packed ++ rest) m.0
      ∙ first_read k cs c ns n (opens x) (past_lead x at) rest m.1 (not_third n ns (names_in es) r.names) room (stops k last.Item es refl)
      ∙ ap (event (events.First n)) (ih halfway cs (c + 1) (noted n (past_lead x at) ns) (past_lead x at + length (spelling n.packed)) (naming n (past_lead x at) halfway cs (c + 1) ns es o.1 tt (omega (arith, r.few)) r.names))

  seconds : (n : Name) (es : List (Event L)) → Reads es → Reads (events.Second n ∷ es)
  unfolding text_of stream name_standings summed
  seconds n es ih halfway cs c ns at r =
      let o = parts (events.Second n) es (length cs) halfway r.order in
      let rest = text_of k last.Item es in
      second_read k cs c ns n at rest o.0 (not_third n ns (names_in es) r.names) (stops k last.Item es refl)
      ∙ ap (event (events.Second n)) (ih item cs c (noted n (suc at) ns) (suc at + length (spelling n.packed)) (naming n (suc at) item cs c ns es o.1 tt (omega (arith, r.few)) r.names))
  seconds n es ih opening cs c ns at r = absurd (false≢true (parts (events.Second n) es (length cs) opening r.order).0)
  seconds n es ih label cs c ns at r = absurd (false≢true (parts (events.Second n) es (length cs) label r.order).0)
  seconds n es ih (ports j) cs c ns at r = absurd (false≢true (parts (events.Second n) es (length cs) (ports j) r.order).0)
  seconds n es ih item cs c ns at r = absurd (false≢true (parts (events.Second n) es (length cs) item r.order).0)

  ported : (n : Name) (es : List (Event L)) → Reads es → Reads (events.Port n ∷ es)
  unfolding text_of stream name_standings summed
  ported n es ih label cs c ns at r =
      let o = parts (events.Port n) es (length cs) label r.order in
      let rest = text_of k last.Port es in
      first_port_read k cs c ns n at rest o.0 (not_third n ns (names_in es) r.names) (stops k last.Port es refl)
      ∙ ap (event (events.Port n)) (ih (ports 1) cs c (noted n (suc at) ns) (suc at + length (spelling n.packed)) (naming n (suc at) (ports 1) cs c ns es o.1 tt (omega (arith, r.few)) r.names))
  ported n es ih (ports j) cs c ns at r =
      let o = parts (events.Port n) es (length cs) (ports j) r.order in
      let m = and_parts (ltb j 8) (proper_name n) o.0 in
      let room : leb 8 j ≡ false = lt-leb 8 j (ltb-true j 8 m.0) in
      let rest = text_of k last.Port es in
      port_read k cs c ns j n at rest m.1 room (not_third n ns (names_in es) r.names) (stops k last.Port es refl)
      ∙ ap (event (events.Port n)) (ih (ports (j + 1)) cs c (noted n (suc at) ns) (suc at + length (spelling n.packed)) (naming n (suc at) (ports (j + 1)) cs c ns es o.1 tt (omega (arith, r.few)) r.names))
  ported n es ih opening cs c ns at r = absurd (false≢true (parts (events.Port n) es (length cs) opening r.order).0)
  ported n es ih halfway cs c ns at r = absurd (false≢true (parts (events.Port n) es (length cs) halfway r.order).0)
  ported n es ih item cs c ns at r = absurd (false≢true (parts (events.Port n) es (length cs) item r.order).0)

  reads : Lawful k → (es : List (Event L)) → Reads es
  reads law [] = none
  reads law (events.Label l ∷ es) = labelled law l es (reads law es)
  reads law (events.Port n ∷ es) = ported n es (reads law es)
  reads law (events.Enter ∷ es) = entered es (reads law es)
  reads law (events.Leave ∷ es) = left es (reads law es)
  reads law (events.Set j ∷ es) = set j es (reads law es)
  reads law (events.First n ∷ es) = firsts n es (reads law es)
  reads law (events.Second n ∷ es) = seconds n es (reads law es)

  pub reads_back : Lawful k → ReadsBack k
  reads_back law es w short =
      let text = text_of k last.Nothing es in
      cond-false (ltb 65535 (length text)) _ _ (le-ltb 65535 (length text) short)
      ∙ reads law es opening [] 0 [] 0 (record { order = w.order; fresh = tt; few = omega (arith, w.few); names = none_yet (names_in es) w.twice w.not_alone })
