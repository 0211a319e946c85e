-- The events of a text come in their order.
use Rattle.std.proofs.Common.{◌≡◌, ℕ, suc, ◌+◌, ◌-◌, ◌<◌, ◌≤◌, Bool, true, false, cond, not, ◌&&◌, eqb, ltb, leb, List, [], ◌∷◌, length, is_some, Some, None, Ok, Option, refl, ap, ◌∙◌, subst, arith}
use Rattle.std.proofs.lemmas.Bool.{cond_both, and_from, true≢false, false≢true, lt-ltb, leb-false}
use Rattle.label.specs.declared.form.Form.TheVariants as forms
use Rattle.label.specs.Kind.{Kind, Lawful}
use Rattle.text.specs.Numbers.{digits_value}
use Rattle.text.specs.declared.packed.Name.{Name}
use Rattle.text.specs.Tokens as tokens
use Rattle.text.specs.Answer.{Proper}
use Rattle.text.proofs.Proper.{tokens_proper}
use Rattle.grammar.specs.declared.event.Event.TheVariants as events
use Rattle.grammar.specs.declared.stand.Phase.{Phase}
use Rattle.grammar.specs.declared.stand.Phase.TheVariants.{Start, Item, Label, Ports, Port, First, Second, Set, After}
use Rattle.grammar.specs.declared.stand.Standing.{Standing}
use Rattle.grammar.specs.Seen.{Seen, sees, word, number, name, comma, open_paren, close_paren, open_brace, close_brace, equal, at_sign, other}
use Rattle.grammar.specs.State.{State, start, next_state, next_phase, next_cells}
use Rattle.grammar.specs.Tests.{set_of, label_read, text_limit, inside}
use Rattle.grammar.specs.Reading.{Events, follow, event_of, labelled, setting, events_from, hang_events, complete, unless_lone, first_lone, at_place, may_end}
use Rattle.grammar.specs.Events.{proper_name}
use Rattle.placing.specs.Orderly.{orderly}
use Rattle.placing.proofs.Judging.{Right, by_verdict, Named, sees_named}

-- a connector lacks its second name
abbrev pub midway : Phase → Bool
midway Start = false
midway Item = false
midway Label = false
midway (Ports n) = false
midway (Port n) = false
midway First = true
midway Second = true
midway Set = false
midway After = false

-- where ports are due, as many may follow as an atom has left, and a set is due only inside a cell
abbrev pub Due : Phase → List Bool → ℕ → Type 0
Due Start cs p = Unit {0}
Due Item cs p = Unit {0}
Due Label cs p = 8 ≤ p
Due (Ports n) cs p = 8 ≤ p + n
Due (Port n) cs p = 8 ≤ p + n
Due First cs p = Unit {0}
Due Second cs p = Unit {0}
Due Set cs p = 0 < length cs
Due After cs p = Unit {0}

module _ {L : Type 0} (k : Kind L) (law : Lawful k) where
  -- the events that are left are in order after a phase
  abbrev pub Onward : Phase → List Bool → Events L → Type 0
  Onward ph cs rest = (p : ℕ) → Due ph cs p → orderly k (length cs) p (midway ph) rest ≡ true

  abbrev Step : State → Seen → Type 0
  Step st t =
      (place p : ℕ) (rest : Events L) → Right k st t → Named t → Due st.phase st.cells p
      → Onward (next_phase st.phase t) (next_cells st.cells t) rest
      → orderly k (length st.cells) p (midway st.phase) (follow (Ok (event_of k st t)) place rest) ≡ true

  label_step : (d p place : ℕ) (rest : Events L) (o : Option L) → not (is_some o) ≡ false → ((l : L) → o ≡ Some l → k.mine l ≡ true) → orderly k d 8 false rest ≡ true → orderly k d p false (follow (Ok (labelled o)) place rest) ≡ true
  unfolding orderly
  label_step d p place rest None s m h = absurd (true≢false s)
  label_step d p place rest (Some l) s m h = and_from (k.mine l) (orderly k d 8 false rest) (m l refl) h

  set_range : (w : List ℕ) (j : ℕ) → set_of w ≡ Some j → (leb 1 j && leb j 15) ≡ true
  set_range [] j e = absurd (let z : ◌≡◌ {A = ℕ} 0 1 = cc in omega arith)
  set_range (b ∷ bs) j e = first (eqb b 45) e
    where
      v : ℕ
      v = digits_value 0 (b ∷ bs)

      second : (t : Bool) → (leb 1 v && leb v 15) ≡ t → cond t (Some v) None ≡ Some j → (leb 1 j && leb j 15) ≡ true
      second true h e = let z : v ≡ j = cc in subst (λ x. (leb 1 x && leb x 15) ≡ true) z h
      second false h e = absurd (let z : ◌≡◌ {A = ℕ} 0 1 = cc in omega arith)

      first : (t : Bool) → cond t None (cond (leb 1 v && leb v 15) (Some v) None) ≡ Some j → (leb 1 j && leb j 15) ≡ true
      first true e = absurd (let z : ◌≡◌ {A = ℕ} 0 1 = cc in omega arith)
      first false e = second (leb 1 v && leb v 15) refl e

  set_step : (d p place : ℕ) (rest : Events L) (o : Option ℕ) → not (is_some o) ≡ false → ((j : ℕ) → o ≡ Some j → (leb 1 j && leb j 15) ≡ true) → 0 < d → orderly k d 0 false rest ≡ true → orderly k d p false (follow (Ok (setting o)) place rest) ≡ true
  unfolding orderly
  set_step d p place rest None s m g h = absurd (true≢false s)
  set_step d p place rest (Some j) s m g h =
      and_from (ltb 0 d && (leb 1 j && leb j 15)) (orderly k d 0 false rest) (and_from (ltb 0 d) (leb 1 j && leb j 15) (lt-ltb 0 d g) (m j refl)) h

  enter_step : (d p place : ℕ) (rest : Events L) → leb 16 d ≡ false → orderly k (suc d) 0 false rest ≡ true → orderly k d p false (follow (Ok (Some events.Enter)) place rest) ≡ true
  unfolding orderly
  enter_step d p place rest g h =
      and_from (ltb d 16) (orderly k (d + 1) 0 false rest) (lt-ltb d 16 (leb-false 16 d g)) (let e : d + 1 ≡ suc d = omega arith in ap (λ x. orderly k x 0 false rest) e ∙ h)

  leave_step : (d p place : ℕ) (rest : Events L) → orderly k d 0 false rest ≡ true → orderly k (suc d) p false (follow (Ok (Some events.Leave)) place rest) ≡ true
  unfolding orderly
  leave_step d p place rest h =
      and_from (ltb 0 (suc d)) (orderly k (suc d - 1) 0 false rest) (lt-ltb 0 (suc d) (omega arith)) (let e : suc d - 1 ≡ d = omega arith in ap (λ x. orderly k x 0 false rest) e ∙ h)

  first_step : (d p place : ℕ) (n : Name) (rest : Events L) → proper_name n ≡ true → orderly k d 0 true rest ≡ true → orderly k d p false (follow (Ok (Some (events.First n))) place rest) ≡ true
  unfolding orderly
  first_step d p place n rest g h = and_from (proper_name n) (orderly k d 0 true rest) g h

  second_step : (d p place : ℕ) (n : Name) (rest : Events L) → proper_name n ≡ true → orderly k d 0 false rest ≡ true → orderly k d p true (follow (Ok (Some (events.Second n))) place rest) ≡ true
  unfolding orderly
  second_step d p place n rest g h = and_from (proper_name n) (orderly k d 0 false rest) g h

  port_step : (d p place : ℕ) (n : Name) (rest : Events L) → proper_name n ≡ true → 0 < p → orderly k d (p - 1) false rest ≡ true → orderly k d p false (follow (Ok (Some (events.Port n))) place rest) ≡ true
  unfolding orderly
  port_step d p place n rest g q h = and_from (ltb 0 p && proper_name n) (orderly k d (p - 1) false rest) (and_from (ltb 0 p) (proper_name n) (lt-ltb 0 p q) g) h

  read_step : (d p place : ℕ) (t : Seen) (rest : Events L) → not (is_some (label_read k t)) ≡ false → ((l : L) → label_read k t ≡ Some l → k.mine l ≡ true) → orderly k d 8 false rest ≡ true → orderly k d p false (follow (Ok (labelled (label_read k t))) place rest) ≡ true
  read_step d p place t rest s m h = label_step d p place rest (label_read k t) s m h

  step_start : (cs : List Bool) (c : ℕ) (ns : List Standing) (t : Seen) → Step (record { phase = Start; cells = cs; connectors = c; names = ns }) t
  step_start cs c ns (word w) place p rest r n d on = read_step (length cs) p place (word w) rest r.label (λ l e. law.read_mine forms.Word w l e) (on 8 (omega arith))
  step_start cs c ns (number w) place p rest r n d on = read_step (length cs) p place (number w) rest r.label (λ l e. law.read_mine forms.Number w l e) (on 8 (omega arith))
  step_start cs c ns (name x) place p rest r n d on = first_step (length cs) p place x rest n (on 0 tt)
  step_start cs c ns comma place p rest r n d on = absurd (true≢false r.form)
  step_start cs c ns open_paren place p rest r n d on = absurd (true≢false r.form)
  step_start cs c ns close_paren place p rest r n d on = absurd (true≢false r.form)
  step_start cs c ns open_brace place p rest r n d on = enter_step (length cs) p place rest r.depth (on 0 tt)
  step_start [] c ns close_brace place p rest r n d on = absurd (true≢false r.form)
  step_start (b ∷ bs) c ns close_brace place p rest r n d on = leave_step (length bs) p place rest (on 0 tt)
  step_start cs c ns equal place p rest r n d on = absurd (true≢false r.form)
  step_start [] c ns at_sign place p rest r n d on = absurd (true≢false r.cell_set)
  step_start (b ∷ bs) c ns at_sign place p rest r n d on = on p (omega arith)
  step_start cs c ns other place p rest r n d on = absurd (true≢false r.form)

  step_item : (cs : List Bool) (c : ℕ) (ns : List Standing) (t : Seen) → Step (record { phase = Item; cells = cs; connectors = c; names = ns }) t
  step_item cs c ns (word w) place p rest r n d on = read_step (length cs) p place (word w) rest r.label (λ l e. law.read_mine forms.Word w l e) (on 8 (omega arith))
  step_item cs c ns (number w) place p rest r n d on = read_step (length cs) p place (number w) rest r.label (λ l e. law.read_mine forms.Number w l e) (on 8 (omega arith))
  step_item cs c ns (name x) place p rest r n d on = first_step (length cs) p place x rest n (on 0 tt)
  step_item cs c ns comma place p rest r n d on = absurd (true≢false r.form)
  step_item cs c ns open_paren place p rest r n d on = absurd (true≢false r.form)
  step_item cs c ns close_paren place p rest r n d on = absurd (true≢false r.form)
  step_item cs c ns open_brace place p rest r n d on = enter_step (length cs) p place rest r.depth (on 0 tt)
  step_item cs c ns close_brace place p rest r n d on = absurd (true≢false r.form)
  step_item cs c ns equal place p rest r n d on = absurd (true≢false r.form)
  step_item [] c ns at_sign place p rest r n d on = absurd (true≢false r.cell_set)
  step_item (b ∷ bs) c ns at_sign place p rest r n d on = on p (omega arith)
  step_item cs c ns other place p rest r n d on = absurd (true≢false r.form)

  step_label : (cs : List Bool) (c : ℕ) (ns : List Standing) (t : Seen) → Step (record { phase = Label; cells = cs; connectors = c; names = ns }) t
  step_label cs c ns (word w) place p rest r n d on = absurd (true≢false r.form)
  step_label cs c ns (number w) place p rest r n d on = absurd (true≢false r.form)
  step_label cs c ns (name x) place p rest r n d on = absurd (true≢false r.form)
  step_label cs c ns comma place p rest r n d on = on p tt
  step_label cs c ns open_paren place p rest r n d on = on p (omega arith)
  step_label cs c ns close_paren place p rest r n d on = absurd (true≢false r.form)
  step_label cs c ns open_brace place p rest r n d on = absurd (true≢false r.form)
  step_label [] c ns close_brace place p rest r n d on = absurd (true≢false r.form)
  step_label (b ∷ bs) c ns close_brace place p rest r n d on = leave_step (length bs) p place rest (on 0 tt)
  step_label cs c ns equal place p rest r n d on = absurd (true≢false r.form)
  step_label cs c ns at_sign place p rest r n d on = absurd (true≢false r.form)
  step_label cs c ns other place p rest r n d on = absurd (true≢false r.form)

  step_ports : (m : ℕ) (cs : List Bool) (c : ℕ) (ns : List Standing) (t : Seen) → Step (record { phase = Ports m; cells = cs; connectors = c; names = ns }) t
  step_ports m cs c ns (word w) place p rest r n d on = absurd (true≢false r.form)
  step_ports m cs c ns (number w) place p rest r n d on = absurd (true≢false r.form)
  step_ports m cs c ns (name x) place p rest r n d on =
      let l : m < 8 = leb-false 8 m r.ports in
      port_step (length cs) p place x rest n (omega arith) (on (p - 1) (omega arith))
  step_ports m cs c ns comma place p rest r n d on = absurd (true≢false r.form)
  step_ports m cs c ns open_paren place p rest r n d on = absurd (true≢false r.form)
  step_ports m cs c ns close_paren place p rest r n d on = absurd (true≢false r.form)
  step_ports m cs c ns open_brace place p rest r n d on = absurd (true≢false r.form)
  step_ports m cs c ns close_brace place p rest r n d on = absurd (true≢false r.form)
  step_ports m cs c ns equal place p rest r n d on = absurd (true≢false r.form)
  step_ports m cs c ns at_sign place p rest r n d on = absurd (true≢false r.form)
  step_ports m cs c ns other place p rest r n d on = absurd (true≢false r.form)

  step_port : (m : ℕ) (cs : List Bool) (c : ℕ) (ns : List Standing) (t : Seen) → Step (record { phase = Port m; cells = cs; connectors = c; names = ns }) t
  step_port m cs c ns (word w) place p rest r n d on = absurd (true≢false r.form)
  step_port m cs c ns (number w) place p rest r n d on = absurd (true≢false r.form)
  step_port m cs c ns (name x) place p rest r n d on = absurd (true≢false r.form)
  step_port m cs c ns comma place p rest r n d on = on p d
  step_port m cs c ns open_paren place p rest r n d on = absurd (true≢false r.form)
  step_port m cs c ns close_paren place p rest r n d on = on p tt
  step_port m cs c ns open_brace place p rest r n d on = absurd (true≢false r.form)
  step_port m cs c ns close_brace place p rest r n d on = absurd (true≢false r.form)
  step_port m cs c ns equal place p rest r n d on = absurd (true≢false r.form)
  step_port m cs c ns at_sign place p rest r n d on = absurd (true≢false r.form)
  step_port m cs c ns other place p rest r n d on = absurd (true≢false r.form)

  step_first : (cs : List Bool) (c : ℕ) (ns : List Standing) (t : Seen) → Step (record { phase = First; cells = cs; connectors = c; names = ns }) t
  step_first cs c ns (word w) place p rest r n d on = absurd (true≢false r.form)
  step_first cs c ns (number w) place p rest r n d on = absurd (true≢false r.form)
  step_first cs c ns (name x) place p rest r n d on = absurd (true≢false r.form)
  step_first cs c ns comma place p rest r n d on = absurd (true≢false r.form)
  step_first cs c ns open_paren place p rest r n d on = absurd (true≢false r.form)
  step_first cs c ns close_paren place p rest r n d on = absurd (true≢false r.form)
  step_first cs c ns open_brace place p rest r n d on = absurd (true≢false r.form)
  step_first cs c ns close_brace place p rest r n d on = absurd (true≢false r.form)
  step_first cs c ns equal place p rest r n d on = on p tt
  step_first cs c ns at_sign place p rest r n d on = absurd (true≢false r.form)
  step_first cs c ns other place p rest r n d on = absurd (true≢false r.form)

  step_second : (cs : List Bool) (c : ℕ) (ns : List Standing) (t : Seen) → Step (record { phase = Second; cells = cs; connectors = c; names = ns }) t
  step_second cs c ns (word w) place p rest r n d on = absurd (true≢false r.form)
  step_second cs c ns (number w) place p rest r n d on = absurd (true≢false r.form)
  step_second cs c ns (name x) place p rest r n d on = second_step (length cs) p place x rest n (on 0 tt)
  step_second cs c ns comma place p rest r n d on = absurd (true≢false r.form)
  step_second cs c ns open_paren place p rest r n d on = absurd (true≢false r.form)
  step_second cs c ns close_paren place p rest r n d on = absurd (true≢false r.form)
  step_second cs c ns open_brace place p rest r n d on = absurd (true≢false r.form)
  step_second cs c ns close_brace place p rest r n d on = absurd (true≢false r.form)
  step_second cs c ns equal place p rest r n d on = absurd (true≢false r.form)
  step_second cs c ns at_sign place p rest r n d on = absurd (true≢false r.form)
  step_second cs c ns other place p rest r n d on = absurd (true≢false r.form)

  step_set : (cs : List Bool) (c : ℕ) (ns : List Standing) (t : Seen) → Step (record { phase = Set; cells = cs; connectors = c; names = ns }) t
  step_set cs c ns (word w) place p rest r n d on = absurd (true≢false r.form)
  step_set cs c ns (number w) place p rest r n d on = set_step (length cs) p place rest (set_of w) r.number (λ j e. set_range w j e) d (on 0 tt)
  step_set cs c ns (name x) place p rest r n d on = absurd (true≢false r.form)
  step_set cs c ns comma place p rest r n d on = absurd (true≢false r.form)
  step_set cs c ns open_paren place p rest r n d on = absurd (true≢false r.form)
  step_set cs c ns close_paren place p rest r n d on = absurd (true≢false r.form)
  step_set cs c ns open_brace place p rest r n d on = absurd (true≢false r.form)
  step_set cs c ns close_brace place p rest r n d on = absurd (true≢false r.form)
  step_set cs c ns equal place p rest r n d on = absurd (true≢false r.form)
  step_set cs c ns at_sign place p rest r n d on = absurd (true≢false r.form)
  step_set cs c ns other place p rest r n d on = absurd (true≢false r.form)

  step_after : (cs : List Bool) (c : ℕ) (ns : List Standing) (t : Seen) → Step (record { phase = After; cells = cs; connectors = c; names = ns }) t
  step_after cs c ns (word w) place p rest r n d on = absurd (true≢false r.form)
  step_after cs c ns (number w) place p rest r n d on = absurd (true≢false r.form)
  step_after cs c ns (name x) place p rest r n d on = absurd (true≢false r.form)
  step_after cs c ns comma place p rest r n d on = on p tt
  step_after cs c ns open_paren place p rest r n d on = absurd (true≢false r.form)
  step_after cs c ns close_paren place p rest r n d on = absurd (true≢false r.form)
  step_after cs c ns open_brace place p rest r n d on = absurd (true≢false r.form)
  step_after [] c ns close_brace place p rest r n d on = absurd (true≢false r.form)
  step_after (b ∷ bs) c ns close_brace place p rest r n d on = leave_step (length bs) p place rest (on 0 tt)
  step_after cs c ns equal place p rest r n d on = absurd (true≢false r.form)
  step_after cs c ns at_sign place p rest r n d on = absurd (true≢false r.form)
  step_after cs c ns other place p rest r n d on = absurd (true≢false r.form)

  step : (ph : Phase) (cs : List Bool) (c : ℕ) (ns : List Standing) (t : Seen) → Step (record { phase = ph; cells = cs; connectors = c; names = ns }) t
  step Start cs c ns t = step_start cs c ns t
  step Item cs c ns t = step_item cs c ns t
  step Label cs c ns t = step_label cs c ns t
  step (Ports m) cs c ns t = step_ports m cs c ns t
  step (Port m) cs c ns t = step_port m cs c ns t
  step First cs c ns t = step_first cs c ns t
  step Second cs c ns t = step_second cs c ns t
  step Set cs c ns t = step_set cs c ns t
  step After cs c ns t = step_after cs c ns t

  lone_orderly : (p : ℕ) (o : Option ℕ) → orderly k 0 p false (unless_lone {L = L} o) ≡ true
  unfolding orderly
  lone_orderly p None = refl
  lone_orderly p (Some x) = refl

  whole_orderly : (ph : Phase) (cs : List Bool) (p : ℕ) (o : Option ℕ) → (may_end ph && not (inside cs)) ≡ true → orderly k (length cs) p (midway ph) (unless_lone {L = L} o) ≡ true
  whole_orderly Start [] p o h = lone_orderly p o
  whole_orderly Start (b ∷ bs) p o h = absurd (false≢true h)
  whole_orderly Item cs p o h = absurd (false≢true h)
  whole_orderly Label [] p o h = lone_orderly p o
  whole_orderly Label (b ∷ bs) p o h = absurd (false≢true h)
  whole_orderly (Ports m) cs p o h = absurd (false≢true h)
  whole_orderly (Port m) cs p o h = absurd (false≢true h)
  whole_orderly First cs p o h = absurd (false≢true h)
  whole_orderly Second cs p o h = absurd (false≢true h)
  whole_orderly Set cs p o h = absurd (false≢true h)
  whole_orderly After [] p o h = lone_orderly p o
  whole_orderly After (b ∷ bs) p o h = absurd (false≢true h)

  pub orderly_from : (s : tokens.Stream) → Proper s → (st : State) → Onward st.phase st.cells (events_from k st s)
  unfolding events_from orderly
  orderly_from (tokens.token t place s) q st p d =
      by_verdict k st (sees t) (λ j. orderly k (length st.cells) p (midway st.phase) (follow j place (events_from k (next_state st (sees t) place) s)) ≡ true)
      (λ r. refl)
      (λ r. step st.phase st.cells st.connectors st.names (sees t) place p (events_from k (next_state st (sees t) place) s) r (sees_named t q.0) d (orderly_from s q.1 (next_state st (sees t) place)))
  orderly_from (tokens.end n) q st p d =
      cond_both (complete st) (unless_lone (first_lone st.names)) (at_place _ n) (λ e. orderly k (length st.cells) p (midway st.phase) e ≡ true)
      (λ c. whole_orderly st.phase st.cells p (first_lone st.names) c) (λ c. refl)
  orderly_from (tokens.fault f) q st p d = refl

  pub orderly_text : (bs : List ℕ) → orderly k 0 0 false (hang_events k 0 bs) ≡ true
  unfolding orderly
  orderly_text bs =
      cond_both (ltb text_limit (length bs)) (at_place _ 0) (events_from k start (tokens.tokens 0 0 bs)) (λ e. orderly k 0 0 false e ≡ true)
      (λ c. refl) (λ c. orderly_from (tokens.tokens 0 0 bs) (tokens_proper 0 bs) start 0 tt)
