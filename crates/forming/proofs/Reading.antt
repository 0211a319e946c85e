-- A form that has the tokens of a text says its events.
use Rattle.std.proofs.Common.{◌≡◌, ℕ, ◌+◌, Bool, true, false, not, ◌&&◌, ltb, List, [], ◌∷◌, ◌++◌, map, length, is_some, Some, None, Ok, Option, sym, refl, ap, ◌∙◌, ap₂, append_assoc, append-nil, arith}
use Rattle.std.proofs.lemmas.Bool.{cond_both, and_from}
use Rattle.fault.specs.declared.Refusal.TheVariants.{TextTooLong, Unexpected}
use Rattle.label.specs.Kind.{Kind}
use Rattle.text.specs.declared.packed.Name.{Name}
use Rattle.text.specs.Tokens as tokens
use Rattle.grammar.specs.declared.event.Event.{Event}
use Rattle.grammar.specs.declared.event.Event.TheVariants as events
use Rattle.grammar.specs.declared.stand.Phase.{Phase}
use Rattle.grammar.specs.declared.stand.Phase.TheVariants.{Start, Label, Port, After}
use Rattle.grammar.specs.Seen.{Seen, sees, word, number, name, comma, open_paren, close_paren, open_brace, close_brace, equal, at_sign, other}
use Rattle.grammar.specs.State.{State, start, next_state, next_phase}
use Rattle.grammar.specs.Tests.{text_limit, label_read, set_of, foreign_label, wrong_set}
use Rattle.grammar.specs.Reading.{Events, event, end, follow, judged, event_of, labelled, setting, events_from, hang_events, complete, unless_lone, first_lone, at_place}
use Rattle.grammar.specs.Laws.{spots, fault_of, text_tokens}
use Rattle.grammar.specs.Form.{by_word, by_number, Items, none, atom, cell, connector, set, more_ports, port_tokens, joined, item_tokens}
use Rattle.grammar.proofs.Firsts.{reading_laws}
use Rattle.placing.proofs.Judging.{by_verdict}
use Rattle.forming.proofs.Unique.{one_form}
use Rattle.forming.specs.Events.{followed, given, item_events, reads, FormOf, FormLaw}

pub followed_append : {L : Type 0} (xs ys : List (Event L)) (rest : Events L) → followed (xs ++ ys) rest ≡ followed xs (followed ys rest)
followed_append [] ys rest = refl
followed_append (x ∷ xs) ys rest = ap (event x) (followed_append xs ys rest)

and_and : (a b c : Bool) → ((a && b) && c) ≡ (a && (b && c))
and_and true b c = refl
and_and false b c = refl

not_not : (a : Bool) → (not (not a) && true) ≡ a
not_not true = refl
not_not false = refl

-- a state in a phase
abbrev at_phase : Phase → State
at_phase p = record { phase = p; cells = []; connectors = 0; names = [] }

module _ {L : Type 0} (k : Kind L) where
  -- the events of tokens, by the phases
  abbrev told : Phase → List Seen → List (Event L)
  told p [] = []
  told p (t ∷ ts) = given (event_of k (at_phase p) t) ++ told (next_phase p t) ts

  -- labels are of the kind, and sets are sets
  abbrev fit : Phase → List Seen → Bool
  fit p [] = true
  fit p (t ∷ ts) = (not (foreign_label k (at_phase p) t) && not (wrong_set (at_phase p) t)) && fit (next_phase p t) ts

  -- The stream of a text tells the events of its tokens.

  event_phase : (st : State) (t : Seen) → event_of k st t ≡ event_of k (at_phase st.phase) t
  event_phase st (word w) = refl
  event_phase st (number w) = refl
  event_phase st (name n) = refl
  event_phase st comma = refl
  event_phase st open_paren = refl
  event_phase st close_paren = refl
  event_phase st open_brace = refl
  event_phase st close_brace = refl
  event_phase st equal = refl
  event_phase st at_sign = refl
  event_phase st other = refl

  follows : (o : Option (Event L)) (p : ℕ) (rest : Events L) → follow (Ok o) p rest ≡ followed (given o) rest
  follows None p rest = refl
  follows (Some e) p rest = refl

  follows_clean : (o : Option (Event L)) (p : ℕ) (rest : Events L) → fault_of (follow (Ok o) p rest) ≡ None → fault_of rest ≡ None
  follows_clean None p rest h = h
  follows_clean (Some e) p rest h = h

  abbrev Told : Phase → List Seen → Events L → Type 0
  Told p ts es = (es ≡ followed (told p ts) end) × (fit p ts ≡ true)

  token_told : (st : State) (t : Seen) (p : ℕ) (ts : List Seen) (rest : Events L) → (fault_of rest ≡ None → Told (next_phase st.phase t) ts rest) → fault_of (follow (judged k st t) p rest) ≡ None → Told st.phase (t ∷ ts) (follow (judged k st t) p rest)
  token_told st t p ts rest ih =
      by_verdict k st t (λ j. fault_of (follow j p rest) ≡ None → Told st.phase (t ∷ ts) (follow j p rest))
      (λ r e. absurd (let z : ◌≡◌ {A = ℕ} 0 1 = cc in omega arith))
      (λ r e.
      let after = ih (follows_clean (event_of k st t) p rest e) in
      let label = r.label in
      let number = r.number in (
        follows (event_of k st t) p rest
            ∙ ap₂ (λ o es. followed (given o) es) (event_phase st t) after.0
            ∙ sym (followed_append (given (event_of k (at_phase st.phase) t)) (told (next_phase st.phase t) ts) end),
        and_from _ (fit (next_phase st.phase t) ts) (and_from (not (foreign_label k st t)) (not (wrong_set st t)) (ap not label) (ap not number)) after.1,
      ))

  lone_told : (p : Phase) (o : Option ℕ) → fault_of {L = L} (unless_lone o) ≡ None → Told p [] (unless_lone o)
  lone_told p None h = (refl, refl)
  lone_told p (Some x) h = absurd (let z : ◌≡◌ {A = ℕ} 0 1 = cc in omega arith)

  stream_told : (s : tokens.Stream) (st : State) → fault_of (events_from k st s) ≡ None → Told st.phase (map (λ x. x.0) (spots s)) (events_from k st s)
  unfolding events_from
  stream_told (tokens.token t p s) st h = token_told st (sees t) p (map (λ x. x.0) (spots s)) (events_from k (next_state st (sees t) p) s) (stream_told s (next_state st (sees t) p)) h
  stream_told (tokens.end n) st h =
      cond_both (complete st) (unless_lone (first_lone st.names)) (at_place Unexpected n) (λ es. fault_of es ≡ None → Told st.phase [] es)
      (λ c. lone_told st.phase (first_lone st.names))
      (λ c e. absurd (let z : ◌≡◌ {A = ℕ} 0 1 = cc in omega arith)) h
  stream_told (tokens.fault f) st h = absurd (let z : ◌≡◌ {A = ℕ} 0 1 = cc in omega arith)

  text_told : (bs : List ℕ) → fault_of (hang_events k 0 bs) ≡ None → Told Start (text_tokens k bs) (hang_events k 0 bs)
  text_told bs =
      cond_both (ltb text_limit (length bs)) (at_place TextTooLong 0) (events_from k start (tokens.tokens 0 0 bs)) (λ es. fault_of es ≡ None → Told Start (text_tokens k bs) es)
      (λ c e. absurd (let z : ◌≡◌ {A = ℕ} 0 1 = cc in omega arith))
      (λ c. stream_told (tokens.tokens 0 0 bs) start)

  -- The tokens of a form tell the events of the form.

  abbrev Ending : List Seen → List (Event L) → Type 0
  Ending s es = (told Start s ≡ es) × (told Label s ≡ es) × (told After s ≡ es)

  abbrev Telling : Items → List Seen → List (Event L) → Type 0
  Telling h s es = (told Start (item_tokens h ++ s) ≡ item_events k h ++ es) × (told Label (joined h (item_tokens h) ++ s) ≡ item_events k h ++ es) × (told After (joined h (item_tokens h) ++ s) ≡ item_events k h ++ es)

  ports_told : (ns : List Name) (j : ℕ) (s : List Seen) → told (Port j) (more_ports ns ++ s) ≡ map events.Port ns ++ told After s
  ports_told [] j s = refl
  ports_told (n ∷ ns) j s = ap (λ es. events.Port n ∷ es) (ports_told ns (j + 1) s)

  label_told : (ns : List Name) (s u : List Seen) (es : List (Event L)) → told Label (s ++ u) ≡ es → told After (s ++ u) ≡ es → told Label ((port_tokens ns ++ s) ++ u) ≡ map events.Port ns ++ es
  label_told [] s u es h g = h
  label_told (n ∷ ns) s u es h g = ap (λ ts. events.Port n ∷ told (Port 1) ts) (append_assoc (more_ports ns) s u) ∙ ap (λ r. events.Port n ∷ r) (ports_told ns 1 (s ++ u) ∙ ap (λ r. map events.Port ns ++ r) g)

  atom_told : (w : Seen) (ns : List Name) (h : Items) (s : List Seen) (es : List (Event L)) → Telling h s es
      → given (labelled (label_read k w)) ++ told Label ((port_tokens ns ++ joined h (item_tokens h)) ++ s) ≡ (given (labelled (label_read k w)) ++ (map events.Port ns ++ item_events k h)) ++ es
  atom_told w ns h s es r =
      ap (λ x. given (labelled (label_read k w)) ++ x) (label_told ns (joined h (item_tokens h)) s (item_events k h ++ es) r.1 r.2 ∙ sym (append_assoc (map events.Port ns) (item_events k h) es))
      ∙ sym (append_assoc (given (labelled (label_read k w))) (map events.Port ns ++ item_events k h) es)

  items_told : (h : Items) (s : List Seen) (es : List (Event L)) → Ending s es → Telling h s es
  items_told none s es e = e
  items_told (atom (by_word w) ns h) s es e = let x = atom_told (word w) ns h s es (items_told h s es e) in (x, x, x)
  items_told (atom (by_number w) ns h) s es e = let x = atom_told (number w) ns h s es (items_told h s es e) in (x, x, x)
  items_told (cell inner h) s es e =
      let u = joined h (item_tokens h) in
      let after = (items_told h s es e).2 in
      let c : told After (u ++ s) ≡ item_events k h ++ es = after in
      let d : events.Leave ∷ told After (u ++ s) ≡ events.Leave ∷ (item_events k h ++ es) = ap (λ r. events.Leave ∷ r) c in
      let x : events.Enter ∷ told Start ((item_tokens inner ++ (close_brace ∷ u)) ++ s) ≡ events.Enter ∷ ((item_events k inner ++ (events.Leave ∷ item_events k h)) ++ es) =
      ap (λ r. events.Enter ∷ r)
      (ap (told Start) (append_assoc (item_tokens inner) (close_brace ∷ u) s)
      ∙ (items_told inner (close_brace ∷ (u ++ s)) (events.Leave ∷ (item_events k h ++ es)) (d, d, d)).0
      ∙ sym (append_assoc (item_events k inner) (events.Leave ∷ item_events k h) es)) in
      (x, x, x)
  items_told (connector a b h) s es e = let x = ap (λ r. events.First a ∷ (events.Second b ∷ r)) (items_told h s es e).2 in (x, x, x)
  items_told (set w h) s es e =
      let x = ap (λ r. given (setting (set_of w)) ++ r) (items_told h s es e).2 ∙ sym (append_assoc (given (setting (set_of w))) (item_events k h) es) in
      (x, x, x)

  -- and are right where the form is.

  abbrev FitEnd : List Seen → Bool → Type 0
  FitEnd s v = (fit Start s ≡ v) × (fit Label s ≡ v) × (fit After s ≡ v)

  abbrev Fitting : Items → List Seen → Bool → Type 0
  Fitting h s v = (fit Start (item_tokens h ++ s) ≡ (reads k h && v)) × (fit Label (joined h (item_tokens h) ++ s) ≡ (reads k h && v)) × (fit After (joined h (item_tokens h) ++ s) ≡ (reads k h && v))

  ports_fit : (ns : List Name) (j : ℕ) (s : List Seen) → fit (Port j) (more_ports ns ++ s) ≡ fit After s
  ports_fit [] j s = refl
  ports_fit (n ∷ ns) j s = ports_fit ns (j + 1) s

  label_fit : (ns : List Name) (s u : List Seen) (v : Bool) → fit Label (s ++ u) ≡ v → fit After (s ++ u) ≡ v → fit Label ((port_tokens ns ++ s) ++ u) ≡ v
  label_fit [] s u v h g = h
  label_fit (n ∷ ns) s u v h g = ap (fit (Port 1)) (append_assoc (more_ports ns) s u) ∙ ports_fit ns 1 (s ++ u) ∙ g

  atom_fit : (a : Bool) (ns : List Name) (h : Items) (s : List Seen) (v : Bool) → Fitting h s v
      → ((not (not a) && true) && fit Label ((port_tokens ns ++ joined h (item_tokens h)) ++ s)) ≡ ((a && reads k h) && v)
  atom_fit a ns h s v r =
      ap₂ ◌&&◌ (not_not a) (label_fit ns (joined h (item_tokens h)) s (reads k h && v) r.1 r.2) ∙ sym (and_and a (reads k h) v)

  items_fit : (h : Items) (s : List Seen) (v : Bool) → FitEnd s v → Fitting h s v
  items_fit none s v e = e
  items_fit (atom (by_word w) ns h) s v e = let x = atom_fit (is_some (label_read k (word w))) ns h s v (items_fit h s v e) in (x, x, x)
  items_fit (atom (by_number w) ns h) s v e = let x = atom_fit (is_some (label_read k (number w))) ns h s v (items_fit h s v e) in (x, x, x)
  items_fit (cell inner h) s v e =
      let u = joined h (item_tokens h) in
      let d : fit After (u ++ s) ≡ (reads k h && v) = (items_fit h s v e).2 in
      let x : fit Start ((item_tokens inner ++ (close_brace ∷ u)) ++ s) ≡ ((reads k inner && reads k h) && v) =
      ap (fit Start) (append_assoc (item_tokens inner) (close_brace ∷ u) s)
      ∙ (items_fit inner (close_brace ∷ (u ++ s)) (reads k h && v) (d, d, d)).0
      ∙ sym (and_and (reads k inner) (reads k h) v) in
      (x, x, x)
  items_fit (connector a b h) s v e = let x = (items_fit h s v e).2 in (x, x, x)
  items_fit (set w h) s v e =
      let b = is_some (set_of w) in
      let x : ((not (not b)) && fit After (joined h (item_tokens h) ++ s)) ≡ ((b && reads k h) && v) =
      ap₂ (λ p q. p && q) (double b) (items_fit h s v e).2 ∙ sym (and_and b (reads k h) v) in
      (x, x, x)
    where
      double : (b : Bool) → not (not b) ≡ b
      double true = refl
      double false = refl

  and_true : (b : Bool) → (b && true) ≡ b
  and_true true = refl
  and_true false = refl

  form_of : (bs : List ℕ) → fault_of (hang_events k 0 bs) ≡ None → (h : Items) → item_tokens h ≡ text_tokens k bs → FormOf k bs h
  form_of bs clean h e =
      let t = text_told bs clean in
      let whole = append-nil (item_tokens h) ∙ e in
      record {
        tokens = e;
        right = sym (and_true (reads k h)) ∙ sym (items_fit h [] true (refl, refl, refl)).0 ∙ ap (fit Start) whole ∙ t.1;
        events = t.0 ∙ ap (λ es. followed es end) (sym (ap (told Start) whole) ∙ (items_told h [] [] (refl, refl, refl)).0 ∙ append-nil (item_events k h));
      }

  pub form_law : FormLaw k
  form_law bs clean =
      let f = ((reading_laws k bs).clean_law.0 clean).0 in
      record { form = f.0; tokens = f.1; only = λ h e. one_form h f.0 (e ∙ sym f.1); each = form_of bs clean }
