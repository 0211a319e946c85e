-- In the order of a text's events no set stands outside of all cells.
use Rattle.std.proofs.Common.{◌≡◌, ℕ, ◌+◌, ◌-◌, Bool, true, false, not, ◌&&◌, ltb, leb, List, [], ◌∷◌, ◌++◌, map, Some, None, Option, refl, ap, ◌∙◌, subst, arith}
use Rattle.std.proofs.lemmas.Bool.{and_parts, false≢true}
use Rattle.label.specs.Kind.{Kind}
use Rattle.text.specs.declared.packed.Name.{Name}
use Rattle.grammar.specs.declared.event.Event.{Event}
use Rattle.grammar.specs.declared.event.Event.TheVariants as events
use Rattle.grammar.specs.Tests.{label_read, set_of}
use Rattle.grammar.specs.Reading.{Events, event, labelled, setting}
use Rattle.grammar.specs.Form.{Items, none, atom, cell, connector, set, label_token}
use Rattle.grammar.specs.Events.{depth_after}
use Rattle.placing.specs.Orderly.{halfway, may_come, orderly, ports_after}
use Rattle.forming.specs.Events.{followed, given, item_events}
use Rattle.forming.specs.Places.{direct_set, set_or}
use Rattle.forming.proofs.Reading.{followed_append}

module _ {L : Type 0} (k : Kind L) where
  -- events that may come at a depth
  abbrev Come : ℕ → Events L → Type 0
  Come d es = (p : ℕ) × (c : Bool) × (orderly k d p c es ≡ true)

  come : (d : ℕ) (e : Event L) (es : Events L) → Come d (event e es) → Come (depth_after d e) es
  unfolding orderly
  come d e es h = (ports_after h.0 e, halfway e, (and_parts (may_come k d h.0 h.1 e) (orderly k (depth_after d e) (ports_after h.0 e) (halfway e) es) h.2).1)

  label_come : (d : ℕ) (o : Option L) (es : List (Event L)) (rest : Events L) → Come d (followed (given (labelled o) ++ es) rest) → Come d (followed es rest)
  label_come d None es rest h = h
  label_come d (Some l) es rest h = come d (events.Label l) (followed es rest) h

  ports_come : (d : ℕ) (ns : List Name) (es : List (Event L)) (rest : Events L) → Come d (followed (map events.Port ns ++ es) rest) → Come d (followed es rest)
  ports_come d [] es rest h = h
  ports_come d (n ∷ ns) es rest h = ports_come d ns es rest (come d (events.Port n) (followed (map events.Port ns ++ es) rest) h)

  set_come : (d : ℕ) (o : Option ℕ) (es : List (Event L)) (rest : Events L) → Come d (followed (given (setting o) ++ es) rest) → Come d (followed es rest)
  set_come d None es rest h = h
  set_come d (Some j) es rest h = come d (events.Set j) (followed es rest) h

  abbrev Past : Items → Type 0
  Past h = (d : ℕ) (rest : Events L) → Come d (followed (item_events k h) rest) → Come d rest

  cell_past : (inner : Items) → Past inner → (es : List (Event L)) (d : ℕ) (rest : Events L) → Come d (followed (events.Enter ∷ (item_events k inner ++ (events.Leave ∷ es))) rest) → Come d (followed es rest)
  cell_past inner ih es d rest h =
      let entered = come d events.Enter (followed (item_events k inner ++ (events.Leave ∷ es)) rest) h in
      let inside = ih (d + 1) (event events.Leave (followed es rest)) (subst (Come (d + 1)) (followed_append (item_events k inner) (events.Leave ∷ es) rest) entered) in
      let e : d + 1 - 1 ≡ d = omega arith in
      subst (λ n. Come n (followed es rest)) e (come (d + 1) events.Leave (followed es rest) inside)

  past : (h : Items) → Past h
  past none d rest x = x
  past (atom w ns h) d rest x =
      past h d rest (ports_come d ns (item_events k h) rest (label_come d (label_read k (label_token w)) (map events.Port ns ++ item_events k h) rest x))
  past (cell inner h) d rest x = past h d rest (cell_past inner (past inner) (item_events k h) d rest x)
  past (connector a b h) d rest x = past h d rest (come d (events.Second b) (followed (item_events k h) rest) (come d (events.First a) (followed (events.Second b ∷ item_events k h) rest) x))
  past (set w h) d rest x = past h d rest (set_come d (set_of w) (item_events k h) rest x)

  outer_set : (o : Option ℕ) (j : ℕ) (es : List (Event L)) (rest : Events L) → Come 0 (followed (given (setting o) ++ es) rest) → set_or j o ≡ j
  unfolding orderly
  outer_set None j es rest h = refl
  outer_set (Some i) j es rest h =
      let may = (and_parts (may_come k 0 h.0 h.1 (events.Set i)) (orderly k 0 0 false (followed es rest)) h.2).0 in
      let some = (and_parts (not h.1) (ltb 0 0 && (leb 1 i && leb i 15)) may).1 in
      absurd (false≢true some)

  pub no_outer_set : (h : Items) (rest : Events L) → Come 0 (followed (item_events k h) rest) → (j : ℕ) → direct_set j h ≡ j
  no_outer_set none rest x j = refl
  no_outer_set (atom w ns h) rest x j =
      no_outer_set h rest (ports_come 0 ns (item_events k h) rest (label_come 0 (label_read k (label_token w)) (map events.Port ns ++ item_events k h) rest x)) j
  no_outer_set (cell inner h) rest x j = no_outer_set h rest (cell_past inner (past inner) (item_events k h) 0 rest x) j
  no_outer_set (connector a b h) rest x j = no_outer_set h rest (come 0 (events.Second b) (followed (item_events k h) rest) (come 0 (events.First a) (followed (events.Second b ∷ item_events k h) rest) x)) j
  no_outer_set (set w h) rest x j =
      ap (λ i. direct_set i h) (outer_set (set_of w) j (item_events k h) rest x) ∙ no_outer_set h rest (set_come 0 (set_of w) (item_events k h) rest x) j
