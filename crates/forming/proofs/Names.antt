-- The names of a form, and how often they stand.
use Rattle.std.proofs.Common.{◌≡◌, ℕ, suc, ◌+◌, ◌<◌, ◌≤◌, ◌⊎◌, List, [], ◌∷◌, ◌++◌, map, Some, None, Option, sym, refl, ap, ◌∙◌, inl, inr, ⊎_elim, append_assoc, append-nil, arith}
use Rattle.std.proofs.lemmas.List.{map-append}
use Rattle.std.proofs.lemmas.Bool.Decides.{nat_tests}
use Rattle.label.specs.Kind.{Kind}
use Rattle.text.specs.declared.packed.Name.{Name}
use Rattle.grammar.specs.declared.event.Event.{Event}
use Rattle.grammar.specs.declared.event.Event.TheVariants as events
use Rattle.grammar.specs.State.{times}
use Rattle.grammar.specs.Tests.{label_read, set_of}
use Rattle.grammar.specs.Reading.{Events, event, end, hang_events, labelled, setting}
use Rattle.grammar.specs.Laws.{fault_of}
use Rattle.grammar.specs.Sheets.{text_names}
use Rattle.grammar.specs.Form.{Items, Written, none, atom, cell, connector, set, label_token}
use Rattle.plan.specs.Sound.{count}
use Rattle.grammar.specs.Events.{name_standings}
use Rattle.placing.proofs.KeepEach.{count_append}
use Rattle.placing.proofs.NamesOf.{names_right}
use Rattle.forming.specs.Events.{FormOf, followed, given, item_events}
use Rattle.forming.specs.Places.{AtomText, cell_count, connectors, with_label, written_atoms, written_names}
use Rattle.forming.specs.Joins.{Among}
use Rattle.forming.proofs.Reading.{followed_append}

abbrev pub packed_of : List Name → List ℕ
packed_of ns = map (λ n. n.packed) ns

-- the names of a form, packed
abbrev pub form_names : Items → List ℕ
form_names h = packed_of (written_names h)

pub atom_names : (w : Written) (ns : List Name) (h : Items) → form_names (atom w ns h) ≡ packed_of ns ++ form_names h
atom_names w ns h = map-append (λ n. n.packed) ns (written_names h)

pub cell_names : (i h : Items) → form_names (cell i h) ≡ form_names i ++ form_names h
cell_names i h = map-append (λ n. n.packed) (written_names i) (written_names h)

module _ {L : Type 0} (k : Kind L) where
  label_stands : (o : Option L) (es : List (Event L)) (rest : Events L) → name_standings (followed (given (labelled o) ++ es) rest) ≡ name_standings (followed es rest)
  unfolding name_standings
  label_stands None es rest = refl
  label_stands (Some l) es rest = refl

  set_stands : (o : Option ℕ) (es : List (Event L)) (rest : Events L) → name_standings (followed (given (setting o) ++ es) rest) ≡ name_standings (followed es rest)
  unfolding name_standings
  set_stands None es rest = refl
  set_stands (Some j) es rest = refl

  ports_stand : (ns : List Name) (es : List (Event L)) (rest : Events L) → name_standings (followed (map events.Port ns ++ es) rest) ≡ packed_of ns ++ name_standings (followed es rest)
  unfolding name_standings
  ports_stand [] es rest = refl
  ports_stand (n ∷ ns) es rest = ap (λ xs. n.packed ∷ xs) (ports_stand ns es rest)

  pub form_stands : (h : Items) (rest : Events L) → name_standings (followed (item_events k h) rest) ≡ form_names h ++ name_standings rest
  unfolding name_standings
  form_stands none rest = refl
  form_stands (atom w ns h) rest =
      label_stands (label_read k (label_token w)) (map events.Port ns ++ item_events k h) rest ∙ ports_stand ns (item_events k h) rest
      ∙ ap (λ xs. packed_of ns ++ xs) (form_stands h rest) ∙ sym (append_assoc (packed_of ns) (form_names h) (name_standings rest)) ∙ ap (λ xs. xs ++ name_standings rest) (sym (atom_names w ns h))
  form_stands (cell inner h) rest =
      ap name_standings (followed_append (item_events k inner) (events.Leave ∷ item_events k h) rest)
      ∙ form_stands inner (event events.Leave (followed (item_events k h) rest))
      ∙ ap (λ xs. form_names inner ++ xs) (form_stands h rest) ∙ sym (append_assoc (form_names inner) (form_names h) (name_standings rest)) ∙ ap (λ xs. xs ++ name_standings rest) (sym (cell_names inner h))
  form_stands (connector a b h) rest = ap (λ xs. a.packed ∷ (b.packed ∷ xs)) (form_stands h rest)
  form_stands (set w h) rest = set_stands (set_of w) (item_events k h) rest ∙ form_stands h rest

  -- a name stands in the table of a text as often as in its form
  pub times_form : (bs : List ℕ) (h : Items) → fault_of (hang_events k 0 bs) ≡ None → FormOf k bs h → (n : Name) → times n (text_names bs) ≡ count n.packed (form_names h)
  unfolding name_standings
  times_form bs h clean f n =
      (names_right k bs clean).standings n
      ∙ ap (λ es. count n.packed (name_standings es)) f.events
      ∙ ap (count n.packed) (form_stands h end ∙ append-nil (form_names h))

  -- the names at the ports of written atoms are of the form

  abbrev pub names_at : List (AtomText L) → List ℕ
  names_at [] = []
  names_at (a ∷ xs) = packed_of a.names ++ names_at xs

  names_append : (x : ℕ) (xs ys : List (AtomText L)) → count x (names_at (xs ++ ys)) ≡ count x (names_at xs) + count x (names_at ys)
  unfolding count
  names_append x [] ys = omega arith
  names_append x (a ∷ xs) ys =
      let ih = names_append x xs ys in
      let c = count_append x (packed_of a.names) (names_at (xs ++ ys)) in
      let d = count_append x (packed_of a.names) (names_at xs) in
      omega arith

  label_least : (x : ℕ) (o : Option L) (c : ℕ) (ns : List Name) (xs : List (AtomText L)) (m : ℕ) → count x (names_at xs) ≤ m → count x (names_at (with_label o c ns xs)) ≤ count x (packed_of ns) + m
  label_least x None c ns xs m h = omega arith
  label_least x (Some l) c ns xs m h = let d = count_append x (packed_of ns) (names_at xs) in omega arith

  past : (x a b : ℕ) (xs : List ℕ) (m : ℕ) → m ≤ count x xs → m ≤ count x (a ∷ (b ∷ xs))
  unfolding count
  past x a b xs m l = grind (arith, nat_tests)

  pub written_least : (x c r : ℕ) (h : Items) → count x (names_at (written_atoms k c r h)) ≤ count x (form_names h)
  written_least x c r none = omega arith
  written_least x c r (atom w ns h) =
      let d = ap (count x) (atom_names w ns h) ∙ count_append x (packed_of ns) (form_names h) in
      let e = label_least x (label_read k (label_token w)) c ns (written_atoms k c r h) (count x (form_names h)) (written_least x c r h) in
      omega arith
  written_least x c r (cell inner h) =
      let a = written_least x r (suc r) inner in
      let b = written_least x c (suc (r + cell_count inner)) h in
      let d = names_append x (written_atoms k r (suc r) inner) (written_atoms k c (suc (r + cell_count inner)) h) in
      let e = ap (count x) (cell_names inner h) ∙ count_append x (form_names inner) (form_names h) in
      omega arith
  written_least x c r (connector a b h) = past x a.packed b.packed (form_names h) (count x (names_at (written_atoms k c r h))) (written_least x c r h)
  written_least x c r (set w h) = written_least x c r h

-- the names of connectors stand in the form

among_append : {A : Type 0} (x : A) (xs ys : List A) → Among x (xs ++ ys) → Among x xs ⊎ Among x ys
among_append x [] ys i = inr i
among_append x (y ∷ xs) ys (inl e) = inl (inl e)
among_append x (y ∷ xs) ys (inr i) = ⊎_elim (λ j. inl (inr j)) (λ j. inr j) (among_append x xs ys i)

abbrev Both : Items → Name → Name → Type 0
Both h a b = (0 < count a.packed (form_names h)) × (0 < count b.packed (form_names h))

either_part : (x : ℕ) (xs ys zs : List ℕ) → zs ≡ xs ++ ys → (0 < count x xs) ⊎ (0 < count x ys) → 0 < count x zs
either_part x xs ys zs i (inl l) = let e = ap (count x) i ∙ count_append x xs ys in omega arith
either_part x xs ys zs i (inr l) = let e = ap (count x) i ∙ count_append x xs ys in omega arith

pair_first : (a b x : ℕ) (xs : List ℕ) → (x ≡ a) ⊎ ((x ≡ b) ⊎ (0 < count x xs)) → 0 < count x (a ∷ (b ∷ xs))
unfolding count
pair_first a b x xs (inl e) = grind (arith, nat_tests)
pair_first a b x xs (inr (inl e)) = grind (arith, nat_tests)
pair_first a b x xs (inr (inr l)) = grind (arith, nat_tests)

pub connectors_stand : (h : Items) (a b : Name) → Among (a, b) (connectors h) → Both h a b
connectors_stand none a b i = absurd i
connectors_stand (atom w ns h) a b i =
    let ih = connectors_stand h a b i in
    (either_part a.packed (packed_of ns) (form_names h) (form_names (atom w ns h)) (atom_names w ns h) (inr ih.0), either_part b.packed (packed_of ns) (form_names h) (form_names (atom w ns h)) (atom_names w ns h) (inr ih.1))
connectors_stand (cell inner h) a b i =
    ⊎_elim
    (λ (j : Among (a, b) (connectors inner)). let ih = connectors_stand inner a b j in (either_part a.packed (form_names inner) (form_names h) (form_names (cell inner h)) (cell_names inner h) (inl ih.0), either_part b.packed (form_names inner) (form_names h) (form_names (cell inner h)) (cell_names inner h) (inl ih.1)))
    (λ (j : Among (a, b) (connectors h)). let ih = connectors_stand h a b j in (either_part a.packed (form_names inner) (form_names h) (form_names (cell inner h)) (cell_names inner h) (inr ih.0), either_part b.packed (form_names inner) (form_names h) (form_names (cell inner h)) (cell_names inner h) (inr ih.1)))
    (among_append (a, b) (connectors inner) (connectors h) i)
connectors_stand (connector x y h) a b (inl e) =
    (pair_first x.packed y.packed a.packed (form_names h) (inl (ap (λ z. z.0.packed) e)), pair_first x.packed y.packed b.packed (form_names h) (inr (inl (ap (λ z. z.1.packed) e))))
connectors_stand (connector x y h) a b (inr i) =
    let ih = connectors_stand h a b i in
    (pair_first x.packed y.packed a.packed (form_names h) (inr (inr ih.0)), pair_first x.packed y.packed b.packed (form_names h) (inr (inr ih.1)))
connectors_stand (set w h) a b i = connectors_stand h a b i
