-- The table of a text's names is right.
use Rattle.std.proofs.Common.{◌≡◌, ℕ, ◌+◌, ◌<◌, ◌≤◌, Bool, true, false, cond, not, ◌&&◌, ◌||◌, eqb, ltb, List, [], ◌∷◌, length, Some, None, Ok, Option, Result, sym, refl, ap, ◌∙◌, zero-add, arith}
use Rattle.std.proofs.lemmas.Bool.{cond_both, cond-true, leb-false, and_from, and_parts, eq-eqb}
use Rattle.std.proofs.lemmas.Bool.Decides.{nat_tests}
use Rattle.fault.specs.declared.Refusal.{Refusal}
use Rattle.label.specs.Kind.{Kind}
use Rattle.text.specs.declared.packed.Name.{Name}
use Rattle.text.specs.Tokens as tokens
use Rattle.text.specs.Answer.{Proper}
use Rattle.text.proofs.Proper.{tokens_proper}
use Rattle.grammar.specs.declared.event.Event.{Event}
use Rattle.grammar.specs.declared.stand.Phase.{Phase}
use Rattle.grammar.specs.declared.stand.Phase.TheVariants.{Start, Item, Label, Ports, Port, First, Second, Set, After}
use Rattle.grammar.specs.declared.stand.Standing.{Standing}
use Rattle.grammar.specs.Seen.{Seen, sees, word, number, name, comma, open_paren, close_paren, open_brace, close_brace, equal, at_sign, other}
use Rattle.grammar.specs.State.{State, start, next_state, next_names, noted, times}
use Rattle.grammar.specs.Names.{position}
use Rattle.grammar.specs.Tests.{set_of, label_read, text_limit, third_standing}
use Rattle.text.specs.Packed.{underscored}
use Rattle.grammar.specs.Reading.{Events, event, follow, judged, event_of, labelled, setting, number_event, name_event, events_from, hang_events, complete, unless_lone, first_lone, at_place}
use Rattle.grammar.specs.Laws.{fault_of, spots, state_after}
use Rattle.grammar.specs.Sheets.{text_names}
use Rattle.std.specs.List.{list_all}
use Rattle.plan.specs.Sound.{count, distinct}
use Rattle.plan.proofs.Each.{each_alike}
use Rattle.grammar.specs.Events.{name_standings, proper_name}
use Rattle.placing.specs.NamesOf.{packed_names, says, NamesLaw}
use Rattle.placing.proofs.Judging.{Right, by_verdict, Named, sees_named}

-- The table, one standing after another.

pub noted_times : (n x : Name) (p : ℕ) (ns : List Standing) → times x ns < 2 → times n (noted x p ns) ≡ times n ns + cond (eqb n.packed x.packed) 1 0
unfolding times noted
noted_times n x p [] h = grind (arith, nat_tests)
noted_times n x p (s ∷ ns) h = let ih = noted_times n x p ns in grind (arith, nat_tests)

times_few : (n : Name) (ns : List Standing) → times n ns ≤ 2
unfolding times
times_few n [] = omega arith
times_few n (s ∷ ns) = let ih = times_few n ns in grind (arith, nat_tests)

pub noted_other : (y : ℕ) (x : Name) (p : ℕ) (ns : List Standing) → (y ≡ x.packed → ⊥) → count y (packed_names (noted x p ns)) ≡ count y (packed_names ns)
unfolding count noted
noted_other y x p [] h = grind (arith, nat_tests)
noted_other y x p (s ∷ ns) h = let ih = noted_other y x p ns h in grind (arith, nat_tests)

pub noted_apart : (x : Name) (p : ℕ) (ns : List Standing) → distinct (packed_names ns) ≡ true → distinct (packed_names (noted x p ns)) ≡ true
unfolding distinct count noted
noted_apart x p [] h = refl
noted_apart x p (s ∷ ns) h = let ih = noted_apart x p ns in let other = noted_other s.name.packed x p ns in grind (arith, nat_tests)

noted_proper : (x : Name) (p : ℕ) (ns : List Standing) → proper_name x ≡ true → list_all (λ s. proper_name s.name) ns ≡ true → list_all (λ s. proper_name s.name) (noted x p ns) ≡ true
unfolding noted
noted_proper x p [] g h = and_from (proper_name x) true g refl
noted_proper x p (s ∷ ns) g h =
    let parts = and_parts (proper_name s.name) (list_all (λ r. proper_name r.name) ns) h in
    elim (eqb s.name.packed x.packed) as (λ v. list_all (λ r. proper_name r.name) (cond v (record { name = s.name; twice = true; place = s.place } ∷ ns) (s ∷ noted x p ns)) ≡ true) [
      | true ↦ h
      | false ↦ and_from (proper_name s.name) (list_all (λ r. proper_name r.name) (noted x p ns)) parts.0 (noted_proper x p ns g parts.1)
    ]

pub has_row : (n : Name) (ns : List Standing) → 0 < times n ns → position n ns < length ns
unfolding times position
has_row n [] h = absurd (omega arith)
has_row n (s ∷ ns) h = let ih = has_row n ns in grind (arith, nat_tests)

lettered_one : (u t after : Bool) (place : ℕ) (o : Option ℕ) → cond (u && not t) (Some place) o ≡ None → (o ≡ None → after ≡ true) → ((t || not u) && after) ≡ true
lettered_one true true after place o h on = on h
lettered_one true false after place o h on = absurd (let z : ◌≡◌ {A = ℕ} 0 1 = cc in omega arith)
lettered_one false true after place o h on = on h
lettered_one false false after place o h on = on h

lone_lettered : (ns : List Standing) → first_lone ns ≡ None → list_all (λ s. s.twice || not (underscored s.name)) ns ≡ true
unfolding first_lone
lone_lettered [] e = refl
lone_lettered (s ∷ ns) e = lettered_one (underscored s.name) s.twice (list_all (λ r. r.twice || not (underscored r.name)) ns) s.place (first_lone ns) e (lone_lettered ns)

-- a row of its own name comes first, and leaves the others'
own_past : (x v : ℕ) (f : ℕ → ℕ) (ns : List Standing) → count x (packed_names ns) ≡ 0 → list_all (λ r. eqb (f r.name.packed) (cond r.twice 2 1)) ns ≡ true → list_all (λ r. eqb (cond (eqb x r.name.packed) v (f r.name.packed)) (cond r.twice 2 1)) ns ≡ true
unfolding count
own_past x v f [] h e = refl
own_past x v f (s ∷ ns) h e = let ih = own_past x v f ns in grind (arith, nat_tests)

abbrev packed_times : List Standing → ℕ → ℕ
packed_times ns x = times (record { packed = x }) ns

own_rows : (ns : List Standing) → distinct (packed_names ns) ≡ true → list_all (λ r. eqb (packed_times ns r.name.packed) (cond r.twice 2 1)) ns ≡ true
unfolding distinct times
own_rows [] h = refl
own_rows (s ∷ ns) h =
    let parts : (count s.name.packed (packed_names ns) ≡ 0) × (distinct (packed_names ns) ≡ true) = grind (arith, nat_tests) in
    let x = s.name.packed in
    let v = cond s.twice 2 1 in
    and_from (eqb (cond (eqb x x) v (packed_times ns x)) v) (list_all (λ r. eqb (packed_times (s ∷ ns) r.name.packed) (cond r.twice 2 1)) ns)
    (eq-eqb (cond (eqb x x) v (packed_times ns x)) v (cond-true (eqb x x) v (packed_times ns x) (eq-eqb x x refl)))
    (own_past x v (packed_times ns) ns parts.0 (own_rows ns parts.1))

-- The names of events.

module _ {L : Type 0} (k : Kind L) where
  -- the standing of a token's name
  abbrev pub seen_names : Seen → List ℕ → List ℕ
  seen_names (word w) xs = xs
  seen_names (number w) xs = xs
  seen_names (name n) xs = n.packed ∷ xs
  seen_names comma xs = xs
  seen_names open_paren xs = xs
  seen_names close_paren xs = xs
  seen_names open_brace xs = xs
  seen_names close_brace xs = xs
  seen_names equal xs = xs
  seen_names at_sign xs = xs
  seen_names other xs = xs

  labelled_names : (o : Option L) (place : ℕ) (rest : Events L) → name_standings (follow (Ok (labelled o)) place rest) ≡ name_standings rest
  unfolding name_standings
  labelled_names None place rest = refl
  labelled_names (Some l) place rest = refl

  setting_names : (o : Option ℕ) (place : ℕ) (rest : Events L) → name_standings (follow (Ok (setting o)) place rest) ≡ name_standings rest
  unfolding name_standings
  setting_names None place rest = refl
  setting_names (Some l) place rest = refl

  number_names : (ph : Phase) (w : List ℕ) (place : ℕ) (rest : Events L) → name_standings (follow (Ok (number_event k ph w)) place rest) ≡ name_standings rest
  number_names Start w place rest = labelled_names (label_read k (number w)) place rest
  number_names Item w place rest = labelled_names (label_read k (number w)) place rest
  number_names Label w place rest = labelled_names (label_read k (number w)) place rest
  number_names (Ports n) w place rest = labelled_names (label_read k (number w)) place rest
  number_names (Port n) w place rest = labelled_names (label_read k (number w)) place rest
  number_names First w place rest = labelled_names (label_read k (number w)) place rest
  number_names Second w place rest = labelled_names (label_read k (number w)) place rest
  number_names Set w place rest = setting_names (set_of w) place rest
  number_names After w place rest = labelled_names (label_read k (number w)) place rest

  name_names : (ph : Phase) (n : Name) (rest : Events L) → name_standings (event (name_event ph n) rest) ≡ n.packed ∷ name_standings rest
  unfolding name_standings
  name_names Start n rest = refl
  name_names Item n rest = refl
  name_names Label n rest = refl
  name_names (Ports m) n rest = refl
  name_names (Port m) n rest = refl
  name_names First n rest = refl
  name_names Second n rest = refl
  name_names Set n rest = refl
  name_names After n rest = refl

  token_names : (t : Seen) (st : State) (place : ℕ) (rest : Events L) → name_standings (follow (Ok (event_of k st t)) place rest) ≡ seen_names t (name_standings rest)
  unfolding name_standings
  token_names (word w) st place rest = labelled_names (label_read k (word w)) place rest
  token_names (number w) st place rest = number_names st.phase w place rest
  token_names (name n) st place rest = name_names st.phase n rest
  token_names comma st place rest = refl
  token_names open_paren st place rest = refl
  token_names close_paren st place rest = refl
  token_names open_brace st place rest = refl
  token_names close_brace st place rest = refl
  token_names equal st place rest = refl
  token_names at_sign st place rest = refl
  token_names other st place rest = refl

  -- a token that is followed by no fault is right
  pub record Passed (st : State) (t : Seen) (place : ℕ) (rest : Events L) (j : Result (Option (Event L)) Refusal) : Type 0 where
    pub right : Right k st t
    pub clean : fault_of rest ≡ None
    pub names : name_standings (follow j place rest) ≡ seen_names t (name_standings rest)

  follow_clean : (o : Option (Event L)) (place : ℕ) (rest : Events L) → fault_of (follow (Ok o) place rest) ≡ None → fault_of rest ≡ None
  follow_clean None place rest e = e
  follow_clean (Some x) place rest e = e

  pub passed : (st : State) (t : Seen) (place : ℕ) (rest : Events L) → fault_of (follow (judged k st t) place rest) ≡ None → Passed st t place rest (judged k st t)
  passed st t place rest =
      by_verdict k st t (λ j. fault_of (follow j place rest) ≡ None → Passed st t place rest j)
      (λ r e. absurd (let z : ◌≡◌ {A = ℕ} 0 1 = cc in omega arith))
      (λ r e. record { right = r; clean = follow_clean (event_of k st t) place rest e; names = token_names t st place rest })

  -- what holds of the table of names as tokens are read
  pub record Table (ns : List Standing) : Type 0 where
    pub apart : distinct (packed_names ns) ≡ true
    pub proper : list_all (λ s. proper_name s.name) ns ≡ true

  table_next : (t : Seen) (place : ℕ) (ns : List Standing) → Named t → Table ns → Table (next_names ns t place)
  table_next (word w) place ns n h = h
  table_next (number w) place ns n h = h
  table_next (name x) place ns n h = record { apart = noted_apart x place ns h.apart; proper = noted_proper x place ns n h.proper }
  table_next comma place ns n h = h
  table_next open_paren place ns n h = h
  table_next close_paren place ns n h = h
  table_next open_brace place ns n h = h
  table_next close_brace place ns n h = h
  table_next equal place ns n h = h
  table_next at_sign place ns n h = h
  table_next other place ns n h = h

  times_next : (t : Seen) (st : State) (place : ℕ) (xs : List ℕ) (n : Name) → third_standing st t ≡ false → times n (next_names st.names t place) + count n.packed xs ≡ times n st.names + count n.packed (seen_names t xs)
  unfolding count
  times_next (word w) st place xs n h = refl
  times_next (number w) st place xs n h = refl
  times_next (name x) st place xs n h = let e = noted_times n x place st.names (leb-false 2 (times x st.names) h) in grind (arith, nat_tests)
  times_next comma st place xs n h = refl
  times_next open_paren st place xs n h = refl
  times_next close_paren st place xs n h = refl
  times_next open_brace st place xs n h = refl
  times_next close_brace st place xs n h = refl
  times_next equal st place xs n h = refl
  times_next at_sign st place xs n h = refl
  times_next other st place xs n h = refl

  -- the table after all tokens
  pub record Finished (st : State) (s : tokens.Stream) (ns : List Standing) : Type 0 where
    pub table : Table ns
    pub letters : first_lone ns ≡ None
    pub times_are : (n : Name) → times n ns ≡ times n st.names + count n.packed (name_standings (events_from k st s))

  ended_clean : (o : Option ℕ) → fault_of {L = L} (unless_lone o) ≡ None → o ≡ None
  ended_clean None e = refl
  ended_clean (Some p) e = absurd (let z : ◌≡◌ {A = ℕ} 0 1 = cc in omega arith)

  ended_names : (o : Option ℕ) → name_standings {L = L} (unless_lone o) ≡ []
  unfolding name_standings
  ended_names None = refl
  ended_names (Some p) = refl

  at_end : (m : ℕ) (st : State) → fault_of (events_from k st (tokens.end m)) ≡ None → (first_lone st.names ≡ None) × ((n : Name) → times n st.names ≡ times n st.names + count n.packed (name_standings (events_from k st (tokens.end m))))
  unfolding events_from count
  at_end m st =
      cond_both (complete st) (unless_lone (first_lone st.names)) (at_place _ m)
      (λ es. fault_of {L = L} es ≡ None → (first_lone st.names ≡ None) × ((n : Name) → times n st.names ≡ times n st.names + count n.packed (name_standings es)))
      (λ c e. (ended_clean (first_lone st.names) e, λ n. no_more n (first_lone st.names)))
      (λ c e. absurd (let z : ◌≡◌ {A = ℕ} 0 1 = cc in omega arith))
    where
      no_more : (n : Name) (o : Option ℕ) → times n st.names ≡ times n st.names + count n.packed (name_standings {L = L} (unless_lone o))
      no_more n o = let z = ap (λ xs. times n st.names + count n.packed xs) (ended_names o) in omega arith

  finished : (s : tokens.Stream) → Proper s → (st : State) → Table st.names → fault_of (events_from k st s) ≡ None → Finished st s (state_after st (spots s)).names
  unfolding events_from name_standings count
  finished (tokens.token t place s) q st h e =
      let next = next_state st (sees t) place in
      let rest = events_from k next s in
      let g = passed st (sees t) place rest e in
      let r = g.right in
      let ih = finished s q.1 next (table_next (sees t) place st.names (sees_named t q.0) h) g.clean in
      record {
        table = ih.table;
        letters = ih.letters;
        times_are = λ n. ih.times_are n ∙ times_next (sees t) st place (name_standings rest) n r.names ∙ ap (λ xs. times n st.names + count n.packed xs) (sym g.names);
      }
  finished (tokens.end m) q st h e = let x = at_end m st e in record { table = h; letters = x.0; times_are = x.1 }
  finished (tokens.fault f) q st h e = absurd (let z : ◌≡◌ {A = ℕ} 0 1 = cc in omega arith)

  -- a text without fault is short enough to be read
  pub clean_text : (bs : List ℕ) → fault_of (hang_events k 0 bs) ≡ None → hang_events k 0 bs ≡ events_from k start (tokens.tokens 0 0 bs)
  clean_text bs =
      cond_both (ltb text_limit (length bs)) (at_place _ 0) (events_from k start (tokens.tokens 0 0 bs)) (λ es. fault_of es ≡ None → es ≡ events_from k start (tokens.tokens 0 0 bs))
      (λ c e. absurd (let z : ◌≡◌ {A = ℕ} 0 1 = cc in omega arith)) (λ c e. refl)

  pub names_right : NamesLaw k
  unfolding times distinct
  names_right bs e =
      let names = text_names bs in
      let xs = name_standings (hang_events k 0 bs) in
      let is = clean_text bs e in
      let f = finished (tokens.tokens 0 0 bs) (tokens_proper 0 bs) start (record { apart = refl; proper = refl }) (ap fault_of (sym is) ∙ e) in
      let standings : (n : Name) → times n names ≡ count n.packed xs = λ n. f.times_are n ∙ (zero-add _ ∙ ap (λ es. count n.packed (name_standings es)) (sym is)) in
      record {
        standings = standings;
        few = λ x. let a = times_few (record { packed = x }) names in let b = standings (record { packed = x }) in omega arith;
        apart = f.table.apart;
        proper = f.table.proper;
        lettered = lone_lettered names f.letters;
        rows_right = sym (each_alike (λ r. eqb (packed_times names r.name.packed) (cond r.twice 2 1)) (says xs) (λ r. ap (λ c. eqb c (cond r.twice 2 1)) (standings (record { packed = r.name.packed }))) names) ∙ own_rows names f.table.apart;
        rowed = λ n h. has_row n names (let b = standings n in omega arith);
      }
