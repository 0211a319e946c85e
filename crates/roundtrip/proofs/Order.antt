-- The names of a text stand in its table in the order of their first standing.
use Rattle.std.proofs.Common.{◌≡◌, ℕ, suc, eqb, List, [], ◌∷◌, ◌++◌, length, Some, None, Option, sym, refl, ap, ◌∙◌, ⊎_elim, arith}
use Rattle.std.proofs.lemmas.Bool.{cond_both, cases_eq, cond-true, cond-false, eq-eqb, ne_eqb}
use Rattle.label.specs.Kind.{Kind}
use Rattle.text.specs.declared.packed.Name.{Name}
use Rattle.text.specs.Tokens as tokens
use Rattle.grammar.specs.declared.stand.Standing.{Standing}
use Rattle.grammar.specs.Seen.{Seen, sees, word, number, name, comma, open_paren, close_paren, open_brace, close_brace, equal, at_sign, other}
use Rattle.grammar.specs.State.{State, start, next_state, next_names, noted}
use Rattle.grammar.specs.Reading.{events_from, hang_events, complete, unless_lone, first_lone, at_place}
use Rattle.grammar.specs.Laws.{fault_of, spots, state_after}
use Rattle.grammar.specs.Sheets.{text_names}
use Rattle.grammar.specs.Events.{name_standings}
use Rattle.placing.specs.NamesOf.{packed_names}
use Rattle.placing.proofs.NamesOf.{seen_names, passed, clean_text}
use Rattle.showing.specs.Shown.{place, joins, firsts}

-- a number joins a list after another number
joins_past : (x y : ℕ) (ys : List ℕ) → (x ≡ y → ⊥) → joins (y ∷ ys) x ≡ y ∷ joins ys x
unfolding place
joins_past x y ys h =
    let p = cond-false (eqb x y) 0 (suc (place x ys)) (ne_eqb x y h) in
    ⊎_elim
    (λ (e : place x ys ≡ length ys).
    let a = cond-true (eqb (place x (y ∷ ys)) (suc (length ys))) ((y ∷ ys) ++ (x ∷ [])) (y ∷ ys) (eq-eqb _ _ (p ∙ ap suc e)) in
    let b = cond-true (eqb (place x ys) (length ys)) (ys ++ (x ∷ [])) ys (eq-eqb _ _ e) in
    a ∙ ap (λ t. y ∷ t) (sym b))
    (λ (e : place x ys ≡ length ys → ⊥).
    let a = cond-false (eqb (place x (y ∷ ys)) (suc (length ys))) ((y ∷ ys) ++ (x ∷ [])) (y ∷ ys) (ne_eqb _ _ (λ i. e (omega arith))) in
    let b = cond-false (eqb (place x ys) (length ys)) (ys ++ (x ∷ [])) ys (ne_eqb _ _ e) in
    a ∙ ap (λ t. y ∷ t) (sym b))
    (cases_eq (place x ys) (length ys))

joins_here : (x y : ℕ) (ys : List ℕ) → x ≡ y → joins (y ∷ ys) x ≡ y ∷ ys
unfolding place
joins_here x y ys h =
    let p = cond-true (eqb x y) 0 (suc (place x ys)) (eq-eqb x y h) in
    cond-false (eqb (place x (y ∷ ys)) (suc (length ys))) ((y ∷ ys) ++ (x ∷ [])) (y ∷ ys) (ne_eqb _ _ (λ i. omega arith))

noted_joins : (x : Name) (p : ℕ) (ns : List Standing) → packed_names (noted x p ns) ≡ joins (packed_names ns) x.packed
unfolding noted place
noted_joins x p [] = refl
noted_joins x p (s ∷ ns) =
    ⊎_elim
    (λ (e : x.packed ≡ s.name.packed).
    ap packed_names (cond-true (eqb s.name.packed x.packed) _ _ (eq-eqb _ _ (sym e))) ∙ sym (joins_here x.packed s.name.packed (packed_names ns) e))
    (λ (e : x.packed ≡ s.name.packed → ⊥).
    ap packed_names (cond-false (eqb s.name.packed x.packed) _ _ (ne_eqb _ _ (λ i. e (sym i))))
    ∙ (ap (λ t. s.name.packed ∷ t) (noted_joins x p ns) ∙ sym (joins_past x.packed s.name.packed (packed_names ns) e)))
    (cases_eq x.packed s.name.packed)

module _ {L : Type 0} (k : Kind L) where
  next_order : (t : Seen) (p : ℕ) (ns : List Standing) (xs : List ℕ) → firsts (packed_names (next_names ns t p)) xs ≡ firsts (packed_names ns) (seen_names k t xs)
  unfolding firsts
  next_order (word w) p ns xs = refl
  next_order (number w) p ns xs = refl
  next_order (name x) p ns xs = ap (λ l. firsts l xs) (noted_joins x p ns)
  next_order comma p ns xs = refl
  next_order open_paren p ns xs = refl
  next_order close_paren p ns xs = refl
  next_order open_brace p ns xs = refl
  next_order close_brace p ns xs = refl
  next_order equal p ns xs = refl
  next_order at_sign p ns xs = refl
  next_order other p ns xs = refl

  ended_order : (xs : List ℕ) (o : Option ℕ) → xs ≡ firsts xs (name_standings {L = L} (unless_lone o))
  unfolding name_standings firsts
  ended_order xs None = refl
  ended_order xs (Some p) = refl

  at_end : (m : ℕ) (st : State) → packed_names st.names ≡ firsts (packed_names st.names) (name_standings (events_from k st (tokens.end m)))
  unfolding events_from name_standings firsts
  at_end m st =
      cond_both (complete st) (unless_lone (first_lone st.names)) (at_place _ m) (λ es. packed_names st.names ≡ firsts (packed_names st.names) (name_standings {L = L} es))
      (λ c. ended_order (packed_names st.names) (first_lone st.names)) (λ c. refl)

  ordered : (s : tokens.Stream) (st : State) → fault_of (events_from k st s) ≡ None → packed_names (state_after st (spots s)).names ≡ firsts (packed_names st.names) (name_standings (events_from k st s))
  unfolding events_from name_standings
  ordered (tokens.token t p s) st e =
      let next = next_state st (sees t) p in
      let rest = events_from k next s in
      let g = passed k st (sees t) p rest e in
      let ih = ordered s next g.clean in
      ih ∙ (next_order (sees t) p st.names (name_standings rest) ∙ ap (firsts (packed_names st.names)) (sym g.names))
  ordered (tokens.end m) st e = at_end m st
  ordered (tokens.fault f) st e = absurd (let z : ◌≡◌ {A = ℕ} 0 1 = cc in omega arith)

  pub names_ordered : (bs : List ℕ) → fault_of (hang_events k 0 bs) ≡ None → packed_names (text_names bs) ≡ firsts [] (name_standings (hang_events k 0 bs))
  names_ordered bs e =
      let is = clean_text k bs e in
      ordered (tokens.tokens 0 0 bs) start (ap fault_of (sym is) ∙ e) ∙ ap (λ es. firsts [] (name_standings es)) (sym is)
