-- How the reading of a stream ends: with no fault, or with the first there is.
use Rattle.std.proofs.Common.{◌≡◌, ℕ, ◌≤◌, true, false, ◌&&◌, List, [], ◌∷◌, ◌++◌, map, Some, None, Ok, Err, Option, Result, refl, ap, ◌∙◌}
use Rattle.std.proofs.lemmas.Bool.{cond_both, not-true, not-false}
use Rattle.fault.specs.declared.Refusal.{Refusal}
use Rattle.fault.specs.declared.Refusal.TheVariants.{Unexpected, HangName}
use Rattle.fault.specs.declared.Fault.{Fault}
use Rattle.fault.specs.Table.{number_of}
use Rattle.label.specs.Kind.{Kind}
use Rattle.text.specs.Tokens as tokens
use Rattle.grammar.specs.declared.event.Event.{Event}
use Rattle.grammar.specs.Seen.{Seen, sees}
use Rattle.grammar.specs.State.{State, next_state, next_phase, next_cells}
use Rattle.grammar.specs.Tests.{allowed, unexpected}
use Rattle.grammar.specs.Reading.{Events, judged, follow, unless_lone, at_place, complete, first_lone, events_from}
use Rattle.grammar.specs.Laws.{Spot, spots, text_fault, state_after, fault_of, token_test}
use Rattle.grammar.proofs.Automaton.{runs}
use Rattle.grammar.proofs.Places.{end_place}
use Rattle.grammar.proofs.Verdict.{Verdict, verdict}

module _ {L : Type 0} (k : Kind L) (bs : List ℕ) where
  -- no token is at fault
  abbrev pub Clear : State → List Spot → Type 0
  Clear st [] = Unit {0}
  Clear st (s ∷ ss) = ((r : Refusal) → token_test k bs r st s.0 ≡ false) × Clear (next_state st s.0 s.1) ss

  pub clear_at : (before after : List Spot) (t : Seen) (p : ℕ) (st : State) (r : Refusal) → Clear st (before ++ ((t, p) ∷ after)) → token_test k bs r (state_after st before) t ≡ false
  clear_at [] after t p st r c = c.0 r
  clear_at (b ∷ before) after t p st r c = clear_at before after t p (next_state st b.0 b.1) r c.1

  -- the first token at fault, by its lowest number
  pub record FirstToken (st : State) (ss : List Spot) (f : Fault) : Type 0 where
    pub before : List Spot
    pub token : Seen
    pub after : List Spot
    pub split : ss ≡ before ++ ((token, f.place) ∷ after)
    pub clear : Clear st before
    pub wrong : token_test k bs f.refusal (state_after st before) token ≡ true
    pub least : (r : Refusal) → token_test k bs r (state_after st before) token ≡ true → number_of f.refusal ≤ number_of r

  pub record Fine (st : State) (s : tokens.Stream) : Type 0 where
    pub text : text_fault s ≡ None
    pub clear : Clear st (spots s)
    pub whole : complete (state_after st (spots s)) ≡ true
    pub names : first_lone (state_after st (spots s)).names ≡ None

  pub data Wrong (st : State) (s : tokens.Stream) (f : Fault) : Type 0 where
    by_text : text_fault s ≡ Some f → Clear st (spots s) → Wrong st s f
    by_token : FirstToken st (spots s) f → Wrong st s f
    by_end : f ≡ record { refusal = Unexpected; place = end_place s } → text_fault s ≡ None → Clear st (spots s) → complete (state_after st (spots s)) ≡ false → Wrong st s f
    by_name : f.refusal ≡ HangName → text_fault s ≡ None → Clear st (spots s) → complete (state_after st (spots s)) ≡ true → first_lone (state_after st (spots s)).names ≡ Some f.place → Wrong st s f

  abbrev pub Outcome : State → tokens.Stream → Option Fault → Type 0
  Outcome st s None = Fine st s
  Outcome st s (Some f) = Wrong st s f

  -- one token that is not at fault before all that
  wrong_later : (t : tokens.Tok) (p : ℕ) (s : tokens.Stream) (st : State) (f : Fault) → ((r : Refusal) → token_test k bs r st (sees t) ≡ false) → Wrong (next_state st (sees t) p) s f → Wrong st (tokens.token t p s) f
  wrong_later t p s st f h (by_text e c) = by_text e (h, c)
  wrong_later t p s st f h (by_token x) = by_token (record { before = (sees t, p) ∷ x.before; token = x.token; after = x.after; split = ap (λ r. (sees t, p) ∷ r) x.split; clear = (h, x.clear); wrong = x.wrong; least = x.least })
  wrong_later t p s st f h (by_end i e c w) = by_end i e (h, c) w
  wrong_later t p s st f h (by_name i e c w l) = by_name i e (h, c) w l

  later : (t : tokens.Tok) (p : ℕ) (s : tokens.Stream) (st : State) (o : Option Fault) → ((r : Refusal) → token_test k bs r st (sees t) ≡ false) → Outcome (next_state st (sees t) p) s o → Outcome st (tokens.token t p s) o
  later t p s st None h x = record { text = x.text; clear = (h, x.clear); whole = x.whole; names = x.names }
  later t p s st (Some f) h x = wrong_later t p s st f h x

  follows : (t : tokens.Tok) (p : ℕ) (s : tokens.Stream) (st : State) (j : Result (Option (Event L)) Refusal) (es : Events L) → Verdict k bs st (sees t) j → Outcome (next_state st (sees t) p) s (fault_of es) → Outcome st (tokens.token t p s) (fault_of (follow j p es))
  follows t p s st (Err r) es v x = by_token (record { before = []; token = sees t; after = spots s; split = refl; clear = tt; wrong = v.0; least = v.1 })
  follows t p s st (Ok None) es v x = later t p s st (fault_of es) v x
  follows t p s st (Ok (Some e)) es v x = later t p s st (fault_of es) v x

  ends : (n : ℕ) (st : State) (o : Option ℕ) → first_lone st.names ≡ o → complete st ≡ true → Outcome st (tokens.end n) (fault_of {L = L} (unless_lone o))
  ends n st None e c = record { text = refl; clear = tt; whole = c; names = e }
  ends n st (Some p) e c = by_name refl refl tt c e

  pub outcome : (s : tokens.Stream) (st : State) → Outcome st s (fault_of (events_from k st s))
  unfolding events_from
  outcome (tokens.token t p s) st = follows t p s st (judged k st (sees t)) (events_from k (next_state st (sees t) p) s) (verdict k bs st (sees t)) (outcome s (next_state st (sees t) p))
  outcome (tokens.end n) st = cond_both (complete st) (unless_lone (first_lone st.names)) (at_place Unexpected n) (λ e. Outcome st (tokens.end n) (fault_of {L = L} e)) (λ c. ends n st (first_lone st.names) refl c) (λ c. by_end refl refl tt c)
  outcome (tokens.fault f) st = by_text refl tt

  -- tokens that are not at fault run to their state
  pub clear_runs : (ss : List Spot) (st : State) (more : List Seen) → Clear st ss → runs st.phase st.cells (map (λ s. s.0) ss ++ more) ≡ runs (state_after st ss).phase (state_after st ss).cells more
  clear_runs [] st more c = refl
  clear_runs (s ∷ ss) st more c =
      let next = next_state st s.0 s.1 in
      ap (λ v. v && runs next.phase next.cells (map (λ s. s.0) ss ++ more)) (not-false (allowed st.phase st.cells s.0) (c.0 Unexpected)) ∙ clear_runs ss next more c.1

  -- and do not run on where the next is not allowed
  pub never_runs : (ss : List Spot) (st : State) (t : Seen) (more : List Seen) → Clear st ss → unexpected (state_after st ss) t ≡ true → runs st.phase st.cells (map (λ s. s.0) ss ++ (t ∷ more)) ≡ false
  never_runs ss st t more c u =
      let last = state_after st ss in
      clear_runs ss st (t ∷ more) c ∙ ap (λ v. v && runs (next_phase last.phase t) (next_cells last.cells t) more) (not-true (allowed last.phase last.cells t) u)
