-- The laws of reading.
use Rattle.std.proofs.Common.{◌≡◌, ℕ, suc, ◌<◌, ◌≤◌, Bool, true, ltb, ◌⊎◌, List, [], ◌∷◌, ◌++◌, map, length, Some, None, Option, sym, refl, ap, ◌∙◌, subst, inl, inr, append_assoc, append-nil, arith}
use mathlib.Core.List.{map-append}
use Rattle.std.proofs.lemmas.Bool.{false≢true, both_ways, cases_lt, cond-true, cond-false, lt-ltb, le-ltb}
use Rattle.fault.specs.declared.Refusal.{Refusal}
use Rattle.fault.specs.declared.Refusal.TheVariants.{TextTooLong, NoToken, LongName, Unexpected, HangName}
use Rattle.fault.specs.declared.Fault.{Fault}
use Rattle.fault.specs.Table.{number_of}
use Rattle.label.specs.Kind.{Kind}
use Rattle.grammar.specs.declared.stand.Phase.TheVariants.{Start}
use Rattle.grammar.specs.Seen.{Seen}
use Rattle.grammar.specs.State.{State, start, next_state}
use Rattle.grammar.specs.Tests.{text_limit}
use Rattle.grammar.specs.Reading.{at_place, events_from, complete, first_lone}
use Rattle.grammar.specs.Form.{Formed, Beginning}
use Rattle.grammar.specs.Laws.{Spot, spots, state_after, fault_of, stream, text_tokens, token_test, TokenFault, LoneName, AtFault, in_text, at_token, at_end, lone_name, reading_fault, LengthLaw, FirstLaw, WithinLimits, CleanLaw, CannotFollow, CannotEnd, FiveLaw, ReadingLaws}
use Rattle.grammar.proofs.Automaton.{runs, formed_runs, runs_formed, finish}
use Rattle.grammar.proofs.Places.{Placed, Between, Textual, tokens_placed, between_all, between_fault, between_at, fault_textual, ends_there}
use Rattle.grammar.proofs.Standings.{Up, names_up, Lone, lone_found, lone_least, lone_none}
use Rattle.grammar.proofs.Verdict.{by_test}
use Rattle.grammar.proofs.Outcome.{Clear, clear_at, FirstToken, Fine, Wrong, by_text, by_token, by_end, by_name, Outcome, outcome, clear_runs, never_runs}

-- a fault is at a lower place, or there with a number that is no higher
abbrev Before : Fault → Refusal → ℕ → Type 0
Before f r p = (f.place < p) ⊎ ((f.place ≡ p) × (number_of f.refusal ≤ number_of r))

not_textual : (r x : Refusal) → Textual r → r ≡ x → (NoToken ≡ x → ⊥) → (LongName ≡ x → ⊥) → ⊥
not_textual r x (inl e) h a b = a (sym e ∙ h)
not_textual r x (inr e) h a b = b (sym e ∙ h)

up_to : (b : ℕ) (f : Fault) (r : Refusal) → f.refusal ≡ HangName → r ≡ HangName → f.place ≤ b → Before f r b
up_to b f r e g h = elim (cases_lt f.place b) [
  | inl l ↦ inl l
  | inr l ↦ inr (omega arith, let z = ap number_of e in let y = ap number_of g in omega arith)
]

module _ {L : Type 0} (k : Kind L) (bs : List ℕ) where
  placed : Placed 0 (length bs) (stream k bs)
  placed = tokens_placed 0 0 (length bs) bs (omega arith)

  between : Between 0 (length bs) (spots (stream k bs))
  between = between_all 0 (length bs) (stream k bs) (omega arith) placed

  long : text_limit < length bs → reading_fault k bs ≡ Some (record { refusal = TextTooLong; place = 0 })
  long h = ap fault_of (cond-true (ltb text_limit (length bs)) (at_place {L = L} TextTooLong 0) (events_from k start (stream k bs)) (lt-ltb text_limit (length bs) h))

  short : length bs ≤ text_limit → reading_fault k bs ≡ fault_of (events_from k start (stream k bs))
  short h = ap fault_of (cond-false (ltb text_limit (length bs)) (at_place {L = L} TextTooLong 0) (events_from k start (stream k bs)) (le-ltb text_limit (length bs) h))

  -- what a fault or no fault comes from
  from_fault : length bs ≤ text_limit → (f : Fault) → reading_fault k bs ≡ Some f → Wrong k bs start (stream k bs) f
  from_fault h f e = subst (Outcome k bs start (stream k bs)) (sym (short h) ∙ e) (outcome k bs (stream k bs) start)

  from_none : length bs ≤ text_limit → reading_fault k bs ≡ None → Fine k bs start (stream k bs)
  from_none h e = subst (Outcome k bs start (stream k bs)) (sym (short h) ∙ e) (outcome k bs (stream k bs) start)

  -- a text with another answer than 1 is not too long
  not_long : (o : Option Fault) → reading_fault k bs ≡ o → (o ≡ Some (record { refusal = TextTooLong; place = 0 }) → ⊥) → length bs ≤ text_limit
  not_long o e h = elim (cases_lt text_limit (length bs)) [
    | inl l ↦ absurd (h (sym e ∙ long l))
    | inr l ↦ l
  ]

  none_wrong : Clear k bs start (spots (stream k bs)) → (r : Refusal) (p : ℕ) → TokenFault k bs r p → ⊥
  none_wrong c r p x = both_ways (token_test k bs r (state_after start x.before) x.token) (clear_at k bs x.before x.after x.token p start r (subst (Clear k bs start) x.split c)) x.wrong

  -- LengthLaw

  wrong_long : (f : Fault) → Wrong k bs start (stream k bs) f → f.refusal ≡ TextTooLong → ⊥
  wrong_long f (by_text t c) e = not_textual f.refusal TextTooLong (fault_textual 0 (length bs) (stream k bs) f t placed) e (λ q. let z : ◌≡◌ {A = ℕ} 0 1 = cc in omega arith) (λ q. let z : ◌≡◌ {A = ℕ} 0 1 = cc in omega arith)
  wrong_long f (by_token x) e = false≢true (ap (λ r. token_test k bs r (state_after start x.before) x.token) (sym e) ∙ x.wrong)
  wrong_long f (by_end i t c w) e = let q = ap (λ g. g.refusal) i in let z : ◌≡◌ {A = ℕ} 0 1 = cc in omega arith
  wrong_long f (by_name i t c w l) e = let z : ◌≡◌ {A = ℕ} 0 1 = cc in omega arith

  length_law : LengthLaw k bs
  length_law = (long, λ h f e r. wrong_long f (from_fault h f e) r)

  -- FirstLaw

  lone_of : (p : ℕ) → Lone p (state_after start (spots (stream k bs))).names → LoneName k bs p
  lone_of p x = record { before = x.before; standing = x.standing; after = x.after; split = x.split; once = x.once; here = x.here }

  at_fault : (f : Fault) → Wrong k bs start (stream k bs) f → AtFault k bs f.refusal f.place
  at_fault f (by_text t c) = in_text t
  at_fault f (by_token x) = at_token (record { before = x.before; token = x.token; after = x.after; split = x.split; wrong = x.wrong })
  at_fault f (by_end i t c w) = at_end (ap (λ g. g.refusal) i) (ap (λ g. g.place) i ∙ ends_there 0 (length bs) (stream k bs) t placed) t w
  at_fault f (by_name i t c w l) = lone_name i (record { text = t; each = none_wrong c; whole = w }) (lone_of f.place (lone_found (state_after start (spots (stream k bs))).names f.place l))

  -- of two tokens at fault in one list, the first stands before the other
  two_tokens : (b₁ a₁ b₂ a₂ : List Spot) (t₁ t₂ : Seen) (f : Fault) (r : Refusal) (p n m : ℕ) (st : State) → b₁ ++ ((t₁, f.place) ∷ a₁) ≡ b₂ ++ ((t₂, p) ∷ a₂) → Between n m (b₁ ++ ((t₁, f.place) ∷ a₁)) → Clear k bs st b₁ → ((x : Refusal) → token_test k bs x (state_after st b₁) t₁ ≡ true → number_of f.refusal ≤ number_of x) → token_test k bs r (state_after st b₂) t₂ ≡ true → Before f r p
  two_tokens [] a₁ [] a₂ t₁ t₂ f r p n m st e b c least w =
      let h : ◌≡◌ {A = Spot} (t₁, f.place) (t₂, p) = cc in
      inr (ap (λ s. s.1) h, least r (ap (λ s. token_test k bs r st s.0) h ∙ w))
  two_tokens [] a₁ (y ∷ b₂) a₂ t₁ t₂ f r p n m st e b c least w =
      let h : a₁ ≡ b₂ ++ ((t₂, p) ∷ a₂) = cc in
      inl (between_at (suc f.place) m b₂ a₂ (t₂, p) (subst (Between (suc f.place) m) h b.2)).0
  two_tokens (x ∷ b₁) a₁ [] a₂ t₁ t₂ f r p n m st e b c least w =
      let h : ◌≡◌ {A = Spot} x (t₂, p) = cc in
      absurd (both_ways (token_test k bs r st x.0) (c.0 r) (ap (λ s. token_test k bs r st s.0) h ∙ w))
  two_tokens (x ∷ b₁) a₁ (y ∷ b₂) a₂ t₁ t₂ f r p n m st e b c least w =
      let h : x ≡ y = cc in
      let g : b₁ ++ ((t₁, f.place) ∷ a₁) ≡ b₂ ++ ((t₂, p) ∷ a₂) = cc in
      two_tokens b₁ a₁ b₂ a₂ t₁ t₂ f r p (suc x.1) m (next_state st x.0 x.1) g b.2 c.1 least (ap (λ s. token_test k bs r (state_after (next_state st s.0 s.1) b₂) t₂) h ∙ w)

  -- the first token at fault stands below every place that is past all tokens
  token_below : (f : Fault) (m : ℕ) → FirstToken k bs start (spots (stream k bs)) f → Between 0 m (spots (stream k bs)) → f.place < m
  token_below f m x b = (between_at 0 m x.before x.after (x.token, f.place) (subst (Between 0 m) x.split b)).1

  lone_before : (f : Fault) (r : Refusal) (p : ℕ) → f.refusal ≡ HangName → r ≡ HangName → first_lone (state_after start (spots (stream k bs))).names ≡ Some f.place → LoneName k bs p → Before f r p
  lone_before f r p e g l x =
      let up = names_up (spots (stream k bs)) start 0 (length bs) between (omega arith) in
      let h = lone_least x.before x.after x.standing 0 (length bs) f.place (ap first_lone (sym x.split) ∙ l) x.once (subst (Up 0 (length bs)) x.split up) in
      let i = x.here in
      up_to p f r e g (omega arith)

  before_all : (f : Fault) → Wrong k bs start (stream k bs) f → (r : Refusal) (p : ℕ) → AtFault k bs r p → Before f r p
  before_all f (by_text t c) r p (in_text u) = let h : f ≡ record { refusal = r; place = p } = cc in inr (ap (λ g. g.place) h, let z = ap (λ g. number_of g.refusal) h in omega arith)
  before_all f (by_text t c) r p (at_token y) = absurd (none_wrong c r p y)
  before_all f (by_text t c) r p (at_end i j u w) = let z : ◌≡◌ {A = ℕ} 0 1 = cc in absurd (omega arith)
  before_all f (by_text t c) r p (lone_name i o y) = let u = o.text in let z : ◌≡◌ {A = ℕ} 0 1 = cc in absurd (omega arith)
  before_all f (by_token x) r p (in_text u) = inl (token_below f p x (between_fault 0 (length bs) (stream k bs) (record { refusal = r; place = p }) u placed))
  before_all f (by_token x) r p (at_token y) = two_tokens x.before x.after y.before y.after x.token y.token f r p 0 (length bs) start (sym x.split ∙ y.split) (subst (Between 0 (length bs)) x.split between) x.clear x.least y.wrong
  before_all f (by_token x) r p (at_end i j u w) = let h = token_below f (length bs) x between in inl (omega arith)
  before_all f (by_token x) r p (lone_name i o y) = absurd (o.each f.refusal f.place (record { before = x.before; token = x.token; after = x.after; split = x.split; wrong = x.wrong }))
  before_all f (by_end q t c w) r p (in_text u) = let z : ◌≡◌ {A = ℕ} 0 1 = cc in absurd (omega arith)
  before_all f (by_end q t c w) r p (at_token y) = absurd (none_wrong c r p y)
  before_all f (by_end q t c w) r p (at_end i j u v) = inr (ap (λ g. g.place) q ∙ ends_there 0 (length bs) (stream k bs) t placed ∙ sym j, let z = ap (λ g. number_of g.refusal) q in let y = ap number_of i in omega arith)
  before_all f (by_end q t c w) r p (lone_name i o y) = absurd (both_ways (complete (state_after start (spots (stream k bs)))) w o.whole)
  before_all f (by_name q t c w l) r p (in_text u) = let z : ◌≡◌ {A = ℕ} 0 1 = cc in absurd (omega arith)
  before_all f (by_name q t c w l) r p (at_token y) = absurd (none_wrong c r p y)
  before_all f (by_name q t c w l) r p (at_end i j u v) = absurd (both_ways (complete (state_after start (spots (stream k bs)))) v w)
  before_all f (by_name q t c w l) r p (lone_name i o y) = lone_before f r p q i l y

  first_law : FirstLaw k bs
  first_law h f e = (at_fault f (from_fault h f e), before_all f (from_fault h f e))

  -- the form

  -- after tokens that are not at fault, the automaton stands where the reading does
  all_runs : Clear k bs start (spots (stream k bs)) → runs Start [] (text_tokens k bs) ≡ complete (state_after start (spots (stream k bs)))
  all_runs c = ap (runs Start []) (sym (append-nil (text_tokens k bs))) ∙ clear_runs k bs (spots (stream k bs)) start [] c

  begins : (ss : List Spot) → Clear k bs start ss → Beginning (map (λ s. s.0) ss)
  begins ss c =
      let last = state_after start ss in
      let end = finish last.phase last.cells in
      (end.0, runs_formed (map (λ s. s.0) ss ++ end.0) (clear_runs k bs ss start end.0 c ∙ end.1))

  -- CleanLaw

  clean : reading_fault k bs ≡ None → Formed (text_tokens k bs) × WithinLimits k bs
  clean e =
      let h = not_long None e (λ q. let z : ◌≡◌ {A = ℕ} 0 1 = cc in omega arith) in
      let x = from_none h e in (
        runs_formed (text_tokens k bs) (all_runs x.clear ∙ x.whole),
        record { short = h; text = x.text; each = λ r p _ y. none_wrong x.clear r p y; names = λ p y. lone_none y.before y.after y.standing (ap first_lone (sym y.split) ∙ x.names) y.once },
      )

  -- a number whose test fails is 5, or another
  five_or_not : (r : Refusal) (st : State) (s : Seen) → token_test k bs r st s ≡ true → (r ≡ Unexpected) ⊎ (r ≡ Unexpected → ⊥)
  five_or_not r st s h =
      let P : Refusal → Bool → Type 0 = λ x b. b ≡ true → (x ≡ Unexpected) ⊎ (x ≡ Unexpected → ⊥) in
      by_test k bs P st s (λ t. inr (λ e. let n = ap number_of e in omega arith)) (λ t. inl refl) (λ t. inr (λ e. let n = ap number_of e in omega arith)) (λ t. inr (λ e. let n = ap number_of e in omega arith)) (λ t. inr (λ e. let n = ap number_of e in omega arith)) (λ t. inr (λ e. let n = ap number_of e in omega arith)) (λ t. inr (λ e. let n = ap number_of e in omega arith)) (λ t. inr (λ e. let n = ap number_of e in omega arith)) (λ x t. absurd (false≢true t)) r h

  -- a token that 5 refuses is no hang's
  never_formed : (f : Fault) (x : FirstToken k bs start (spots (stream k bs)) f) → f.refusal ≡ Unexpected → (more : List Seen) → Formed (map (λ s. s.0) x.before ++ (x.token ∷ more)) → ⊥
  never_formed f x e more h =
      let u = ap (λ r. token_test k bs r (state_after start x.before) x.token) (sym e) ∙ x.wrong in
      both_ways (runs Start [] (map (λ s. s.0) x.before ++ (x.token ∷ more))) (never_runs k bs x.before start x.token more x.clear u) (formed_runs (map (λ s. s.0) x.before ++ (x.token ∷ more)) h)

  formed_right : (f : Fault) → Formed (text_tokens k bs) → WithinLimits k bs → Wrong k bs start (stream k bs) f → ⊥
  formed_right f h w (by_text t c) = let u = w.text in let z : ◌≡◌ {A = ℕ} 0 1 = cc in omega arith
  formed_right f h w (by_token x) =
      elim (five_or_not f.refusal (state_after start x.before) x.token x.wrong) [
        | inl e ↦ never_formed f x e (map (λ s. s.0) x.after) (subst Formed (ap (map (λ s. s.0)) x.split ∙ map-append (λ s. s.0) x.before ((x.token, f.place) ∷ x.after)) h)
        | inr d ↦ w.each f.refusal f.place d (record { before = x.before; token = x.token; after = x.after; split = x.split; wrong = x.wrong })
      ]
  formed_right f h w (by_end i t c v) = both_ways (runs Start [] (text_tokens k bs)) (all_runs c ∙ v) (formed_runs (text_tokens k bs) h)
  formed_right f h w (by_name i t c v l) = w.names f.place (lone_of f.place (lone_found (state_after start (spots (stream k bs))).names f.place l))

  clean_law : CleanLaw k bs
  clean_law = (clean, λ h w. go h w (reading_fault k bs) refl)
    where
      go : Formed (text_tokens k bs) → WithinLimits k bs → (o : Option Fault) → reading_fault k bs ≡ o → reading_fault k bs ≡ None
      go h w None e = e
      go h w (Some f) e = absurd (formed_right f h w (from_fault w.short f e))

  -- FiveLaw

  five_from : (p : ℕ) (f : Fault) → f ≡ record { refusal = Unexpected; place = p } → Wrong k bs start (stream k bs) f → CannotFollow k bs p ⊎ CannotEnd k bs p
  five_from p f q (by_text t c) = absurd (not_textual f.refusal Unexpected (fault_textual 0 (length bs) (stream k bs) f t placed) (ap (λ g. g.refusal) q) (λ e. let n = ap number_of e in omega arith) (λ e. let n = ap number_of e in omega arith))
  five_from p f q (by_token x) =
      inl (record {
        before = x.before;
        token = x.token;
        after = x.after;
        split = x.split ∙ ap (λ g. x.before ++ ((x.token, g.place) ∷ x.after)) q;
        begins = begins x.before x.clear;
        never = λ b. never_formed f x (ap (λ g. g.refusal) q) b.0 (subst Formed (append_assoc (map (λ s. s.0) x.before) (x.token ∷ []) b.0) b.1);
      })
  five_from p f q (by_end i t c v) =
      inr (record {
        place = ap (λ g. g.place) (sym q ∙ i) ∙ ends_there 0 (length bs) (stream k bs) t placed;
        text = t;
        begins = begins (spots (stream k bs)) c;
        never = λ h. both_ways (runs Start [] (text_tokens k bs)) (all_runs c ∙ v) (formed_runs (text_tokens k bs) h);
      })
  five_from p f q (by_name i t c v l) = let n = ap number_of (sym i ∙ ap (λ g. g.refusal) q) in absurd (omega arith)

  five_law : FiveLaw k bs
  five_law p e =
      let f : Fault = record { refusal = Unexpected; place = p } in
      let h = not_long (Some f) e (λ q. let same : f ≡ record { refusal = TextTooLong; place = 0 } = cc in let n = ap (λ g. number_of g.refusal) same in omega arith) in
      five_from p f refl (from_fault h f e)

  pub reading_laws : ReadingLaws k bs
  reading_laws = record { length_law = length_law; first_law = first_law; clean_law = clean_law; five_law = five_law }
