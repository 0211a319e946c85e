-- The events of a reader, by the token that it takes.
use Rattle.std.proofs.Common.{◌≡◌, ℕ, Bool, true, false, cond, Some, None, Ok, Err, Option, Result, sym, refl, ap, ◌∙◌, ap₂, true≢false}
use Rattle.fault.specs.declared.Fault.{Fault}
use Rattle.label.specs.Kind.{Kind}
use Rattle.text.specs.Tokens as tokens
use Rattle.grammar.specs.declared.event.Event.{Event}
use Rattle.grammar.specs.Seen.{sees}
use Rattle.grammar.specs.State.{State, next_state}
use Rattle.grammar.specs.Reading.{Events, event, end, fault, judged, follow, events_from, ended, complete, unless_lone, first_lone, at_place}
use Rattle.grammar.specs.Pull.{view, left, given, Goes, Taken, answered, final, ComesTo}
use Rattle.grammar.specs.Laws.{spots, state_after}
use Rattle.grammar.specs.declared.reader.Reader.{Reader}
use Rattle.text.specs.declared.token.Found.{Found}
use Rattle.text.specs.Answer.{shape}
use Rattle.fault.specs.declared.Refusal.TheVariants.{Unexpected}

module _ {L : Type 0} (k : Kind L) (st : State) (s : tokens.Stream) where
  pub on_token : (t : tokens.Tok) (p : ℕ) (rest : tokens.Stream) (e : Option (Event L)) → tokens.token t p rest ≡ s → judged k st (sees t) ≡ Ok e → events_from k st s ≡ follow (Ok e) p (events_from k (next_state st (sees t) p) rest)
  unfolding events_from
  on_token t p rest e is j = ap (events_from k st) (sym is) ∙ ap (λ v. follow v p (events_from k (next_state st (sees t) p) rest)) j

  pub on_refusal : (t : tokens.Tok) (rest : tokens.Stream) (f : Fault) → tokens.token t f.place rest ≡ s → judged k st (sees t) ≡ Err f.refusal → events_from k st s ≡ fault f
  unfolding events_from
  on_refusal t rest f is j = ap (events_from k st) (sym is) ∙ ap (λ v. follow v f.place (events_from k (next_state st (sees t) f.place) rest)) j

  pub on_end : (n : ℕ) → tokens.end n ≡ s → events_from k st s ≡ ended st n
  unfolding events_from
  on_end n is = ap (events_from k st) (sym is)

  pub on_fault : (f : Fault) → tokens.fault f ≡ s → events_from k st s ≡ fault f
  unfolding events_from
  on_fault f is = ap (events_from k st) (sym is)

abbrev is_event : {L : Type 0} → Events L → Bool
is_event (event e s) = true
is_event end = false
is_event (fault f) = false

-- the end of a text gives no event
never_event : (L : Type 0) (st : State) (n : ℕ) → is_event {L = L} (ended st n) ≡ false
never_event L st n = elim (complete st) as (λ v. is_event {L = L} (cond v (unless_lone (first_lone st.names)) (at_place Unexpected n)) ≡ false) [
  | true ↦ by_lone (first_lone st.names)
  | false ↦ refl
]
  where
    by_lone : (o : Option ℕ) → is_event {L = L} (unless_lone o) ≡ false
    by_lone None = refl
    by_lone (Some p) = refl

module _ {L : Type 0} (k : Kind L) where
  pub finished : (r : Result (Option (Event L)) Fault) (a b : Reader) (st : State) (n : ℕ) → answered r ≡ ended st n → left k b ≡ left k a → view b ≡ final a → (given k r b ≡ ended st n) × Goes k r a b × ComesTo r a b
  finished (Ok None) a b st n e l v = (e, l, v)
  finished (Ok (Some x)) a b st n e l v = absurd (true≢false (ap is_event e ∙ never_event L st n))
  finished (Err f) a b st n e l v = (e, l, tt)

  -- a token that is taken: what is left goes on after it
  pub taken : (a b : Reader) (x : Found) (e : Option (Event L)) → Taken k a x (Ok e) b → tokens.token (shape x.token) x.place (tokens.tokens 0 x.next x.rest.now) ≡ tokens.tokens 0 a.at a.rest.now → left k a ≡ follow (Ok e) x.place (left k b)
  taken a b x e t is =
      on_token k (view a) _ (shape x.token) x.place _ e is t.0
      ∙ ap (follow (Ok e) x.place) (ap₂ (events_from k) (sym t.1) (ap₂ (tokens.tokens 0) (sym t.3) (sym t.2)))

  -- a token that is refused: nothing changes
  pub refused : (a b : Reader) (x : Found) (f : Fault) → Taken k a x (Err f) b → tokens.token (shape x.token) x.place (tokens.tokens 0 x.next x.rest.now) ≡ tokens.tokens 0 a.at a.rest.now → (left k a ≡ fault f) × (left k b ≡ left k a)
  refused a b x f t is = (
    on_refusal k (view a) _ (shape x.token) _ f (ap (λ p. tokens.token (shape x.token) p (tokens.tokens 0 x.next x.rest.now)) t.1 ∙ is) t.0,
    ap₂ (events_from k) t.2 (ap₂ (tokens.tokens 0) t.4 t.3),
  )

-- a token that is taken changes nothing of the final state
pub final_taken : {L : Type 0} (k : Kind L) (a b : Reader) (x : Found) (e : Option (Event L)) → Taken k a x (Ok e) b → tokens.token (shape x.token) x.place (tokens.tokens 0 x.next x.rest.now) ≡ tokens.tokens 0 a.at a.rest.now → final b ≡ final a
final_taken k a b x e t is =
    ap₂ (λ st s. state_after st (spots s)) t.1 (ap₂ (tokens.tokens 0) t.3 t.2) ∙ ap (λ s. state_after (view a) (spots s)) is

pub final_end : (a : Reader) (n : ℕ) → tokens.end n ≡ tokens.tokens 0 a.at a.rest.now → view a ≡ final a
final_end a n is = ap (λ s. state_after (view a) (spots s)) is
