-- What the reading of a hang means, in terms of its tokens.
use Rattle.std.specs.Prelude.{◌≡◌, ℕ, ◌<◌, ◌≤◌, Bool, true, false, ◌⊎◌, List, [], ◌∷◌, ◌++◌, map, length, Some, None, Option, ◌≢◌}
use Rattle.fault.specs.declared.Refusal.{Refusal}
use Rattle.fault.specs.declared.Refusal.TheVariants.{TextTooLong, NoToken, LongName, ForeignLabel, Unexpected, TooDeep, NinthPort, HangName, MisplacedSet, TooManyItems, TooManyRules, SetNumber, RuleName, EmptyLeft, LeftConnector, RestOrContext, DraftRow, Budget, TallyLength, ShortPage, UnsoundPlan, FullTables, FewRows, ShortBuffer}
use Rattle.fault.specs.declared.Fault.{Fault}
use Rattle.fault.specs.Table.{number_of}
use Rattle.label.specs.Kind.{Kind}
use Rattle.text.specs.Tokens as tokens
use Rattle.grammar.specs.declared.stand.Standing.{Standing}
use Rattle.grammar.specs.Seen.{Seen, sees}
use Rattle.grammar.specs.State.{State, start, next_state}
use Rattle.grammar.specs.Tests.{text_limit, foreign_label, unexpected, too_deep, ninth_port, third_standing, misplaced_set, crowded, wrong_set}
use Rattle.grammar.specs.Reading.{Events, event, end, fault, hang_events, complete, lone}
use Rattle.grammar.specs.Form.{Formed, Beginning}

-- a token to the grammar, with its place
abbrev pub Spot : Type 0
Spot = Seen × ℕ

abbrev pub spots : tokens.Stream → List Spot
spots (tokens.token t p s) = (sees t, p) ∷ spots s
spots (tokens.end n) = []
spots (tokens.fault f) = []

-- how a stream of tokens stops: the fault of the text, if it has one
abbrev pub text_fault : tokens.Stream → Option Fault
text_fault (tokens.token t p s) = text_fault s
text_fault (tokens.end n) = None
text_fault (tokens.fault f) = Some f

-- the state after tokens
abbrev pub state_after : State → List Spot → State
state_after st [] = st
state_after st (s ∷ ss) = state_after (next_state st s.0 s.1) ss

-- the fault of a reading, if it has one
abbrev pub fault_of : {L : Type 0} → Events L → Option Fault
fault_of (event e s) = fault_of s
fault_of end = None
fault_of (fault f) = Some f

module _ {L : Type 0} (k : Kind L) (bs : List ℕ) where
  -- the tokens of the text, without their places
  abbrev pub stream : tokens.Stream
  stream = tokens.tokens 0 0 bs

  abbrev pub text_tokens : List Seen
  text_tokens = map (λ s. s.0) (spots stream)

  -- the token of a place is at fault by a number's meaning, after the tokens before it
  abbrev pub token_test : Refusal → State → Seen → Bool
  token_test TextTooLong st s = false
  token_test NoToken st s = false
  token_test LongName st s = false
  token_test ForeignLabel st s = foreign_label k st s
  token_test Unexpected st s = unexpected st s
  token_test TooDeep st s = too_deep st s
  token_test NinthPort st s = ninth_port st s
  token_test HangName st s = third_standing st s
  token_test MisplacedSet st s = misplaced_set st s
  token_test TooManyItems st s = crowded st s
  token_test TooManyRules st s = false
  token_test SetNumber st s = wrong_set st s
  token_test RuleName st s = false
  token_test EmptyLeft st s = false
  token_test LeftConnector st s = false
  token_test RestOrContext st s = false
  token_test DraftRow st s = false
  token_test Budget st s = false
  token_test TallyLength st s = false
  token_test ShortPage st s = false
  token_test UnsoundPlan st s = false
  token_test FullTables st s = false
  token_test FewRows st s = false
  token_test ShortBuffer st s = false

  pub record TokenFault (r : Refusal) (p : ℕ) : Type 0 where
    pub before : List Spot
    pub token : Seen
    pub after : List Spot
    pub split : spots stream ≡ before ++ ((token, p) ∷ after)
    pub wrong : token_test r (state_after start before) token ≡ true

  -- no token and no byte is at fault, and the form is whole
  pub record OtherwiseRight : Type 0 where
    pub text : text_fault stream ≡ None
    pub each : (r : Refusal) (p : ℕ) → TokenFault r p → ⊥
    pub whole : complete (state_after start (spots stream)) ≡ true

  -- a `_` name that stands once, and first at a place
  pub record LoneName (p : ℕ) : Type 0 where
    pub before : List Standing
    pub standing : Standing
    pub after : List Standing
    pub split : (state_after start (spots stream)).names ≡ before ++ (standing ∷ after)
    pub once : lone standing ≡ true
    pub here : standing.place ≡ p

  -- the ways in which a number is at fault at a place, in a text that is not too long
  pub data AtFault (r : Refusal) (p : ℕ) : Type 0 where
    in_text : text_fault stream ≡ Some (record { refusal = r; place = p }) → AtFault r p
    at_token : TokenFault r p → AtFault r p
    at_end : r ≡ Unexpected → p ≡ length bs → text_fault stream ≡ None → complete (state_after start (spots stream)) ≡ false → AtFault r p
    lone_name : r ≡ HangName → OtherwiseRight → LoneName p → AtFault r p

  abbrev pub reading_fault : Option Fault
  reading_fault = fault_of (hang_events k 0 bs)

  -- a text is refused by 1, at 0, exactly where it is too long
  abbrev pub LengthLaw : Type 0
  LengthLaw =
      (text_limit < length bs → reading_fault ≡ Some (record { refusal = TextTooLong; place = 0 }))
      × (length bs ≤ text_limit → (f : Fault) → reading_fault ≡ Some f → f.refusal ≢ TextTooLong)

  -- the fault of a text that is not too long is at fault, and none is at a lower place, or there by a lower number
  abbrev pub FirstLaw : Type 0
  FirstLaw =
      length bs ≤ text_limit → (f : Fault) → reading_fault ≡ Some f
      → AtFault f.refusal f.place
      × ((r : Refusal) (p : ℕ) → AtFault r p → (f.place < p) ⊎ ((f.place ≡ p) × (number_of f.refusal ≤ number_of r)))

  -- the limits, and that each byte is of a token
  pub record WithinLimits : Type 0 where
    pub short : length bs ≤ text_limit
    pub text : text_fault stream ≡ None
    pub each : (r : Refusal) (p : ℕ) → (r ≢ Unexpected) → TokenFault r p → ⊥
    pub names : (p : ℕ) → LoneName p → ⊥

  -- a text is read without fault exactly where its tokens are a hang and the limits hold
  abbrev pub CleanLaw : Type 0
  CleanLaw =
      (reading_fault ≡ None → Formed text_tokens × WithinLimits)
      × (Formed text_tokens → WithinLimits → reading_fault ≡ None)

  -- what 5 means at a token
  pub record CannotFollow (p : ℕ) : Type 0 where
    pub before : List Spot
    pub token : Seen
    pub after : List Spot
    pub split : spots stream ≡ before ++ ((token, p) ∷ after)
    pub begins : Beginning (map (λ s. s.0) before)
    pub never : Beginning (map (λ s. s.0) before ++ (token ∷ [])) → ⊥

  -- what 5 means at the text's end
  pub record CannotEnd (p : ℕ) : Type 0 where
    pub place : p ≡ length bs
    pub text : text_fault stream ≡ None
    pub begins : Beginning text_tokens
    pub never : Formed text_tokens → ⊥

  -- where the fault is 5, the tokens before are the beginning of a hang and with the next they are not; or the text ends too early
  abbrev pub FiveLaw : Type 0
  FiveLaw = (p : ℕ) → reading_fault ≡ Some (record { refusal = Unexpected; place = p }) → CannotFollow p ⊎ CannotEnd p

  -- what the reading of a text means
  pub record ReadingLaws : Type 0 where
    pub length_law : LengthLaw
    pub first_law : FirstLaw
    pub clean_law : CleanLaw
    pub five_law : FiveLaw
