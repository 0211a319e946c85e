-- The plan in the tables is the one that a list of calls makes.
use Rattle.std.specs.Prelude.{◌≡◌, ℕ, Bool, true, false, List, [], ◌∷◌, ◌++◌, length, drop, is_ok, Ok, Err, Result}
use Rattle.fault.specs.declared.Fault.{Fault}
use Rattle.label.specs.Kind.{Kind}
use Rattle.plan.specs.declared.tables.Plan.{Plan}
use Rattle.plan.specs.Model.{model_of}
use Rattle.plan.specs.Sound.{Sound}
use Rattle.showing.specs.Shown.{shown}
use Rattle.sameness.specs.Renaming.{Renamed}
use Rattle.calls.specs.Calls.{Call, strike, hang, show, hang_on, limits_of, made, show_on, strike_on, texts}
use Rattle.calls.specs.CallLaws.{PlanLaws}

-- the first call is a strike
abbrev pub begins : List Call → Bool
begins [] = false
begins (strike ∷ cs) = true
begins (hang text ∷ cs) = false
begins (show room ∷ cs) = false

-- a text before what stood in the buffer past it, or the buffer as it was
abbrev pub buffer_after : List ℕ → List ℕ → Result ℕ Fault → List ℕ
buffer_after text old (Ok n) = text ++ drop (length text) old
buffer_after text old (Err f) = old

module _ {L : Type 0} (k : Kind L) where
  -- the calls begin with a strike, and the plan is sound and the one that they make, but for the numbers of links and what lies past the counts
  pub record MadeBy (p : Plan L) (calls : List Call) : Type 0 where
    pub begun : begins calls ≡ true
    pub sound : Sound k p
    pub same : Renamed (made k (limits_of p) calls) (model_of p)

  -- what holds of a plan that calls made, in terms of their texts
  abbrev pub MadeLaw : Type 0
  MadeLaw = (p : Plan L) (calls : List Call) → MadeBy p calls → PlanLaws k (limits_of p) (model_of p) (texts k (limits_of p) calls)

  -- calls made the plan, and so the laws hold of it
  pub record GoesOn (p : Plan L) (calls : List Call) : Type 0 where
    pub made_by : MadeBy p calls
    pub laws : PlanLaws k (limits_of p) (model_of p) (texts k (limits_of p) calls)

  -- a strike of the plan p left q: it begins a list, and goes on with every list that made p
  pub record StrikeFollows (p q : Plan L) (r : Result (Unit {0}) Fault) : Type 0 where
    pub anew : is_ok r ≡ true → GoesOn q (strike ∷ [])
    pub answer : r ≡ strike_on (limits_of p)
    pub more : (calls : List Call) → MadeBy p calls → GoesOn q (calls ++ (strike ∷ []))

  -- a hang after calls answers as the definitions say, and leaves what they make with it
  pub record HungBy (p q : Plan L) (text : List ℕ) (r : Result (Unit {0}) Fault) (calls : List Call) : Type 0 where
    pub answer : r ≡ hang_on k (limits_of p) (made k (limits_of p) calls) text
    pub more : GoesOn q (calls ++ (hang text ∷ []))

  abbrev pub HangFollows : Plan L → Plan L → List ℕ → Result (Unit {0}) Fault → Type 0
  HangFollows p q text r = (calls : List Call) → MadeBy p calls → HungBy p q text r calls

  -- a show after calls answers as the definitions say, and writes the bytes of the plan that they make
  pub record ShownBy (p : Plan L) (old new : List ℕ) (r : Result ℕ Fault) (calls : List Call) : Type 0 where
    pub answer : r ≡ show_on k (made k (limits_of p) calls) (length old)
    pub bytes : new ≡ buffer_after (shown k (made k (limits_of p) calls)) old r
    pub more : GoesOn p (calls ++ (show (length old) ∷ []))

  abbrev pub ShowFollows : Plan L → List ℕ → List ℕ → Result ℕ Fault → Type 0
  ShowFollows p old new r = (calls : List Call) → MadeBy p calls → ShownBy p old new r calls
