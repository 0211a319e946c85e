-- A shown plan that is hung again.
use Rattle.std.specs.Prelude.{◌≡◌, true, length, None, Ok}
use Rattle.label.specs.Kind.{Kind}
use Rattle.grammar.specs.Reading.{hang_events}
use Rattle.grammar.specs.Laws.{fault_of}
use Rattle.plan.specs.declared.tables.Plan.{Plan}
use Rattle.plan.specs.Model.{Model, model_of, struck}
use Rattle.plan.specs.Sound.{Sound}
use Rattle.placing.specs.Answer.{hang_answer, hung_text, takes}
use Rattle.showing.specs.Shown.{shown}

-- the text of a plan, hung on a plan after a strike
abbrev pub rehung : {L : Type 0} → Kind L → Model L → Model L
rehung k m = hung_text k struck (shown k m)

-- the text is without fault, and the plan that it gives wants no more room
pub record Taken {L : Type 0} (k : Kind L) (m : Model L) : Type 0 where
  pub clean : fault_of (hang_events k 0 (shown k m)) ≡ None
  pub atoms : length (rehung k m).atoms ≡ length m.atoms
  pub cells : length (rehung k m).cells ≡ length m.cells
  pub free : length (rehung k m).free ≡ length m.free
  pub labels : length (rehung k m).register ≡ length m.register

-- so it is with each sound plan
abbrev pub TakenAgain : {L : Type 0} → Kind L → Type 0
TakenAgain {L} k = (p : Plan L) → Sound k p → Taken k (model_of p)

-- a shown plan that is hung again shows the same bytes
abbrev pub ShownAgain : {L : Type 0} → Kind L → Type 0
ShownAgain {L} k = (p : Plan L) → Sound k p → shown k (rehung k (model_of p)) ≡ shown k (model_of p)

-- hang takes the text on each plan after a strike whose tables have room for the plan that was shown
abbrev pub HangsAgain : {L : Type 0} → Kind L → Type 0
HangsAgain {L} k =
    (p q : Plan L) → Sound k p → Sound k q → model_of q ≡ struck → takes q (model_of p) ≡ true
    → hang_answer k q (shown k (model_of p)) ≡ Ok tt

-- the theorem of showing and hanging
pub record RoundTrip {L : Type 0} (k : Kind L) : Type 0 where
  pub taken : TakenAgain k
  pub hangs : HangsAgain k
  pub again : ShownAgain k
