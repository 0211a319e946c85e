-- What the upkeep of a register keeps.
use Rattle.std.specs.Prelude.{◌≡◌, true, List, [], ◌∷◌, ◌++◌}
use Rattle.label.specs.Kind.{Kind}
use Rattle.plan.specs.declared.tables.Census.{Census}
use Rattle.plan.specs.Model.{Node}
use Rattle.std.specs.List.{list_all}
use Rattle.plan.specs.Tests.{register_test}

-- a register that was right for some atoms is right for these and one more of the label
abbrev pub AddingLaw : {L : Type 0} → Kind L → L → List (Census L) → List (Census L) → Type 0
AddingLaw k l before after =
    (nodes : List (Node _)) (a : Node _) → a.label ≡ l → list_all (λ n. k.mine n.label) nodes ≡ true → register_test k nodes before ≡ true → register_test k (nodes ++ (a ∷ [])) after ≡ true

-- a register that was right for some atoms is right for these without one of the label
abbrev pub TakingLaw : {L : Type 0} → Kind L → L → List (Census L) → List (Census L) → Type 0
TakingLaw k l before after =
    (xs ys : List (Node _)) (a : Node _) → a.label ≡ l → list_all (λ n. k.mine n.label) (xs ++ (a ∷ ys)) ≡ true → register_test k (xs ++ (a ∷ ys)) before ≡ true → register_test k (xs ++ ys) after ≡ true
