-- Showing and hanging again.
use Rattle.std.proofs.Common.{◌≡◌, true, cond, ◌&&◌, leb, Ok, Err, Result, ap, ◌∙◌, ap₂}
use Rattle.std.proofs.lemmas.Bool.{cond-true}
use Rattle.fault.specs.declared.Refusal.TheVariants.{UnsoundPlan, FullTables}
use Rattle.fault.specs.declared.Fault.{Fault}
use Rattle.label.specs.Kind.{Kind, Lawful}
use Rattle.plan.specs.declared.tables.Plan.{Plan}
use Rattle.plan.specs.Model.{Model, model_of}
use Rattle.plan.specs.Sound.{atom_limit, cell_limit, free_limit, label_limit, room}
use Rattle.plan.specs.Tests.{sound_test}
use Rattle.plan.proofs.Deciding.{decided}
use Rattle.placing.specs.Answer.{hung_text, takes, unless_fault}
use Rattle.showing.specs.Shown.{shown}
use Rattle.roundtrip.specs.Roundtrip.{HangsAgain, RoundTrip, Taken, rehung}
use Rattle.roundtrip.proofs.Taken.{taken_again}
use Rattle.roundtrip.proofs.Again.{shown_again}

-- room for a plan is room for that which its text gives
taken_room : {L : Type 0} (k : Kind L) (q : Plan L) (m : Model L) → Taken k m → takes q (rehung k m) ≡ takes q m
taken_room k q m t =
    ap₂ (λ a b. leb a (room atom_limit q.atoms.now) && b) t.atoms
    (ap₂ (λ a b. leb a (room cell_limit q.cells.now) && b) t.cells
    (ap₂ (λ a b. leb a (room free_limit q.free.now) && leb b (room label_limit q.register.now)) t.free t.labels))

hangs_again : {L : Type 0} (k : Kind L) → Lawful k → HangsAgain k
hangs_again k law p q s r e h =
    let t = taken_again k law p s in
    let text = shown k (model_of p) in
    let full : takes q (hung_text k (model_of q) text) ≡ true = ap (λ m. takes q (hung_text k m text)) e ∙ (taken_room k q (model_of p) t ∙ h) in
    let refused : Result (Unit {0}) Fault = Err (record { refusal = UnsoundPlan; place = 0 }) in
    let no_room : Result (Unit {0}) Fault = Err (record { refusal = FullTables; place = 0 }) in
    let answer : Result (Unit {0}) Fault = cond (takes q (hung_text k (model_of q) text)) (Ok tt) no_room in
    ap (λ o. unless_fault o (cond (sound_test k q) answer refused)) t.clean
    ∙ (cond-true (sound_test k q) answer refused ((decided k q).1 r)
    ∙ cond-true (takes q (hung_text k (model_of q) text)) (Ok tt) no_room full)

pub round_trip : {L : Type 0} (k : Kind L) → Lawful k → RoundTrip k
round_trip k law = record { taken = taken_again k law; hangs = hangs_again k law; again = λ p s. shown_again k law p s }
