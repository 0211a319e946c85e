use Rattle.std.proofs.Common.{◌≡◌, ap, ◌∙◌, rules}
use Rattle.plan.specs.Model.{model_of, tables_of}
use Rattle.placing.specs.Answer.{hang_answer, hung_text}
use Rattle.desk.specs.Calls.{after_hang, hang_told}
use Rattle.desk.specs.Held.{Ready, held, on_desk}
use Rattle.desk.proofs.Asking.{hang_by}
use Rattle.desk.proofs.Lending.{Told, call_held, call_ready, ready_in}
use Rattle.desk.proofs.desk.Desk.hang.Goals as goal

pub returns : goal.returns
returns g c =
    let k = g.L.Label.kind in
    let text = c.args.text.now in
    let lent = c.lend.ensures in
    let p = lent.shown.now in
    let q = lent.left.now in
    let answer : c.lend.result ≡ hang_answer k p text = search rules in
    let told : Told k p q c.lend.result (hung_text k (model_of p) text) = record { after = search rules; same = search rules; sound = search rules } in
    let back : on_desk c.lend.new.self ≡ tables_of q = lent.back told.same in
    let ready : Ready k (tables_of p) = ready_in k (tables_of p) _ lent.shows c.requires.ready in
    let same = hang_by told text answer ready in
    record {
      answer = same ∙ ap (λ t. hang_told k (held t) text) lent.shows;
      after = call_held told _ back _ same ∙ ap (λ t. after_hang k text (held t)) lent.shows;
      ready = call_ready told _ back (λ _. ready);
    }
