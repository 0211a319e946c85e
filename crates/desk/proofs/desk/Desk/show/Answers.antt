use Rattle.std.proofs.Common.{◌≡◌, length, ap, ◌∙◌, rules}
use Rattle.plan.specs.Model.{tables_of}
use Rattle.showing.specs.Shown.{show_answer, show_buffer, shown}
use Rattle.desk.specs.Calls.{show_told, shown_over}
use Rattle.desk.specs.Held.{Ready, held}
use Rattle.desk.proofs.Asking.{buffer_same, show_same}
use Rattle.desk.proofs.Lending.{ready_in, unmoved}
use Rattle.desk.proofs.desk.Desk.show.Goals as goal

pub returns : goal.returns
returns g c =
    let k = g.L.Label.kind in
    let old = c.args.out.now in
    let lent = c.lend.ensures in
    let p = lent.shown.now in
    let q = lent.left.now in
    let r = c.lend.result in
    let answer : r ≡ show_answer k p (length old) = search rules in
    let same : q ≡ p = search rules in
    let ready : Ready k (tables_of p) = ready_in k (tables_of p) _ lent.shows c.requires.ready in
    record {
      answer = answer ∙ show_same k p (length old) ready ∙ ap (λ t. show_told k (held t) (length old)) lent.shows;
      text = ◌∙◌ {b = show_buffer k p old r} (search rules) (buffer_same k p old r ∙ ap (λ t. shown_over r (shown k (held t).model) old) lent.shows);
      same = lent.back (unmoved p q same) ∙ ap tables_of same ∙ lent.shows;
    }
