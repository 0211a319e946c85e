use Rattle.std.proofs.Common.{◌≡◌, ap, ◌∙◌, rules}
use Rattle.plan.specs.Model.{strike_answer, struck, tables_of}
use Rattle.desk.specs.Held.{after_strike, held, on_desk, strike_told}
use Rattle.desk.proofs.Lending.{Told, call_held, strike_ready}
use Rattle.desk.proofs.desk.Desk.strike.Goals as goal

pub returns : goal.returns
returns g c =
    let lent = c.lend.ensures in
    let p = lent.shown.now in
    let q = lent.left.now in
    let answer : c.lend.result ≡ strike_answer p = search rules in
    let told : Told g.L.Label.kind p q c.lend.result struck = record { after = search rules; same = search rules; sound = search rules } in
    let back : on_desk c.lend.new.self ≡ tables_of q = lent.back told.same in
    record {
      answer = answer ∙ ap (λ t. strike_told (held t)) lent.shows;
      after = call_held told _ back _ answer ∙ ap (λ t. after_strike (held t)) lent.shows;
      ready = strike_ready told _ back answer;
    }
