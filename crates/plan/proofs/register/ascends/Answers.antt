use Rattle.std.proofs.Common.{rules}
use Rattle.std.proofs.lemmas.Fn.{always_returns_same}
use Rattle.plan.proofs.Placing.{neighbours}
use Rattle.plan.proofs.register.ascends.Goals as goal

pub returns : goal.returns
returns g c =
    let k = g.L.Label.kind in
    neighbours k c.args.rows.now c.is_sorted_by.result (c.is_sorted_by.ensures.cases (λ row next. k.lower row.label next.label) (always_returns_same _ _ _ (λ a r next called. search rules)))
