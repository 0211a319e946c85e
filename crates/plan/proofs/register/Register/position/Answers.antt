use Rattle.std.proofs.Common.{◌∙◌, rules}
use Rattle.std.proofs.lemmas.Fn.{always_returns_same}
use Rattle.label.specs.Kind.{compared}
use Rattle.plan.proofs.Placing.{found_row}
use Rattle.plan.proofs.register.Register.position.Goals as goal

pub returns : goal.returns
returns g c =
    let k = g.L.Label.kind in
    let said = c.binary_search_by.ensures.position (λ row. compared k.lower row.label c.args.label) (always_returns_same _ _ _ (λ a r next called. search rules)) in
    c.ok.ensures.value ∙ found_row k g.met.L.Label.lawful c.args.label c.requires c.args.self.now.rows.now c.args.self.now.filed c.binary_search_by.result c.binary_search_by.ensures.bound said
