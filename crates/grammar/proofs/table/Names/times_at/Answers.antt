use Rattle.std.proofs.Common.{cond, get_or, ◌∙◌, ap, sym}
use Rattle.grammar.specs.Names.{names_of}
use Rattle.grammar.proofs.Looking.{times_some, times_none}
use Rattle.grammar.proofs.table.Names.times_at.Goals as goal

pub returns-in-Some-get : goal.returns-in-Some-get
returns-in-Some-get c =
    λ n e. let t = times_some n (names_of c.args.self.now) c.in-Some.row c.in-Some-get.standing.now (sym c.in-Some.is ∙ e) in
    sym (t ∙ ap (λ xs. cond (get_or xs c.in-Some.row c.in-Some-get.standing.now).twice 2 1) (sym c.as_slice.ensures) ∙ ap (λ x. cond x.twice 2 1) (sym c.in-Some-get.ensures.lookup.1) ∙ ap (λ v. cond v 2 1) c.if-standing.true)

pub returns-in-Some-2 : goal.returns-in-Some-2
returns-in-Some-2 c =
    λ n e. let t = times_some n (names_of c.args.self.now) c.in-Some.row c.in-Some-get.standing.now (sym c.in-Some.is ∙ e) in
    sym (t ∙ ap (λ xs. cond (get_or xs c.in-Some.row c.in-Some-get.standing.now).twice 2 1) (sym c.as_slice.ensures) ∙ ap (λ x. cond x.twice 2 1) (sym c.in-Some-get.ensures.lookup.1) ∙ ap (λ v. cond v 2 1) c.if-standing.false)

pub returns-in-None : goal.returns-in-None
returns-in-None c = λ n e. sym (times_none n (names_of c.args.self.now) (sym c.in-None.is ∙ e))
