use Rattle.std.proofs.Common.{sym, ap, ◌∙◌}
use Rattle.std.proofs.lemmas.Bool.{cond-true, cond-false}
use Rattle.grammar.specs.Names.{names_of}
use Rattle.grammar.specs.Reading.{unless_lone}
use Rattle.grammar.proofs.pull.finish.Goals as goal

pub returns-then-not-may_end : goal.returns-then-not-may_end
returns-then-not-may_end g c =
    rw c.at.ensures (record { is = sym (cond-false _ _ _ (sym (c.may_end.ensures (names_of c.args.names.now)) ∙ c.if-not-may_end.true)) })

pub returns-in-None : goal.returns-in-None
returns-in-None g c =
    record { is = sym (cond-true _ _ _ (sym (c.may_end.ensures (names_of c.args.names.now)) ∙ c.if-not-may_end.false) ∙ ap unless_lone (sym c.in-None.ensures)) }

pub returns-in-Some : goal.returns-in-Some
returns-in-Some g c =
    rw c.at-in-Some.ensures (record { is = sym (cond-true _ _ _ (sym (c.may_end.ensures (names_of c.args.names.now)) ∙ c.if-not-may_end.false) ∙ ap unless_lone (sym c.in-Some.ensures)) })
