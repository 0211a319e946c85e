use Rattle.std.proofs.Common.{sym, ap, ◌∙◌}
use Rattle.grammar.specs.Seen.{seen}
use Rattle.grammar.specs.State.{state_of}
use Rattle.grammar.specs.Reading.{judged}
use Rattle.grammar.proofs.judge.judge.Goals as goal

pub returns-in-Word-default : goal.returns-in-Word-default
returns-in-Word-default g c =
    λ ns e. c.judge_word.ensures ns ∙ ap (λ s. judged g.L.Label.kind (state_of c.args.stand.now ns) (seen s)) (sym c.in-Word-default.is-0)

pub returns-in-Number-default : goal.returns-in-Number-default
returns-in-Number-default g c =
    λ ns e. c.judge_number.ensures ns ∙ ap (λ s. judged g.L.Label.kind (state_of c.args.stand.now ns) (seen s)) (sym c.in-Number-default.is-0)

pub returns-in-OpenBrace-default : goal.returns-in-OpenBrace-default
returns-in-OpenBrace-default g c =
    λ ns e. c.judge_open.ensures ns ∙ ap (λ s. judged g.L.Label.kind (state_of c.args.stand.now ns) (seen s)) (sym c.in-OpenBrace-default.is-0)

pub returns-in-CloseBrace-default : goal.returns-in-CloseBrace-default
returns-in-CloseBrace-default g c =
    λ ns e. c.judge_close.ensures ns ∙ ap (λ s. judged g.L.Label.kind (state_of c.args.stand.now ns) (seen s)) (sym c.in-CloseBrace-default.is-0)

pub returns-in-At-default : goal.returns-in-At-default
returns-in-At-default g c =
    λ ns e. c.judge_at.ensures ns ∙ ap (λ s. judged g.L.Label.kind (state_of c.args.stand.now ns) (seen s)) (sym c.in-At-default.is-0)
