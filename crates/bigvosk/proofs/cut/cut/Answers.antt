use Rattle.bigvosk.proofs.Cutting.{cut_at, cut_none}
use Rattle.bigvosk.proofs.cut.cut.Goals as goal

pub returns-in-Some-clause-joined : goal.returns-in-Some-clause-joined
returns-in-Some-clause-joined c = cut_at c.args.mark c.args.text.now c.in-Some.n c.in-Some.ensures

pub returns-in-None-clause-joined : goal.returns-in-None-clause-joined
returns-in-None-clause-joined c = cut_none c.args.mark c.args.text.now c.in-None.ensures
