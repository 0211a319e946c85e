use Rattle.std.proofs.Common.{◌≡◌, ◌+◌, ◌-◌, ◌*◌, min, fold, ◌∙◌, arith, rules}
use Rattle.text.proofs.Numbers.{value_fold}
use Rattle.text.proofs.number.value_up_to.Goals as goal

pub returns : goal.returns
returns c =
    let e : c.fold.result ≡ fold (λ n b. min (min (n * 10 + (b - 48)) 4294967295) c.args.cap) 0 c.args.digits.now = search rules in
    e ∙ value_fold c.args.cap 0 c.args.digits.now (omega arith) (omega arith)
