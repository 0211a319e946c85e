use Rattle.std.proofs.Common.{◌≡◌, ℕ, rules}
use Rattle.std.proofs.lemmas.Iterator.Adapters.{YieldsList-from_repeat_n, items_from_extend}
use Rattle.bigvosk.proofs.point.add_spaces.Goals as goal

pub returns : goal.returns
returns c =
    let h = items_from_extend c.extend.result c.extend.ensures.ran (YieldsList-from_repeat_n (λ (x y : ℕ). y ≡ x) c.args.n 32 (cc) (cc) (λ y e. e)) in
    search rules
