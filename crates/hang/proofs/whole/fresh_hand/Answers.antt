use Rattle.std.proofs.Common.{List, ℕ, ap, rules, tests}
use Rattle.hang.proofs.Numbers.{all_rows}
use Rattle.hang.proofs.whole.fresh_hand.Goals as goal

pub returns : goal.returns
returns c =
    let made = c.from_fn.ensures.items in
    ap (λ (t : List ℕ). record { inside = 0; first = 0; became = t }) (all_rows 8256 c.from_fn.result made.long (λ k h. search (rules, tests, made.at k 0 h)))
