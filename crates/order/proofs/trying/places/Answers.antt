use Rattle.std.proofs.Common.{◌≡◌, ℕ, ◌<◌, length, get_or, arith}
use Rattle.std.proofs.lemmas.List.FromFn.{fill_by_all}
use Rattle.order.specs.Trying.{answer}
use Rattle.order.proofs.Reach.{all_tried, reaches}
use Rattle.order.proofs.trying.places.Goals as goal

pub returns : goal.returns
returns g c =
    let place = g.O.Order.meaning.place c.args.order.now in
    let n = length c.args.out.now in
    let xs = c.loop-k.out in
    let is : (k : ℕ) → k < n → get_or xs k 0 ≡ answer place n k = λ k l. c.loop-k.invariant k (omega arith) in
    record {
      listed = fill_by_all (answer place n) xs n 0 c.loop-k.auto.out is;
      tried = all_tried place (reaches g.O.Order.meaning g.met.O.Order.lawful c.args.order.now) xs n c.loop-k.auto.out is;
    }
