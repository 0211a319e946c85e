use Rattle.std.proofs.Common.{ℕ, ◌+◌, sym, subst, rules}
use Rattle.std.proofs.iter.runs.Sources.{ranges}
use Rattle.std.specs.Iterator.Runs.{ItemsCountDown}
use Rattle.order.specs.Divisors.{Stride}
use Rattle.order.proofs.Search.{apart_by, found, gcd_one}
use Rattle.order.proofs.stride.stride.Goals as goal

pub returns : goal.returns
returns c =
    let n = c.args.n in
    let h = c.args.h in
    let run = c.find.ensures.runs.0 in
    let down : ItemsCountDown run 1 (h + 1) = search (rules, ranges) in
    let is =
    found _ _ n h run c.requires down (λ a r f' e. search rules) (λ x e. search (rules, gcd_one)) (λ x e. search (rules, apart_by)) c.find.result c.find.ensures.runs.2 in
    subst (λ (g : ℕ). Stride n h g) (sym c.unwrap_or.ensures) is
