use Rattle.std.proofs.Common.{◌≡◌, ◌≤◌, eqb, length, get_or, filter}
use Rattle.plan.specs.Sound.{rows}
use Rattle.hang.proofs.unused.list_zeros.Given as goal

abbrev pub invariant-loop-number : goal.invariant-loop-number
invariant-loop-number l = record {
  few : length l.zeros.items ≤ l.number;
  zeros : l.zeros.items ≡ filter (λ x. eqb (get_or l.fn.counts x 0) 0) (rows 0 l.number);
}
