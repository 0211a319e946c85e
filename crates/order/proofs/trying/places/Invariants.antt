use Rattle.std.proofs.Common.{◌≡◌, ℕ, ◌<◌, length, get_or}
use Rattle.order.specs.Trying.{answer}
use Rattle.order.proofs.trying.places.Given as goal

abbrev pub invariant-loop-k : goal.invariant-loop-k
invariant-loop-k g l = (k : ℕ) → k < l.k → get_or l.out k 0 ≡ answer (g.O.Order.meaning.place l.order) (length l.initial.out) k
