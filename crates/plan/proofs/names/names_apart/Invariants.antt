use Rattle.std.proofs.Common.{◌≡◌, map, drop}
use Rattle.plan.specs.Sound.{distinct}
use Rattle.plan.proofs.names.names_apart.Given as goal

abbrev pub invariant-loop-i : goal.invariant-loop-i
invariant-loop-i l = distinct (map (λ f. f.name.packed) (drop l.i l.free)) ≡ distinct (map (λ f. f.name.packed) l.free)
