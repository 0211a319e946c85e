use Rattle.std.proofs.Common.{◌≡◌, ◌++◌, map, take, drop}
use Rattle.placing.specs.Placing.{refreed}
use Rattle.hang.proofs.connect.relink_free.Given as goal

abbrev pub invariant-loop-row : goal.invariant-loop-row
invariant-loop-row l = l.free ≡ map (refreed l.became) (take l.row-index l.initial.free) ++ drop l.row-index l.initial.free
