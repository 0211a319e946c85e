use Rattle.std.proofs.Common.{◌≡◌, ◌++◌, map, take, drop}
use Rattle.placing.specs.Placing.{put}
use Rattle.hang.proofs.connect.join.Given as goal

abbrev pub invariant-loop-link : goal.invariant-loop-link
invariant-loop-link l = l.became ≡ map (put l.from l.to) (take l.link-index l.initial.became) ++ drop l.link-index l.initial.became
