use Rattle.std.proofs.Common.{◌≡◌, ◌++◌, map, take, drop}
use Rattle.placing.specs.Placing.{become}
use Rattle.hang.proofs.connect.relink_ports.Given as goal

abbrev pub invariant-loop-link : goal.invariant-loop-link
invariant-loop-link l = l.links ≡ map (become l.became) (take l.link-index l.initial.links) ++ drop l.link-index l.initial.links
