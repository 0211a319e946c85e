use Rattle.std.proofs.Common.{◌≡◌, map, take}
use Rattle.plan.specs.Model.{node_of}
use Rattle.plan.specs.Sound.{port_links}
use Rattle.plan.specs.Tally.{tallied}
use Rattle.plan.proofs.links.tally_ports.Given as goal

abbrev pub invariant-loop-link : goal.invariant-loop-link
invariant-loop-link g l = l.counts ≡ tallied (take l.link-index l.link-items) (tallied (port_links (map node_of (take l.atom-index l.atoms))) l.fn.counts)

abbrev pub invariant-loop-atom : goal.invariant-loop-atom
invariant-loop-atom g l = l.counts ≡ tallied (port_links (map node_of (take l.atom-index l.atoms))) l.initial.counts
