use Rattle.std.proofs.Common.{◌≡◌, map, take}
use Rattle.plan.specs.Tally.{tallied}
use Rattle.plan.proofs.links.tally_free.Given as goal

abbrev pub invariant-loop-end : goal.invariant-loop-end
invariant-loop-end l = l.counts ≡ tallied (map (λ f. f.link) (take l.end-index l.free)) l.initial.counts
