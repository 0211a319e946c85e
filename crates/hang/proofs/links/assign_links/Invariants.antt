use Rattle.std.proofs.Common.{◌≡◌, ◌++◌, length, drop}
use Rattle.placing.specs.Links.{links_from}
use Rattle.hang.proofs.links.assign_links.Given as goal

abbrev pub invariant-loop-standing : goal.invariant-loop-standing
invariant-loop-standing l = record {
  many : length l.links.items ≡ l.standing-index;
  links : l.links.items ++ links_from l.free l.numbers.iter.rest.now (drop l.standing-index l.standings) ≡ links_from l.free l.unused l.standings;
}
