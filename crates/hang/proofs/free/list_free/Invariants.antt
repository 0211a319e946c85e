use Rattle.std.proofs.Common.{◌≡◌, ◌≤◌, ◌++◌, length, drop, filter}
use Rattle.grammar.specs.Names.{names_of}
use Rattle.placing.specs.Links.{free_after, opened, stays}
use Rattle.hang.proofs.free.list_free.Given as goal

abbrev pub invariant-loop-link : goal.invariant-loop-link
invariant-loop-link g l = record {
  few : length l.list.items ≤ 64;
  links : l.list.items ++ filter (stays (names_of l.names)) (drop l.link-index l.free) ≡ filter (stays (names_of l.names)) l.free;
}

abbrev pub invariant-loop-standing : goal.invariant-loop-standing
invariant-loop-standing g l = record {
  few : length l.list.items ≤ 64;
  same : length l.standing-iterator.a.rest.now ≡ length l.standing-iterator.b.rest.now;
  links : l.list.items ++ opened l.free l.standing-iterator.a.rest.now l.standing-iterator.b.rest.now ≡ free_after l.free (names_of l.linked.names.now) l.linked.links.items;
}
