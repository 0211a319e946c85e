use Rattle.std.proofs.Common.{◌≡◌, length}
use Rattle.grammar.specs.Names.{names_of}
use Rattle.grammar.specs.Pull.{left}
use Rattle.placing.specs.Links.{link_at}
use Rattle.placing.specs.Placing.{place_all}
use Rattle.hang.specs.Hand.{Beside, Placeable, placing_of}
use Rattle.hang.proofs.place.place_rest.Given as goal

abbrev pub invariant-loop-event : goal.invariant-loop-event
invariant-loop-event g l =
    Placeable g.L.Label.kind (link_at (names_of l.linked.names.now) l.linked.links.items) l.plan l.hand (left g.L.Label.kind l.reader)
    × (place_all g.L.Label.kind (link_at (names_of l.linked.names.now) l.linked.links.items) (placing_of l.plan l.hand) (left g.L.Label.kind l.reader)
    ≡ place_all g.L.Label.kind (link_at (names_of l.linked.names.now) l.linked.links.items) (placing_of l.initial.plan l.initial.hand) (left g.L.Label.kind l.initial.reader))
    × Beside l.initial.plan l.plan

abbrev pub decreases-loop-event : goal.decreases-loop-event
decreases-loop-event g l = length l.reader.rest.now
