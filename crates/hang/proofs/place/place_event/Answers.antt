use Rattle.std.proofs.Common.{◌≤◌, ap, ◌∙◌, subst, arith}
use Rattle.grammar.specs.declared.event.Event.TheVariants as events
use Rattle.plan.specs.Model.{model_of, node_of}
use Rattle.hang.specs.Hand.{PortRoom}
use Rattle.grammar.specs.Names.{names_of}
use Rattle.placing.specs.Links.{link_at}
use Rattle.placing.specs.Placing.{with_port, with_set}
use Rattle.hang.proofs.Ported.{atoms_placed, cells_placed, port_added, port_room, set_given, some_rows}
use Rattle.hang.proofs.Registering.{few_nodes, register_filed, register_fits}
use Rattle.hang.proofs.place.place_event.Goals as goal

pub add_label-plan-requires-clause-filed : goal.add_label-plan-requires-clause-filed
add_label-plan-requires-clause-filed g c =
    let m = model_of c.args.plan.now in
    register_filed g.L.Label.kind m.atoms m.register c.requires.register

pub add_label-plan-requires-clause-fits : goal.add_label-plan-requires-clause-fits
add_label-plan-requires-clause-fits g c =
    let p = c.args.plan.now in
    let m = model_of p in
    let few : p.atom_count ≤ 1024 = omega arith in
    register_fits g.L.Label.kind m.atoms m.register (few_nodes p.atoms.now p.atom_count few) c.requires.register

pub add_port-requires : goal.add_port-requires
add_port-requires g c =
    let p = c.args.plan.now in
    let port : PortRoom (model_of p).atoms (events.Port c.in-Port.name) = subst (PortRoom (model_of p).atoms) c.in-Port.is c.requires.port in
    port_room p.atoms.now p.atom_count c.index-plan-atoms-in-Port.result (some_rows node_of p.atom_count p.atoms.now port.0) (omega arith) port.1

pub returns-in-Port-clause-is : goal.returns-in-Port-clause-is
returns-in-Port-clause-is g c =
    let p = c.args.plan.now in
    let h = c.args.hand.now in
    let link = link_at (names_of c.args.linked.now.names.now) c.args.linked.now.links.items in
    let port : PortRoom (model_of p).atoms (events.Port c.in-Port.name) = subst (PortRoom (model_of p).atoms) c.in-Port.is c.requires.port in
    let added = port_added p.atoms.now p.atom_count c.index-plan-atoms-in-Port.result (some_rows node_of p.atom_count p.atoms.now port.0) (omega arith) c.link_of.result c.add_port.new.atom c.add_port.ensures.is c.add_port.ensures.room.0 in
    rw c.in-Port.is (atoms_placed p h (added ∙ ap (λ x. with_port x (model_of p).atoms) c.link_of.ensures))

pub returns-then-row-cells-clause-is : goal.returns-then-row-cells-clause-is
returns-then-row-cells-clause-is g c =
    let p = c.args.plan.now in
    let given = set_given p.cell_count p.cells.now c.from-row.result c.in-Set.set c.if-row-cells.true in
    rw c.in-Set.is (cells_placed p c.args.hand.now (given ∙ ap (λ row. with_set (model_of p).cells row c.in-Set.set) c.from-row.ensures))
