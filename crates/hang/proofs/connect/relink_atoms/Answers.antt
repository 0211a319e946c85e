use Rattle.std.proofs.Common.{◌≡◌, ℕ, leb, List, get_or, map, ap, ◌∙◌}
use Rattle.std.specs.List.{list_all}
use Rattle.plan.specs.Model.{node_of}
use Rattle.hang.proofs.Relinking.{arities_kept, map_done, map_next, nodes_relinked, relinked_atom}
use Rattle.hang.proofs.connect.relink_atoms.Goals as goal

pub loop-atom-preserved : goal.loop-atom-preserved
loop-atom-preserved g c =
    let d = c.atom-item.result in
    let a = get_or c.loop-atom.atoms c.loop-atom.atom-index d in
    map_next (relinked_atom c.args.became.now) c.args.atoms.now c.loop-atom.atoms c.loop-atom.atom-index d _ c.loop-atom-test.true c.loop-atom.auto.atoms c.loop-atom.invariant
    (ap (λ (t : List ℕ). record { label = a.label; cell = a.cell; arity = a.arity; links = t }) c.relink_ports.ensures)

pub returns : goal.returns
returns g c =
    let became = c.args.became.now in
    let atoms = c.args.atoms.now in
    let all : c.loop-atom.atoms ≡ map (relinked_atom became) atoms = map_done (relinked_atom became) atoms c.loop-atom.atoms c.loop-atom.atom-index c.loop-atom-test.false c.loop-atom.invariant in
    record { atoms = ap (map node_of) all ∙ nodes_relinked became atoms; fit = ap (list_all (λ a. leb a.arity 8)) all ∙ arities_kept became atoms }
