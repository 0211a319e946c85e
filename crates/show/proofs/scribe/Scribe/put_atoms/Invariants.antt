use Rattle.std.proofs.Common.{◌≡◌, map, take, fold}
use Rattle.plan.specs.Model.{node_of}
use Rattle.showing.specs.Walk.{atom, atoms_in}
use Rattle.show.specs.Page.{page_of}
use Rattle.show.specs.Steps.{step_written}
use Rattle.show.proofs.scribe.Scribe.put_atoms.Given as goal

abbrev pub invariant-loop-atom : goal.invariant-loop-atom
invariant-loop-atom g l =
    page_of l.self ≡ fold (step_written g.L.Label.kind) (page_of l.initial.self) (map atom (atoms_in l.cell (map node_of (take l.atom-index l.atoms))))
