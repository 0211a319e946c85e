use Rattle.std.proofs.Common.{◌≡◌, ◌++◌, map, take, drop}
use Rattle.hang.proofs.Relinking.{relinked_atom}
use Rattle.hang.proofs.connect.relink_atoms.Given as goal

abbrev pub invariant-loop-atom : goal.invariant-loop-atom
invariant-loop-atom g l = l.atoms ≡ map (relinked_atom l.became) (take l.atom-index l.initial.atoms) ++ drop l.atom-index l.initial.atoms
