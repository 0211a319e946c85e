-- Rows of labels in the register, and how often each was met.
use Rattle.std.specs.Prelude.{◌≡◌, Bool, true, ◌&&◌, List, map, ◌==◌, nat_lt}
use Rattle.label.specs.Kind.{Kind}
use Rattle.plan.specs.declared.tables.Atom.{Atom}
use Rattle.plan.specs.declared.tables.Census.{Census}
use Rattle.plan.specs.Model.{node_of}
use Rattle.std.specs.List.{list_all}
use Rattle.plan.specs.Sound.{ascending, atoms_of, registered}

-- a register that can be searched: labels of the kind, each lower than the next
pub record Filed {L : Type 0} (k : Kind L) (register : List (Census L)) : Type 0 where
  pub order : ascending k register ≡ true
  pub known : list_all (λ c. k.mine c.label) register ≡ true

-- every label of an atom is one of the kind
abbrev pub labelled : {L : Type 0} → Kind L → List (Atom L) → Bool
labelled k atoms = list_all (λ a. k.mine a.label) atoms

-- the rows say the numbers of their atoms, and no atom's label is missing
abbrev pub census_test : {L : Type 0} → Kind L → List (Atom L) → List (Census L) → Bool
census_test k atoms register =
    list_all (λ c. nat_lt 0 c.atoms && c.atoms == atoms_of k c.label (map node_of atoms)) register
    && list_all (λ a. registered k a.label register) atoms
