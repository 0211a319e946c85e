-- What a right register has.
use Rattle.std.proofs.Common.{◌≡◌, ℕ, suc, ◌≤◌, true, false, cond, ltb, List, [], ◌∷◌, map, length, take, arith, length-take}
use Rattle.std.proofs.lemmas.List.{length-map}
use Rattle.std.proofs.lemmas.Bool.{and_parts, eqb-true, lt-ltb}
use Rattle.label.specs.Kind.{Kind}
use Rattle.plan.specs.declared.tables.Atom.{Atom}
use Rattle.plan.specs.declared.tables.Census.{Census}
use Rattle.plan.specs.Model.{Node, node_of}
use Rattle.plan.specs.Places.{Filed}
use Rattle.std.specs.List.{list_all}
use Rattle.plan.specs.Sound.{alike, ascending, atoms_of, row_right}
use Rattle.plan.specs.Tests.{register_test}
use Rattle.register.proofs.Counting.{each_from, right_mine}

module _ {L : Type 0} (k : Kind L) where
  few_of : (l : L) (nodes : List (Node L)) → atoms_of k l nodes ≤ length nodes
  unfolding atoms_of
  few_of l [] = omega arith
  few_of l (a ∷ nodes) =
      let ih = few_of l nodes in
      elim (alike k l a.label) as (λ v. cond v (suc (atoms_of k l nodes)) (atoms_of k l nodes) ≤ suc (length nodes)) [ true ↦ omega arith | false ↦ omega arith ]

  pub register_filed : (nodes : List (Node L)) (rows : List (Census L)) → register_test k nodes rows ≡ true → Filed k rows
  register_filed nodes rows h =
      let a = and_parts (ascending k rows) _ h in
      let b = and_parts (list_all (row_right k nodes) rows) _ a.1 in
      record { order = a.0; known = right_mine k nodes rows b.0 }

  pub register_fits : (nodes : List (Node L)) (rows : List (Census L)) → length nodes ≤ 1024 → register_test k nodes rows ≡ true → list_all (λ c. ltb c.atoms 65535) rows ≡ true
  register_fits nodes rows few h =
      let a = and_parts (ascending k rows) _ h in
      let b = and_parts (list_all (row_right k nodes) rows) _ a.1 in
      each_from (row_right k nodes) (λ c. ltb c.atoms 65535) rows
      (λ c r.
      let parts = and_parts (k.mine c.label) _ r in
      let two = and_parts (ltb 0 c.atoms) _ parts.1 in
      let e = eqb-true c.atoms (atoms_of k c.label nodes) two.1 in
      let f = few_of c.label nodes in
      lt-ltb c.atoms 65535 (omega arith))
      b.0

pub few_nodes : {L : Type 0} (atoms : List (Atom L)) (n : ℕ) → n ≤ 1024 → length (map node_of (take n atoms)) ≤ 1024
few_nodes atoms n h = let a = length-map (take n atoms) node_of in let b = length-take n atoms in omega arith
