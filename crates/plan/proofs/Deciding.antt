-- The one test decides soundness.
use Rattle.std.proofs.Common.{◌≡◌, Bool, true, false, ◌&&◌, eqb, ltb, List, length, map, refl, ap₂, take, Decides, sym, ap, ◌∙◌}
use Rattle.std.proofs.lemmas.Bool.{and_parts, and_from}
use Rattle.label.specs.Kind.{Kind}
use Rattle.plan.specs.declared.tables.Atom.{Atom}
use Rattle.plan.specs.declared.tables.Census.{Census}
use Rattle.plan.specs.declared.tables.Plan.{Plan}
use Rattle.plan.specs.Model.{model_of, node_of}
use Rattle.std.specs.List.{list_all}
use Rattle.plan.specs.Places.{census_test}
use Rattle.plan.specs.Sound.{Sound, ascending, atoms_of, registered}
use Rattle.plan.specs.Tests.{register_test, sound_test}
use Rattle.plan.proofs.Each.{each_both, each_map}

-- the register's tests, as the code makes them: whether the rows can be searched, and then what they say
pub register_by : {L : Type 0} (k : Kind L) (atoms : List (Atom L)) (rows : List (Census L)) (b : Bool) → b ≡ (ascending k rows && list_all (λ c. k.mine c.label) rows) → register_test k (map node_of atoms) rows ≡ (b && census_test k atoms rows)
register_by k atoms rows b e =
    let nodes = map node_of atoms in
    let says = λ (c : Census _). ltb 0 c.atoms && eqb c.atoms (atoms_of k c.label nodes) in
    ap (λ v. ascending k rows && v)
    (ap₂ ◌&&◌ (each_both (λ c. k.mine c.label) says rows) (each_map (λ a. registered k a.label rows) node_of atoms)
    ∙ and_assoc (list_all (λ c. k.mine c.label) rows) (list_all says rows) (list_all (λ a. registered k a.label rows) atoms))
    ∙ sym (and_assoc (ascending k rows) (list_all (λ c. k.mine c.label) rows) (census_test k atoms rows))
    ∙ ap (λ v. v && census_test k atoms rows) (sym e)
  where
    and_assoc : (x y z : Bool) → ((x && y) && z) ≡ (x && (y && z))
    and_assoc true y z = refl
    and_assoc false y z = refl

pub decided : {L : Type 0} (k : Kind L) (p : Plan L) → Decides (sound_test k p) (Sound k p)
decided k p =
    let atoms = take p.atom_count p.atoms.now in
    let mine = each_map (λ a. k.mine a.label) node_of atoms in
    let home = each_map (λ a. ltb a.cell (length (model_of p).cells)) node_of atoms in (
      (λ h.
          let t = and_parts _ _ h in
          let t₁ = and_parts _ _ t.1 in
          let cells = and_parts _ _ t₁.0 in
          let cells₁ = and_parts _ _ cells.1 in
          let t₂ = and_parts _ _ t₁.1 in
          let ones = and_parts _ _ t₂.0 in
          let ones₁ = and_parts _ _ ones.1 in
          let t₃ = and_parts _ _ t₂.1 in
          let links = and_parts _ _ t₃.0 in
          let t₄ = and_parts _ _ t₃.1 in
          let names = and_parts _ _ t₄.0 in
          let rows = and_parts _ _ t₄.1 in
          let rows₁ = and_parts _ _ rows.1 in
          record {
            counts = t.0;
            root = cells.0;
            depth = cells₁.0;
            sets = cells₁.1;
            labels = mine ∙ ones.0;
            homes = home ∙ ones₁.0;
            ports = ones₁.1;
            links = links.0;
            pairs = links.1;
            names = names.0;
            apart = names.1;
            order = rows.0;
            rows_right = rows₁.0;
            complete = rows₁.1;
          }),
      (λ s.
          and_from _ _ s.counts
          (and_from _ _ (and_from _ _ s.root (and_from _ _ s.depth s.sets))
          (and_from _ _ (and_from _ _ (sym mine ∙ s.labels) (and_from _ _ (sym home ∙ s.homes) s.ports))
          (and_from _ _ (and_from _ _ s.links s.pairs)
          (and_from _ _ (and_from _ _ s.names s.apart)
          (and_from _ _ s.order (and_from _ _ s.rows_right s.complete))))))),
    )
