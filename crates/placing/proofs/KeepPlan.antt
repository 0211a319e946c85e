-- A sound plan is sound in what its tables stand for, and the other way.
use Rattle.std.proofs.Common.{◌≡◌, true, ◌&&◌, leb, List, [], ◌∷◌, map, length, take, refl, arith, length-take}
use Rattle.std.proofs.lemmas.Bool.{and_from, and_parts, le-leb, leb-true}
use Rattle.label.specs.Kind.{Kind}
use Rattle.plan.specs.declared.tables.Atom.{Atom}
use Rattle.plan.specs.declared.tables.Plan.{Plan}
use Rattle.plan.specs.Model.{model_of, node_of}
use Rattle.std.specs.List.{list_all}
use Rattle.plan.specs.Sound.{Sound, ascending, counts_fit, registered, row_right}
use Rattle.placing.specs.Keeps.{SoundModel}

few_ports : {L : Type 0} (atoms : List (Atom L)) → list_all (λ a. leb a.arity 8) atoms ≡ true → list_all (λ a. leb (length a.links) 8) (map node_of atoms) ≡ true
few_ports [] h = refl
few_ports (a ∷ atoms) h =
    let both = and_parts (leb a.arity 8) (list_all (λ a. leb a.arity 8) atoms) h in
    let k = leb-true a.arity 8 both.0 in
    let n = length-take a.arity a.links in
    and_from (leb (length (take a.arity a.links)) 8) _ (le-leb (length (take a.arity a.links)) 8 (omega arith)) (few_ports atoms both.1)

pub model_sound : {L : Type 0} (k : Kind L) (p : Plan L) → Sound k p → SoundModel k (model_of p)
model_sound k p s =
    record {
      root = s.root;
      depth = s.depth;
      sets = s.sets;
      labels = s.labels;
      homes = s.homes;
      ports = few_ports (take p.atom_count p.atoms.now) s.ports;
      links = s.links;
      pairs = s.pairs;
      names = s.names;
      apart = s.apart;
      register = and_from _ _ s.order (and_from _ _ s.rows_right s.complete);
    }

-- where the counts and arities are in their limits
pub plan_sound : {L : Type 0} (k : Kind L) (p : Plan L) → counts_fit p ≡ true → list_all (λ a. leb a.arity 8) (take p.atom_count p.atoms.now) ≡ true → SoundModel k (model_of p) → Sound k p
plan_sound k p fit arities s =
    let rows = and_parts (ascending k (model_of p).register) (list_all (row_right k (model_of p).atoms) (model_of p).register && list_all (λ a. registered k a.label (model_of p).register) (model_of p).atoms) s.register in
    let both = and_parts (list_all (row_right k (model_of p).atoms) (model_of p).register) (list_all (λ a. registered k a.label (model_of p).register) (model_of p).atoms) rows.1 in
    record {
      counts = fit;
      root = s.root;
      depth = s.depth;
      sets = s.sets;
      labels = s.labels;
      homes = s.homes;
      ports = arities;
      links = s.links;
      pairs = s.pairs;
      names = s.names;
      apart = s.apart;
      order = rows.0;
      rows_right = both.0;
      complete = both.1;
    }
