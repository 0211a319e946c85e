-- What a sound plan's walk meets.
use Rattle.std.proofs.Common.{◌≡◌, ℕ, ◌+◌, ◌*◌, ◌<◌, ◌≤◌, min, true, cond, ◌&&◌, eqb, ltb, leb, List, [], ◌∷◌, map, length, take, Some, None, Option, sym, refl, ap, ◌∙◌, ap₂, arith, length-take}
use lib.ListN.{length-map}
use Rattle.std.specs.List.{AllByRecursion as All}
use Rattle.std.proofs.lemmas.Bool.{and_parts, leb-true, ltb-true, false≢true}
use Rattle.label.specs.Kind.{Kind}
use Rattle.plan.specs.declared.tables.Cell.{Cell}
use Rattle.plan.specs.declared.tables.Plan.{Plan}
use Rattle.plan.specs.Model.{Model, Node, node_of, model_of}
use Rattle.plan.specs.Sound.{Sound, count, distinct, leads, is_root, parentless, port_links, ends, open_name}
use Rattle.plan.proofs.Wholeness.{whole}
use Rattle.std.specs.List.{flat_map}
use Rattle.showing.specs.Walk.{Step, atom, enter, leave, atoms_in, whole_walk}
use Rattle.showing.specs.Shown.{step_links}
use Rattle.showing.proofs.Totals.{total, total_alike, total_all, total_append, total_empty, total_flat, total_kept, total_swap, total_same, total_most, total_once, count_total, length_total, each_all, each_row, all_weaker, all_map}
use Rattle.showing.proofs.Visits.{parent, visits, visited_once, visits_length, weigh, weighed}

-- what is used of a sound plan
pub record Facts {L : Type 0} (k : Kind L) (m : Model L) : Type 0 where
  pub top : parent m.cells 0 ≡ None
  pub some : 0 < length m.cells
  pub lead : (i : ℕ) → i < length m.cells → leads 16 m.cells i ≡ true
  pub sets : All (λ c. c.set ≤ 15) m.cells
  pub labels : All (λ a. k.mine a.label ≡ true) m.atoms
  pub homes : All (λ a. a.cell < length m.cells) m.atoms
  pub ports : All (λ a. length a.links ≤ 8) m.atoms
  pub two : (x : ℕ) → 0 < count x (ends m) → count x (ends m) ≡ 2
  pub names : All (λ f. open_name f.name ≡ true) m.free
  pub apart : distinct (map (λ f. f.name.packed) m.free) ≡ true
  pub few_atoms : length m.atoms ≤ 1024
  pub few_cells : length m.cells ≤ 128
  pub few_free : length m.free ≤ 64

root_parts : (cs : List Cell) → is_root cs ≡ true → (parent cs 0 ≡ None) × (0 < length cs)
root_parts [] h = absurd (false≢true h)
root_parts (c ∷ cs) h = (by c.parent (and_parts (parentless c.parent) (eqb c.set 1) h).0, omega arith)
  where
    by : (o : Option ℕ) → parentless o ≡ true → o ≡ None
    by None h = refl
    by (Some q) h = absurd (false≢true h)

pub facts : {L : Type 0} (k : Kind L) (p : Plan L) → Sound k p → Facts k (model_of p)
facts k p s =
    let root = root_parts (model_of p).cells s.root in
    let na = min (length p.atoms.now) 1024 in
    let nc = min (length p.cells.now) 128 in
    let nf = min (length p.free.now) 64 in
    let nl = min (length p.register.now) 1024 in
    let c = and_parts (leb p.atom_count na) (leb p.cell_count nc && (leb p.free_count nf && leb p.label_count nl)) s.counts in
    let d = and_parts (leb p.cell_count nc) (leb p.free_count nf && leb p.label_count nl) c.1 in
    let e = and_parts (leb p.free_count nf) (leb p.label_count nl) d.1 in
    let a = leb-true p.atom_count na c.0 in
    let b = leb-true p.cell_count nc d.0 in
    let f = leb-true p.free_count nf e.0 in
    let ta = length-take p.atom_count p.atoms.now in
    let la = length-map (take p.atom_count p.atoms.now) node_of in
    let tb = length-take p.cell_count p.cells.now in
    let tf = length-take p.free_count p.free.now in
    record {
      top = root.0;
      some = root.1;
      lead = λ i h. each_row (leads 16 (model_of p).cells) 0 (length (model_of p).cells) i s.depth (omega arith) (omega arith);
      sets = all_weaker (λ c. leb c.set 15 ≡ true) (λ c. c.set ≤ 15) (model_of p).cells (λ c h. leb-true c.set 15 h) (each_all (λ c. leb c.set 15) (model_of p).cells s.sets);
      labels = each_all (λ a. k.mine a.label) (model_of p).atoms s.labels;
      homes = all_weaker (λ a. ltb a.cell (length (model_of p).cells) ≡ true) (λ a. a.cell < length (model_of p).cells) (model_of p).atoms (λ a h. ltb-true a.cell (length (model_of p).cells) h) (each_all (λ a. ltb a.cell (length (model_of p).cells)) (model_of p).atoms s.homes);
      ports = all_map (λ a. length a.links ≤ 8) node_of (take p.atom_count p.atoms.now) (all_weaker (λ a. leb a.arity 8 ≡ true) (λ a. length (take a.arity a.links) ≤ 8) (take p.atom_count p.atoms.now) (λ a h. let l = leb-true a.arity 8 h in let t = length-take a.arity a.links in omega arith) (each_all (λ a. leb a.arity 8) (take p.atom_count p.atoms.now) s.ports));
      two = (whole k p s).two_ended;
      names = each_all (λ f. open_name f.name) (model_of p).free s.names;
      apart = s.apart;
      few_atoms = omega arith;
      few_cells = omega arith;
      few_free = omega arith;
    }

module _ {L : Type 0} (k : Kind L) (m : Model L) (f : Facts k m) where
  -- what a walk meets of atoms is what there is
  atoms_met : (w : Node L → ℕ) → total (λ r. total w (atoms_in r m.atoms)) (visits m.cells 17 0) ≡ total w m.atoms
  atoms_met w =
      let vs = visits m.cells 17 0 in
      let nodes = m.atoms in
      total_alike (λ r. total w (atoms_in r nodes)) (λ r. total (λ a. cond (eqb a.cell r) (w a) 0) nodes) vs (λ r. total_kept w (λ a. eqb a.cell r) nodes)
      ∙ total_swap (λ r a. cond (eqb a.cell r) (w a) 0) vs nodes
      ∙ total_all (λ a. total (λ r. cond (eqb a.cell r) (w a) 0) vs) w nodes (all_weaker (λ a. a.cell < length m.cells) (λ a. total (λ r. cond (eqb a.cell r) (w a) 0) vs ≡ w a) nodes (λ a h. total_once a.cell (w a) vs (visited_once m.cells f.top f.some f.lead a.cell h)) f.homes)

  -- the weight of a walk: that of the atoms, and for each cell but the root what entering and leaving it weigh
  pub walk_weight : (w : Node L → ℕ) (u v : ℕ) → total (weigh w u v) (whole_walk m) + (u + v) ≡ total w m.atoms + length m.cells * (u + v)
  walk_weight w u v =
      weighed m w u v 17 0
      ∙ ap₂ (λ a b. a + b) (atoms_met w) (total_same (u + v) (visits m.cells 18 0) ∙ ap (λ n. n * (u + v)) (visits_length m.cells f.top f.some f.lead))

  walk_atoms : (w : Node L → ℕ) → total (weigh w 0 0) (whole_walk m) ≡ total w m.atoms
  walk_atoms w = let e = walk_weight w 0 0 in omega arith

  abbrev pub met_links : List ℕ
  met_links = flat_map step_links (whole_walk m)

  links_met : (g : ℕ → ℕ) → total g met_links ≡ total (λ a. total g a.links) m.atoms
  links_met g =
      total_flat g step_links (whole_walk m)
      ∙ total_alike (λ s. total g (step_links s)) (weigh (λ a. total g a.links) 0 0) (whole_walk m) by_step
      ∙ walk_atoms (λ a. total g a.links)
    where
      by_step : (s : Step L) → total g (step_links s) ≡ weigh (λ a. total g a.links) 0 0 s
      by_step (atom a) = refl
      by_step (enter s) = total_empty g
      by_step leave = total_empty g

  pub total_ports : (g : ℕ → ℕ) (nodes : List (Node L)) → total g (port_links nodes) ≡ total (λ a. total g a.links) nodes
  unfolding port_links total
  total_ports g [] = refl
  total_ports g (a ∷ nodes) = total_append g a.links (port_links nodes) ∙ ap (λ n. total g a.links + n) (total_ports g nodes)

  -- each link stands in the walk as often as at ports
  pub met_total : (g : ℕ → ℕ) → total g met_links ≡ total g (port_links m.atoms)
  met_total g = links_met g ∙ sym (total_ports g m.atoms)

  pub met_count : (x : ℕ) → count x met_links ≡ count x (port_links m.atoms)
  met_count x = count_total x met_links ∙ met_total (λ y. cond (eqb x y) 1 0) ∙ sym (count_total x (port_links m.atoms))

  pub met_length : length met_links ≤ 8192
  met_length =
      let e : length met_links ≡ total (λ a. total (λ x. 1) a.links) m.atoms = length_total met_links ∙ links_met (λ x. 1) in
      let l = total_most (λ a. total (λ x. 1) a.links) 8 m.atoms (all_weaker (λ a. length a.links ≤ 8) (λ a. total (λ x. 1) a.links ≤ 8) m.atoms (λ a h. let t = length_total a.links in omega arith) f.ports) in
      let n = f.few_atoms in
      omega arith
