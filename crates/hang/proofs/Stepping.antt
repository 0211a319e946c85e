-- One event more is placed.
use Rattle.std.proofs.Common.{◌≡◌, ℕ, ◌+◌, ◌<◌, ◌≤◌, Bool, true, not, ◌&&◌, ltb, List, [], ◌∷◌, map, length, take, sym, refl, ap, ◌∙◌, subst, arith, length-take}
use Rattle.std.proofs.lemmas.List.{length-map}
use Rattle.std.proofs.lemmas.Bool.{and_parts, eqb-true, leb-true, ltb-true}
use Rattle.label.specs.Kind.{Kind, Lawful}
use Rattle.text.specs.declared.packed.Name.{Name}
use Rattle.grammar.specs.declared.event.Event.{Event}
use Rattle.grammar.specs.declared.event.Event.TheVariants as events
use Rattle.grammar.specs.Reading.{Events, event, end, fault}
use Rattle.plan.specs.declared.tables.Plan.{Plan}
use Rattle.plan.specs.Model.{Node, SameTables, model_of, node_of}
use Rattle.register.proofs.Adding.{added_longer, adding}
use Rattle.grammar.specs.Events.{summed, depth_after, proper_name}
use Rattle.placing.specs.Counts.{cells_at, labels_at}
use Rattle.placing.specs.Keeps.{AddingKeeps}
use Rattle.placing.specs.Orderly.{halfway, may_come, orderly, ports_after}
use Rattle.placing.specs.Placing.{Placing, place_all, place_one}
use Rattle.placing.proofs.KeepAtoms.{last_fits}
use Rattle.placing.proofs.KeepGoing.{Going, goes}
use Rattle.placing.proofs.Staying.{one_atom, one_cell}
use Rattle.hang.specs.declared.hand.Hand.{Hand}
use Rattle.hang.specs.Hand.{Beside, LabelRoom, Placeable, PortRoom, Ready, last_ports, placing_of}
use Rattle.hang.specs.Labels.{is_mine}

pub adding_keeps : {L : Type 0} (k : Kind L) → Lawful k → AddingKeeps k
adding_keeps k law nodes rows a right known mine = adding k a.label law mine rows nodes a refl known right

module _ {L : Type 0} where
  some_atom : (p : ℕ) (atoms : List (Node L)) → 0 < p → last_fits p atoms ≡ true → (0 < length atoms) × (last_ports atoms < 8)
  unfolding last_fits last_ports
  some_atom p [] h f = let z = eqb-true p 0 f in absurd (omega arith)
  some_atom p (a ∷ []) h f = let l = leb-true (length a.links + p) 8 f in (omega arith, omega arith)
  some_atom p (a ∷ (b ∷ atoms)) h f = let r = some_atom p (b ∷ atoms) h f in (omega arith, r.1)

  port_room : (k : Kind L) (d p : ℕ) (c : Bool) (atoms : List (Node L)) (e : Event L) → may_come k d p c e ≡ true → last_fits p atoms ≡ true → PortRoom atoms e
  port_room k d p c atoms (events.Label l) m f = tt
  port_room k d p c atoms (events.Port n) m f =
      let a = and_parts (not c) (ltb 0 p && proper_name n) m in
      let b = and_parts (ltb 0 p) (proper_name n) a.1 in
      some_atom p atoms (ltb-true 0 p b.0) f
  port_room k d p c atoms events.Enter m f = tt
  port_room k d p c atoms events.Leave m f = tt
  port_room k d p c atoms (events.Set j) m f = tt
  port_room k d p c atoms (events.First n) m f = tt
  port_room k d p c atoms (events.Second n) m f = tt

  pub mine_comes : (k : Kind L) (d p : ℕ) (c : Bool) (e : Event L) → may_come k d p c e ≡ true → is_mine k e ≡ true
  mine_comes k d p c (events.Label l) m = (and_parts (not c) (k.mine l) m).1
  mine_comes k d p c (events.Port n) m = refl
  mine_comes k d p c events.Enter m = refl
  mine_comes k d p c events.Leave m = refl
  mine_comes k d p c (events.Set j) m = refl
  mine_comes k d p c (events.First n) m = refl
  mine_comes k d p c (events.Second n) m = refl

  module _ (k : Kind L) (link : Name → ℕ) where
    one_longer : (q : Placing L) (e : Event L) → length q.register ≤ length (place_one k link q e).register
    one_longer q (events.Label l) = added_longer k l q.register
    one_longer q (events.Port n) = omega arith
    one_longer q events.Enter = omega arith
    one_longer q events.Leave = omega arith
    one_longer q (events.Set j) = omega arith
    one_longer q (events.First n) = omega arith
    one_longer q (events.Second n) = omega arith

    all_longer : (q : Placing L) (es : Events L) → length q.register ≤ length (place_all k link q es).register
    unfolding place_all
    all_longer q (event e rest) = let a = one_longer q e in let b = all_longer (place_one k link q e) rest in omega arith
    all_longer q end = omega arith
    all_longer q (fault f) = omega arith

    label_room : (p : Plan L) (h : Hand) (e : Event L) (rest : Events L) → length (place_all k link (place_one k link (placing_of p h) e) rest).register ≤ length p.register.now → LabelRoom k p e
    label_room p h (events.Label l) rest b = let a = all_longer (place_one k link (placing_of p h) (events.Label l)) rest in omega arith
    label_room p h (events.Port n) rest b = tt
    label_room p h events.Enter rest b = tt
    label_room p h events.Leave rest b = tt
    label_room p h (events.Set j) rest b = tt
    label_room p h (events.First n) rest b = tt
    label_room p h (events.Second n) rest b = tt

    -- the next event can be placed
    pub ready : (p : Plan L) (h : Hand) (e : Event L) (rest : Events L) → Placeable k link p h (event e rest) → Ready k p e
    unfolding orderly place_all summed
    ready p h e rest y =
        let o = and_parts (may_come k y.depth y.ports y.half e) _ y.order in
        let a = y.atoms in
        let c = y.cells in
        record {
          atoms = omega arith;
          few_atoms = omega arith;
          cells = omega arith;
          few_cells = omega arith;
          rows = y.counted;
          labels = label_room p h e rest y.rows;
          port = port_room k y.depth y.ports y.half (model_of p).atoms e o.0 y.going.room;
          mine = mine_comes k y.depth y.ports y.half e o.0;
          known = y.going.labels;
          register = y.going.register;
          arities = y.arities;
        }

    rows_counted : {A B : Type 0} (f : A → B) (n : ℕ) (s : List A) → n ≤ length s → length (map f (take n s)) ≡ n
    rows_counted f n s h = let a = length-map (take n s) f in let b = length-take n s in omega arith

    cells_counted : {A : Type 0} (n : ℕ) (s : List A) → n ≤ length s → length (take n s) ≡ n
    cells_counted n s h = let b = length-take n s in omega arith

    -- and then those after it
    pub placeable_on : Lawful k → (p q : Plan L) (h g : Hand) (e : Event L) (rest : Events L) → Placeable k link p h (event e rest) → placing_of q g ≡ place_one k link (placing_of p h) e → Beside p q → Placeable k link q g rest
    unfolding orderly place_all summed
    placeable_on law p q h g e rest y is b =
        let o = and_parts (may_come k y.depth y.ports y.half e) _ y.order in
        let a = y.atoms in
        let c = y.cells in
        let old_atoms : length (model_of p).atoms ≡ p.atom_count = rows_counted node_of p.atom_count p.atoms.now (omega arith) in
        let old_cells : length (model_of p).cells ≡ p.cell_count = cells_counted p.cell_count p.cells.now (omega arith) in
        let new_atoms : length (model_of q).atoms ≡ q.atom_count = rows_counted node_of q.atom_count q.atoms.now b.atoms_within in
        let new_cells : length (model_of q).cells ≡ q.cell_count = cells_counted q.cell_count q.cells.now b.cells_within in
        let more_atoms : length (model_of q).atoms ≡ length (model_of p).atoms + labels_at e = ap (λ (z : Placing L). length z.atoms) is ∙ one_atom k link (placing_of p h) e in
        let more_cells : length (model_of q).cells ≡ length (model_of p).cells + cells_at e = ap (λ (z : Placing L). length z.cells) is ∙ one_cell k link (placing_of p h) e in
        let at = b.tables.atom_rows in
        let ct = b.tables.cell_rows in
        let rt = b.tables.label_rows in
        let same : length (place_all k link (placing_of q g) rest).register ≡ length (place_all k link (place_one k link (placing_of p h) e) rest).register = ap (λ z. length (place_all k link z rest).register) is in
        let r = y.rows in
        record {
          depth = depth_after y.depth e;
          ports = ports_after y.ports e;
          half = halfway e;
          order = o.1;
          going = subst (λ z. Going k (depth_after y.depth e) (ports_after y.ports e) z) (sym is) (goes k link (adding_keeps k law) y.depth y.ports y.half (placing_of p h) e o.0 y.going);
          atoms = omega arith;
          cells = omega arith;
          counted = b.rows_within;
          rows = omega arith;
          arities = b.arities;
        }

  same_again : (p q r : Plan L) → SameTables p q → SameTables q r → SameTables p r
  same_again p q r a b =
      record {
        atoms = b.atoms ∙ a.atoms;
        atom_rows = b.atom_rows ∙ a.atom_rows;
        cells = b.cells ∙ a.cells;
        cell_rows = b.cell_rows ∙ a.cell_rows;
        free = b.free ∙ a.free;
        free_rows = b.free_rows ∙ a.free_rows;
        register = b.register ∙ a.register;
        label_rows = b.label_rows ∙ a.label_rows;
      }

  pub beside_again : (p q r : Plan L) → Beside p q → Beside q r → Beside p r
  beside_again p q r a b =
      record {
        tables = same_again p q r a.tables b.tables;
        free = b.free ∙ a.free;
        free_count = b.free_count ∙ a.free_count;
        atoms_within = b.atoms_within;
        cells_within = b.cells_within;
        rows_within = b.rows_within;
        arities = b.arities;
      }

pub all_on : {L : Type 0} (k : Kind L) (link : Name → ℕ) (q : Placing L) (e : Event L) (rest : Events L) → place_all k link q (event e rest) ≡ place_all k link (place_one k link q e) rest
unfolding place_all
all_on k link q e rest = refl
