-- A plan stays sound in its cells, atoms and register while the events of a text are placed on it.
use Rattle.std.proofs.Common.{◌≡◌, ℕ, ◌<◌, ◌≤◌, Bool, true, not, ◌&&◌, eqb, ltb, leb, List, [], ◌∷◌, ◌++◌, length, get_or, Some, None, refl, ◌∙◌, subst, arith, length-append, length-set}
use Rattle.std.proofs.lemmas.Bool.{and_parts, eqb-true, lt-ltb, ltb-true}
use Rattle.label.specs.Kind.{Kind}
use Rattle.text.specs.declared.packed.Name.{Name}
use Rattle.grammar.specs.declared.event.Event.{Event}
use Rattle.grammar.specs.declared.event.Event.TheVariants as events
use Rattle.grammar.specs.Laws.{fault_of}
use Rattle.grammar.specs.Reading.{Events, event, end, fault}
use Rattle.plan.specs.declared.tables.Cell.{Cell}
use Rattle.plan.specs.Model.{Model, Node}
use Rattle.std.specs.List.{list_all}
use Rattle.plan.specs.Sound.{all_lead, is_root, no_cell}
use Rattle.plan.specs.Tests.{register_test}
use Rattle.placing.specs.Keeps.{AddingKeeps, SoundModel}
use Rattle.grammar.specs.Events.{depth_after, proper_name}
use Rattle.placing.specs.Orderly.{halfway, may_come, orderly, ports_after}
use Rattle.placing.specs.Placing.{Placing, begun, place_all, place_one, with_set}
use Rattle.placing.proofs.KeepEach.{each_join, each_one, each_set, each_weaker}
use Rattle.placing.proofs.KeepCells.{all_enter, all_set, climb, climb_enter, climb_in, climb_inner, climb_leave, climb_set, root_more, root_set}
use Rattle.placing.proofs.KeepAtoms.{each_port, fits_new, fits_none, fits_port, last_fits, ports_port, register_port}

-- where so many cells are open and so many ports more may follow
pub record Going {L : Type 0} (k : Kind L) (d p : ℕ) (q : Placing L) : Type 0 where
  pub root : is_root q.cells ≡ true
  pub depth : all_lead q.cells ≡ true
  pub sets : list_all (λ c. leb c.set 15) q.cells ≡ true
  pub labels : list_all (λ a. k.mine a.label) q.atoms ≡ true
  pub homes : list_all (λ a. ltb a.cell (length q.cells)) q.atoms ≡ true
  pub ports : list_all (λ a. leb (length a.links) 8) q.atoms ≡ true
  pub room : last_fits p q.atoms ≡ true
  pub up : climb d q.cells q.inside ≡ true
  pub register : register_test k q.atoms q.register ≡ true

module _ {L : Type 0} (k : Kind L) (link : Name → ℕ) (adding : AddingKeeps k) where
  homes_more : (cs ds : List Cell) (atoms : List (Node L)) → length cs ≤ length ds → list_all (λ a. ltb a.cell (length cs)) atoms ≡ true → list_all (λ a. ltb a.cell (length ds)) atoms ≡ true
  homes_more cs ds atoms l h =
      each_weaker (λ a. ltb a.cell (length cs)) (λ a. ltb a.cell (length ds)) (λ a e. let w = ltb-true a.cell (length cs) e in lt-ltb a.cell (length ds) (omega arith)) atoms h

  pub goes : (d p : ℕ) (c : Bool) (q : Placing L) (e : Event L) → may_come k d p c e ≡ true → Going k d p q → Going k (depth_after d e) (ports_after p e) (place_one k link q e)
  goes d p c q (events.Label l) h g =
      let mine = (and_parts (not c) (k.mine l) h).1 in
      let a : Node L = record { label = l; cell = q.inside; links = [] } in
      let within : q.inside < length q.cells = climb_in d q.cells q.inside g.root g.up in
      record {
        root = g.root;
        depth = g.depth;
        sets = g.sets;
        labels = each_join (λ b. k.mine b.label) q.atoms (a ∷ []) g.labels (each_one (λ b. k.mine b.label) a mine);
        homes = each_join (λ b. ltb b.cell (length q.cells)) q.atoms (a ∷ []) g.homes (each_one (λ b. ltb b.cell (length q.cells)) a (lt-ltb q.inside (length q.cells) within));
        ports = each_join (λ b. leb (length b.links) 8) q.atoms (a ∷ []) g.ports (each_one (λ b. leb (length b.links) 8) a refl);
        room = fits_new q.atoms l q.inside;
        up = g.up;
        register = adding q.atoms q.register a g.register g.labels mine;
      }
  goes d p c q (events.Port n) h g =
      let both = and_parts (ltb 0 p) (proper_name n) (and_parts (not c) (ltb 0 p && proper_name n) h).1 in
      let some = ltb-true 0 p both.0 in
      record {
        root = g.root;
        depth = g.depth;
        sets = g.sets;
        labels = each_port (λ b. k.mine b.label) (link n) q.atoms (λ a ls. refl) ∙ g.labels;
        homes = each_port (λ b. ltb b.cell (length q.cells)) (link n) q.atoms (λ a ls. refl) ∙ g.homes;
        ports = ports_port (link n) p q.atoms some g.room g.ports;
        room = fits_port (link n) p q.atoms some g.room;
        up = g.up;
        register = register_port k (link n) q.atoms q.register ∙ g.register;
      }
  goes d p c q events.Enter h g =
      let low = ltb-true d 16 (and_parts (not c) (ltb d 16) h).1 in
      let new : Cell = record { parent = Some q.inside; set = 0 } in
      let n = length-append q.cells (new ∷ []) in
      record {
        root = root_more q.cells (new ∷ []) g.root;
        depth = all_enter d q.cells q.inside low g.root g.up g.depth;
        sets = each_join (λ b. leb b.set 15) q.cells (new ∷ []) g.sets (each_one (λ b. leb b.set 15) new refl);
        labels = g.labels;
        homes = homes_more q.cells (q.cells ++ (new ∷ [])) q.atoms (omega arith) g.homes;
        ports = g.ports;
        room = fits_none q.atoms g.ports;
        up = climb_enter d q.cells q.inside g.root g.up;
        register = g.register;
      }
  goes d p c q events.Leave h g =
      let some = ltb-true 0 d (and_parts (not c) (ltb 0 d) h).1 in
      record {
        root = g.root;
        depth = g.depth;
        sets = g.sets;
        labels = g.labels;
        homes = g.homes;
        ports = g.ports;
        room = fits_none q.atoms g.ports;
        up = climb_leave d q.cells q.inside some g.up;
        register = g.register;
      }
  goes d p c q (events.Set j) h g =
      let both = and_parts (ltb 0 d) (leb 1 j && leb j 15) (and_parts (not c) (ltb 0 d && (leb 1 j && leb j 15)) h).1 in
      let some = ltb-true 0 d both.0 in
      let new : Cell = record { parent = (get_or q.cells q.inside no_cell).parent; set = j } in
      let n = length-set q.cells q.inside new in
      record {
        root = root_set q.cells q.inside new (climb_inner d q.cells q.inside some g.up) g.root;
        depth = all_set q.cells q.inside j g.depth;
        sets = each_set (λ b. leb b.set 15) q.cells q.inside new g.sets (and_parts (leb 1 j) (leb j 15) both.1).1;
        labels = g.labels;
        homes = homes_more q.cells (with_set q.cells q.inside j) q.atoms (omega arith) g.homes;
        ports = g.ports;
        room = fits_none q.atoms g.ports;
        up = climb_set d q.cells q.inside j q.inside g.up;
        register = g.register;
      }
  goes d p c q (events.First n) h g =
      record { root = g.root; depth = g.depth; sets = g.sets; labels = g.labels; homes = g.homes; ports = g.ports; room = fits_none q.atoms g.ports; up = g.up; register = g.register }
  goes d p c q (events.Second n) h g =
      record { root = g.root; depth = g.depth; sets = g.sets; labels = g.labels; homes = g.homes; ports = g.ports; room = fits_none q.atoms g.ports; up = g.up; register = g.register }

  -- at the end of a text all its cells are closed
  pub goes_all : (d p : ℕ) (c : Bool) (q : Placing L) (es : Events L) → orderly k d p c es ≡ true → fault_of es ≡ None → Going k d p q → Going k 0 0 (place_all k link q es)
  unfolding orderly place_all
  goes_all d p c q (event e rest) h f g =
      let both = and_parts (may_come k d p c e) (orderly k (depth_after d e) (ports_after p e) (halfway e) rest) h in
      goes_all (depth_after d e) (ports_after p e) (halfway e) (place_one k link q e) rest both.1 f (goes d p c q e both.0 g)
  goes_all d p c q end h f g =
      let z = eqb-true d 0 (and_parts (eqb d 0) (not c) h).0 in
      record {
        root = g.root;
        depth = g.depth;
        sets = g.sets;
        labels = g.labels;
        homes = g.homes;
        ports = g.ports;
        room = fits_none q.atoms g.ports;
        up = subst (λ n. climb n q.cells q.inside ≡ true) z g.up;
        register = g.register;
      }
  goes_all d p c q (fault x) h f g = let z : ◌≡◌ {A = ℕ} 0 1 = cc in absurd (omega arith)

  pub goes_from : (m : Model L) → SoundModel k m → Going k 0 0 (begun m)
  unfolding climb
  goes_from m s =
      record {
        root = s.root;
        depth = s.depth;
        sets = s.sets;
        labels = s.labels;
        homes = s.homes;
        ports = s.ports;
        room = fits_none m.atoms s.ports;
        up = refl;
        register = s.register;
      }
