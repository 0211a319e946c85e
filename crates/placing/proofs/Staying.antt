-- What placing the events of a text leaves as it was, and how much it adds.
use Rattle.std.proofs.Common.{◌≡◌, ℕ, zero, suc, ◌+◌, ◌-◌, ◌<◌, ◌≤◌, Bool, true, false, cond, not, ◌&&◌, ltb, leb, List, [], ◌∷◌, ◌++◌, map, length, get_or, take, set, Some, sym, refl, ap, ◌∙◌, subst, ap₂, ⊎_elim, arith, length-append, length-set, get_or-set_other, get_or-set_same}
use lib.ListN.{length-map}
use lib.Seq.{take-append-le, take-set-le, get_or-append_seam}
use Rattle.std.proofs.lemmas.List.{get_or_append_left}
use Rattle.std.proofs.lemmas.Bool.{and_parts, cases_eq, ltb-true}
use Rattle.label.specs.Kind.{Kind}
use Rattle.text.specs.declared.packed.Name.{Name}
use Rattle.grammar.specs.declared.event.Event.{Event}
use Rattle.grammar.specs.declared.event.Event.TheVariants as events
use Rattle.grammar.specs.Reading.{Events, event, end, fault}
use Rattle.plan.specs.declared.tables.Cell.{Cell}
use Rattle.plan.specs.Model.{Node}
use Rattle.plan.specs.Sound.{alike, atoms_of, no_cell}
use Rattle.placing.specs.Placing.{Placing, with_port, or_root, parent_of, with_set, place_one, place_all, relinked, become}
use Rattle.grammar.specs.Events.{depth_after, proper_name, summed}
use Rattle.placing.specs.Orderly.{orderly, may_come, ports_after, halfway}
use Rattle.placing.specs.Counts.{labels_at, cells_at, label_at, labels_in, cells_in, label_count}
use Rattle.placing.specs.Laws.{shape}

-- One more port.

pub length_with_port : {L : Type 0} (x : ℕ) (atoms : List (Node L)) → length (with_port x atoms) ≡ length atoms
unfolding with_port
length_with_port x [] = refl
length_with_port x (a ∷ []) = refl
length_with_port x (a ∷ (b ∷ atoms)) = ap suc (length_with_port x (b ∷ atoms))

pub take_with_port : {L : Type 0} (n x : ℕ) (atoms : List (Node L)) → n < length atoms → take n (with_port x atoms) ≡ take n atoms
unfolding with_port
take_with_port n x [] h = absurd (omega arith)
take_with_port zero x (a ∷ []) h = refl
take_with_port (suc n) x (a ∷ []) h = absurd (omega arith)
take_with_port zero x (a ∷ (b ∷ atoms)) h = refl
take_with_port (suc n) x (a ∷ (b ∷ atoms)) h = ap (λ r. a ∷ r) (take_with_port n x (b ∷ atoms) (omega arith))

module _ {L : Type 0} (k : Kind L) (l : L) where
  abbrev one_of : Node L → ℕ → ℕ
  one_of a r = cond (alike k l a.label) (suc r) r

  port_atoms_of : (x : ℕ) (atoms : List (Node L)) → atoms_of k l (with_port x atoms) ≡ atoms_of k l atoms
  unfolding with_port atoms_of
  port_atoms_of x [] = refl
  port_atoms_of x (a ∷ []) = refl
  port_atoms_of x (a ∷ (b ∷ atoms)) = ap (one_of a) (port_atoms_of x (b ∷ atoms))

  one_add : (v : Bool) (n m : ℕ) → cond v (suc (n + m)) (n + m) ≡ cond v (suc n) n + m
  one_add true n m = omega arith
  one_add false n m = refl

  append_atoms_of : (xs ys : List (Node L)) → atoms_of k l (xs ++ ys) ≡ atoms_of k l xs + atoms_of k l ys
  unfolding atoms_of
  append_atoms_of [] ys = omega arith
  append_atoms_of (a ∷ xs) ys = ap (one_of a) (append_atoms_of xs ys) ∙ one_add (alike k l a.label) (atoms_of k l xs) (atoms_of k l ys)

  pub relinked_atoms_of : (became : List ℕ) (atoms : List (Node L)) → atoms_of k l (map (relinked became) atoms) ≡ atoms_of k l atoms
  unfolding atoms_of
  relinked_atoms_of became [] = refl
  relinked_atoms_of became (a ∷ atoms) = ap (one_of a) (relinked_atoms_of became atoms)

  lone_atoms_of : (a : Node L) → atoms_of k l (a ∷ []) ≡ cond (alike k l a.label) 1 0
  unfolding atoms_of
  lone_atoms_of a = refl

-- What each event adds.

module _ {L : Type 0} (k : Kind L) (link : Name → ℕ) where
  one_label : (l : L) (q : Placing L) (e : Event L) → atoms_of k l (place_one k link q e).atoms ≡ atoms_of k l q.atoms + label_at k l e
  one_label l q (events.Label x) =
      let a : Node L = record { label = x; cell = q.inside; links = [] } in
      append_atoms_of k l q.atoms (a ∷ []) ∙ ap (λ n. atoms_of k l q.atoms + n) (lone_atoms_of k l a)
  one_label l q (events.Port n) = let e = port_atoms_of k l (link n) q.atoms in omega arith
  one_label l q events.Enter = omega arith
  one_label l q events.Leave = omega arith
  one_label l q (events.Set j) = omega arith
  one_label l q (events.First n) = omega arith
  one_label l q (events.Second n) = omega arith

  pub all_labels : (l : L) (q : Placing L) (es : Events L) → atoms_of k l (place_all k link q es).atoms ≡ atoms_of k l q.atoms + label_count k l es
  unfolding place_all summed
  all_labels l q (event e rest) = let ih = all_labels l (place_one k link q e) rest in let one = one_label l q e in omega arith
  all_labels l q end = omega arith
  all_labels l q (fault f) = omega arith

  pub one_atom : (q : Placing L) (e : Event L) → length (place_one k link q e).atoms ≡ length q.atoms + labels_at e
  one_atom q (events.Label x) = length-append q.atoms (record { label = x; cell = q.inside; links = [] } ∷ [])
  one_atom q (events.Port n) = let e = length_with_port (link n) q.atoms in omega arith
  one_atom q events.Enter = omega arith
  one_atom q events.Leave = omega arith
  one_atom q (events.Set j) = omega arith
  one_atom q (events.First n) = omega arith
  one_atom q (events.Second n) = omega arith

  pub all_atoms : (q : Placing L) (es : Events L) → length (place_all k link q es).atoms ≡ length q.atoms + labels_in es
  unfolding place_all summed
  all_atoms q (event e rest) = let ih = all_atoms (place_one k link q e) rest in let one = one_atom q e in omega arith
  all_atoms q end = omega arith
  all_atoms q (fault f) = omega arith

  pub one_cell : (q : Placing L) (e : Event L) → length (place_one k link q e).cells ≡ length q.cells + cells_at e
  one_cell q (events.Label x) = omega arith
  one_cell q (events.Port n) = omega arith
  one_cell q events.Enter = length-append q.cells (record { parent = Some q.inside; set = 0 } ∷ [])
  one_cell q events.Leave = omega arith
  one_cell q (events.Set j) = let e = length-set q.cells q.inside (record { parent = (get_or q.cells q.inside no_cell).parent; set = j }) in omega arith
  one_cell q (events.First n) = omega arith
  one_cell q (events.Second n) = omega arith

  pub all_cells : (q : Placing L) (es : Events L) → length (place_all k link q es).cells ≡ length q.cells + cells_in es
  unfolding place_all summed
  all_cells q (event e rest) = let ih = all_cells (place_one k link q e) rest in let one = one_cell q e in omega arith
  all_cells q end = omega arith
  all_cells q (fault f) = omega arith

-- The open cells are new.

-- from a cell up so many parents, all rows are at least n
abbrev pub Chain : ℕ → List Cell → ℕ → ℕ → Type 0
Chain n cells zero i = Unit {0}
Chain n cells (suc d) i = (n ≤ i) × (i < length cells) × Chain n cells d (parent_of cells i)

chain_append : (n d i : ℕ) (cells more : List Cell) → Chain n cells d i → Chain n (cells ++ more) d i
chain_append n zero i cells more h = tt
chain_append n (suc d) i cells more h =
    let a = h.0 in let b = h.1 in let l = length-append cells more in
    (a, omega arith, subst (Chain n (cells ++ more) d) (ap (λ c. or_root c.parent) (sym (get_or_append_left cells more no_cell i b))) (chain_append n d (parent_of cells i) cells more h.2))

same_parent : (cells : List Cell) (c j i : ℕ) → i < length cells → parent_of (with_set cells c j) i ≡ parent_of cells i
same_parent cells c j i h =
    let v : Cell = record { parent = (get_or cells c no_cell).parent; set = j } in
    ⊎_elim
    (λ (e : i ≡ c). let g : c < length cells = omega arith in ap (parent_of (set cells c v)) e ∙ ap (λ x. or_root x.parent) (get_or-set_same cells c v no_cell g) ∙ ap (parent_of cells) (sym e))
    (λ (e : i ≡ c → ⊥). ap (λ x. or_root x.parent) (get_or-set_other cells c i v no_cell e))
    (cases_eq i c)

chain_set : (n d i : ℕ) (cells : List Cell) (c j : ℕ) → Chain n cells d i → Chain n (with_set cells c j) d i
chain_set n zero i cells c j h = tt
chain_set n (suc d) i cells c j h =
    let a = h.0 in let b = h.1 in let l = length-set cells c (record { parent = (get_or cells c no_cell).parent; set = j }) in
    (a, omega arith, subst (Chain n (with_set cells c j) d) (sym (same_parent cells c j i b)) (chain_set n d (parent_of cells i) cells c j h.2))

-- What was there before the text stays.

-- so many atoms and cells were there, the open cells are new, and so is the last atom where a port may follow
pub record Grown {L : Type 0} (atoms_were cells_were d p : ℕ) (q : Placing L) : Type 0 where
  pub atoms_long : atoms_were ≤ length q.atoms
  pub last_new : 0 < p → atoms_were < length q.atoms
  pub cells_long : cells_were ≤ length q.cells
  pub chain : Chain cells_were q.cells d q.inside

module _ {L : Type 0} (k : Kind L) (link : Name → ℕ) (na nc : ℕ) where
  pub record Stays (d p : ℕ) (q r : Placing L) : Type 0 where
    pub grown : Grown na nc d p r
    pub atoms : take na r.atoms ≡ take na q.atoms
    pub cells : take nc r.cells ≡ take nc q.cells

  abbrev Step : Event L → Type 0
  Step e = (d p : ℕ) (c : Bool) (q : Placing L) → may_come k d p c e ≡ true → Grown na nc d p q → Stays (depth_after d e) (ports_after p e) q (place_one k link q e)

  step : (e : Event L) → Step e
  step (events.Label x) d p c q m g =
      let a : Node L = record { label = x; cell = q.inside; links = [] } in
      let l = length-append q.atoms (a ∷ []) in
      let long = g.atoms_long in
      record {
        grown = record { atoms_long = omega arith; last_new = λ _. omega arith; cells_long = g.cells_long; chain = g.chain };
        atoms = take-append-le na q.atoms (a ∷ []) long;
        cells = refl;
      }
  step (events.Port n) d p c q m g =
      let h = and_parts (not c) (ltb 0 p && proper_name n) m in
      let some : 0 < p = ltb-true 0 p (and_parts (ltb 0 p) (proper_name n) h.1).0 in
      let new = g.last_new some in
      let l = length_with_port (link n) q.atoms in
      record {
        grown = record { atoms_long = omega arith; last_new = λ _. omega arith; cells_long = g.cells_long; chain = g.chain };
        atoms = take_with_port na (link n) q.atoms new;
        cells = refl;
      }
  step events.Enter d p c q m g =
      let x : Cell = record { parent = Some q.inside; set = 0 } in
      let l = length-append q.cells (x ∷ []) in
      let long = g.cells_long in
      let up : parent_of (q.cells ++ (x ∷ [])) (length q.cells) ≡ q.inside = ap (λ y. or_root y.parent) (get_or-append_seam q.cells x [] no_cell) in
      let one : suc d ≡ d + 1 = omega arith in
      record {
        grown = record {
          atoms_long = g.atoms_long;
          last_new = λ h. absurd (omega arith);
          cells_long = omega arith;
          chain = subst (λ n. Chain nc (q.cells ++ (x ∷ [])) n (length q.cells)) one (long, omega arith, subst (Chain nc (q.cells ++ (x ∷ [])) d) (sym up) (chain_append nc d q.inside q.cells (x ∷ []) g.chain));
        };
        atoms = refl;
        cells = take-append-le nc q.cells (x ∷ []) long;
      }
  step events.Leave zero p c q m g = absurd (let h = and_parts (not c) (ltb 0 0) m in let z = ltb-true 0 0 h.1 in omega arith)
  step events.Leave (suc d) p c q m g =
      let one : d ≡ suc d - 1 = omega arith in
      record {
        grown = record {
          atoms_long = g.atoms_long;
          last_new = λ h. absurd (omega arith);
          cells_long = g.cells_long;
          chain = subst (λ n. Chain nc q.cells n (parent_of q.cells q.inside)) one g.chain.2;
        };
        atoms = refl;
        cells = refl;
      }
  step (events.Set j) zero p c q m g = absurd (let h = and_parts (not c) (ltb 0 0 && (leb 1 j && leb j 15)) m in let z = ltb-true 0 0 (and_parts (ltb 0 0) (leb 1 j && leb j 15) h.1).0 in omega arith)
  step (events.Set j) (suc d) p c q m g =
      let v : Cell = record { parent = (get_or q.cells q.inside no_cell).parent; set = j } in
      let l = length-set q.cells q.inside v in
      let long = g.cells_long in
      record {
        grown = record {
          atoms_long = g.atoms_long;
          last_new = λ h. absurd (omega arith);
          cells_long = omega arith;
          chain = chain_set nc (suc d) q.inside q.cells q.inside j g.chain;
        };
        atoms = refl;
        cells = take-set-le nc q.cells q.inside v g.chain.0;
      }
  step (events.First n) d p c q m g =
      record { grown = record { atoms_long = g.atoms_long; last_new = λ h. absurd (omega arith); cells_long = g.cells_long; chain = g.chain }; atoms = refl; cells = refl }
  step (events.Second n) d p c q m g =
      record { grown = record { atoms_long = g.atoms_long; last_new = λ h. absurd (omega arith); cells_long = g.cells_long; chain = g.chain }; atoms = refl; cells = refl }

  pub all_stays : (es : Events L) (d p : ℕ) (c : Bool) (q : Placing L) → orderly k d p c es ≡ true → Grown na nc d p q → (take na (place_all k link q es).atoms ≡ take na q.atoms) × (take nc (place_all k link q es).cells ≡ take nc q.cells)
  unfolding place_all orderly
  all_stays (event e rest) d p c q o g =
      let h = and_parts (may_come k d p c e) (orderly k (depth_after d e) (ports_after p e) (halfway e) rest) o in
      let s = step e d p c q h.0 g in
      let ih = all_stays rest (depth_after d e) (ports_after p e) (halfway e) (place_one k link q e) h.1 s.grown in
      (ih.0 ∙ s.atoms, ih.1 ∙ s.cells)
  all_stays end d p c q o g = (refl, refl)
  all_stays (fault f) d p c q o g = (refl, refl)

pub shape_relinked : {L : Type 0} (became : List ℕ) (atoms : List (Node L)) → map shape (map (relinked became) atoms) ≡ map shape atoms
shape_relinked became [] = refl
shape_relinked became (a ∷ atoms) = ap₂ (λ n rest. record { label = a.label; cell = a.cell; ports = n } ∷ rest) (length-map a.links (become became)) (shape_relinked became atoms)
