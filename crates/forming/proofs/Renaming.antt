-- A rewritten form has the same cells, atoms and labels, and joins the renamed names.
use Rattle.std.proofs.Common.{◌≡◌, ℕ, suc, ◌+◌, Bool, true, false, cond, eqb, ◌⊎◌, List, [], ◌∷◌, ◌++◌, map, length, is_some, Some, None, Option, sym, refl, ap, ◌∙◌, subst, ap₂, inl, inr, ⊎_elim}
use Rattle.std.specs.Option.{option_map}
use Rattle.std.specs.List.{slice_get}
use Rattle.std.proofs.lemmas.Simd.{map-map}
use Rattle.std.proofs.lemmas.List.{map-append}
use Rattle.std.proofs.lemmas.Bool.{cases_eq, eq-eqb, ne_eqb}
use Rattle.label.specs.Kind.{Kind}
use Rattle.text.specs.declared.packed.Name.{Name}
use Rattle.grammar.specs.Tests.{label_read, set_of}
use Rattle.grammar.specs.Form.{Items, label_token}
use Rattle.plan.specs.declared.tables.Census.{Census}
use Rattle.plan.specs.Model.{Model, Node}
use Rattle.plan.specs.Sound.{count}
use Rattle.placing.specs.Links.{open_link}
use Rattle.placing.proofs.KeepEach.{count_append}
use Rattle.forming.specs.Places.{AtomText, cell_count, connectors, direct_set, once, set_or, with_label, written_atoms, written_cells}
use Rattle.forming.specs.Joins.{Among, End, Joined, Point, at_row, back, by_connector, by_name, end_point, named, old, open_at, port, port_points, same, through}
use Rattle.forming.specs.Rewriting.{KeepsSingle, Naming, Rewritten, as_atom, as_cell, as_connector, as_none, as_set, turned}
use Rattle.forming.proofs.Assigned.{same_name}
use Rattle.forming.proofs.Ending.{at_row_map}
use Rattle.forming.proofs.Laying.{add_label, register_after}
use Rattle.forming.proofs.Names.{atom_names, cell_names, form_names, packed_of}

-- a list with another before it has what either has
pub among_left : {A : Type 0} (x : A) (xs ys : List A) → Among x xs → Among x (xs ++ ys)
among_left x [] ys i = absurd i
among_left x (y ∷ xs) ys (inl e) = inl e
among_left x (y ∷ xs) ys (inr i) = inr (among_left x xs ys i)

pub among_right : {A : Type 0} (x : A) (xs ys : List A) → Among x ys → Among x (xs ++ ys)
among_right x [] ys i = i
among_right x (y ∷ xs) ys i = inr (among_right x xs ys i)

among_parts : {A : Type 0} (x : A) (xs ys : List A) → Among x (xs ++ ys) → Among x xs ⊎ Among x ys
among_parts x [] ys i = inr i
among_parts x (y ∷ xs) ys (inl e) = inl (inl e)
among_parts x (y ∷ xs) ys (inr i) = ⊎_elim (λ j. inl (inr j)) (λ j. inr j) (among_parts x xs ys i)

module _ (f : Naming) where
  -- ** cells and atoms

  same_count : {h g : Items} → Rewritten f h g → cell_count g ≡ cell_count h
  same_count as_none = refl
  same_count (as_atom w ns r) = same_count r
  same_count (as_cell i r) = ap₂ (λ a b. suc (a + b)) (same_count i) (same_count r)
  same_count (as_connector a b r) = same_count r
  same_count (turned a b r) = same_count r
  same_count (as_set w r) = same_count r

  same_set : {h g : Items} → Rewritten f h g → (j : ℕ) → direct_set j g ≡ direct_set j h
  same_set as_none j = refl
  same_set (as_atom w ns r) j = same_set r j
  same_set (as_cell i r) j = same_set r j
  same_set (as_connector a b r) j = same_set r j
  same_set (turned a b r) j = same_set r j
  same_set (as_set w r) j = same_set r (set_or j (set_of w))

  pub same_cells : {h g : Items} → Rewritten f h g → (c r : ℕ) → written_cells c r g ≡ written_cells c r h
  same_cells as_none c n = refl
  same_cells (as_atom w ns r) c n = same_cells r c n
  same_cells (as_cell {i = i} {j = j} {h = h} {g = g} q r) c n =
      ap₂ (λ s rest. record { parent = Some c; set = s } ∷ rest) (same_set q 0)
      (ap₂ (λ xs m. xs ++ written_cells c (suc (n + m)) g) (same_cells q n (suc n)) (same_count q)
      ∙ ap (λ ys. written_cells n (suc n) i ++ ys) (same_cells r c (suc (n + cell_count i))))
  same_cells (as_connector a b r) c n = same_cells r c n
  same_cells (turned a b r) c n = same_cells r c n
  same_cells (as_set w r) c n = same_cells r c n

  module _ {L : Type 0} (k : Kind L) where
    abbrev pub atom_renamed : AtomText L → AtomText L
    atom_renamed a = record { label = a.label; cell = a.cell; names = map f.to a.names }

    label_renamed : (o : Option L) (c : ℕ) (ns : List Name) (xs ys : List (AtomText L)) → xs ≡ map atom_renamed ys → with_label o c (map f.to ns) xs ≡ map atom_renamed (with_label o c ns ys)
    label_renamed None c ns xs ys e = e
    label_renamed (Some l) c ns xs ys e = ap (λ zs. record { label = l; cell = c; names = map f.to ns } ∷ zs) e

    pub same_atoms : {h g : Items} → Rewritten f h g → (c r : ℕ) → written_atoms k c r g ≡ map atom_renamed (written_atoms k c r h)
    same_atoms as_none c n = refl
    same_atoms (as_atom w ns {h = h} {g = g} r) c n = label_renamed (label_read k (label_token w)) c ns (written_atoms k c n g) (written_atoms k c n h) (same_atoms r c n)
    same_atoms (as_cell {i = i} {j = j} {h = h} {g = g} q r) c n =
        ap₂ (λ xs m. xs ++ written_atoms k c (suc (n + m)) g) (same_atoms q n (suc n)) (same_count q)
        ∙ ap (λ ys. map atom_renamed (written_atoms k n (suc n) i) ++ ys) (same_atoms r c (suc (n + cell_count i)))
        ∙ sym (map-append atom_renamed (written_atoms k n (suc n) i) (written_atoms k c (suc (n + cell_count i)) h))
    same_atoms (as_connector a b r) c n = same_atoms r c n
    same_atoms (turned a b r) c n = same_atoms r c n
    same_atoms (as_set w r) c n = same_atoms r c n

    adds : (s t : Name → ℕ) (o : Option L) (rows : List (Census L)) → add_label k s o rows ≡ add_label k t o rows
    adds s t None rows = refl
    adds s t (Some l) rows = refl

    pub same_register : (s t : Name → ℕ) {h g : Items} → Rewritten f h g → (rows : List (Census L)) → register_after k s g rows ≡ register_after k t h rows
    same_register s t as_none rows = refl
    same_register s t (as_atom w ns {h = h} {g = g} r) rows = ap (register_after k s g) (adds s t (label_read k (label_token w)) rows) ∙ same_register s t r (add_label k t (label_read k (label_token w)) rows)
    same_register s t (as_cell {i = i} {j = j} {h = h} {g = g} q r) rows = ap (register_after k s g) (same_register s t q rows) ∙ same_register s t r (register_after k t i rows)
    same_register s t (as_connector a b r) rows = same_register s t r rows
    same_register s t (turned a b r) rows = same_register s t r rows
    same_register s t (as_set w r) rows = same_register s t r rows

  -- ** names

  tests_alike : (n a : Name) → eqb (f.to n).packed (f.to a).packed ≡ eqb n.packed a.packed
  tests_alike n a =
      ⊎_elim
      (λ (e : n.packed ≡ a.packed). eq-eqb (f.to n).packed (f.to a).packed (ap (λ x. (f.to x).packed) (same_name n a e)) ∙ sym (eq-eqb n.packed a.packed e))
      (λ (d : n.packed ≡ a.packed → ⊥).
      ne_eqb (f.to n).packed (f.to a).packed (λ e. d (ap (λ x. x.packed) (sym (f.back_to n) ∙ ap f.back (same_name (f.to n) (f.to a) e) ∙ f.back_to a)))
      ∙ sym (ne_eqb n.packed a.packed d))
      (cases_eq n.packed a.packed)

  one_more : (n a : Name) (xs ys : List ℕ) → count (f.to n).packed ys ≡ count n.packed xs → count (f.to n).packed ((f.to a).packed ∷ ys) ≡ count n.packed (a.packed ∷ xs)
  unfolding count
  one_more n a xs ys e = ap₂ (λ v m. cond v (suc m) m) (tests_alike n a) e

  turn_count : (x a b : ℕ) (xs : List ℕ) → count x (a ∷ (b ∷ xs)) ≡ count x (b ∷ (a ∷ xs))
  unfolding count
  turn_count x a b xs =
      elim (eqb x a) as (λ v. cond v (suc (cond (eqb x b) (suc (count x xs)) (count x xs))) (cond (eqb x b) (suc (count x xs)) (count x xs)) ≡ cond (eqb x b) (suc (cond v (suc (count x xs)) (count x xs))) (cond v (suc (count x xs)) (count x xs))) [
        | true ↦ elim (eqb x b) as (λ v. suc (cond v (suc (count x xs)) (count x xs)) ≡ cond v (suc (suc (count x xs))) (suc (count x xs))) [ true ↦ refl | false ↦ refl ]
        | false ↦ refl
      ]

  more_names : (n : Name) (ns : List Name) (xs ys : List ℕ) → count (f.to n).packed ys ≡ count n.packed xs → count (f.to n).packed (packed_of (map f.to ns) ++ ys) ≡ count n.packed (packed_of ns ++ xs)
  more_names n [] xs ys e = e
  more_names n (a ∷ ns) xs ys e = one_more n a (packed_of ns ++ xs) (packed_of (map f.to ns) ++ ys) (more_names n ns xs ys e)

  -- a renamed name stands as often
  pub counts_alike : {h g : Items} → Rewritten f h g → (n : Name) → count (f.to n).packed (form_names g) ≡ count n.packed (form_names h)
  unfolding count
  counts_alike as_none n = refl
  counts_alike (as_atom w ns {h = h} {g = g} r) n =
      ap (count (f.to n).packed) (atom_names w (map f.to ns) g) ∙ more_names n ns (form_names h) (form_names g) (counts_alike r n) ∙ ap (count n.packed) (sym (atom_names w ns h))
  counts_alike (as_cell {i = i} {j = j} {h = h} {g = g} q r) n =
      ap (count (f.to n).packed) (cell_names j g) ∙ count_append (f.to n).packed (form_names j) (form_names g) ∙ ap₂ ◌+◌ (counts_alike q n) (counts_alike r n)
      ∙ sym (ap (count n.packed) (cell_names i h) ∙ count_append n.packed (form_names i) (form_names h))
  counts_alike (as_connector a b {h = h} {g = g} r) n = one_more n a (b.packed ∷ form_names h) ((f.to b).packed ∷ form_names g) (one_more n b (form_names h) (form_names g) (counts_alike r n))
  counts_alike (turned a b {h = h} {g = g} r) n =
      turn_count (f.to n).packed (f.to b).packed (f.to a).packed (form_names g)
      ∙ one_more n a (b.packed ∷ form_names h) ((f.to b).packed ∷ form_names g) (one_more n b (form_names h) (form_names g) (counts_alike r n))
  counts_alike (as_set w r) n = counts_alike r n

  -- ** connectors

  abbrev Either : List (Name × Name) → Name → Name → Type 0
  Either cs a b = Among (a, b) cs ⊎ Among (b, a) cs

  pub connects : {h g : Items} → Rewritten f h g → (a b : Name) → Among (a, b) (connectors h) → Either (connectors g) (f.to a) (f.to b)
  connects as_none a b i = absurd i
  connects (as_atom w ns r) a b i = connects r a b i
  connects (as_cell {i = x} {j = y} {h = h} {g = g} q r) a b i =
      ⊎_elim
      (λ (j : Among (a, b) (connectors x)). ⊎_elim (λ s. inl (among_left (f.to a, f.to b) (connectors y) (connectors g) s)) (λ s. inr (among_left (f.to b, f.to a) (connectors y) (connectors g) s)) (connects q a b j))
      (λ (j : Among (a, b) (connectors h)). ⊎_elim (λ s. inl (among_right (f.to a, f.to b) (connectors y) (connectors g) s)) (λ s. inr (among_right (f.to b, f.to a) (connectors y) (connectors g) s)) (connects r a b j))
      (among_parts (a, b) (connectors x) (connectors h) i)
  connects (as_connector x y r) a b (inl e) = inl (inl (ap (λ z. (f.to z.0, f.to z.1)) e))
  connects (as_connector x y r) a b (inr i) = ⊎_elim (λ s. inl (inr s)) (λ s. inr (inr s)) (connects r a b i)
  connects (turned x y r) a b (inl e) = inr (inl (ap (λ z. (f.to z.1, f.to z.0)) e))
  connects (turned x y r) a b (inr i) = ⊎_elim (λ s. inl (inr s)) (λ s. inr (inr s)) (connects r a b i)
  connects (as_set w r) a b i = connects r a b i

  pub connects_back : {h g : Items} → Rewritten f h g → (a b : Name) → Among (a, b) (connectors g) → Either (connectors h) (f.back a) (f.back b)
  connects_back as_none a b i = absurd i
  connects_back (as_atom w ns r) a b i = connects_back r a b i
  connects_back (as_cell {i = x} {j = y} {h = h} {g = g} q r) a b i =
      ⊎_elim
      (λ (j : Among (a, b) (connectors y)). ⊎_elim (λ s. inl (among_left (f.back a, f.back b) (connectors x) (connectors h) s)) (λ s. inr (among_left (f.back b, f.back a) (connectors x) (connectors h) s)) (connects_back q a b j))
      (λ (j : Among (a, b) (connectors g)). ⊎_elim (λ s. inl (among_right (f.back a, f.back b) (connectors x) (connectors h) s)) (λ s. inr (among_right (f.back b, f.back a) (connectors x) (connectors h) s)) (connects_back r a b j))
      (among_parts (a, b) (connectors y) (connectors g) i)
  connects_back (as_connector x y r) a b (inl e) = inl (inl (ap (λ z. (f.back z.0, f.back z.1)) e ∙ ap₂ (λ s t. (s, t)) (f.back_to x) (f.back_to y)))
  connects_back (as_connector x y r) a b (inr i) = ⊎_elim (λ s. inl (inr s)) (λ s. inr (inr s)) (connects_back r a b i)
  connects_back (turned x y r) a b (inl e) = inr (inl (ap (λ z. (f.back z.1, f.back z.0)) e ∙ ap₂ (λ s t. (s, t)) (f.back_to x) (f.back_to y)))
  connects_back (turned x y r) a b (inr i) = ⊎_elim (λ s. inl (inr s)) (λ s. inr (inr s)) (connects_back r a b i)
  connects_back (as_set w r) a b i = connects_back r a b i

  -- ** points

  abbrev pub moved : Point → Point
  moved (old x) = old x
  moved (named n) = named (f.to n)

  abbrev brought : Point → Point
  brought (old x) = old x
  brought (named n) = named (f.back n)

  brought_moved : (p : Point) → brought (moved p) ≡ p
  brought_moved (old x) = refl
  brought_moved (named n) = ap named (f.back_to n)

  module _ {L : Type 0} (m : Model L) {h g : Items} (r : Rewritten f h g) (keeps : KeepsSingle f h) where
    pub once_to : (n : Name) → once g (f.to n) ≡ once h n
    once_to n = ap (λ c. eqb c 1) (counts_alike r n)

    pub moves : {p q : Point} → Joined m h p q → Joined m g (moved p) (moved q)
    moves (by_connector a b i) = ⊎_elim (λ s. by_connector (f.to a) (f.to b) s) (λ s. back (named (f.to b)) (named (f.to a)) (by_connector (f.to b) (f.to a) s)) (connects r a b i)
    moves (by_name n x o e) = by_name (f.to n) x (once_to n ∙ o) (ap (λ z. open_link z m.free) (keeps n o) ∙ e)
    moves (same p) = same (moved p)
    moves (back p q j) = back (moved p) (moved q) (moves j)
    moves (through p q s i j) = through (moved p) (moved q) (moved s) (moves i) (moves j)

    -- a name that stands just once in the rewritten form is its own
    once_back : (n : Name) → once g n ≡ true → (once h (f.back n) ≡ true) × (f.back n ≡ n)
    once_back n o =
        let single : once h (f.back n) ≡ true = sym (once_to (f.back n)) ∙ ap (once g) (f.to_back n) ∙ o in
        (single, sym (keeps (f.back n) single) ∙ f.to_back n)

    brings : {p q : Point} → Joined m g p q → Joined m h (brought p) (brought q)
    brings (by_connector a b i) = ⊎_elim (λ s. by_connector (f.back a) (f.back b) s) (λ s. back (named (f.back b)) (named (f.back a)) (by_connector (f.back b) (f.back a) s)) (connects_back r a b i)
    brings (by_name n x o e) = let s = once_back n o in by_name (f.back n) x s.0 (ap (λ z. open_link z m.free) s.1 ∙ e)
    brings (same p) = same (brought p)
    brings (back p q j) = back (brought p) (brought q) (brings j)
    brings (through p q s i j) = through (brought p) (brought q) (brought s) (brings i) (brings j)

    pub moves_back : (p q : Point) → Joined m g (moved p) (moved q) → Joined m h p q
    moves_back p q j = subst (λ s. Joined m h s q) (brought_moved p) (subst (Joined m h (brought (moved p))) (brought_moved q) (brings j))

    -- a name stands just once in both forms or in neither
    pub once_same : (n : Name) (v w : Bool) → once h n ≡ v → once g n ≡ w → v ≡ w
    once_same n true true e d = refl
    once_same n false false e d = refl
    once_same n true false e d = sym (sym (ap (once g) (keeps n e)) ∙ once_to n ∙ e) ∙ d
    once_same n false true e d = let s = once_back n d in sym e ∙ sym (ap (once h) s.1) ∙ s.0

    free_moved : (n : Name) (v : Bool) (o : Option ℕ) → once h n ≡ v → cond v (cond (is_some o) None (Some (named n))) (option_map old o) ≡ option_map moved (cond v (cond (is_some o) None (Some (named n))) (option_map old o))
    free_moved n true None e = ap (λ z. Some (named z)) (sym (keeps n e))
    free_moved n true (Some x) e = refl
    free_moved n false None e = refl
    free_moved n false (Some x) e = refl

    module _ (k : Kind L) where
      old_moved : (atoms : List (Node L)) → map (λ a. map old a.links) atoms ≡ map (map moved) (map (λ a. map old a.links) atoms)
      old_moved [] = refl
      old_moved (a ∷ atoms) = ap₂ (λ x xs. x ∷ xs) (sym (map-map moved old a.links)) (old_moved atoms)

      names_moved : (xs : List (AtomText L)) → map (λ a. map named a.names) (map (atom_renamed k) xs) ≡ map (map moved) (map (λ a. map named a.names) xs)
      names_moved [] = refl
      names_moved (a ∷ xs) = ap₂ (λ y ys. y ∷ ys) (map-map named f.to a.names ∙ sym (map-map moved named a.names)) (names_moved xs)

      rows_moved : port_points k m g ≡ map (map moved) (port_points k m h)
      rows_moved =
          let n = length m.cells in
          ap₂ ◌++◌ (old_moved m.atoms) (ap (map (λ a. map named a.names)) (same_atoms k r 0 n) ∙ names_moved (written_atoms k 0 n h))
          ∙ sym (map-append (map moved) (map (λ a. map old a.links) m.atoms) (map (λ a. map named a.names) (written_atoms k 0 n h)))

      pub points_moved : (e : End) → end_point k m g e ≡ option_map moved (end_point k m h e)
      points_moved (port i j) = ap (λ xs. at_row j (slice_get xs i)) rows_moved ∙ at_row_map moved (port_points k m h) i j
      points_moved (open_at n) =
          ap (λ v. cond v (cond (is_some (open_link n m.free)) None (Some (named n))) (option_map old (open_link n m.free))) (sym (once_same n (once h n) (once g n) refl refl))
          ∙ free_moved n (once h n) (open_link n m.free) refl
