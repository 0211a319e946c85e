-- Links renamed and rows in another order: an equivalence.
use Rattle.std.proofs.lemmas.List.{map-id}
use Rattle.std.proofs.lemmas.Simd.{map-map}
use Rattle.std.proofs.lemmas.Option.{slice_get-map}
use Rattle.std.specs.Prelude.{option_map}
use Rattle.std.proofs.Common.{◌≡◌, ℕ, zero, suc, ◌<◌, ◌≤◌, ◌⊎◌, List, [], ◌∷◌, map, Some, None, Option, sym, refl, ap, ◌∙◌, subst, ap₂, inl, inr, ⊎_elim, arith}
use Rattle.std.specs.List.{slice_get}
use Rattle.std.proofs.lemmas.Bool.{cases_eq, cases_lt}
use Rattle.std.proofs.lemmas.Bool.Decides.{nat_tests}
use Rattle.plan.specs.declared.tables.Cell.{Cell}
use Rattle.plan.specs.declared.tables.FreeLink.{FreeLink}
use Rattle.plan.specs.Model.{Model, Node}
use Rattle.plan.specs.Sound.{count, ends, port_links}
use Rattle.placing.proofs.KeepEach.{count_append}
use Rattle.sameness.specs.Renaming.{OneToOne, Stands, free_by, node_by, renamed_by}
use Rattle.sameness.specs.Reordering.{Renumbering, Reordered, ReorderedEquivalence, atom_by, cell_by}
use Rattle.sameness.proofs.Renaming.{back, back_stands, count_first, count_later, map_agree, renamed_same, stands_by, way_back}

-- ** where a link stands

abbrev free_links : List FreeLink → List ℕ
free_links free = map (λ r. r.link) free

not_later : (x y : ℕ) (ys : List ℕ) → (x ≡ y → ⊥) → 0 < count x (y ∷ ys) → 0 < count x ys
unfolding count
not_later x y ys e h = grind (arith, nat_tests)

abbrev AtPort : {L : Type 0} → List (Node L) → ℕ → Type 0
AtPort atoms x = (i : ℕ) × ((a : Node _) × ((slice_get atoms i ≡ Some a) × (0 < count x a.links)))

port_row : {L : Type 0} (atoms : List (Node L)) (x : ℕ) → 0 < count x (port_links atoms) → AtPort atoms x
unfolding port_links count
port_row [] x h = absurd (omega arith)
port_row (a ∷ atoms) x h =
    let sum = count_append x a.links (port_links atoms) in
    ⊎_elim
    (λ (l : 0 < count x a.links). (0, (a, (refl, l))))
    (λ (l : count x a.links ≤ 0). let at = port_row atoms x (omega arith) in (suc at.0, (at.1.0, (at.1.1.0, at.1.1.1))))
    (cases_lt 0 (count x a.links))

row_port : {L : Type 0} (atoms : List (Node L)) (x i : ℕ) (a : Node L) → slice_get atoms i ≡ Some a → 0 < count x a.links → 0 < count x (port_links atoms)
unfolding port_links
row_port [] x i a e h = let z : ◌≡◌ {A = ℕ} 0 1 = cc in absurd (omega arith)
row_port (b ∷ atoms) x zero a e h =
    let same : b ≡ a = cc in
    let sum = count_append x b.links (port_links atoms) in
    let k : 0 < count x b.links = subst (λ (c : Node _). 0 < count x c.links) (sym same) h in
    omega arith
row_port (b ∷ atoms) x (suc i) a e h =
    let sum = count_append x b.links (port_links atoms) in
    let ih = row_port atoms x i a e h in
    omega arith

abbrev AtFree : List FreeLink → ℕ → Type 0
AtFree free x = (i : ℕ) × ((r : FreeLink) × ((slice_get free i ≡ Some r) × (r.link ≡ x)))

free_row : (free : List FreeLink) (x : ℕ) → 0 < count x (free_links free) → AtFree free x
unfolding count
free_row [] x h = absurd (omega arith)
free_row (r ∷ free) x h =
    ⊎_elim
    (λ (e : x ≡ r.link). (0, (r, (refl, sym e))))
    (λ (e : x ≡ r.link → ⊥). let at = free_row free x (not_later x r.link (free_links free) e h) in (suc at.0, (at.1.0, (at.1.1.0, at.1.1.1))))
    (cases_eq x r.link)

row_free : (free : List FreeLink) (i : ℕ) (r : FreeLink) → slice_get free i ≡ Some r → 0 < count r.link (free_links free)
row_free [] i r e = let z : ◌≡◌ {A = ℕ} 0 1 = cc in absurd (omega arith)
row_free (s ∷ free) zero r e =
    let same : s ≡ r = cc in
    subst (λ (c : FreeLink). 0 < count c.link (free_links (s ∷ free))) same (count_first s.link (free_links free))
row_free (s ∷ free) (suc i) r e = count_later r.link s.link (free_links free) (row_free free i r e)

over_some : {A B : Type 0} (f : A → B) (o : Option A) (y : B) → option_map f o ≡ Some y → (x : A) × ((o ≡ Some x) × (f x ≡ y))
over_some f None y e = let z : ◌≡◌ {A = ℕ} 0 1 = cc in absurd (omega arith)
over_some f (Some x) y e = (x, (refl, cc))

over_twice : {A B C : Type 0} (g : B → C) (f : A → B) (h : A → C) (o : Option A) → ((x : A) → o ≡ Some x → g (f x) ≡ h x) → option_map g (option_map f o) ≡ option_map h o
over_twice g f h None e = refl
over_twice g f h (Some x) e = ap Some (e x refl)

over_same : {A : Type 0} (f : A → A) (o : Option A) → ((x : A) → o ≡ Some x → f x ≡ x) → option_map f o ≡ o
over_same f None e = refl
over_same f (Some x) e = ap Some (e x refl)

abbrev turn : Renumbering → Renumbering
turn r = record { to = r.back; back = r.to; back_to = r.to_back; to_back = r.back_to }

abbrev then : Renumbering → Renumbering → Renumbering
then r s =
    record {
      to = λ i. s.to (r.to i);
      back = λ i. r.back (s.back i);
      back_to = λ i. ap r.back (s.back_to (r.to i)) ∙ r.back_to i;
      to_back = λ i. ap s.to (r.to_back (s.back i)) ∙ s.to_back i;
    }

abbrev stay : Renumbering
stay = record { to = λ i. i; back = λ i. i; back_to = λ i. refl; to_back = λ i. refl }

module _ {L : Type 0} where
  port_stands : (m : Model L) (x i : ℕ) (a : Node L) → slice_get m.atoms i ≡ Some a → 0 < count x a.links → Stands m x
  port_stands m x i a e h = omega (arith, count_append x (port_links m.atoms) (free_links m.free), row_port m.atoms x i a e h)

  free_stands : (m : Model L) (i : ℕ) (r : FreeLink) → slice_get m.free i ≡ Some r → Stands m r.link
  free_stands m i r e = omega (arith, count_append r.link (port_links m.atoms) (free_links m.free), row_free m.free i r e)

  stands_row : (m : Model L) (x : ℕ) → Stands m x → AtPort m.atoms x ⊎ AtFree m.free x
  stands_row m x h =
      let sum = count_append x (port_links m.atoms) (free_links m.free) in
      ⊎_elim
      (λ (l : 0 < count x (port_links m.atoms)). inl (port_row m.atoms x l))
      (λ (l : count x (port_links m.atoms) ≤ 0). inr (free_row m.free x (omega arith)))
      (cases_lt 0 (count x (port_links m.atoms)))

  module _ (m n : Model L) (r : Reordered m n) where
    atom_came : (i : ℕ) (b : Node L) → slice_get n.atoms i ≡ Some b → (a : Node L) × ((slice_get m.atoms (r.atoms.back i) ≡ Some a) × (atom_by r.cells.to r.link a ≡ b))
    atom_came i b e =
        over_some (atom_by r.cells.to r.link) (slice_get m.atoms (r.atoms.back i)) b
        (sym (r.each_atom (r.atoms.back i)) ∙ ap (slice_get n.atoms) (r.atoms.to_back i) ∙ e)

    free_came : (i : ℕ) (b : FreeLink) → slice_get n.free i ≡ Some b → (a : FreeLink) × ((slice_get m.free (r.free.back i) ≡ Some a) × (free_by r.link a ≡ b))
    free_came i b e =
        over_some (free_by r.link) (slice_get m.free (r.free.back i)) b
        (sym (r.each_free (r.free.back i)) ∙ ap (slice_get n.free) (r.free.to_back i) ∙ e)

    -- each link that stands on the second comes from one of the first
    origin : (y : ℕ) → Stands n y → (x : ℕ) × (Stands m x × (r.link x ≡ y))
    origin y h =
        ⊎_elim
        (λ (at : AtPort n.atoms y).
        let came = atom_came at.0 at.1.0 at.1.1.0 in
        let a = came.0 in
        let found = back_stands r.link a.links y (subst (λ (b : Node L). 0 < count y b.links) (sym came.1.1) at.1.1.1) in
        (back r.link a.links y, (port_stands m (back r.link a.links y) (r.atoms.back at.0) a came.1.0 found.0, found.1)))
        (λ (at : AtFree n.free y).
        let came = free_came at.0 at.1.0 at.1.1.0 in
        (came.0.link, (free_stands m (r.free.back at.0) came.0 came.1.0, ap (λ (b : FreeLink). b.link) came.1.1 ∙ at.1.1.1)))
        (stands_row n y h)

    onward : (x : ℕ) → Stands m x → Stands n (r.link x)
    onward x h =
        ⊎_elim
        (λ (at : AtPort m.atoms x).
        port_stands n (r.link x) (r.atoms.to at.0) (atom_by r.cells.to r.link at.1.0)
        (r.each_atom at.0 ∙ ap (option_map (atom_by r.cells.to r.link)) at.1.1.0)
        (stands_by r.link at.1.0.links x at.1.1.1))
        (λ (at : AtFree m.free x).
        subst (λ z. Stands n (r.link z)) at.1.1.1
        (free_stands n (r.free.to at.0) (free_by r.link at.1.0) (r.each_free at.0 ∙ ap (option_map (free_by r.link)) at.1.1.0)))
        (stands_row m x h)

-- ** the equivalence

cell_twice : (s r t : ℕ → ℕ) (c : Cell) → ((i : ℕ) → s (r i) ≡ t i) → cell_by s (cell_by r c) ≡ cell_by t c
cell_twice s r t c h = ap (λ (o : Option ℕ). record { parent = o; set = c.set }) (over_twice s r t c.parent (λ i e. h i))

cell_same : (r : ℕ → ℕ) (c : Cell) → ((i : ℕ) → r i ≡ i) → cell_by r c ≡ c
cell_same r c h = ap (λ (o : Option ℕ). record { parent = o; set = c.set }) (over_same r c.parent (λ i e. h i))

module _ {L : Type 0} where
  turned : (m n : Model L) → Reordered m n → Reordered n m
  turned m n r =
      let f = r.link in
      let g = back f (ends m) in
      let home = way_back m f r.one_to_one in
      record {
        link = g;
        one_to_one = λ x y h k e.
            let a = origin m n r x h in
            let b = origin m n r y k in
            let ga : g x ≡ a.0 = ap g (sym a.1.1) ∙ home a.0 a.1.0 in
            let gb : g y ≡ b.0 = ap g (sym b.1.1) ∙ home b.0 b.1.0 in
            sym a.1.1 ∙ ap f (sym ga ∙ e ∙ gb) ∙ b.1.1;
        cells = turn r.cells;
        root = ap r.cells.back (sym r.root) ∙ r.cells.back_to 0;
        atoms = turn r.atoms;
        free = turn r.free;
        each_cell = λ i.
            let j = r.cells.back i in
            sym (over_twice (cell_by r.cells.back) (cell_by r.cells.to) (λ c. c) (slice_get m.cells j) (λ c e. cell_twice r.cells.back r.cells.to (λ i. i) c r.cells.back_to ∙ cell_same (λ i. i) c (λ i. refl))
            ∙ over_same (λ c. c) (slice_get m.cells j) (λ c e. refl))
            ∙ ap (option_map (cell_by r.cells.back)) (sym (r.each_cell j) ∙ ap (slice_get n.cells) (r.cells.to_back i));
        each_atom = λ i.
            let j = r.atoms.back i in
            sym (over_twice (atom_by r.cells.back g) (atom_by r.cells.to f) (λ a. a) (slice_get m.atoms j) (λ a e.
            ap₂ (λ c ls. record { label = a.label; cell = c; links = ls }) (r.cells.back_to a.cell)
            (map-map g f a.links ∙ map_agree (λ x. g (f x)) (λ x. x) a.links (λ x s. home x (port_stands m x j a e s)) ∙ map-id a.links))
            ∙ over_same (λ a. a) (slice_get m.atoms j) (λ a e. refl))
            ∙ ap (option_map (atom_by r.cells.back g)) (sym (r.each_atom j) ∙ ap (slice_get n.atoms) (r.atoms.to_back i));
        each_free = λ i.
            let j = r.free.back i in
            sym (over_twice (free_by g) (free_by f) (λ a. a) (slice_get m.free j) (λ a e.
            ap (λ (x : ℕ). record { name = a.name; link = x }) (home a.link (free_stands m j a e)))
            ∙ over_same (λ a. a) (slice_get m.free j) (λ a e. refl))
            ∙ ap (option_map (free_by g)) (sym (r.each_free j) ∙ ap (slice_get n.free) (r.free.to_back i));
        register = sym r.register;
      }

  joined : (m n o : Model L) → Reordered m n → Reordered n o → Reordered m o
  joined m n o r s =
      record {
        link = λ x. s.link (r.link x);
        one_to_one = λ x y h k e. r.one_to_one x y h k (s.one_to_one (r.link x) (r.link y) (onward m n r x h) (onward m n r y k) e);
        cells = then r.cells s.cells;
        root = ap s.cells.to r.root ∙ s.root;
        atoms = then r.atoms s.atoms;
        free = then r.free s.free;
        each_cell = λ i.
            s.each_cell (r.cells.to i) ∙ ap (option_map (cell_by s.cells.to)) (r.each_cell i)
            ∙ over_twice (cell_by s.cells.to) (cell_by r.cells.to) (cell_by (λ i. s.cells.to (r.cells.to i))) (slice_get m.cells i) (λ c e. cell_twice s.cells.to r.cells.to (λ i. s.cells.to (r.cells.to i)) c (λ i. refl));
        each_atom = λ i.
            s.each_atom (r.atoms.to i) ∙ ap (option_map (atom_by s.cells.to s.link)) (r.each_atom i)
            ∙ over_twice (atom_by s.cells.to s.link) (atom_by r.cells.to r.link) (atom_by (λ i. s.cells.to (r.cells.to i)) (λ x. s.link (r.link x))) (slice_get m.atoms i) (λ a e.
            ap (λ (ls : List ℕ). record { label = a.label; cell = s.cells.to (r.cells.to a.cell); links = ls }) (map-map s.link r.link a.links));
        each_free = λ i.
            s.each_free (r.free.to i) ∙ ap (option_map (free_by s.link)) (r.each_free i)
            ∙ over_twice (free_by s.link) (free_by r.link) (free_by (λ x. s.link (r.link x))) (slice_get m.free i) (λ a e. refl);
        register = s.register ∙ r.register;
      }

  only_links : (m : Model L) (f : ℕ → ℕ) → OneToOne f m → Reordered m (renamed_by f m)
  only_links m f one =
      record {
        link = f;
        one_to_one = one;
        cells = stay;
        root = refl;
        atoms = stay;
        free = stay;
        each_cell = λ i. sym (over_same (cell_by (λ i. i)) (slice_get m.cells i) (λ c e. cell_same (λ i. i) c (λ i. refl)));
        each_atom = λ i. slice_get-map (node_by f) m.atoms i;
        each_free = λ i. slice_get-map (free_by f) m.free i;
        register = refl;
      }

pub reordered_equivalence : (L : Type 0) → ReorderedEquivalence L
reordered_equivalence L =
    record {
      reflexive = λ m. subst (λ n. Reordered m n) (renamed_same m) (only_links m (λ x. x) (λ x y h k e. e));
      symmetric = turned;
      transitive = joined;
      renamed = λ m n r. subst (λ o. Reordered m o) (sym r.same) (only_links m r.to r.one_to_one);
    }
