-- Plans with the same ends on one link are one plan, but for the numbers of links and the rows of free links.
use Rattle.placing.proofs.KeepNames.{open_some}
use Rattle.std.proofs.lemmas.Option.{slice_get_past}
use Rattle.std.proofs.lemmas.Iterator.Adapters.{option_map_id}
use Rattle.std.proofs.lemmas.Option.{slice_get-map}
use Rattle.std.proofs.lemmas.Option.{slice_get_within}
use Rattle.std.specs.Prelude.{option_map}
use Rattle.std.proofs.Common.{◌≡◌, ℕ, zero, suc, ◌+◌, ◌<◌, ◌≤◌, Bool, true, false, cond, eqb, List, [], ◌∷◌, ◌++◌, map, length, is_some, Some, None, Option, sym, refl, ap, ◌∙◌, subst, ap₂, inl, inr, ⊎_elim, arith, length-append}
use Rattle.std.specs.List.{slice_get}
use Rattle.std.proofs.lemmas.List.{length-map}
use Rattle.std.proofs.lemmas.Bool.{and_parts, cases_eq, cases_lt, cond-true, cond-false, eq-eqb, ne_eqb, eqb-true}
use Rattle.std.proofs.lemmas.Bool.Decides.{nat_tests}
use Rattle.text.specs.declared.packed.Name.{Name}
use Rattle.plan.specs.declared.tables.Cell.{Cell}
use Rattle.plan.specs.declared.tables.FreeLink.{FreeLink}
use Rattle.plan.specs.Model.{Model, Node}
use Rattle.plan.specs.Sound.{count, distinct, port_links, rows}
use Rattle.placing.specs.Laws.{shape}
use Rattle.placing.specs.Links.{open_link}
use Rattle.placing.proofs.KeepEach.{count_append, distinct_once}
use Rattle.placing.proofs.KeepNames.{free_links, free_names}
use Rattle.sameness.specs.Renaming.{OneToOne, Stands, free_by}
use Rattle.sameness.specs.Reordering.{Renumbering, Reordered, atom_by, cell_by}
use Rattle.forming.specs.Joins.{Among, End, at_row, end_link, open_at, port}
use Rattle.forming.specs.Rewriting.{SameButLinks}
use Rattle.forming.proofs.Assigned.{same_name}
use Rattle.forming.proofs.Renaming.{among_left, among_right}
use Rattle.forming.proofs.Rows.{nth_past, renumbering, row, same_length, sent, there}

-- ** the ends of a plan

among_map : {A B : Type 0} (f : A → B) (x : A) (xs : List A) → Among x xs → Among (f x) (map f xs)
among_map f x [] i = absurd i
among_map f x (y ∷ xs) (inl e) = inl (ap f e)
among_map f x (y ∷ xs) (inr i) = inr (among_map f x xs i)

among_rows : (j n i : ℕ) → j ≤ i → i < j + n → Among i (rows j n)
unfolding rows
among_rows j zero i a b = absurd (omega arith)
among_rows j (suc n) i a b = ⊎_elim (λ (e : i ≡ j). inl e) (λ (d : i ≡ j → ⊥). inr (among_rows (suc j) n i (omega arith) (omega arith))) (cases_eq i j)

-- so many ports of each of some atoms, from one on
abbrev grid : ℕ → ℕ → ℕ → List End
grid i zero n = []
grid i (suc k) n = map (port i) (rows 0 n) ++ grid (suc i) k n

among_grid : (i k n a b : ℕ) → i ≤ a → a < i + k → b < n → Among (port a b) (grid i k n)
among_grid i zero n a b l h j = absurd (omega arith)
among_grid i (suc k) n a b l h j =
    ⊎_elim
    (λ (e : a ≡ i). subst (λ z. Among (port z b) (map (port i) (rows 0 n) ++ grid (suc i) k n)) (sym e) (among_left (port i b) (map (port i) (rows 0 n)) (grid (suc i) k n) (among_map (port i) b (rows 0 n) (among_rows 0 n b (omega arith) (omega arith)))))
    (λ (d : a ≡ i → ⊥). among_right (port a b) (map (port i) (rows 0 n)) (grid (suc i) k n) (among_grid (suc i) k n a b (omega arith) (omega arith) j))
    (cases_eq a i)

port_within : {L : Type 0} (atoms : List (Node L)) (i j x : ℕ) → at_row j (slice_get (map (λ a. a.links) atoms) i) ≡ Some x → (i < length atoms) × (j < length (port_links atoms))
unfolding port_links
port_within [] i j x e = absurd (let z : ◌≡◌ {A = ℕ} 0 1 = cc in omega arith)
port_within (a ∷ atoms) zero j x e = let l = slice_get_within a.links j x e in let n = length-append a.links (port_links atoms) in (omega arith, omega arith)
port_within (a ∷ atoms) (suc i) j x e =
    let ih = port_within atoms i j x e in
    let s = ih.0 in
    let t = ih.1 in
    let n = length-append a.links (port_links atoms) in
    (omega arith, omega arith)

open_among : (n : Name) (free : List FreeLink) (x : ℕ) → open_link n free ≡ Some x → Among (open_at n) (map (λ f. open_at f.name) free)
unfolding open_link
open_among n [] x e = absurd (let z : ◌≡◌ {A = ℕ} 0 1 = cc in omega arith)
open_among n (f ∷ fs) x e =
    ⊎_elim
    (λ (s : f.name.packed ≡ n.packed). inl (ap open_at (sym (same_name f.name n s))))
    (λ (d : f.name.packed ≡ n.packed → ⊥). inr (open_among n fs x (sym (cond-false (eqb f.name.packed n.packed) (Some f.link) (open_link n fs) (ne_eqb f.name.packed n.packed d)) ∙ e)))
    (cases_eq f.name.packed n.packed)

module _ {L : Type 0} (p : Model L) where
  all_ends : List End
  all_ends = grid 0 (length p.atoms) (length (port_links p.atoms)) ++ map (λ f. open_at f.name) p.free

  among_ends : (e : End) (x : ℕ) → end_link p e ≡ Some x → Among e all_ends
  unfolding all_ends
  among_ends (port i j) x e =
      let w = port_within p.atoms i j x e in
      among_left (port i j) (grid 0 (length p.atoms) (length (port_links p.atoms))) (map (λ f. open_at f.name) p.free) (among_grid 0 (length p.atoms) (length (port_links p.atoms)) i j (omega arith) (omega (arith, w.0)) w.1)
  among_ends (open_at n) x e = among_right (open_at n) (grid 0 (length p.atoms) (length (port_links p.atoms))) (map (λ f. open_at f.name) p.free) (open_among n p.free x e)

  -- a link that stands has an end

  row_end : (x : ℕ) (xs : List ℕ) → 0 < count x xs → (j : ℕ) × (slice_get xs j ≡ Some x)
  unfolding count
  row_end x [] h = absurd (omega arith)
  row_end x (y ∷ ys) h =
      ⊎_elim
      (λ (e : x ≡ y). (0, ap Some (sym e)))
      (λ (d : x ≡ y → ⊥).
      let c = cond-false (eqb x y) (suc (count x ys)) (count x ys) (ne_eqb x y d) in
      let ih = row_end x ys (omega arith) in
      (suc ih.0, ih.1))
      (cases_eq x y)

  port_end : (x : ℕ) (atoms : List (Node L)) → 0 < count x (port_links atoms) → (i : ℕ) × (j : ℕ) × (at_row j (slice_get (map (λ a. a.links) atoms) i) ≡ Some x)
  unfolding port_links count
  port_end x [] h = absurd (omega arith)
  port_end x (a ∷ atoms) h =
      let c = count_append x a.links (port_links atoms) in
      ⊎_elim
      (λ (l : 0 < count x a.links). let r = row_end x a.links l in (0, r.0, r.1))
      (λ (l : count x a.links ≤ 0). let ih = port_end x atoms (omega arith) in (suc ih.0, ih.1, ih.2))
      (cases_lt 0 (count x a.links))

  free_end : (x : ℕ) (free : List FreeLink) → distinct (free_names free) ≡ true → 0 < count x (free_links free) → (n : Name) × (open_link n free ≡ Some x) × (0 < count n.packed (free_names free))
  unfolding open_link count distinct
  free_end x [] d h = absurd (omega arith)
  free_end x (f ∷ fs) d h =
      let parts = and_parts (eqb (count f.name.packed (free_names fs)) 0) (distinct (free_names fs)) d in
      let none = eqb-true (count f.name.packed (free_names fs)) 0 parts.0 in
      ⊎_elim
      (λ (e : x ≡ f.link). (
        f.name,
        cond-true (eqb f.name.packed f.name.packed) (Some f.link) (open_link f.name fs) (eq-eqb f.name.packed f.name.packed refl) ∙ ap Some (sym e),
        let c = cond-true (eqb f.name.packed f.name.packed) (suc (count f.name.packed (free_names fs))) (count f.name.packed (free_names fs)) (eq-eqb f.name.packed f.name.packed refl) in omega arith,
      ))
      (λ (e : x ≡ f.link → ⊥).
      let c = cond-false (eqb x f.link) (suc (count x (free_links fs))) (count x (free_links fs)) (ne_eqb x f.link e) in
      let ih = free_end x fs parts.1 (omega arith) in
      let n = ih.0 in
      let l = ih.2 in
      let other : f.name.packed ≡ n.packed → ⊥ = λ s. let z : count n.packed (free_names fs) ≡ 0 = subst (λ w. count w (free_names fs) ≡ 0) s none in omega arith in (
        n,
        cond-false (eqb f.name.packed n.packed) (Some f.link) (open_link n fs) (ne_eqb f.name.packed n.packed other) ∙ ih.1,
        let k = cond-false (eqb n.packed f.name.packed) (suc (count n.packed (free_names fs))) (count n.packed (free_names fs)) (ne_eqb n.packed f.name.packed (λ s. other (sym s))) in omega arith,
      ))
      (cases_eq x f.link)

  stands_end : (x : ℕ) → distinct (free_names p.free) ≡ true → Stands p x → (e : End) × (end_link p e ≡ Some x)
  stands_end x d h =
      let c = count_append x (port_links p.atoms) (free_links p.free) in
      ⊎_elim
      (λ (l : 0 < count x (port_links p.atoms)). let r = port_end x p.atoms l in (port r.0 r.1, r.2))
      (λ (l : count x (port_links p.atoms) ≤ 0). let r = free_end x p.free d (omega arith) in (open_at r.0, r.1))
      (cases_lt 0 (count x (port_links p.atoms)))

-- ** free links by their names

open_row : (n : Name) (free : List FreeLink) (x : ℕ) → open_link n free ≡ Some x → slice_get free (row n.packed (free_names free)) ≡ Some (record { name = n; link = x })
unfolding open_link row
open_row n [] x e = absurd (let z : ◌≡◌ {A = ℕ} 0 1 = cc in omega arith)
open_row n (f ∷ fs) x e =
    ⊎_elim
    (λ (s : n.packed ≡ f.name.packed).
    let i : Some f.link ≡ Some x = sym (cond-true (eqb f.name.packed n.packed) (Some f.link) (open_link n fs) (eq-eqb f.name.packed n.packed (sym s))) ∙ e in
    let l : f.link ≡ x = cc in
    ap (slice_get (f ∷ fs)) (cond-true (eqb n.packed f.name.packed) 0 (suc (row n.packed (free_names fs))) (eq-eqb n.packed f.name.packed s))
    ∙ ap₂ (λ a b. Some (record { name = a; link = b })) (sym (same_name n f.name s)) l)
    (λ (d : n.packed ≡ f.name.packed → ⊥).
    ap (slice_get (f ∷ fs)) (cond-false (eqb n.packed f.name.packed) 0 (suc (row n.packed (free_names fs))) (ne_eqb n.packed f.name.packed d))
    ∙ open_row n fs x (sym (cond-false (eqb f.name.packed n.packed) (Some f.link) (open_link n fs) (ne_eqb f.name.packed n.packed (λ s. d (sym s)))) ∙ e))
    (cases_eq n.packed f.name.packed)

nth_name : (free : List FreeLink) (i : ℕ) (f : FreeLink) → slice_get free i ≡ Some f → slice_get (free_names free) i ≡ Some f.name.packed
nth_name [] i f e = absurd (let z : ◌≡◌ {A = ℕ} 0 1 = cc in omega arith)
nth_name (g ∷ fs) zero f e = let s : g ≡ f = cc in ap (λ z. Some z.name.packed) s
nth_name (g ∷ fs) (suc i) f e = nth_name fs i f e

name_counts : (free : List FreeLink) (i : ℕ) (f : FreeLink) → slice_get free i ≡ Some f → 0 < count f.name.packed (free_names free)
unfolding count
name_counts [] i f e = absurd (let z : ◌≡◌ {A = ℕ} 0 1 = cc in omega arith)
name_counts (g ∷ fs) zero f e = let s : f.name.packed ≡ g.name.packed = ap (λ z. z.name.packed) (let t : f ≡ g = cc in t) in grind (arith, nat_tests)
name_counts (g ∷ fs) (suc i) f e = let ih = name_counts fs i f e in grind (arith, nat_tests)

nth_open : (free : List FreeLink) (i : ℕ) (f : FreeLink) → distinct (free_names free) ≡ true → slice_get free i ≡ Some f → open_link f.name free ≡ Some f.link
unfolding open_link distinct
nth_open [] i f d e = absurd (let z : ◌≡◌ {A = ℕ} 0 1 = cc in omega arith)
nth_open (g ∷ fs) zero f d e =
    let s : g ≡ f = cc in
    cond-true (eqb g.name.packed f.name.packed) (Some g.link) (open_link f.name fs) (eq-eqb g.name.packed f.name.packed (ap (λ z. z.name.packed) s)) ∙ ap (λ z. Some z.link) s
nth_open (g ∷ fs) (suc i) f d e =
    let parts = and_parts (eqb (count g.name.packed (free_names fs)) 0) (distinct (free_names fs)) d in
    let none = eqb-true (count g.name.packed (free_names fs)) 0 parts.0 in
    let c = name_counts fs i f e in
    cond-false (eqb g.name.packed f.name.packed) (Some g.link) (open_link f.name fs) (ne_eqb g.name.packed f.name.packed (λ s. let z : count f.name.packed (free_names fs) ≡ 0 = subst (λ w. count w (free_names fs) ≡ 0) s none in omega arith))
    ∙ nth_open fs i f parts.1 e

some_counts : (n : Name) (free : List FreeLink) → is_some (open_link n free) ≡ true → 0 < count n.packed (free_names free)
unfolding open_link count
some_counts n [] h = absurd (let z : ◌≡◌ {A = ℕ} 0 1 = cc in omega arith)
some_counts n (f ∷ fs) h = let ih = some_counts n fs in grind (arith, nat_tests)

-- ** atoms by their shapes and links

links_same : (f : ℕ → ℕ) (xs ys : List ℕ) → length xs ≡ length ys → ((j x : ℕ) → slice_get xs j ≡ Some x → slice_get ys j ≡ Some (f x)) → ys ≡ map f xs
links_same f [] [] l h = refl
links_same f [] (y ∷ ys) l h = absurd (omega arith)
links_same f (x ∷ xs) [] l h = absurd (omega arith)
links_same f (x ∷ xs) (y ∷ ys) l h =
    let e = h 0 x refl in
    let s : y ≡ f x = cc in
    ap₂ (λ a b. a ∷ b) s (links_same f xs ys (omega arith) (λ j z i. h (suc j) z i))

atoms_same : {L : Type 0} (f : ℕ → ℕ) (xs ys : List (Node L)) → map shape xs ≡ map shape ys → ((i j x : ℕ) → at_row j (slice_get (map (λ a. a.links) xs) i) ≡ Some x → at_row j (slice_get (map (λ a. a.links) ys) i) ≡ Some (f x)) → ys ≡ map (atom_by (λ i. i) f) xs
atoms_same f [] [] e h = refl
atoms_same f [] (y ∷ ys) e h = absurd (let z : ◌≡◌ {A = ℕ} 0 1 = cc in omega arith)
atoms_same f (x ∷ xs) [] e h = absurd (let z : ◌≡◌ {A = ℕ} 0 1 = cc in omega arith)
atoms_same f (x ∷ xs) (y ∷ ys) e h =
    let s : shape x ≡ shape y = cc in
    let t : map shape xs ≡ map shape ys = cc in
    let same = links_same f x.links y.links (ap (λ z. z.ports) s) (λ j z i. h 0 j z i) in
    ap₂ (λ a b. a ∷ b)
    (ap₂ (λ a b. record { label = a.label; cell = a.cell; links = b }) (sym s) same)
    (atoms_same f xs ys t (λ i j z k. h (suc i) j z k))

cell_same : (o : Option Cell) → o ≡ option_map (cell_by (λ i. i)) o
cell_same None = refl
cell_same (Some c) = ap (λ p. Some (record { parent = p; set = c.set })) (sym (option_map_id c.parent))

-- ** the second plan's link for a first plan's

module _ {L : Type 0} (p q : Model L) (same : SameButLinks p q) (apart : distinct (free_names p.free) ≡ true) (apart_too : distinct (free_names q.free) ≡ true) where
  abbrev is : ℕ → Option ℕ → Bool
  is x None = false
  is x (Some y) = eqb x y

  abbrev or_zero : Option ℕ → ℕ
  or_zero None = 0
  or_zero (Some x) = x

  -- the link of the first end that lies on it
  unfoldable sought : ℕ → List End → ℕ
  sought x [] = 0
  sought x (e ∷ es) = cond (is x (end_link p e)) (or_zero (end_link q e)) (sought x es)

  abbrev Found : ℕ → List End → Type 0
  Found x es = (e : End) × (end_link p e ≡ Some x) × (sought x es ≡ or_zero (end_link q e))

  is_link : (x : ℕ) (o : Option ℕ) → is x o ≡ true → o ≡ Some x
  is_link x None h = absurd (let z : ◌≡◌ {A = ℕ} 0 1 = cc in omega arith)
  is_link x (Some y) h = ap Some (sym (eqb-true x y h))

  link_is : (x : ℕ) (o : Option ℕ) → o ≡ Some x → is x o ≡ true
  link_is x o e = ap (is x) e ∙ eq-eqb x x refl

  found_later : (x : ℕ) (d : End) (es : List End) (v : Bool) → is x (end_link p d) ≡ v → (v ≡ false → Found x es) → Found x (d ∷ es)
  unfolding sought
  found_later x d es true i ih = (d, is_link x (end_link p d) i, cond-true (is x (end_link p d)) (or_zero (end_link q d)) (sought x es) i)
  found_later x d es false i ih = let r = ih refl in (r.0, r.1, cond-false (is x (end_link p d)) (or_zero (end_link q d)) (sought x es) i ∙ r.2)

  found : (x : ℕ) (es : List End) (e : End) → Among e es → end_link p e ≡ Some x → Found x es
  found x [] e i s = absurd i
  found x (d ∷ es) e (inl j) s = found_later x d es true (ap (λ z. is x (end_link p z)) (sym j) ∙ link_is x (end_link p e) s) (λ f. absurd (let z : ◌≡◌ {A = ℕ} 0 1 = cc in omega arith))
  found x (d ∷ es) e (inr j) s = found_later x d es (is x (end_link p d)) refl (λ f. found x es e j s)

  to : ℕ → ℕ
  to x = sought x (all_ends p)

  some_zero : (o : Option ℕ) → is_some o ≡ true → o ≡ Some (or_zero o)
  some_zero None h = absurd (let z : ◌≡◌ {A = ℕ} 0 1 = cc in omega arith)
  some_zero (Some x) h = refl

  to_right : (e : End) (x : ℕ) → end_link p e ≡ Some x → end_link q e ≡ Some (to x)
  unfolding to
  to_right e x s =
      let f = found x (all_ends p) e (among_ends p e x s) s in
      let i : is_some (end_link p e) ≡ true = ap is_some s in
      let j : is_some (end_link p f.0) ≡ true = ap is_some f.1 in
      same.links e f.0 i j (s ∙ sym f.1) ∙ some_zero (end_link q f.0) (sym (same.ends f.0) ∙ j) ∙ ap Some (sym f.2)

  to_apart : OneToOne to p
  to_apart x y s t e =
      let a = stands_end p x apart s in
      let b = stands_end p y apart t in
      let i : end_link q a.0 ≡ Some (to x) = to_right a.0 x a.1 in
      let j : end_link q b.0 ≡ Some (to y) = to_right b.0 y b.1 in
      let k = same.links_back a.0 b.0 (ap is_some a.1) (ap is_some b.1) (i ∙ ap Some e ∙ sym j) in
      let r : Some x ≡ Some y = sym a.1 ∙ k ∙ b.1 in
      cc

  names_agree : (x : ℕ) → count x (free_names p.free) ≡ count x (free_names q.free)
  names_agree x =
      let n : Name = record { packed = x } in
      let a = distinct_once (free_names p.free) x apart in
      let b = distinct_once (free_names q.free) x apart_too in
      let e = same.ends (open_at n) in
      let there : 0 < count x (free_names p.free) → 0 < count x (free_names q.free) = λ l. some_counts n q.free (sym e ∙ open_some n p.free l) in
      let here : 0 < count x (free_names q.free) → 0 < count x (free_names p.free) = λ l. some_counts n p.free (e ∙ open_some n q.free l) in
      grind arith

  free_rows : Renumbering
  free_rows = renumbering (free_names p.free) (free_names q.free) apart apart_too names_agree

  free_each : (i : ℕ) (o : Option FreeLink) → slice_get p.free i ≡ o → slice_get q.free (there (free_names p.free) (free_names q.free) i) ≡ option_map (free_by to) o
  free_each i None e =
      let l = nth_past p.free i e in
      let a = length-map p.free (λ f. f.name.packed) in
      let b = length-map q.free (λ f. f.name.packed) in
      let c = same_length (free_names p.free) (free_names q.free) apart names_agree in
      let gone : slice_get (free_names p.free) i ≡ None = slice_get_past (free_names p.free) i (omega arith) in
      ap (λ o. slice_get q.free (sent o (free_names q.free) i)) gone ∙ slice_get_past q.free i (omega arith)
  free_each i (Some f) e =
      ap (λ o. slice_get q.free (sent o (free_names q.free) i)) (nth_name p.free i f e)
      ∙ open_row f.name q.free (to f.link) (to_right (open_at f.name) f.link (nth_open p.free i f apart e))

  plain : Renumbering
  plain = record { to = λ i. i; back = λ i. i; back_to = λ i. refl; to_back = λ i. refl }

  pub reordered : Reordered p q
  unfolding plain free_rows renumbering
  reordered =
      record {
        link = to;
        one_to_one = to_apart;
        cells = plain;
        root = refl;
        atoms = plain;
        free = free_rows;
        each_cell = λ i. ap (λ c. slice_get c i) (sym same.cells) ∙ cell_same (slice_get p.cells i);
        each_atom = λ i. ap (λ a. slice_get a i) (atoms_same to p.atoms q.atoms same.atoms (λ i j x e. to_right (port i j) x e)) ∙ slice_get-map (atom_by (λ i. i) to) p.atoms i;
        each_free = λ i. free_each i (slice_get p.free i) refl;
        register = sym same.register;
      }
