-- Each link of a sound plan has just two ends.
use Rattle.showing.proofs.Freed.{count_later}
use Rattle.showing.proofs.Freed.{count_here}
use Rattle.std.proofs.lemmas.Option.{slice_get_within}
use Rattle.std.proofs.Common.{◌≡◌, ℕ, zero, suc, ◌+◌, ◌-◌, ◌<◌, ◌≤◌, cond, eqb, ltb, ◌⊎◌, List, [], ◌∷◌, ◌++◌, map, length, Some, None, sym, refl, ap, ◌∙◌, ap₂, inl, inr, ⊎_elim, arith, length-append}
use Rattle.std.specs.List.{slice_get}
use Rattle.std.proofs.lemmas.Bool.{cases_eq, cases_lt, cond-false, cond-true, eqb-true, le-ltb, lt-ltb}
use Rattle.std.proofs.lemmas.Bool.Decides.{nat_tests}
use Rattle.label.specs.Kind.{Kind}
use Rattle.plan.specs.declared.tables.FreeLink.{FreeLink}
use Rattle.plan.specs.Model.{Model, Node}
use Rattle.plan.specs.Sound.{count, ends, port_links}
use Rattle.placing.proofs.KeepEach.{each_standing}
use Rattle.sameness.specs.Ends.{End, free, port, LinksPaired, TwoEnds, free_of, link_at, port_of}

-- ** places in a list

-- a number stands at a place
abbrev Has : List ℕ → ℕ → ℕ → Type 0
Has xs n x = slice_get xs n ≡ Some x

here_same : (y x : ℕ) → Some y ≡ Some x → y ≡ x
here_same y x e = cc

never : {A : Type 0} (x : A) → None ≡ Some x → ⊥
never x e = let z : ◌≡◌ {A = ℕ} 0 1 = cc in omega arith

none_has : (xs : List ℕ) (x n : ℕ) → count x xs ≡ 0 → Has xs n x → ⊥
unfolding count
none_has [] x n c e = never x e
none_has (y ∷ xs) x zero c e = let same = here_same y x e in grind (arith, nat_tests)
none_has (y ∷ xs) x (suc n) c e = none_has xs x n (grind (arith, nat_tests)) e

abbrev Once : List ℕ → ℕ → Type 0
Once xs x = (i : ℕ) × (Has xs i x × ((n : ℕ) → Has xs n x → n ≡ i))

one_has : (xs : List ℕ) (x : ℕ) → count x xs ≡ 1 → Once xs x
unfolding count
one_has [] x c = absurd (omega arith)
one_has (y ∷ xs) x c =
    ⊎_elim
    (λ (e : x ≡ y).
    let left = count_here x y xs e in
    (0, (ap Some (sym e), no_more e (omega arith))))
    (λ (e : x ≡ y → ⊥).
    let left = count_later x y xs e in
    let at = one_has xs x (omega arith) in
    (suc at.0, (at.1.0, up e at.0 at.1.1)))
    (cases_eq x y)
  where
    no_more : x ≡ y → count x xs ≡ 0 → (n : ℕ) → Has (y ∷ xs) n x → n ≡ 0
    no_more e z zero h = refl
    no_more e z (suc n) h = absurd (none_has xs x n z h)

    up : (x ≡ y → ⊥) → (i : ℕ) → ((n : ℕ) → Has xs n x → n ≡ i) → (n : ℕ) → Has (y ∷ xs) n x → n ≡ suc i
    up e i at zero h = absurd (e (sym (here_same y x h)))
    up e i at (suc n) h = ap suc (at n h)

abbrev Twice : List ℕ → ℕ → Type 0
Twice xs x = (i : ℕ) × ((j : ℕ) × ((i < j) × (Has xs i x × (Has xs j x × ((n : ℕ) → Has xs n x → (n ≡ i) ⊎ (n ≡ j))))))

two_has : (xs : List ℕ) (x : ℕ) → count x xs ≡ 2 → Twice xs x
unfolding count
two_has [] x c = absurd (omega arith)
two_has (y ∷ xs) x c =
    ⊎_elim
    (λ (e : x ≡ y).
    let left = count_here x y xs e in
    let at = one_has xs x (omega arith) in
    (0, (suc at.0, (omega arith, (ap Some (sym e), (at.1.0, first at.0 at.1.1))))))
    (λ (e : x ≡ y → ⊥).
    let left = count_later x y xs e in
    let at = two_has xs x (omega arith) in
    let low : at.0 < at.1.0 = at.1.1.0 in
    (suc at.0, (suc at.1.0, (omega arith, (at.1.1.1.0, (at.1.1.1.1.0, up e at.0 at.1.0 at.1.1.1.1.1))))))
    (cases_eq x y)
  where
    first : (i : ℕ) → ((n : ℕ) → Has xs n x → n ≡ i) → (n : ℕ) → Has (y ∷ xs) n x → (n ≡ 0) ⊎ (n ≡ suc i)
    first i at zero h = inl refl
    first i at (suc n) h = inr (ap suc (at n h))

    up : (x ≡ y → ⊥) → (i j : ℕ) → ((n : ℕ) → Has xs n x → (n ≡ i) ⊎ (n ≡ j)) → (n : ℕ) → Has (y ∷ xs) n x → (n ≡ suc i) ⊎ (n ≡ suc j)
    up e i j at zero h = absurd (e (sym (here_same y x h)))
    up e i j at (suc n) h = ⊎_elim (λ (a : n ≡ i). inl (ap suc a)) (λ (b : n ≡ j). inr (ap suc b)) (at n h)

-- ** an end's place among the ends of the plan

nth_left : {A : Type 0} (xs ys : List A) (n : ℕ) → n < length xs → slice_get (xs ++ ys) n ≡ slice_get xs n
nth_left [] ys n h = absurd (omega arith)
nth_left (x ∷ xs) ys zero h = refl
nth_left (x ∷ xs) ys (suc n) h = nth_left xs ys n (omega arith)

nth_right : {A : Type 0} (xs ys : List A) (n : ℕ) → slice_get (xs ++ ys) (length xs + n) ≡ slice_get ys n
nth_right [] ys n = ap (slice_get ys) (omega arith)
nth_right (x ∷ xs) ys n = let e : length (x ∷ xs) + n ≡ suc (length xs + n) = omega arith in ap (slice_get ((x ∷ xs) ++ ys)) e ∙ nth_right xs ys n

free_has : (fs : List FreeLink) (i : ℕ) → slice_get (map (λ r. r.link) fs) i ≡ free_of (slice_get fs i)
free_has [] i = refl
free_has (r ∷ fs) zero = refl
free_has (r ∷ fs) (suc i) = free_has fs i

module _ {L : Type 0} where
  -- where a port stands among the ports
  unfoldable place : List (Node L) → ℕ → ℕ → ℕ
  place [] i j = 0
  place (a ∷ atoms) zero j = j
  place (a ∷ atoms) (suc i) j = length a.links + place atoms i j

  -- the atom's row, and the port's number, of a place among the ports
  unfoldable row_at : List (Node L) → ℕ → ℕ
  row_at [] n = 0
  row_at (a ∷ atoms) n = cond (ltb n (length a.links)) 0 (suc (row_at atoms (n - length a.links)))

  unfoldable port_at : List (Node L) → ℕ → ℕ
  port_at [] n = 0
  port_at (a ∷ atoms) n = cond (ltb n (length a.links)) n (port_at atoms (n - length a.links))

  place_has : (atoms : List (Node L)) (i j x : ℕ) → port_of j (slice_get atoms i) ≡ Some x → Has (port_links atoms) (place atoms i j) x
  unfolding port_links place
  place_has [] i j x e = absurd (never x e)
  place_has (a ∷ atoms) zero j x e = nth_left a.links (port_links atoms) j (slice_get_within a.links j x e) ∙ e
  place_has (a ∷ atoms) (suc i) j x e = nth_right a.links (port_links atoms) (place atoms i j) ∙ place_has atoms i j x e

  row_of_place : (atoms : List (Node L)) (i j x : ℕ) → port_of j (slice_get atoms i) ≡ Some x → (row_at atoms (place atoms i j) ≡ i) × (port_at atoms (place atoms i j) ≡ j)
  unfolding place row_at port_at
  row_of_place [] i j x e = absurd (never x e)
  row_of_place (a ∷ atoms) zero j x e =
      let t = lt-ltb j (length a.links) (slice_get_within a.links j x e) in
      (cond-true (ltb j (length a.links)) 0 _ t, cond-true (ltb j (length a.links)) j _ t)
  row_of_place (a ∷ atoms) (suc i) j x e =
      let n = length a.links in
      let p = place atoms i j in
      let ih = row_of_place atoms i j x e in
      let t = le-ltb (n + p) n (omega arith) in
      let d : (n + p) - n ≡ p = omega arith in (
        cond-false (ltb (n + p) n) 0 (suc (row_at atoms ((n + p) - n))) t ∙ ap (λ q. suc (row_at atoms q)) d ∙ ap suc ih.0,
        cond-false (ltb (n + p) n) (n + p) (port_at atoms ((n + p) - n)) t ∙ ap (port_at atoms) d ∙ ih.1,
      )

  has_row : (atoms : List (Node L)) (n x : ℕ) → Has (port_links atoms) n x → port_of (port_at atoms n) (slice_get atoms (row_at atoms n)) ≡ Some x
  unfolding port_links row_at port_at
  has_row [] n x e = absurd (never x e)
  has_row (a ∷ atoms) n x e =
      let k = length a.links in
      let q = n - k in
      ⊎_elim
      (λ (l : n < k).
      let t = lt-ltb n k l in
      ap₂ (λ i j. port_of j (slice_get (a ∷ atoms) i)) (cond-true (ltb n k) 0 (suc (row_at atoms q)) t) (cond-true (ltb n k) n (port_at atoms q) t)
      ∙ sym (nth_left a.links (port_links atoms) n l) ∙ e)
      (λ (l : k ≤ n).
      let t = le-ltb n k l in
      let d : n ≡ k + q = omega arith in
      ap₂ (λ i j. port_of j (slice_get (a ∷ atoms) i)) (cond-false (ltb n k) 0 (suc (row_at atoms q)) t) (cond-false (ltb n k) n (port_at atoms q) t)
      ∙ has_row atoms q x (sym (nth_right a.links (port_links atoms) q) ∙ ap (slice_get (a.links ++ port_links atoms)) (sym d) ∙ e))
      (cases_lt n k)

  place_at : (atoms : List (Node L)) (n : ℕ) → n < length (port_links atoms) → place atoms (row_at atoms n) (port_at atoms n) ≡ n
  unfolding port_links row_at port_at place
  place_at [] n h = absurd (omega arith)
  place_at (a ∷ atoms) n h =
      let k = length a.links in
      let q = n - k in
      let sum = length-append a.links (port_links atoms) in
      ⊎_elim
      (λ (l : n < k).
      let t = lt-ltb n k l in
      ap₂ (λ i j. place (a ∷ atoms) i j) (cond-true (ltb n k) 0 (suc (row_at atoms q)) t) (cond-true (ltb n k) n (port_at atoms q) t))
      (λ (l : k ≤ n).
      let t = le-ltb n k l in
      let ih = place_at atoms q (omega arith) in
      ap₂ (λ i j. place (a ∷ atoms) i j) (cond-false (ltb n k) 0 (suc (row_at atoms q)) t) (cond-false (ltb n k) n (port_at atoms q) t) ∙ omega arith)
      (cases_lt n k)

  module _ (m : Model L) where
    ports : ℕ
    ports = length (port_links m.atoms)

    place_of : End → ℕ
    place_of (port i j) = place m.atoms i j
    place_of (free i) = ports + i

    end_at : ℕ → End
    end_at n = cond (ltb n ports) (port (row_at m.atoms n) (port_at m.atoms n)) (free (n - ports))

    place_lies : (e : End) (x : ℕ) → link_at m e ≡ Some x → Has (ends m) (place_of e) x
    unfolding place_of ports
    place_lies (port i j) x h =
        let has = place_has m.atoms i j x h in
        nth_left (port_links m.atoms) _ (place m.atoms i j) (slice_get_within (port_links m.atoms) (place m.atoms i j) x has) ∙ has
    place_lies (free i) x h = nth_right (port_links m.atoms) (map (λ r. r.link) m.free) i ∙ free_has m.free i ∙ h

    end_place : (e : End) (x : ℕ) → link_at m e ≡ Some x → end_at (place_of e) ≡ e
    unfolding place_of end_at ports
    end_place (port i j) x h =
        let atoms = m.atoms in
        let n = place atoms i j in
        let t = lt-ltb n (length (port_links atoms)) (slice_get_within (port_links atoms) n x (place_has atoms i j x h)) in
        let both = row_of_place atoms i j x h in
        cond-true (ltb n (length (port_links atoms))) (port (row_at atoms n) (port_at atoms n)) (free (n - length (port_links atoms))) t ∙ ap₂ port both.0 both.1
    end_place (free i) x h =
        let k = length (port_links m.atoms) in
        cond-false (ltb (k + i) k) (port (row_at m.atoms (k + i)) (port_at m.atoms (k + i))) (free ((k + i) - k)) (le-ltb (k + i) k (omega arith)) ∙ ap free (omega arith)

    lies_at : (n x : ℕ) → Has (ends m) n x → link_at m (end_at n) ≡ Some x
    unfolding end_at ports
    lies_at n x h =
        let atoms = m.atoms in
        let links = map (λ r. r.link) m.free in
        let k = length (port_links atoms) in
        let p = port (row_at atoms n) (port_at atoms n) in
        let f = free (n - k) in
        ⊎_elim
        (λ (l : n < k). ap (link_at m) (cond-true (ltb n k) p f (lt-ltb n k l)) ∙ has_row atoms n x (sym (nth_left (port_links atoms) links n l) ∙ h))
        (λ (l : k ≤ n).
        let d : n ≡ k + (n - k) = omega arith in
        ap (link_at m) (cond-false (ltb n k) p f (le-ltb n k l))
        ∙ sym (nth_right (port_links atoms) links (n - k) ∙ free_has m.free (n - k)) ∙ ap (slice_get (ends m)) (sym d) ∙ h)
        (cases_lt n k)

    place_end : (n : ℕ) → place_of (end_at n) ≡ n
    unfolding end_at ports place_of
    place_end n =
        let atoms = m.atoms in
        let k = length (port_links atoms) in
        let p = port (row_at atoms n) (port_at atoms n) in
        let f = free (n - k) in
        ⊎_elim
        (λ (l : n < k). ap place_of (cond-true (ltb n k) p f (lt-ltb n k l)) ∙ place_at atoms n l)
        (λ (l : k ≤ n). ap place_of (cond-false (ltb n k) p f (le-ltb n k l)) ∙ omega arith)
        (cases_lt n k)

    two_ends : (x : ℕ) → count x (ends m) ≡ 2 → TwoEnds m x
    two_ends x c =
        let two = two_has (ends m) x c in
        let i = two.0 in
        let j = two.1.0 in
        let low : i < j = two.1.1.0 in
        record {
          one = end_at i;
          other = end_at j;
          different = λ e. let same : i ≡ j = sym (place_end i) ∙ ap place_of e ∙ place_end j in omega arith;
          one_lies = lies_at i x two.1.1.1.0;
          other_lies = lies_at j x two.1.1.1.1.0;
          no_third = λ e h.
              let back = end_place e x h in
              ⊎_elim
              (λ (a : place_of e ≡ i). inl (sym back ∙ ap end_at a))
              (λ (b : place_of e ≡ j). inr (sym back ∙ ap end_at b))
              (two.1.1.1.1.1 (place_of e) (place_lies e x h));
        }

pub links_paired : {L : Type 0} (k : Kind L) → LinksPaired k
links_paired k m s x h =
    two_ends m x (eqb-true (count x (ends m)) 2 (each_standing (λ y. eqb (count y (ends m)) 2) (ends m) x s.pairs h))
