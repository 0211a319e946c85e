-- Links renamed one to one: an equivalence.
use Rattle.std.proofs.lemmas.List.{map-id}
use Rattle.std.proofs.lemmas.Simd.{map-map}
use Rattle.std.proofs.Common.{◌≡◌, ℕ, ◌<◌, cond, eqb, List, [], ◌∷◌, ◌++◌, map, sym, refl, ap, ◌∙◌, subst, ap₂, ⊎_elim, arith}
use Rattle.std.proofs.lemmas.List.{map-append}
use Rattle.std.proofs.lemmas.Bool.{cases_eq, cond-false, cond-true, eq-eqb, ne_eqb}
use Rattle.std.proofs.lemmas.Bool.Decides.{nat_tests}
use Rattle.plan.specs.declared.tables.FreeLink.{FreeLink}
use Rattle.plan.specs.Model.{Model, Node}
use Rattle.plan.specs.Sound.{count, ends, port_links}
use Rattle.placing.proofs.KeepEach.{count_append}
use Rattle.sameness.specs.Renaming.{OneToOne, Renamed, RenamedEquivalence, Stands, free_by, node_by, renamed_by}

-- ** functions that agree on what stands

pub count_first : (y : ℕ) (ys : List ℕ) → 0 < count y (y ∷ ys)
unfolding count
count_first y ys = let e = eq-eqb y y refl in grind (arith, nat_tests)

pub count_later : (x y : ℕ) (ys : List ℕ) → 0 < count x ys → 0 < count x (y ∷ ys)
unfolding count
count_later x y ys h = grind (arith, nat_tests)

pub map_agree : (f g : ℕ → ℕ) (xs : List ℕ) → ((x : ℕ) → 0 < count x xs → f x ≡ g x) → map f xs ≡ map g xs
map_agree f g [] h = refl
map_agree f g (x ∷ xs) h = ap₂ (λ t ts. t ∷ ts) (h x (count_first x xs)) (map_agree f g xs (λ y s. h y (count_later y x xs s)))

nodes_agree : {L : Type 0} (f g : ℕ → ℕ) (atoms : List (Node L)) → ((x : ℕ) → 0 < count x (port_links atoms) → f x ≡ g x) → map (node_by f) atoms ≡ map (node_by g) atoms
unfolding port_links
nodes_agree f g [] h = refl
nodes_agree f g (a ∷ atoms) h =
    let sum = λ (x : ℕ). count_append x a.links (port_links atoms) in
    ap₂ (λ ls rest. record { label = a.label; cell = a.cell; links = ls } ∷ rest)
    (map_agree f g a.links (λ x s. h x (omega (arith, sum x))))
    (nodes_agree f g atoms (λ x s. h x (omega (arith, sum x))))

free_agree : (f g : ℕ → ℕ) (free : List FreeLink) → ((x : ℕ) → 0 < count x (map (λ r. r.link) free) → f x ≡ g x) → map (free_by f) free ≡ map (free_by g) free
free_agree f g [] h = refl
free_agree f g (r ∷ free) h =
    ap₂ (λ x rest. record { name = r.name; link = x } ∷ rest) (h r.link (count_first r.link (map (λ r. r.link) free)))
    (free_agree f g free (λ y s. h y (count_later y r.link (map (λ r. r.link) free) s)))

free_same : (free : List FreeLink) → map (free_by (λ x. x)) free ≡ free
free_same [] = refl
free_same (r ∷ free) = ap (λ t. r ∷ t) (free_same free)

module _ {L : Type 0} where
  pub renamed_agree : (f g : ℕ → ℕ) (m : Model L) → ((x : ℕ) → Stands m x → f x ≡ g x) → renamed_by f m ≡ renamed_by g m
  renamed_agree f g m h =
      let sum = λ (x : ℕ). count_append x (port_links m.atoms) (map (λ r. r.link) m.free) in
      ap₂ (λ atoms free. record { atoms = atoms; cells = m.cells; free = free; register = m.register })
      (nodes_agree f g m.atoms (λ x s. h x (omega (arith, sum x))))
      (free_agree f g m.free (λ x s. h x (omega (arith, sum x))))

  -- ** one renaming after another

  nodes_twice : (g f : ℕ → ℕ) (atoms : List (Node L)) → map (node_by g) (map (node_by f) atoms) ≡ map (node_by (λ x. g (f x))) atoms
  nodes_twice g f [] = refl
  nodes_twice g f (a ∷ atoms) =
      ap₂ (λ ls rest. record { label = a.label; cell = a.cell; links = ls } ∷ rest) (map-map g f a.links) (nodes_twice g f atoms)

  pub renamed_twice : (g f : ℕ → ℕ) (m : Model L) → renamed_by g (renamed_by f m) ≡ renamed_by (λ x. g (f x)) m
  renamed_twice g f m =
      ap₂ (λ atoms free. record { atoms = atoms; cells = m.cells; free = free; register = m.register })
      (nodes_twice g f m.atoms) (map-map (free_by g) (free_by f) m.free)

  nodes_same : (atoms : List (Node L)) → map (node_by (λ x. x)) atoms ≡ atoms
  nodes_same [] = refl
  nodes_same (a ∷ atoms) = ap₂ (λ ls rest. record { label = a.label; cell = a.cell; links = ls } ∷ rest) (map-id a.links) (nodes_same atoms)

  pub renamed_same : (m : Model L) → renamed_by (λ x. x) m ≡ m
  renamed_same m =
      ap₂ (λ atoms free. record { atoms = atoms; cells = m.cells; free = free; register = m.register }) (nodes_same m.atoms) (free_same m.free)

  -- ** the ends of a renamed plan

  ports_by : (f : ℕ → ℕ) (atoms : List (Node L)) → port_links (map (node_by f) atoms) ≡ map f (port_links atoms)
  unfolding port_links
  ports_by f [] = refl
  ports_by f (a ∷ atoms) = ap (λ t. map f a.links ++ t) (ports_by f atoms) ∙ sym (map-append f a.links (port_links atoms))

  pub ends_by : (f : ℕ → ℕ) (m : Model L) → ends (renamed_by f m) ≡ map f (ends m)
  ends_by f m =
      ap₂ ◌++◌ (ports_by f m.atoms) (map-map (λ r. r.link) (free_by f) m.free ∙ sym (map-map f (λ r. r.link) m.free))
      ∙ sym (map-append f (port_links m.atoms) (map (λ r. r.link) m.free))

-- ** the way back

-- the first number of a list that goes to y, or 0
unfoldable pub back : (ℕ → ℕ) → List ℕ → ℕ → ℕ
back f [] y = 0
back f (x ∷ xs) y = cond (eqb (f x) y) x (back f xs y)

other : (f : ℕ → ℕ) (x : ℕ) (xs : List ℕ) (y : ℕ) → (f x ≡ y → ⊥) → 0 < count y (f x ∷ map f xs) → 0 < count y (map f xs)
unfolding count
other f x xs y e h = grind (arith, nat_tests)

-- what stands in a list renamed comes from what the way back gives
pub back_stands : (f : ℕ → ℕ) (xs : List ℕ) (y : ℕ) → 0 < count y (map f xs) → (0 < count (back f xs y) xs) × (f (back f xs y) ≡ y)
unfolding back count
back_stands f [] y h = absurd (omega (arith, h))
back_stands f (x ∷ xs) y h =
    ⊎_elim
    (λ (e : f x ≡ y).
    subst (λ z. (0 < count z (x ∷ xs)) × (f z ≡ y)) (sym (cond-true (eqb (f x) y) x (back f xs y) (eq-eqb (f x) y e))) (count_first x xs, e))
    (λ (e : f x ≡ y → ⊥).
    let ih = back_stands f xs y (other f x xs y e h) in
    subst (λ z. (0 < count z (x ∷ xs)) × (f z ≡ y)) (sym (cond-false (eqb (f x) y) x (back f xs y) (ne_eqb (f x) y e))) (count_later (back f xs y) x xs ih.0, ih.1))
    (cases_eq (f x) y)

pub stands_by : (f : ℕ → ℕ) (xs : List ℕ) (x : ℕ) → 0 < count x xs → 0 < count (f x) (map f xs)
unfolding count
stands_by f [] x h = absurd (omega arith)
stands_by f (y ∷ ys) x h =
    let ih = stands_by f ys x in
    let here : x ≡ y → f x ≡ f y = λ e. ap f e in
    grind (arith, nat_tests)

module _ {L : Type 0} (m : Model L) (f : ℕ → ℕ) (one : OneToOne f m) where
  pub way_back : (x : ℕ) → Stands m x → back f (ends m) (f x) ≡ x
  way_back x h =
      let found = back_stands f (ends m) (f x) (stands_by f (ends m) x h) in
      one (back f (ends m) (f x)) x found.0 h found.1

  pub turned : Renamed (renamed_by f m) m
  turned =
      let g = back f (ends m) in
      let found = λ (y : ℕ) (h : Stands (renamed_by f m) y). back_stands f (ends m) y (subst (λ t. 0 < count y t) (ends_by f m) h) in
      record {
        to = g;
        one_to_one = λ x y h k e. sym (found x h).1 ∙ ap f e ∙ (found y k).1;
        same = sym (renamed_twice g f m ∙ renamed_agree (λ x. g (f x)) (λ x. x) m way_back ∙ renamed_same m);
      }

pub renamed_equivalence : (L : Type 0) → RenamedEquivalence L
renamed_equivalence L =
    record {
      reflexive = λ m. record { to = λ x. x; one_to_one = λ x y h k e. e; same = sym (renamed_same m) };
      symmetric = λ m n r. subst (λ o. Renamed o m) (sym r.same) (turned m r.to r.one_to_one);
      transitive = λ m n o r s.
          let into = λ (x : ℕ) (h : Stands m x). subst (λ t. Stands t (r.to x)) (sym r.same) (subst (λ t. 0 < count (r.to x) t) (sym (ends_by r.to m)) (stands_by r.to (ends m) x h)) in
          record {
            to = λ x. s.to (r.to x);
            one_to_one = λ x y h k e. r.one_to_one x y h k (s.one_to_one (r.to x) (r.to y) (into x h) (into y k) e);
            same = s.same ∙ ap (renamed_by s.to) r.same ∙ renamed_twice s.to r.to m;
          };
    }
