-- The atoms of a plan with one port more.
use Rattle.std.proofs.Common.{◌≡◌, ℕ, suc, ◌+◌, ◌-◌, ◌<◌, ◌≤◌, Bool, true, cond, ◌&&◌, eqb, ltb, leb, List, [], ◌∷◌, ◌++◌, map, length, sym, refl, ap, ◌∙◌, ap₂, append_assoc, append-nil, arith, length-append}
use Rattle.std.proofs.lemmas.Bool.{and_from, and_parts, eqb-true, le-leb, leb-true}
use Rattle.label.specs.Kind.{Kind}
use Rattle.plan.specs.declared.tables.Census.{Census}
use Rattle.plan.specs.Model.{Node}
use Rattle.std.specs.List.{list_all}
use Rattle.plan.specs.Sound.{alike, ascending, atoms_of, port_links, registered, row_right}
use Rattle.plan.specs.Tests.{register_test}
use Rattle.placing.specs.Placing.{relinked, with_port}

-- the last atom has room for so many ports more
unfoldable pub last_fits : {L : Type 0} → ℕ → List (Node L) → Bool
last_fits p [] = eqb p 0
last_fits p (a ∷ []) = leb (length a.links + p) 8
last_fits p (a ∷ (b ∷ atoms)) = last_fits p (b ∷ atoms)

module _ {L : Type 0} where
  pub fits_new : (atoms : List (Node L)) (l : L) (c : ℕ) → last_fits 8 (atoms ++ (record { label = l; cell = c; links = [] } ∷ [])) ≡ true
  unfolding last_fits
  fits_new [] l c = refl
  fits_new (a ∷ []) l c = refl
  fits_new (a ∷ (b ∷ atoms)) l c = fits_new (b ∷ atoms) l c

  pub fits_none : (atoms : List (Node L)) → list_all (λ a. leb (length a.links) 8) atoms ≡ true → last_fits 0 atoms ≡ true
  unfolding last_fits
  fits_none [] h = refl
  fits_none (a ∷ []) h =
      let e : length a.links + 0 ≡ length a.links = omega arith in
      ap (λ n. leb n 8) e ∙ (and_parts (leb (length a.links) 8) true h).0
  fits_none (a ∷ (b ∷ atoms)) h =
      fits_none (b ∷ atoms) (and_parts (leb (length a.links) 8) (list_all (λ c. leb (length c.links) 8) (b ∷ atoms)) h).1

  pub fits_port : (x p : ℕ) (atoms : List (Node L)) → 0 < p → last_fits p atoms ≡ true → last_fits (p - 1) (with_port x atoms) ≡ true
  unfolding last_fits with_port
  fits_port x p [] l h = let z = eqb-true p 0 h in absurd (omega arith)
  fits_port x p (a ∷ []) l h =
      let n = length-append a.links (x ∷ []) in
      let k = leb-true (length a.links + p) 8 h in
      le-leb (length (a.links ++ (x ∷ [])) + (p - 1)) 8 (omega arith)
  fits_port x p (a ∷ (b ∷ [])) l h = fits_port x p (b ∷ []) l h
  fits_port x p (a ∷ (b ∷ (c ∷ atoms))) l h = fits_port x p (b ∷ (c ∷ atoms)) l h

  pub ports_port : (x p : ℕ) (atoms : List (Node L)) → 0 < p → last_fits p atoms ≡ true → list_all (λ a. leb (length a.links) 8) atoms ≡ true → list_all (λ a. leb (length a.links) 8) (with_port x atoms) ≡ true
  unfolding last_fits with_port
  ports_port x p [] l h e = refl
  ports_port x p (a ∷ []) l h e =
      let n = length-append a.links (x ∷ []) in
      let k = leb-true (length a.links + p) 8 h in
      and_from (leb (length (a.links ++ (x ∷ []))) 8) true (le-leb (length (a.links ++ (x ∷ []))) 8 (omega arith)) refl
  ports_port x p (a ∷ (b ∷ atoms)) l h e =
      let both = and_parts (leb (length a.links) 8) (list_all (λ c. leb (length c.links) 8) (b ∷ atoms)) e in
      and_from (leb (length a.links) 8) _ both.0 (ports_port x p (b ∷ atoms) l h both.1)

  -- a test that does not look at the links
  pub each_port : (q : Node L → Bool) (x : ℕ) (atoms : List (Node L)) → ((a : Node L) (links : List ℕ) → q (record { label = a.label; cell = a.cell; links = links }) ≡ q a) → list_all q (with_port x atoms) ≡ list_all q atoms
  unfolding with_port
  each_port q x [] w = refl
  each_port q x (a ∷ []) w = ap (λ b. b && true) (w a (a.links ++ (x ∷ [])))
  each_port q x (a ∷ (b ∷ atoms)) w = ap (λ v. q a && v) (each_port q x (b ∷ atoms) w)

  pub links_port : (x p : ℕ) (atoms : List (Node L)) → 0 < p → last_fits p atoms ≡ true → port_links (with_port x atoms) ≡ port_links atoms ++ (x ∷ [])
  unfolding with_port last_fits port_links
  links_port x p [] l h = let z = eqb-true p 0 h in absurd (omega arith)
  links_port x p (a ∷ []) l h = append-nil (a.links ++ (x ∷ [])) ∙ sym (ap (λ t. t ++ (x ∷ [])) (append-nil a.links))
  links_port x p (a ∷ (b ∷ atoms)) l h =
      ap (λ t. a.links ++ t) (links_port x p (b ∷ atoms) l h) ∙ sym (append_assoc a.links (port_links (b ∷ atoms)) (x ∷ []))

  pub length_port : (x : ℕ) (atoms : List (Node L)) → length (with_port x atoms) ≡ length atoms
  unfolding with_port
  length_port x [] = refl
  length_port x (a ∷ []) = refl
  length_port x (a ∷ (b ∷ atoms)) = ap suc (length_port x (b ∷ atoms))

  pub links_new : (atoms : List (Node L)) (l : L) (c : ℕ) → port_links (atoms ++ (record { label = l; cell = c; links = [] } ∷ [])) ≡ port_links atoms
  unfolding port_links
  links_new [] l c = refl
  links_new (a ∷ atoms) l c = ap (λ t. a.links ++ t) (links_new atoms l c)

  -- at most eight ports an atom
  pub few_links : (atoms : List (Node L)) → list_all (λ a. leb (length a.links) 8) atoms ≡ true → length (port_links atoms) ≤ length atoms + length atoms + length atoms + length atoms + length atoms + length atoms + length atoms + length atoms
  unfolding port_links
  few_links [] h = omega arith
  few_links (a ∷ atoms) h =
      let both = and_parts (leb (length a.links) 8) (list_all (λ c. leb (length c.links) 8) atoms) h in
      let k = leb-true (length a.links) 8 both.0 in
      let n = length-append a.links (port_links atoms) in
      let ih = few_links atoms both.1 in
      omega arith

  module _ (k : Kind L) where
    atoms_port : (l : L) (x : ℕ) (atoms : List (Node L)) → atoms_of k l (with_port x atoms) ≡ atoms_of k l atoms
    unfolding with_port atoms_of
    atoms_port l x [] = refl
    atoms_port l x (a ∷ []) = refl
    atoms_port l x (a ∷ (b ∷ atoms)) = ap (λ n. cond (alike k l a.label) (suc n) n) (atoms_port l x (b ∷ atoms))

    atoms_relinked : (l : L) (b : List ℕ) (atoms : List (Node L)) → atoms_of k l (map (relinked b) atoms) ≡ atoms_of k l atoms
    unfolding atoms_of
    atoms_relinked l b [] = refl
    atoms_relinked l b (a ∷ atoms) = ap (λ n. cond (alike k l a.label) (suc n) n) (atoms_relinked l b atoms)

    rows_same : (nodes others : List (Node L)) (rs : List (Census L)) → ((l : L) → atoms_of k l nodes ≡ atoms_of k l others) → list_all (row_right k nodes) rs ≡ list_all (row_right k others) rs
    rows_same nodes others [] h = refl
    rows_same nodes others (c ∷ cs) h =
        ap₂ (λ n v. (k.mine c.label && (ltb 0 c.atoms && eqb c.atoms n)) && v) (h c.label) (rows_same nodes others cs h)

    each_relinked : (q : Node L → Bool) (b : List ℕ) (atoms : List (Node L)) → ((a : Node L) → q (relinked b a) ≡ q a) → list_all q (map (relinked b) atoms) ≡ list_all q atoms
    each_relinked q b [] w = refl
    each_relinked q b (a ∷ atoms) w = ap₂ ◌&&◌ (w a) (each_relinked q b atoms w)

    pub register_port : (x : ℕ) (atoms : List (Node L)) (rs : List (Census L)) → register_test k (with_port x atoms) rs ≡ register_test k atoms rs
    register_port x atoms rs =
        ap₂ (λ u v. ascending k rs && (u && v)) (rows_same (with_port x atoms) atoms rs (λ l. atoms_port l x atoms))
        (each_port (λ a. registered k a.label rs) x atoms (λ a links. refl))

    pub register_relinked : (b : List ℕ) (atoms : List (Node L)) (rs : List (Census L)) → register_test k (map (relinked b) atoms) rs ≡ register_test k atoms rs
    register_relinked b atoms rs =
        ap₂ (λ u v. ascending k rs && (u && v)) (rows_same (map (relinked b) atoms) atoms rs (λ l. atoms_relinked l b atoms))
        (each_relinked (λ a. registered k a.label rs) b atoms (λ a. refl))
