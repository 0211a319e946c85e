-- Atoms counted at the rows of their labels.
use Rattle.std.proofs.Common.{◌≡◌, ℕ, suc, ◌+◌, ◌<◌, ◌≤◌, Bool, true, false, cond, ◌&&◌, eqb, ltb, List, [], ◌∷◌, ◌++◌, map, length, get_or, set, take, zip, position, Some, sym, refl, ap, ◌∙◌, ap₂, ⊎_elim, append-nil, arith, length-set, get_or-set_other, get_or-set_same}
use Rattle.std.proofs.lemmas.Bool.{cases_eq, cond-true, cond-false, eq-eqb, ne_eqb}
use Rattle.std.proofs.lemmas.List.{take_all}
use Rattle.std.proofs.lemmas.Grind.{common_steps}
use Rattle.label.specs.Kind.{Kind, Lawful}
use Rattle.plan.specs.declared.tables.Atom.{Atom}
use Rattle.plan.specs.declared.tables.Census.{Census}
use Rattle.plan.specs.Model.{Node, node_of}
use Rattle.plan.specs.Places.{Filed, census_test}
use Rattle.std.specs.List.{list_all}
use Rattle.plan.specs.Sound.{alike, atoms_of, registered}
use Rattle.plan.proofs.Placing.{alone}

cond_turn : (v w : Bool) (n : ℕ) → cond w (suc (cond v (suc n) n)) (cond v (suc n) n) ≡ cond v (suc (cond w (suc n) n)) (cond w (suc n) n)
cond_turn true true n = refl
cond_turn true false n = refl
cond_turn false true n = refl
cond_turn false false n = refl

and_true : (a b : Bool) → b ≡ true → (a && b) ≡ a
and_true true b e = e
and_true false b e = refl

-- each row beside its count
beside : {L : Type 0} (f : Census L → ℕ) (rows : List (Census L)) (counts : List ℕ) → length rows ≤ length counts → ((j : ℕ) (d : Census L) → j < length rows → get_or counts j 0 ≡ f (get_or rows j d)) → list_all (λ p. ltb 0 p.0.atoms && eqb p.0.atoms p.1) (zip rows counts) ≡ list_all (λ c. ltb 0 c.atoms && eqb c.atoms (f c)) rows
beside f [] counts h e = refl
beside f (r ∷ rs) [] h e = absurd (omega arith)
beside f (r ∷ rs) (n ∷ counts) h e =
    ap₂ (λ m t. (ltb 0 r.atoms && eqb r.atoms m) && t) (e 0 r (omega arith))
    (beside f rs counts (omega arith) (λ j d w. e (suc j) d (omega arith)))

module _ {L : Type 0} (k : Kind L) where
  pub atoms_between : (x : L) (xs ys : List (Node L)) (a : Node L) → atoms_of k x (xs ++ (a ∷ ys)) ≡ cond (alike k x a.label) (suc (atoms_of k x (xs ++ ys))) (atoms_of k x (xs ++ ys))
  unfolding atoms_of
  atoms_between x [] ys a = refl
  atoms_between x (b ∷ xs) ys a =
      ap (λ n. cond (alike k x b.label) (suc n) n) (atoms_between x xs ys a)
      ∙ cond_turn (alike k x a.label) (alike k x b.label) (atoms_of k x (xs ++ ys))

  pub atoms_push : (x : L) (xs : List (Node L)) (a : Node L) → atoms_of k x (xs ++ (a ∷ [])) ≡ cond (alike k x a.label) (suc (atoms_of k x xs)) (atoms_of k x xs)
  atoms_push x xs a =
      atoms_between x xs [] a ∙ ap (λ s. cond (alike k x a.label) (suc (atoms_of k x s)) (atoms_of k x s)) (append-nil xs)

  atoms_at_most : (x : L) (xs : List (Node L)) → atoms_of k x xs ≤ length xs
  unfolding atoms_of
  atoms_at_most x [] = omega arith
  atoms_at_most x (a ∷ xs) =
      let ih = atoms_at_most x xs in
      elim (alike k x a.label) as (λ v. cond v (suc (atoms_of k x xs)) (atoms_of k x xs) ≤ suc (length xs)) [ true ↦ omega arith | false ↦ omega arith ]

  -- the counters say how many of the first atoms have the label of each row
  pub record Counts (rows : List (Census L)) (atoms : List (Atom L)) (counts : List ℕ) : Type 0 where
    pub long : length rows ≤ length counts
    pub each : (j : ℕ) (d : Census L) → j < length rows → get_or counts j 0 ≡ atoms_of k (get_or rows j d).label (map node_of atoms)

  pub counts_none : (rows : List (Census L)) (counts : List ℕ) → length rows ≤ length counts → ((j : ℕ) → get_or counts j 0 ≡ 0) → Counts rows [] counts
  unfolding atoms_of
  counts_none rows counts l z = record { long = l; each = λ j d h. z j }

  -- a count is no more than there are atoms
  pub counts_fit : (rows : List (Census L)) (atoms : List (Atom L)) (counts : List ℕ) (i j : ℕ) → Counts rows (take i atoms) counts → i ≤ length atoms → j < length rows → get_or counts j 0 ≤ i
  counts_fit [] atoms counts i j c h w = absurd (omega arith)
  counts_fit (r ∷ rs) atoms counts i j c h w =
      let e = c.each j r w in
      let most = atoms_at_most (get_or (r ∷ rs) j r).label (map node_of (take i atoms)) in
      let n : length (map node_of (take i atoms)) ≡ i = grind (arith, common_steps) in
      omega arith

  -- once all atoms are counted, and each has a row, the rows beside their counts decide
  pub counts_say : (rows : List (Census L)) (atoms : List (Atom L)) (counts : List ℕ) (i : ℕ) → length atoms ≤ i → Counts rows (take i atoms) counts → list_all (λ a. registered k a.label rows) (take i atoms) ≡ true → list_all (λ p. ltb 0 p.0.atoms && eqb p.0.atoms p.1) (zip rows counts) ≡ census_test k atoms rows
  counts_say rows atoms counts i h c listed =
      let all : take i atoms ≡ atoms = take_all i atoms h in
      beside (λ r. atoms_of k r.label (map node_of atoms)) rows counts c.long (λ j d w. c.each j d w ∙ ap (λ s. atoms_of k (get_or rows j d).label (map node_of s)) all)
      ∙ sym (and_true _ _ (ap (list_all (λ a. registered k a.label rows)) (sym all) ∙ listed))

  module _ (law : Lawful k) (rows : List (Census L)) (filed : Filed k rows) where
    pub counts_more : (atoms : List (Atom L)) (counts : List ℕ) (i row : ℕ) (x : Atom L) → k.mine x.label ≡ true → i < length atoms → x ≡ get_or atoms i x → position (λ c. alike k x.label c.label) rows ≡ Some row → Counts rows (take i atoms) counts → Counts rows (take (i + 1) atoms) (set counts row (get_or counts row 0 + 1))
    counts_more atoms counts i row x m h is at c =
        let only = alone k law x.label m rows filed row at in
        let w : row < length counts = omega (arith, only.0, c.long) in
        let nodes = map node_of (take i atoms) in
        let more : map node_of (take (i + 1) atoms) ≡ nodes ++ (node_of x ∷ []) = grind (arith, common_steps) in
        record {
          long = simp length-set c.long;
          each = λ j d v.
              let e = c.each j d v in
              let same = only.1 j d v in
              let count = atoms_push (get_or rows j d).label nodes (node_of x) in
              ⊎_elim
              (λ (t : j ≡ row).
              ap (λ n. get_or (set counts row (get_or counts row 0 + 1)) n 0) t ∙ get_or-set_same counts row (get_or counts row 0 + 1) 0 w
              ∙ ap (λ n. get_or counts n 0 + 1) (sym t) ∙ ap (λ n. n + 1) e
              ∙ sym (ap (atoms_of k (get_or rows j d).label) more ∙ count ∙ cond-true _ _ _ (same ∙ eq-eqb j row t) ∙ omega arith))
              (λ (f : j ≡ row → ⊥).
              get_or-set_other counts row j (get_or counts row 0 + 1) 0 f ∙ e
              ∙ sym (ap (atoms_of k (get_or rows j d).label) more ∙ count ∙ cond-false _ _ _ (same ∙ ne_eqb j row f)))
              (cases_eq j row);
        }
