-- A right register is determined by the numbers of atoms.
use Rattle.std.proofs.Common.{◌≡◌, ℕ, suc, ◌<◌, true, false, cond, not, ◌&&◌, eqb, ltb, ◌⊎◌, List, [], ◌∷◌, sym, refl, ap, ◌∙◌, subst, ap₂, inl, inr, ⊎_elim, arith}
use Rattle.std.proofs.lemmas.Bool.{and_parts, or_cases, cases_Bool, both_ways, not-true, eqb-true, ltb-true}
use Rattle.label.specs.Kind.{Kind, Lawful}
use Rattle.plan.specs.declared.tables.Census.{Census}
use Rattle.plan.specs.Model.{Node}
use Rattle.std.specs.List.{list_all}
use Rattle.plan.specs.Sound.{alike, ascending, atoms_of, first_above, registered, row_right}

module _ {L : Type 0} (k : Kind L) (law : Lawful k) where
  alike_same : (a b : L) → k.mine a ≡ true → k.mine b ≡ true → alike k a b ≡ true → a ≡ b
  alike_same a b p q h =
      let both = and_parts (not (k.lower a b)) (not (k.lower b a)) h in
      law.same a b p q (not-true (k.lower a b) both.0) (not-true (k.lower b a) both.1)

  -- the register has a label: some row is of it
  abbrev Has : L → List (Census L) → Type 0
  Has l [] = ⊥
  Has l (c ∷ cs) = (l ≡ c.label) ⊎ Has l cs

  -- what is asked of the rows, for a number of each label
  abbrev Rows : (L → ℕ) → List (Census L) → Type 0
  Rows n [] = Unit {0}
  Rows n (c ∷ cs) = (k.mine c.label ≡ true) × ((0 < c.atoms) × ((c.atoms ≡ n c.label) × Rows n cs))

  -- a label is lower than those of all rows
  abbrev Under : L → List (Census L) → Type 0
  Under l [] = Unit {0}
  Under l (c ∷ cs) = (k.lower l c.label ≡ true) × Under l cs

  under_not : (n : L → ℕ) (l : L) (cs : List (Census L)) → Rows n cs → k.mine l ≡ true → Under l cs → Has l cs → ⊥
  under_not n l [] r m u h = h
  under_not n l (c ∷ cs) r m u h =
      ⊎_elim
      (λ (e : l ≡ c.label). both_ways (k.lower l l) (law.not_itself l m) (ap (k.lower l) e ∙ u.0))
      (λ (i : Has l cs). under_not n l cs r.1.1.1 m u.1 i)
      h

  under_all : (n : L → ℕ) (l : L) (cs : List (Census L)) → Rows n cs → k.mine l ≡ true → first_above k l cs ≡ true → ascending k cs ≡ true → Under l cs
  unfolding ascending
  under_all n l [] r m a s = tt
  under_all n l (c ∷ cs) r m a s =
      let both = and_parts (first_above k c.label cs) (ascending k cs) s in
      (a, under_lower n l c.label cs r m r.0 r.1.1.1 a (under_all n c.label cs r.1.1.1 r.0 both.0 both.1))
    where
      under_lower : (n : L → ℕ) (l q : L) (ds : List (Census L)) → Rows n (c ∷ cs) → k.mine l ≡ true → k.mine q ≡ true → Rows n ds → k.lower l q ≡ true → Under q ds → Under l ds
      under_lower n l q [] z m p r a u = tt
      under_lower n l q (d ∷ ds) z m p r a u = (law.onward l q d.label m p r.0 a u.0, under_lower n l q ds z m p r.1.1.1 a u.1)

  -- rows of one have their labels among the others'
  abbrev Within : List (Census L) → List (Census L) → Type 0
  Within [] ds = Unit {0}
  Within (c ∷ cs) ds = Has c.label ds × Within cs ds

  -- past a lower row
  within_past : (n : L → ℕ) (d : Census L) (cs ds : List (Census L)) → Rows n cs → k.mine d.label ≡ true → Under d.label cs → Within cs (d ∷ ds) → Within cs ds
  within_past n d [] ds r m u w = tt
  within_past n d (c ∷ cs) ds r m u w = (
    ⊎_elim
        (λ (e : c.label ≡ d.label). absurd (both_ways (k.lower d.label d.label) (law.not_itself d.label m) (ap (k.lower d.label) (sym e) ∙ u.0)))
        (λ (h : Has c.label ds). h)
        w.0,
    within_past n d cs ds r.1.1.1 m u.1 w.1,
  )

  same_row : (c d : Census L) → c.label ≡ d.label → c.atoms ≡ d.atoms → c ≡ d
  same_row c d e f = ap₂ (λ l n. record { label = l; atoms = n }) e f

  pub same_rows : (n : L → ℕ) (cs ds : List (Census L)) → Rows n cs → Rows n ds → ascending k cs ≡ true → ascending k ds ≡ true → Within cs ds → Within ds cs → cs ≡ ds
  unfolding ascending
  same_rows n [] [] r s a b u v = refl
  same_rows n [] (d ∷ ds) r s a b u v = absurd v.0
  same_rows n (c ∷ cs) [] r s a b u v = absurd u.0
  same_rows n (c ∷ cs) (d ∷ ds) r s a b u v =
      let p = and_parts (first_above k c.label cs) (ascending k cs) a in
      let q = and_parts (first_above k d.label ds) (ascending k ds) b in
      let x = under_all n c.label cs r.1.1.1 r.0 p.0 p.1 in
      let y = under_all n d.label ds s.1.1.1 s.0 q.0 q.1 in
      let e : c.label ≡ d.label =
      ⊎_elim
      (λ (e : c.label ≡ d.label). e)
      (λ (h : Has c.label ds).
      ⊎_elim
      (λ (e : d.label ≡ c.label). sym e)
      (λ (i : Has d.label cs). absurd (both_ways (k.lower c.label d.label) (law.one_way d.label c.label s.0 r.0 (under_has d.label c.label ds y h)) (under_has c.label d.label cs x i)))
      v.0)
      u.0 in
      ap₂ (λ z zs. z ∷ zs) (same_row c d e (r.1.1.0 ∙ (ap n e ∙ sym s.1.1.0)))
      (same_rows n cs ds r.1.1.1 s.1.1.1 p.1 q.1
      (within_past n d cs ds r.1.1.1 s.0 (under_of cs e x) u.1)
      (within_past n c ds cs s.1.1.1 r.0 (under_of ds (sym e) y) v.1))
    where
      under_has : (l q : L) (es : List (Census L)) → Under l es → Has q es → k.lower l q ≡ true
      under_has l q [] w h = absurd h
      under_has l q (z ∷ es) w h = ⊎_elim (λ (e : q ≡ z.label). ap (k.lower l) e ∙ w.0) (λ (i : Has q es). under_has l q es w.1 i) h

      under_of : {l q : L} (es : List (Census L)) → l ≡ q → Under l es → Under q es
      under_of es e w = subst (λ l. Under l es) e w

  -- a right register

  rows_of : (nodes : List (Node L)) (cs : List (Census L)) → list_all (row_right k nodes) cs ≡ true → Rows (λ l. atoms_of k l nodes) cs
  rows_of nodes [] h = tt
  rows_of nodes (c ∷ cs) h =
      let both = and_parts (row_right k nodes c) (list_all (row_right k nodes) cs) h in
      let mine = and_parts (k.mine c.label) (ltb 0 c.atoms && eqb c.atoms (atoms_of k c.label nodes)) both.0 in
      let rest = and_parts (ltb 0 c.atoms) (eqb c.atoms (atoms_of k c.label nodes)) mine.1 in
      (mine.0, (ltb-true 0 c.atoms rest.0, (eqb-true c.atoms (atoms_of k c.label nodes) rest.1, rows_of nodes cs both.1)))

  has_of : (n : L → ℕ) (l : L) (cs : List (Census L)) → k.mine l ≡ true → Rows n cs → registered k l cs ≡ true → Has l cs
  unfolding registered
  has_of n l [] m r h = both_ways false refl h
  has_of n l (c ∷ cs) m r h =
      ⊎_elim
      (λ (e : alike k l c.label ≡ true). inl (alike_same l c.label m r.0 e))
      (λ (e : registered k l cs ≡ true). inr (has_of n l cs m r.1.1.1 e))
      (or_cases (alike k l c.label) (registered k l cs) h)

  -- a label that some atom has is in a complete register
  found : (n : L → ℕ) (l : L) (nodes : List (Node L)) (cs : List (Census L)) → k.mine l ≡ true → list_all (λ a. k.mine a.label) nodes ≡ true → list_all (λ a. registered k a.label cs) nodes ≡ true → Rows n cs → 0 < atoms_of k l nodes → Has l cs
  unfolding atoms_of
  found n l [] cs m g h r s = absurd (omega arith)
  found n l (a ∷ nodes) cs m g h r s =
      let mines = and_parts (k.mine a.label) (list_all (λ a. k.mine a.label) nodes) g in
      let both = and_parts (registered k a.label cs) (list_all (λ a. registered k a.label cs) nodes) h in
      ⊎_elim
      (λ (e : alike k l a.label ≡ true). has_of n l cs m r (ap (λ l. registered k l cs) (alike_same l a.label m mines.0 e) ∙ both.0))
      (λ (e : alike k l a.label ≡ false). found n l nodes cs m mines.1 both.1 r (subst (λ v. 0 < cond v (suc (atoms_of k l nodes)) (atoms_of k l nodes)) e s))
      (cases_Bool (alike k l a.label))

  within : (n : L → ℕ) (nodes : List (Node L)) (cs ds : List (Census L)) → ((l : L) → atoms_of k l nodes ≡ n l) → list_all (λ a. k.mine a.label) nodes ≡ true → list_all (λ a. registered k a.label ds) nodes ≡ true → Rows n cs → Rows n ds → Within cs ds
  within n nodes [] ds e g h r s = tt
  within n nodes (c ∷ cs) ds e g h r s =
      let some = r.1.0 in
      let is = r.1.1.0 in
      let there = e c.label in
      (found n c.label nodes ds r.0 g h s (omega arith), within n nodes cs ds e g h r.1.1.1 s)

  rows_alike : (n p : L → ℕ) (cs : List (Census L)) → ((l : L) → n l ≡ p l) → Rows n cs → Rows p cs
  rows_alike n p [] e r = tt
  rows_alike n p (c ∷ cs) e r = (r.0, (r.1.0, (r.1.1.0 ∙ e c.label, rows_alike n p cs e r.1.1.1)))

  pub same_register : (xs ys : List (Node L)) (cs ds : List (Census L)) → ((l : L) → atoms_of k l xs ≡ atoms_of k l ys)
      → list_all (λ a. k.mine a.label) xs ≡ true → list_all (λ a. k.mine a.label) ys ≡ true
      → (ascending k cs && (list_all (row_right k xs) cs && list_all (λ a. registered k a.label cs) xs)) ≡ true
      → (ascending k ds && (list_all (row_right k ys) ds && list_all (λ a. registered k a.label ds) ys)) ≡ true
      → cs ≡ ds
  same_register xs ys cs ds e g h a b =
      let n : L → ℕ = λ l. atoms_of k l xs in
      let p = and_parts (ascending k cs) (list_all (row_right k xs) cs && list_all (λ a. registered k a.label cs) xs) a in
      let q = and_parts (list_all (row_right k xs) cs) (list_all (λ a. registered k a.label cs) xs) p.1 in
      let r = and_parts (ascending k ds) (list_all (row_right k ys) ds && list_all (λ a. registered k a.label ds) ys) b in
      let s = and_parts (list_all (row_right k ys) ds) (list_all (λ a. registered k a.label ds) ys) r.1 in
      let u : Rows n cs = rows_of xs cs q.0 in
      let v : Rows n ds = rows_alike (λ l. atoms_of k l ys) n ds (λ l. sym (e l)) (rows_of ys ds s.0) in
      same_rows n cs ds u v p.0 r.0 (within n ys cs ds (λ l. sym (e l)) h s.1 u v) (within n xs ds cs (λ l. refl) g q.1 v u)
