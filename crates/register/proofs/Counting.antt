-- Atoms counted, and rows that are right for them.
use Rattle.std.proofs.Common.{◌≡◌, Bool, true, false, not, ◌&&◌, eqb, ltb, List, [], ◌∷◌, ◌++◌, sym, refl, ap, ◌∙◌, ⊎_elim}
use Rattle.std.proofs.lemmas.Bool.{and_from, and_parts, both_ways, cases_Bool, cond-false, not-true, or_parts}
use Rattle.label.specs.Kind.{Kind, Lawful}
use Rattle.plan.specs.declared.tables.Census.{Census}
use Rattle.plan.specs.Model.{Node}
use Rattle.std.specs.List.{list_all}
use Rattle.plan.specs.Sound.{alike, atoms_of, registered, row_right}
use Rattle.plan.proofs.Each.{each_append}
use Rattle.plan.proofs.Placing.{alike_turn}

pub each_from : {A : Type 0} (p q : A → Bool) (s : List A) → ((x : A) → p x ≡ true → q x ≡ true) → list_all p s ≡ true → list_all q s ≡ true
each_from p q [] f h = refl
each_from p q (x ∷ s) f h =
    let both = and_parts (p x) (list_all p s) h in and_from (q x) (list_all q s) (f x both.0) (each_from p q s f both.1)

pub each_from_two : {A : Type 0} (p q r : A → Bool) (s : List A) → ((x : A) → p x ≡ true → q x ≡ true → r x ≡ true) → list_all p s ≡ true → list_all q s ≡ true → list_all r s ≡ true
each_from_two p q r [] f h g = refl
each_from_two p q r (x ∷ s) f h g =
    let ps = and_parts (p x) (list_all p s) h in
    let qs = and_parts (q x) (list_all q s) g in
    and_from (r x) (list_all r s) (f x ps.0 qs.0) (each_from_two p q r s f ps.1 qs.1)

pub each_without : {A : Type 0} (p : A → Bool) (xs ys : List A) (a : A) → list_all p (xs ++ (a ∷ ys)) ≡ true → (p a ≡ true) × (list_all p (xs ++ ys) ≡ true)
each_without p xs ys a h =
    let both = and_parts (list_all p xs) (p a && list_all p ys) (sym (each_append p xs (a ∷ ys)) ∙ h) in
    let last = and_parts (p a) (list_all p ys) both.1 in
    (last.0, each_append p xs ys ∙ and_from (list_all p xs) (list_all p ys) both.0 last.1)

pub each_push : {A : Type 0} (p : A → Bool) (xs : List A) (a : A) → list_all p xs ≡ true → p a ≡ true → list_all p (xs ++ (a ∷ [])) ≡ true
each_push p xs a h e = each_append p xs (a ∷ []) ∙ and_from (list_all p xs) (p a && true) h (and_from (p a) true e refl)

module _ {L : Type 0} (k : Kind L) where
  -- rows that have another label than l are as right for atoms that differ in l only
  pub right_still : (l : L) (nodes others : List (Node L)) (rows : List (Census L)) → ((x : L) → alike k x l ≡ false → atoms_of k x others ≡ atoms_of k x nodes) → registered k l rows ≡ false → list_all (row_right k nodes) rows ≡ true → list_all (row_right k others) rows ≡ true
  unfolding registered
  right_still l nodes others [] f no_row h = refl
  right_still l nodes others (c ∷ cs) f no_row h =
      let apart = or_parts (alike k l c.label) (registered k l cs) no_row in
      let both = and_parts (row_right k nodes c) (list_all (row_right k nodes) cs) h in
      let n = f c.label (alike_turn k c.label l ∙ apart.0) in
      and_from (row_right k others c) (list_all (row_right k others) cs)
      (ap (λ n. k.mine c.label && (ltb 0 c.atoms && eqb c.atoms n)) n ∙ both.0)
      (right_still l nodes others cs f apart.1 both.1)

  pub right_mine : (nodes : List (Node L)) (rows : List (Census L)) → list_all (row_right k nodes) rows ≡ true → list_all (λ c. k.mine c.label) rows ≡ true
  right_mine nodes rows =
      each_from (row_right k nodes) (λ c. k.mine c.label) rows (λ c h. (and_parts (k.mine c.label) _ h).0)

  module _ (law : Lawful k) where
    pub alike_same : (a b : L) → k.mine a ≡ true → k.mine b ≡ true → alike k a b ≡ true → a ≡ b
    alike_same a b ma mb e =
        let apart = and_parts (not (k.lower a b)) (not (k.lower b a)) e in
        law.same a b ma mb (not-true (k.lower a b) apart.0) (not-true (k.lower b a) apart.1)

    pub alike_itself : (a : L) → k.mine a ≡ true → alike k a a ≡ true
    alike_itself a m = ap (λ v. not v && not v) (law.not_itself a m)

    -- no atom has a label that is not registered
    pub none_of : (l : L) (rows : List (Census L)) (nodes : List (Node L)) → k.mine l ≡ true → list_all (λ a. k.mine a.label) nodes ≡ true → list_all (λ a. registered k a.label rows) nodes ≡ true → registered k l rows ≡ false → atoms_of k l nodes ≡ 0
    unfolding atoms_of
    none_of l rows [] m ms h f = refl
    none_of l rows (a ∷ nodes) m ms h f =
        let mine = and_parts (k.mine a.label) (list_all (λ a. k.mine a.label) nodes) ms in
        let here = and_parts (registered k a.label rows) (list_all (λ a. registered k a.label rows) nodes) h in
        ⊎_elim
        (λ (t : alike k l a.label ≡ true).
        absurd (both_ways (registered k l rows) f (ap (λ x. registered k x rows) (alike_same l a.label m mine.0 t) ∙ here.0)))
        (λ (e : alike k l a.label ≡ false). cond-false (alike k l a.label) _ _ e ∙ none_of l rows nodes m mine.1 here.1 f)
        (cases_Bool (alike k l a.label))
