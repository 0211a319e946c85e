-- The rows of labels in a register that ascends.
use Rattle.std.proofs.Common.{◌≡◌, ℕ, zero, suc, ◌+◌, ◌<◌, ◌≤◌, Bool, true, false, cond, not, ◌&&◌, ◌||◌, eqb, ltb, List, [], ◌∷◌, length, get_or, Result, Ok, Err, Some, None, is_some, position, Ordering, Less, Equal, Greater, sym, refl, ap, ◌∙◌, ⊎_elim, arith, add-one}
use Rattle.std.specs.Result.{result_ok}
use Rattle.std.specs.Ordering.{ordering_index}
use Rattle.std.specs.List.{IsAllAdjacentAnswer, list_all, position_or_len, prefix_len}
use Rattle.std.specs.List.Sorted.{IsBinarySearchResult, IsNonDecreasingBy, IsPartitionPoint, IsSearchInRange}
use Rattle.std.proofs.lemmas.List.Quantifiers.{position-Some}
use Rattle.std.proofs.lemmas.List.Sums.{AllPass-from_list_all, prefix_len_is}
use Rattle.std.proofs.lemmas.Bool.{and_from, and_parts, and_right, cases_Bool, cases_eq, cases_lt, eq-eqb, le-ltb, lt-ltb, ne_eqb, not-true}
use Rattle.std.proofs.lemmas.Bool.Decides.{nat_tests}
use Rattle.label.specs.Kind.{Kind, Lawful, compared}
use Rattle.plan.specs.declared.tables.Census.{Census}
use Rattle.plan.specs.Places.{Filed}
use Rattle.plan.specs.Sound.{alike, ascending, first_above, registered}

and_turn : (a b : Bool) → (a && b) ≡ (b && a)
and_turn true true = refl
and_turn true false = refl
and_turn false true = refl
and_turn false false = refl

-- what an answer of a comparison says
less_says : (x y : Bool) → cond x Less (cond y Greater Equal) ≡ Less → x ≡ true
less_says true y h = refl
less_says false true h = cc
less_says false false h = cc

greater_says : (x y : Bool) → cond x Less (cond y Greater Equal) ≡ Greater → (x ≡ false) × (y ≡ true)
greater_says true y h = cc
greater_says false true h = (refl, refl)
greater_says false false h = cc

equal_says : (x y : Bool) → cond x Less (cond y Greater Equal) ≡ Equal → (x ≡ false) × (y ≡ false)
equal_says true y h = cc
equal_says false true h = cc
equal_says false false h = (refl, refl)

index_at_most : (o : Ordering) → ordering_index o ≤ 2
index_at_most Less = omega arith
index_at_most Equal = omega arith
index_at_most Greater = omega arith

-- where a test stops passing, and where it passes at nothing
prefix_at : {A : Type 0} (p : A → Bool) (s : List A) (i : ℕ) → i ≤ length s → ((j : ℕ) (d : A) → j < i → p (get_or s j d) ≡ true) → ((d : A) → i < length s → p (get_or s i d) ≡ false) → prefix_len p s ≡ i
prefix_at p [] i h passes stops = omega arith
prefix_at p (x ∷ s) i h passes stops = prefix_len_is p (x ∷ s) i x h (λ j w. passes j x w) (stops x)

none_there : {A : Type 0} (p : A → Bool) (s : List A) → ((j : ℕ) (d : A) → j < length s → p (get_or s j d) ≡ false) → position p s ≡ None
none_there p s fails =
    let n = prefix_at (λ x. not (p x)) s (length s) (omega arith) (λ j d w. ap not (fails j d w)) (λ d w. absurd (omega arith)) in
    rw (n, le-ltb (length s) (length s) (omega arith)) refl

some_row : {A : Type 0} (s : List A) → 0 < length s → A
some_row [] h = absurd (omega arith)
some_row (x ∷ s) h = x

module _ {L : Type 0} (k : Kind L) where
  pub alike_turn : (a b : L) → alike k a b ≡ alike k b a
  alike_turn a b = and_turn (not (k.lower a b)) (not (k.lower b a))

  lower_other : (a b : L) → k.lower a b ≡ true → alike k a b ≡ false
  lower_other a b h = ap (λ v. not v && not (k.lower b a)) h

  registered_any : (l : L) (rows : List (Census L)) → registered k l rows ≡ ltb (position_or_len (λ c. alike k l c.label) rows) (length rows)
  unfolding registered
  registered_any l [] = refl
  registered_any l (r ∷ rs) =
      elim (alike k l r.label) as (λ v. (v || registered k l rs) ≡ ltb (cond (not v) (1 + position_or_len (λ c. alike k l c.label) rs) 0) (suc (length rs))) [
        | true ↦ sym (lt-ltb 0 (suc (length rs)) (omega arith))
        | false ↦ let ih = registered_any l rs in grind (arith, nat_tests)
      ]

  pub registered_position : (l : L) (rows : List (Census L)) → registered k l rows ≡ is_some (position (λ c. alike k l c.label) rows)
  registered_position l rows =
      let n = position_or_len (λ c. alike k l c.label) rows in
      registered_any l rows ∙ elim (ltb n (length rows)) as (λ v. v ≡ is_some (cond v (Some n) None)) [ true ↦ refl | false ↦ refl ]

  -- what `is_sorted_by` says of neighbours
  neighbours_rise : (rows : List (Census L)) → ((j : ℕ) (d : Census L) → suc j < length rows → true ≡ k.lower (get_or rows j d).label (get_or rows (suc j) d).label) → ascending k rows ≡ true
  unfolding ascending
  neighbours_rise [] h = refl
  neighbours_rise (c ∷ []) h = refl
  neighbours_rise (c ∷ d ∷ rows) h =
      and_from (k.lower c.label d.label) _ (sym (h 0 c (omega arith))) (neighbours_rise (d ∷ rows) (λ j x w. h (suc j) x (omega arith)))

  neighbours_fall : (rows : List (Census L)) (j : ℕ) → suc j < length rows → ((x : Census L) → false ≡ k.lower (get_or rows j x).label (get_or rows (suc j) x).label) → ascending k rows ≡ false
  unfolding ascending
  neighbours_fall [] j w h = absurd (omega arith)
  neighbours_fall (c ∷ []) j w h = absurd (omega arith)
  neighbours_fall (c ∷ d ∷ rows) zero w h = ap (λ v. v && ascending k (d ∷ rows)) (sym (h c))
  neighbours_fall (c ∷ d ∷ rows) (suc j) w h = and_right (k.lower c.label d.label) _ (neighbours_fall (d ∷ rows) j (omega arith) h)

  pub neighbours : (rows : List (Census L)) (r : Bool) → IsAllAdjacentAnswer (λ c d b. b ≡ k.lower c.label d.label) rows r → r ≡ ascending k rows
  neighbours rows true h = sym (neighbours_rise rows (λ j d w. rw add-one at (h j d (omega arith))))
  neighbours rows false h = sym (neighbours_fall rows h.0 (omega (arith, h.1)) (λ d. rw add-one at (h.2 d)))

  module _ (law : Lawful k) where
    above_more : (l : L) (r : Census L) (rs : List (Census L)) → k.mine l ≡ true → k.mine r.label ≡ true → list_all (λ c. k.mine c.label) rs ≡ true → k.lower l r.label ≡ true → first_above k r.label rs ≡ true → first_above k l rs ≡ true
    above_more l r [] m mr ms a b = refl
    above_more l r (x ∷ rs) m mr ms a b = law.onward l r.label x.label m mr (and_parts _ _ ms).0 a b

    -- a label lower than the first row's has no row
    pub unregistered : (l : L) (rows : List (Census L)) → k.mine l ≡ true → list_all (λ c. k.mine c.label) rows ≡ true → ascending k rows ≡ true → first_above k l rows ≡ true → registered k l rows ≡ false
    unfolding registered ascending
    unregistered l [] m ms h f = refl
    unregistered l (r ∷ rs) m ms h f =
        let ok = and_parts (k.mine r.label) (list_all (λ c. k.mine c.label) rs) ms in
        let up = and_parts (first_above k r.label rs) (ascending k rs) h in
        ap (λ v. v || registered k l rs) (lower_other l r.label f)
        ∙ unregistered l rs m ok.1 up.1 (above_more l r rs m ok.0 ok.1 f up.0)

    -- each row is above the first
    above_all : (r : Census L) (rs : List (Census L)) (i : ℕ) (d : Census L) → k.mine r.label ≡ true → list_all (λ c. k.mine c.label) rs ≡ true → first_above k r.label rs ≡ true → ascending k rs ≡ true → i < length rs → k.lower r.label (get_or rs i d).label ≡ true
    unfolding ascending
    above_all r [] i d mr ms f h n = absurd (omega arith)
    above_all r (y ∷ rs) zero d mr ms f h n = f
    above_all r (y ∷ rs) (suc i) d mr ms f h n =
        let ok = and_parts (k.mine y.label) (list_all (λ c. k.mine c.label) rs) ms in
        let up = and_parts (first_above k y.label rs) (ascending k rs) h in
        let there = AllPass-from_list_all (λ c. k.mine c.label) rs ok.1 i d (omega arith) in
        law.onward r.label y.label (get_or rs i d).label mr ok.0 there f (above_all y rs i d ok.0 ok.1 up.0 up.1 (omega arith))

    -- and each above those before it
    rising : (rows : List (Census L)) (i j : ℕ) (d : Census L) → list_all (λ c. k.mine c.label) rows ≡ true → ascending k rows ≡ true → i < j → j < length rows → k.lower (get_or rows i d).label (get_or rows j d).label ≡ true
    unfolding ascending
    rising [] i j d ms h a b = absurd (omega arith)
    rising (r ∷ rs) i zero d ms h a b = absurd (omega arith)
    rising (r ∷ rs) zero (suc j) d ms h a b =
        let ok = and_parts (k.mine r.label) (list_all (λ c. k.mine c.label) rs) ms in
        let up = and_parts (first_above k r.label rs) (ascending k rs) h in
        above_all r rs j d ok.0 ok.1 up.0 up.1 (omega arith)
    rising (r ∷ rs) (suc i) (suc j) d ms h a b =
        rising rs i j d (and_parts (k.mine r.label) _ ms).1 (and_parts (first_above k r.label rs) (ascending k rs) h).1 (omega arith) (omega arith)

    module _ (l : L) (m : k.mine l ≡ true) where
      -- what is above a label that is not lower than l is above l
      above_too : (a b : L) → k.mine a ≡ true → k.mine b ≡ true → k.lower a b ≡ true → k.lower a l ≡ false → k.lower l b ≡ true
      above_too a b ma mb up f =
          ⊎_elim (λ (t : k.lower l a ≡ true). law.onward l a b m ma mb t up)
          (λ (g : k.lower l a ≡ false). ap (λ x. k.lower x b) (law.same l a m ma g f) ∙ up)
          (cases_Bool (k.lower l a))

      carried : (a b : L) → k.mine a ≡ true → k.mine b ≡ true → k.lower a b ≡ true → ordering_index (compared k.lower a l) ≤ ordering_index (compared k.lower b l)
      carried a b ma mb up =
          ⊎_elim (λ (t : k.lower a l ≡ true). rw (t) (omega arith))
          (λ (f : k.lower a l ≡ false).
          let g = above_too a b ma mb up f in
          let n = law.one_way l b m mb g in
          let top : compared k.lower b l ≡ Greater = rw (n, g) refl in
          let most = index_at_most (compared k.lower a l) in
          rw (top) most)
          (cases_Bool (k.lower a l))

      module _ (rows : List (Census L)) (filed : Filed k rows) where
        mine_at : (i : ℕ) (d : Census L) → i < length rows → k.mine (get_or rows i d).label ≡ true
        mine_at i d h = AllPass-from_list_all (λ c. k.mine c.label) rows filed.known i d h

        searchable : IsNonDecreasingBy (λ c. ordering_index (compared k.lower c.label l)) rows
        searchable i j d le h =
            ⊎_elim (λ (e : i ≡ j). rw (e) (omega arith))
            (λ (e : i ≡ j → ⊥). carried (get_or rows i d).label (get_or rows j d).label (mine_at i d (omega arith)) (mine_at j d h) (rising rows i j d filed.known filed.order (omega arith) h))
            (cases_eq i j)

        -- a row that a search meets is the label's, and as many rows are lower as stand before it
        met : (i : ℕ) (d : Census L) → i < length rows → compared k.lower (get_or rows i d).label l ≡ Equal → (position (λ c. alike k l c.label) rows ≡ Some i) × (prefix_len (λ c. k.lower c.label l) rows ≡ i)
        met i d h e =
            let x = get_or rows i d in
            let no = equal_says (k.lower x.label l) (k.lower l x.label) e in
            let same : x.label ≡ l = law.same x.label l (mine_at i d h) m no.0 no.1 in
            let low : (j : ℕ) → j < i → k.lower (get_or rows j d).label l ≡ true = λ j w. ap (k.lower (get_or rows j d).label) (sym same) ∙ rising rows j i d filed.known filed.order w h in
            let n = prefix_len_is (λ c. not (alike k l c.label)) rows i d (omega arith)
            (λ j w. ap not (alike_turn l (get_or rows j d).label ∙ lower_other (get_or rows j d).label l (low j w)))
            (λ _. rw (no.0, no.1) refl) in
            (rw (n, lt-ltb i (length rows) h) refl, prefix_len_is (λ c. k.lower c.label l) rows i d (omega arith) low (λ _. no.0))

        -- where it meets none there is none, and the rows before the place that it gives are the lower ones
        missed : (i : ℕ) → i ≤ length rows → IsPartitionPoint (λ c. compared k.lower c.label l ≡ Less) (λ c. compared k.lower c.label l ≡ Greater) rows i → (position (λ c. alike k l c.label) rows ≡ None) × (prefix_len (λ c. k.lower c.label l) rows ≡ i)
        missed i h point =
            let low : (j : ℕ) (d : Census L) → j < i → k.lower (get_or rows j d).label l ≡ true = λ j d w. less_says _ _ (point.0 j d (omega arith) w) in
            let high : (j : ℕ) (d : Census L) → i ≤ j → j < length rows → (k.lower (get_or rows j d).label l ≡ false) × (k.lower l (get_or rows j d).label ≡ true) = λ j d w v. greater_says _ _ (point.1 j d w v) in (
              none_there (λ c. alike k l c.label) rows (λ j d w.
                  ⊎_elim (λ (a : j < i). alike_turn l (get_or rows j d).label ∙ lower_other (get_or rows j d).label l (low j d a))
                  (λ (b : i ≤ j). lower_other l (get_or rows j d).label (high j d b w).1)
                  (cases_lt j i)),
              prefix_at (λ c. k.lower c.label l) rows i h low (λ d w. (high i d (omega arith) w).0),
            )

        pub found_row : (r : Result ℕ ℕ) → IsSearchInRange r (length rows) → IsBinarySearchResult (λ c. compared k.lower c.label l) rows r → result_ok r ≡ position (λ c. alike k l c.label) rows
        found_row (Ok i) h s = let d = some_row rows (omega arith) in sym (met i d h (s d)).0
        found_row (Err i) h s = sym (missed i h (s searchable)).0

        -- the row of a label, or the place of a row for it
        pub sought_row : (r : Result ℕ ℕ) → IsSearchInRange r (length rows) → IsBinarySearchResult (λ c. compared k.lower c.label l) rows r → r ≡ cond (registered k l rows) (Ok (prefix_len (λ c. k.lower c.label l) rows)) (Err (prefix_len (λ c. k.lower c.label l) rows))
        sought_row (Ok i) h s =
            let d = some_row rows (omega arith) in
            let here = met i d h (s d) in
            let there : registered k l rows ≡ true = registered_position l rows ∙ ap is_some here.0 in
            rw (there, here.1) refl
        sought_row (Err i) h s =
            let gone = missed i h (s searchable) in
            let none : registered k l rows ≡ false = registered_position l rows ∙ ap is_some gone.0 in
            rw (none, gone.1) refl

        -- no row but the one found is the label's
        pub alone : (i : ℕ) → position (λ c. alike k l c.label) rows ≡ Some i → (i < length rows) × ((j : ℕ) (d : Census L) → j < length rows → alike k (get_or rows j d).label l ≡ eqb j i)
        alone i e =
            let at : (d : Census L) → (i < length rows) × (alike k l (get_or rows i d).label ≡ true) × ((j : ℕ) → j < i → alike k l (get_or rows j d).label ≡ false) = λ d. position-Some (λ c. alike k l c.label) rows i d e in
            let inside : i < length rows = row_found rows e in (
              inside,
              λ j d w.
                  let here = at d in
                  let no = and_parts (not (k.lower l (get_or rows i d).label)) (not (k.lower (get_or rows i d).label l)) here.1 in
                  let same : l ≡ (get_or rows i d).label = law.same l (get_or rows i d).label m (mine_at i d inside) (not-true _ no.0) (not-true _ no.1) in
                  alike_turn (get_or rows j d).label l
                  ∙ ⊎_elim (λ (a : j < i). here.2 j a ∙ sym (ne_eqb j i (λ e. omega (arith, a))))
                  (λ (b : i ≤ j).
                  ⊎_elim (λ (e : j ≡ i). ap (λ n. alike k l (get_or rows n d).label) e ∙ here.1 ∙ sym (eq-eqb j i e))
                  (λ (f : j ≡ i → ⊥).
                  lower_other l (get_or rows j d).label (ap (λ x. k.lower x (get_or rows j d).label) same ∙ rising rows i j d filed.known filed.order (omega arith) w) ∙ sym (ne_eqb j i f))
                  (cases_eq j i))
                  (cases_lt j i),
            )
          where
            row_found : (rows : List (Census L)) → position (λ c. alike k l c.label) rows ≡ Some i → i < length rows
            row_found [] e = cc
            row_found (r ∷ rs) e = (position-Some (λ c. alike k l c.label) (r ∷ rs) i r e).0
