-- The two parts of a cut.
use Rattle.std.proofs.Common.{◌≡◌, ℕ, suc, ◌+◌, ◌-◌, Bool, true, false, cond, eqb, ltb, not, ◌⊎◌, Some, None, List, [], ◌∷◌, ◌++◌, length, get_or, take, drop, sym, refl, ap, ◌∙◌, inl, inr, arith, eqb-true, length-drop}
use borrow.Author.Tests.{eqb-false, ltb-true, ltb-false}
use Rattle.std.specs.List.{position, position_or_len}
use Rattle.std.proofs.lemmas.List.{take_all, drop_all, get_or-take}
use Rattle.std.proofs.lemmas.List.Sums.{fails_before_first, passes_at_first, split_at_first}
use Rattle.std.proofs.lemmas.List.Folds.{length-prefix_len}
use Rattle.bigvosk.specs.Cuts.{before, past, Free, CutAt}

module _ (m : ℕ) where
  abbrev At : ℕ → Bool
  At b = eqb b m

  -- by a text's first byte
  take_turn : (t : Bool) (n b : ℕ) (bs : List ℕ) → take (cond (not t) (1 + n) 0) (b ∷ bs) ≡ cond t [] (b ∷ take n bs)
  take_turn true n b bs = refl
  take_turn false n b bs = let e : 1 + n ≡ suc n = omega arith in ap (λ k. take k (b ∷ bs)) e

  drop_turn : (t : Bool) (n b : ℕ) (bs : List ℕ) → drop (cond (not t) (1 + n) 0 + 1) (b ∷ bs) ≡ cond t bs (drop (n + 1) bs)
  drop_turn true n b bs = refl
  drop_turn false n b bs = let e : 1 + n + 1 ≡ suc (n + 1) = omega arith in ap (λ k. drop k (b ∷ bs)) e

  pub before_turn : (b : ℕ) (bs : List ℕ) → before m (b ∷ bs) ≡ cond (eqb b m) [] (b ∷ before m bs)
  unfolding before
  before_turn b bs = take_turn (eqb b m) _ b bs

  pub past_turn : (b : ℕ) (bs : List ℕ) → past m (b ∷ bs) ≡ cond (eqb b m) bs (past m bs)
  unfolding past
  past_turn b bs = drop_turn (eqb b m) _ b bs

  some_at : (t : Bool) (n i : ℕ) → Some n ≡ cond t (Some i) None → n ≡ i
  some_at true n i e = cc
  some_at false n i e = absurd (cc)

  none_at : (t : Bool) (i : ℕ) → None ≡ cond t (Some i) None → t ≡ false
  none_at true i e = absurd (cc)
  none_at false i e = refl

  module _ (s : List ℕ) where
    abbrev at : ℕ
    at = position_or_len At s

    -- what `position` finds is where the text is cut
    pub before_at : (n : ℕ) → Some n ≡ position At s → take n s ≡ before m s
    unfolding before
    before_at n e = ap (λ k. take k s) (some_at (ltb at (length s)) n at e)

    pub past_at : (n : ℕ) → Some n ≡ position At s → take (length s - (n + 1)) (drop (n + 1) s) ≡ past m s
    unfolding past
    past_at n e =
        let l = length-drop (n + 1) s in
        take_all (length s - (n + 1)) (drop (n + 1) s) (omega arith) ∙ ap (λ k. drop (k + 1) s) (some_at (ltb at (length s)) n at e)

    pub before_none : None ≡ position At s → s ≡ before m s
    unfolding before
    before_none e = let l = ltb-false at (length s) (none_at (ltb at (length s)) at e) in sym (take_all at s l)

    pub past_none : None ≡ position At s → [] ≡ past m s
    unfolding past
    past_none e = let l = ltb-false at (length s) (none_at (ltb at (length s)) at e) in sym (drop_all (at + 1) s (omega arith))

    free : Free m (before m s)
    unfolding before
    free k l =
        let e = length-prefix_len (λ b. not (At b)) s in
        let is : get_or (take at s) k 0 ≡ get_or s k 0 = get_or-take at s k 0 (omega arith) in
        λ same. eqb-false (get_or s k 0) m (fails_before_first At s k 0 (omega arith)) (sym is ∙ same)

    whole_by : (t : Bool) → ltb at (length s) ≡ t → (s ≡ before m s ++ (m ∷ past m s)) ⊎ ((s ≡ before m s) × (past m s ≡ []))
    unfolding before past
    whole_by true e =
        let l = ltb-true at (length s) e in
        inl (split_at_first At s 0 l ∙ ap (λ b. take at s ++ (b ∷ drop (at + 1) s)) (eqb-true (get_or s at 0) m (passes_at_first At s 0 l)))
    whole_by false e =
        let l = ltb-false at (length s) e in
        inr (sym (take_all at s l), drop_all (at + 1) s (omega arith))

    cut_is : (front back : List ℕ) → front ≡ before m s → back ≡ past m s → CutAt m s front back
    cut_is front back e f = rw (e, f) (record { free = free; whole = whole_by (ltb at (length s)) refl })

    pub cut_at : (n : ℕ) → Some n ≡ position At s → CutAt m s (take n s) (take (length s - (n + 1)) (drop (n + 1) s))
    cut_at n e = cut_is _ _ (before_at n e) (past_at n e)

    pub cut_none : None ≡ position At s → CutAt m s s []
    cut_none e = cut_is _ _ (before_none e) (past_none e)
