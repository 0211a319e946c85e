-- The lines of a script are the script again.
use Rattle.std.proofs.Common.{◌≡◌, ℕ, zero, suc, Bool, true, false, cond, eqb, ◌⊎◌, List, [], ◌∷◌, ◌++◌, length, refl, ap, inl, inr, arith, length-append, eqb-true}
use borrow.Author.Tests.{eqb-false}
use Rattle.bigvosk.specs.Cuts.{Free}
use Rattle.bigvosk.specs.Scripts.{Lines, Unbroken, ended, led, lines_of}
use Rattle.bigvosk.specs.Windows.{newline}

abbrev Whole : List ℕ → List (List ℕ) → Type 0
Whole s ls = (ended ls ≡ s) ⊎ (ended ls ≡ s ++ newline)

longer : (b : ℕ) (s t : List ℕ) → (t ≡ s) ⊎ (t ≡ s ++ newline) → (b ∷ t ≡ b ∷ s) ⊎ (b ∷ t ≡ (b ∷ s) ++ newline)
longer b s t (inl e) = inl (ap (λ x. b ∷ x) e)
longer b s t (inr e) = inr (ap (λ x. b ∷ x) e)

whole_led : (b : ℕ) (bs : List ℕ) (ls : List (List ℕ)) → Whole bs ls → Whole (b ∷ bs) (led b ls)
whole_led b bs [] (inl e) = inr (ap (λ x. b ∷ (x ++ newline)) e)
whole_led b bs [] (inr e) = let l = length-append bs newline in let z = ap length e in absurd (omega arith)
whole_led b bs (l ∷ ls) w = longer b bs (ended (l ∷ ls)) w

whole_on : (b : ℕ) (bs : List ℕ) (t : Bool) → eqb b 10 ≡ t → Whole bs (lines_of bs) →
    Whole (b ∷ bs) (cond t ([] ∷ lines_of bs) (led b (lines_of bs)))
whole_on b bs true e w = let same : b ≡ 10 = eqb-true b 10 e in rw same (longer 10 bs (ended (lines_of bs)) w)
whole_on b bs false e w = whole_led b bs (lines_of bs) w

whole : (s : List ℕ) → Whole s (lines_of s)
unfolding lines_of
whole [] = inl refl
whole (b ∷ bs) = whole_on b bs (eqb b 10) refl (whole bs)

free_led : (b : ℕ) (line : List ℕ) → eqb b 10 ≡ false → Free 10 line → Free 10 (b ∷ line)
free_led b line e h zero l = eqb-false b 10 e
free_led b line e h (suc k) l = h k (omega arith)

free_none : Free 10 []
free_none k l = absurd (omega arith)

unbroken_led : (b : ℕ) (ls : List (List ℕ)) → eqb b 10 ≡ false → Unbroken ls → Unbroken (led b ls)
unbroken_led b [] e u = (free_led b [] e free_none, tt)
unbroken_led b (l ∷ ls) e u = (free_led b l e u.0, u.1)

unbroken_on : (b : ℕ) (ls : List (List ℕ)) (t : Bool) → eqb b 10 ≡ t → Unbroken ls → Unbroken (cond t ([] ∷ ls) (led b ls))
unbroken_on b ls true e u = (free_none, u)
unbroken_on b ls false e u = unbroken_led b ls e u

unbroken : (s : List ℕ) → Unbroken (lines_of s)
unfolding lines_of
unbroken [] = tt
unbroken (b ∷ bs) = unbroken_on b (lines_of bs) (eqb b 10) refl (unbroken bs)

pub lines_stand : (s : List ℕ) → Lines s (lines_of s)
lines_stand s = record { unbroken = unbroken s; whole = whole s }
