-- The search for a stride, from above.
use Rattle.std.proofs.Common.{◌≡◌, ℕ, ◌+◌, ◌-◌, ◌<◌, ◌⊎◌, Bool, true, false, eqb, Some, None, Option, refl, sym, subst, ap, ◌∙◌, ⊎_elim, arith, eqb-true}
use borrow.Author.Tests.{eqb-false}
use denote.Param.Members.{Mut}
use denote.Ref.{Bor}
use Rattle.std.specs.Bool.{IsTrue}
use Rattle.std.specs.Fn.{CalledAt}
use Rattle.std.specs.Iterator.Runs.{Run, CallKeepsClosure, EndsAtFirstPassing, ItemsCountDown, NoItemPasses}
use Rattle.std.specs.Option.{IfSome, IsSomeAnd, MatchOption, option_map, unwrap_or}
use Rattle.std.proofs.lemmas.Option.{same_Some}
use Rattle.std.proofs.lemmas.Bool.{cases_order}
use Rattle.order.specs.Divisors.{Coprime, Gcd, Stride}
use Rattle.order.specs.TheStride.{coprime_from, coprime_one}

-- whether two numbers have no divisor in common but 1, by their greatest
pub gcd_one : (n x r : ℕ) → Gcd n x r → eqb r 1 ≡ true → Gcd n x 1
gcd_one n x r g e = let one : r ≡ 1 = eqb-true r 1 e in subst (λ (k : ℕ). Gcd n x k) one g

pub record Apart (n x : ℕ) : Type 0 where
  pub not_coprime : Coprime x n → ⊥

pub apart_by : (n x r : ℕ) → Gcd n x r → eqb r 1 ≡ false → Apart n x
apart_by n x r g e = record { not_coprime = λ c. eqb-false r 1 e (c r g.right g.left) }

-- a value of which something is said is known
at_known : (P : ℕ → Type 0) (o : Option ℕ) (x : ℕ) → option_map (λ y. y) o ≡ Some x → IfSome o P → P x
at_known P (Some y) x e p = subst P (same_Some y x e) p
at_known P None x e p = absurd (cc)

at_some : (P : ℕ → Type 0) (o : Option ℕ) (x : ℕ) → option_map (λ y. y) o ≡ Some x → IsSomeAnd o P → P x
at_some P (Some y) x e p = subst P (same_Some y x e) p
at_some P None x e p = absurd (cc)

-- of the numbers from h down to 1, the first that has no divisor in common with n but 1
module _ {S F : Type 0} {steps : S → Option ℕ → S → Type 0} (g : Mut F (Bor ℕ × Unit {0}) Bool) (f : F) (n h : ℕ) (p : Run steps)
    (some : 0 < h)
    (down : ItemsCountDown p 1 (h + 1))
    (keeps : CallKeepsClosure g f)
    (passes : (x : ℕ) → CalledAt g f x true f → Gcd n x 1)
    (fails : (x : ℕ) → CalledAt g f x false f → Apart n x)
  where
    item : (k x : ℕ) → k < p.len → k + x ≡ h → option_map (λ y. y) (p.at k) ≡ Some x
    item k x l e = let is : h + 1 - 1 - k ≡ x = omega arith in down.3 k l ∙ ap Some is

    pub found : (r : Option ℕ) → MatchOption r (IsTrue p.whole × NoItemPasses p g f) (EndsAtFirstPassing p g f) → Stride n h (unwrap_or r 1)
    found None m =
        let long : p.len ≡ h + 1 - 1 = down.1 m.0 in
        let last = at_known (λ x. CalledAt g f x false f) (p.at (h - 1)) 1 (item (h - 1) 1 (omega arith) (omega arith)) (m.1 keeps (h - 1)) in
        absurd ((fails 1 last).not_coprime (coprime_one n))
    found (Some x) m =
        let i = m.0 in
        let long : p.len ≡ i + 1 = m.1 in
        let here : x ≡ h - i = same_Some x (h - i) (ap (option_map (λ y. y)) (sym m.2) ∙ item i (h - i) (omega arith) (omega (arith, down.0))) in
        let calls = m.3 keeps in
        record {
          coprime = λ d u v. coprime_from n x 1 (passes x calls.0) refl d v u;
          low = omega arith;
          largest = λ k c l.
              ⊎_elim (λ (e : x ≡ k). omega arith)
              (λ (o : (x < k) ⊎ (k < x)).
              ⊎_elim (λ (b : x < k).
              let before = at_some (λ y. CalledAt g f y false f) (p.at (h - k)) k (item (h - k) k (omega arith) (omega arith)) (calls.1 (h - k) (omega arith)) in
              absurd ((fails k before).not_coprime c))
              (λ (b : k < x). omega arith)
              o)
              (cases_order x k);
        }
