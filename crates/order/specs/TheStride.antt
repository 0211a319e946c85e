-- The stride as a number. What `the_stride` is stands in its type: with each number comes the proof that it is a `Stride`, and its definition is
-- shut, so that nothing else is known of it. What comes before it shows that there is one.
use Rattle.std.specs.Prelude.{◌≡◌, ℕ, zero, suc, ◌%◌, ◌<◌, ◌≤◌, ◌⊎◌}
use Rattle.std.proofs.Common.{subst, inl, inr, ⊎_elim, mod-lt, arith}
use Rattle.std.specs.Int.{◌∣◌}
use Rattle.std.proofs.Math.Nat.{dvd_refl, dvd-zero, dvd-mod_iff, eq-one_of_dvd-one}
use Rattle.std.proofs.lemmas.Bool.{cases_eq}
use Rattle.order.specs.Divisors.{Coprime, Gcd, Stride}

pub gcd_last : (a : ℕ) → Gcd a 0 a
gcd_last a = record { left = dvd_refl a; right = dvd-zero a; greatest = λ d p q. p }

pub gcd_step : (a b r : ℕ) → Gcd b (a % b) r → Gcd a b r
gcd_step a b r g =
    record {
      left = (dvd-mod_iff r g.left).0 g.right;
      right = g.left;
      greatest = λ d p q. g.greatest d q ((dvd-mod_iff d q).1 p);
    }

-- each two numbers have a greatest common divisor, which f steps find
gcd_within : (f a b : ℕ) → b ≤ f → (r : ℕ) × Gcd a b r
gcd_within f a zero l = (a, gcd_last a)
gcd_within zero a (suc b) l = absurd (omega arith)
gcd_within (suc f) a (suc b) l =
    let small : a % suc b < suc b = mod-lt a (omega arith) in
    let rest = gcd_within f (suc b) (a % suc b) (omega arith) in
    (rest.0, gcd_step a (suc b) rest.0 rest.1)

pub coprime_from : (a b r : ℕ) → Gcd a b r → r ≡ 1 → Coprime a b
coprime_from a b r g e d p q = eq-one_of_dvd-one (subst (λ (x : ℕ). d ∣ x) e (g.greatest d p q))

pub coprime_one : (n : ℕ) → Coprime 1 n
coprime_one n d p q = eq-one_of_dvd-one p

-- whether two numbers have no divisor in common but 1
decided : (a b : ℕ) → Coprime a b ⊎ (Coprime a b → ⊥)
decided a b =
    let g = gcd_within b a b (omega arith) in
    ⊎_elim (λ (e : g.0 ≡ 1). inl (coprime_from a b g.0 g.1 e))
    (λ (no : g.0 ≡ 1 → ⊥). inr (λ c. no (c g.0 g.1.left g.1.right)))
    (cases_eq g.0 1)

from_one : (n h : ℕ) → (g : ℕ) × Stride n (suc h) g
from_one n zero = (1, record { coprime = coprime_one n; low = omega arith; largest = λ m c l. omega arith })
from_one n (suc h) =
    ⊎_elim (λ (c : Coprime (suc (suc h)) n). (suc (suc h), record { coprime = c; low = omega arith; largest = λ m d l. l }))
    (λ (no : Coprime (suc (suc h)) n → ⊥).
    let below = from_one n h in (
      below.0,
      record {
        coprime = below.1.coprime;
        low = omega (arith, below.1.low);
        largest = λ m d l.
            ⊎_elim (λ (e : m ≡ suc (suc h)). absurd (no (subst (λ (x : ℕ). Coprime x n) e d)))
            (λ (ne : m ≡ suc (suc h) → ⊥). below.1.largest m d (omega arith))
            (cases_eq m (suc (suc h)));
      },
    ))
    (decided (suc (suc h)) n)

pub the_stride : (n h : ℕ) → 0 < h → (g : ℕ) × Stride n h g
the_stride n zero l = absurd (omega arith)
the_stride n (suc h) l = from_one n h
