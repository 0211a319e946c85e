-- Common divisors, and the stride of the shuffled order.
use Rattle.std.specs.Prelude.{◌≡◌, ℕ, ◌<◌, ◌≤◌}
use Rattle.std.specs.Int.{◌∣◌}

-- a and b have no divisor in common but 1
abbrev pub Coprime : ℕ → ℕ → Type 0
Coprime a b = (d : ℕ) → d ∣ a → d ∣ b → d ≡ 1

-- r is the greatest common divisor of a and b: it divides both, and every common divisor divides it
pub record Gcd (a b r : ℕ) : Type 0 where
  pub left : r ∣ a
  pub right : r ∣ b
  pub greatest : (d : ℕ) → d ∣ a → d ∣ b → d ∣ r

-- g is the largest number not above h that has no divisor in common with n but 1
pub record Stride (n h g : ℕ) : Type 0 where
  pub coprime : Coprime g n
  pub low : g ≤ h
  pub largest : (m : ℕ) → Coprime m n → m ≤ h → m ≤ g

-- there is one such number, and only one
abbrev pub OneStride : Type 0
OneStride = (n h : ℕ) → 0 < h → (g : ℕ) × Stride n h g × ((f : ℕ) → Stride n h f → f ≡ g)
