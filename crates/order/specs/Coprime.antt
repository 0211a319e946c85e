-- What follows from having no divisor in common.
use Rattle.std.specs.Prelude.{◌≡◌, ℕ, zero, suc, ◌+◌, ◌-◌, ◌*◌, ◌/◌, ◌%◌, ◌<◌, ◌≤◌, ◌≢◌}
use Rattle.std.proofs.Common.{sym, ap, ◌∙◌, subst, mod-lt, mul-add, add-mul, mul_assoc, mul-one, arith}
use Rattle.std.specs.Int.{◌∣◌}
use Rattle.std.proofs.Math.Nat.{dvd_refl, dvd-zero, dvd-mul_left, dvd-mul_right, dvd-mul_right_of_dvd, dvd-add_iff_right, dvd-mod_iff, dvd-sub, le_of_dvd, div-add-mod}
use Rattle.order.specs.Divisors.{Coprime}

-- what divides m * a and m * b divides m * (a % b)
divides_rest : (n m a b : ℕ) → n ∣ m * a → n ∣ m * b → n ∣ m * (a % b)
divides_rest n m a b p q =
    let parts : m * a ≡ m * b * (a / b) + m * (a % b) =
    ap (λ x. m * x) (sym (div-add-mod a b)) ∙ (mul-add m (b * (a / b)) (a % b) ∙ ap (λ x. x + m * (a % b)) (sym (mul_assoc m b (a / b)))) in
    (dvd-add_iff_right n (dvd-mul_right_of_dvd n q (a / b))).1 (subst (λ (x : ℕ). n ∣ x) parts p)

-- what divides m * a and m * b divides m: by the steps of Euclid, which end at 1 and 0
divides_both : (f a b m n : ℕ) → b ≤ f → Coprime a b → n ∣ m * a → n ∣ m * b → n ∣ m
divides_both f a zero m n l c p q =
    let one : a ≡ 1 = c a (dvd_refl a) (dvd-zero a) in
    let last : m * a ≡ m = ap (λ x. m * x) one ∙ mul-one m in
    subst (λ (x : ℕ). n ∣ x) last p
divides_both zero a (suc b) m n l c p q = absurd (omega arith)
divides_both (suc f) a (suc b) m n l c p q =
    let small : a % suc b < suc b = mod-lt a (omega arith) in
    divides_both f (suc b) (a % suc b) m n (omega arith)
    (λ d u v. c d ((dvd-mod_iff d u).0 v) u)
    q
    (divides_rest n m a (suc b) p q)

-- a factor with no divisor in common with n can be left out
pub cancels : (n g m : ℕ) → Coprime g n → n ∣ m * g → n ∣ m
cancels n g m c p = divides_both n g n m n (omega arith) c p (dvd-mul_left n m)

same_rest : (n x y : ℕ) → x % n ≡ y % n → n ∣ y - x
same_rest n x y e =
    let gap : n ∣ n * (y / n) - n * (x / n) = dvd-sub n (dvd-mul_right n (y / n)) (dvd-mul_right n (x / n)) in
    let is : n * (y / n) - n * (x / n) ≡ y - x = omega (arith, div-add-mod x n, div-add-mod y n) in
    subst (λ (x : ℕ). n ∣ x) is gap

-- steps of g round n come to n different places
pub never_again : (s n g j k : ℕ) → Coprime g n → j < k → k < n → (s + j * g) % n ≢ (s + k * g) % n
never_again s n g j k c l b e =
    let split : k * g ≡ j * g + (k - j) * g = ap (λ x. x * g) whole ∙ add-mul j (k - j) g in
    let is : (s + k * g) - (s + j * g) ≡ (k - j) * g = omega arith in
    let gap : n ∣ k - j = cancels n g (k - j) c (subst (λ (x : ℕ). n ∣ x) is (same_rest n (s + j * g) (s + k * g) e)) in
    omega (arith, le_of_dvd {m = n} {n = k - j} (omega arith) gap)
  where
    whole : k ≡ j + (k - j)
    whole = omega arith
