-- The shuffled order keeps the law, and goes by the stride.
use Rattle.std.specs.Prelude.{◌≡◌, ℕ, ◌+◌, ◌*◌, ◌%◌, ◌<◌, ◌≤◌, cond, ◌⊎◌, nat_lt}
use Rattle.std.proofs.Common.{sym, ap, ◌∙◌, ⊎_elim, mod-lt, arith}
use Rattle.std.proofs.Math.Nat.{dvd-sub, eq-one_of_dvd-one, mod-add-mod}
use Rattle.std.proofs.lemmas.Bool.Decides.{nat_tests}
use Rattle.std.proofs.lemmas.Bool.{cases_order}
use Rattle.order.specs.Divisors.{Stride, OneStride}
use Rattle.order.specs.ShuffledOrder.{ByAnyStride, Worked, high, shuffled, shuffled_place, stride_of}
use Rattle.order.specs.TheStride.{the_stride}
use Rattle.order.specs.Trying.{Lawful, answer}
use Rattle.order.specs.Coprime.{never_again}

same_stride : (n h f g : ℕ) → Stride n h f → Stride n h g → f ≡ g
same_stride n h f g p q =
    let up = q.largest f p.coprime p.low in
    let down = p.largest g q.coprime q.low in
    omega arith

pub one_stride : OneStride
one_stride n h l = let t = the_stride n h l in (t.0, t.1, λ f p. same_stride n h f t.0 p t.1)

is_stride : (s n : ℕ) → Stride n (high s n) (stride_of s n)
is_stride s n = (the_stride n (high s n) (omega arith)).1

pub by_any_stride : ByAnyStride
by_any_stride s n k g p = ap (λ x. (s + k * x) % n) (same_stride n (high s n) (stride_of s n) g (is_stride s n) p)

-- the stride of the example
seven : Stride 8 7 7
seven = record {
  coprime = λ d p q. eq-one_of_dvd-one (dvd-sub d {m = 8} {n = 7} q p);
  low = omega arith;
  largest = λ m c l. l;
}

pub worked : Worked
worked =
    let at = λ (k : ℕ). by_any_stride 1013904223 8 k 7 seven in
    simp (at 0, at 1, at 2, at 3, at 4, at 5, at 6, at 7)

pub shuffled_lawful : Lawful shuffled
shuffled_lawful = record {
  within = λ o n k most l. mod-lt _ (omega arith);
  apart = λ o n j k most lj lk e.
      let c = (is_stride o.seed n).coprime in
      let g = stride_of o.seed n in
      ⊎_elim (λ h. h)
      (λ (h : (j < k) ⊎ (k < j)).
      absurd (⊎_elim (λ (a : j < k). never_again o.seed n g j k c a lk e) (λ (a : k < j). never_again o.seed n g k j c a lj (sym e)) h))
      (cases_order j k);
}

-- what a row holds
pub row_held : (s n g : ℕ) → n ≤ 4096 → Stride n (high s n) g → (k : ℕ) → cond (nat_lt k n) ((s % n + k * g) % n) 0 ≡ answer (shuffled_place s) n k
row_held s n g l p k =
    let is : (s % n + k * g) % n ≡ shuffled_place s n k = mod-add-mod s n (k * g) ∙ sym (by_any_stride s n k g p) in
    grind (arith, nat_tests)
