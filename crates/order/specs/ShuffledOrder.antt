-- The shuffled order.
use Rattle.std.specs.Prelude.{◌≡◌, ℕ, ◌+◌, ◌*◌, ◌/◌, ◌%◌, ◌^◌, cond, [], ◌∷◌, map, nat_lt}
use Rattle.std.proofs.Common.{arith}
use Rattle.std.specs.List.{range_with_len}
use Rattle.order.specs.declared.shuffled.Shuffled.{Shuffled}
use Rattle.order.specs.declared.shuffled.Round.{Round}
use Rattle.order.specs.Divisors.{Stride}
use Rattle.order.specs.TheStride.{the_stride}
use Rattle.order.specs.Trying.{Meaning}

-- the number h that the stride is not above
abbrev pub high : ℕ → ℕ → ℕ
high s n = 1 + (s / 65536) % n

-- the stride among n under a seed s: of the numbers not above h that have no divisor in common with n but 1, the largest
abbrev pub stride_of : ℕ → ℕ → ℕ
stride_of s n = (the_stride n (high s n) (omega arith)).0

-- the place of the k-th try
abbrev pub shuffled_place : ℕ → ℕ → ℕ → ℕ
shuffled_place s n k = (s + k * stride_of s n) % n

-- the seed that follows a seed
abbrev pub stepped : ℕ → ℕ
stepped s = (1664525 * s + 1013904223) % 2 ^ 32

-- a row has the number of things, the first place and the stride
abbrev pub shuffled : Meaning Shuffled Round
shuffled = record {
  place = λ o. shuffled_place o.seed;
  next = λ o. record { seed = stepped o.seed };
  held = λ r k. cond (nat_lt k r.count) ((r.first + k * r.stride) % r.count) 0;
}

-- the place of the k-th try among n under a seed s is s + k * g modulo n, for the g that is the stride
abbrev pub ByAnyStride : Type 0
ByAnyStride = (s n k g : ℕ) → Stride n (high s n) g → shuffled_place s n k ≡ (s + k * g) % n

-- an example: the places of eight things under one seed
abbrev pub Worked : Type 0
Worked = map (shuffled_place 1013904223 8) (range_with_len 0 8) ≡ 7 ∷ 6 ∷ 5 ∷ 4 ∷ 3 ∷ 2 ∷ 1 ∷ 0 ∷ []
