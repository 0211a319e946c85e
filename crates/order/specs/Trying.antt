-- What an order of trying is, and what holds of each.
use Rattle.std.specs.Prelude.{◌≡◌, ℕ, ◌<◌, ◌≤◌, cond, ◌&&◌, List, map, length, nat_le, nat_lt, slice_index}
use Rattle.std.specs.List.{range_with_len}

-- the most things that an order has places for
abbrev pub most : ℕ
most = 4096

-- what the values O of an order mean, and its rows R
pub record Meaning (O R : Type 0) : Type 0 where
  -- the place of the k-th try among n, for n from 1 to the most and k below n
  pub place : O → ℕ → ℕ → ℕ
  -- the value that follows a step
  pub next : O → O
  -- what a row answers for k
  pub held : R → ℕ → ℕ

-- the law
pub record Lawful {O R : Type 0} (m : Meaning O R) : Type 0 where
  -- every place is below n
  pub within : (o : O) (n k : ℕ) → n ≤ most → k < n → m.place o n k < n
  -- different k have different places
  pub apart : (o : O) (n j k : ℕ) → n ≤ most → j < n → k < n → m.place o n j ≡ m.place o n k → j ≡ k

-- what is answered for any n and k: the place, where the order has one, and else 0
abbrev pub answer : (ℕ → ℕ → ℕ) → ℕ → ℕ → ℕ
answer place n k = cond (nat_le n most && nat_lt k n) (place n k) 0

-- r is a row of n: it answers as the order does
abbrev pub RowOf : {O R : Type 0} → Meaning O R → O → ℕ → R → Type 0
RowOf m o n r = (k : ℕ) → m.held r k ≡ answer (m.place o) n k

-- the answers for n and each k below it
abbrev pub listing : (ℕ → ℕ → ℕ) → ℕ → List ℕ
listing place n = map (answer place n) (range_with_len 0 n)

-- every number below n is a place
abbrev pub Reaches : (ℕ → ℕ → ℕ) → Type 0
Reaches place = (n r : ℕ) → n ≤ most → r < n → (k : ℕ) × (k < n) × (place n k ≡ r)

-- every number below the length of a list, unless it is too long, stands in the list
abbrev pub AllTried : List ℕ → Type 0
AllTried xs = length xs ≤ most → (r : ℕ) → r < length xs → (k : ℕ) × (k < length xs) × (slice_index xs k ≡ r)
