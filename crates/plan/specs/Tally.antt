-- Counting the ends of links, up to three.
use Rattle.std.specs.Prelude.{ℕ, ◌+◌, Bool, cond, ◌&&◌, List, fold, length, ◌==◌, nat_lt, slice_index, slice_set}

-- one more end of a link; a link that has no counter is not counted
abbrev pub bumped : ℕ → List ℕ → List ℕ
bumped x counts = cond (nat_lt x (length counts) && nat_lt (slice_index counts x) 3) (slice_set counts x (slice_index counts x + 1)) counts

unfoldable pub tallied : List ℕ → List ℕ → List ℕ
tallied xs counts = fold (λ t x. bumped x t) counts xs

-- a link was counted twice
abbrev pub is_twice : List ℕ → ℕ → Bool
is_twice counts x = nat_lt x (length counts) && slice_index counts x == 2
