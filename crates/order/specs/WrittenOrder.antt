-- The written order.
use Rattle.std.specs.Prelude.{ℕ, cond, nat_lt}
use Rattle.order.specs.declared.written.Written.{Written}
use Rattle.order.specs.Trying.{Meaning}

-- the k-th is tried k-th, and a step changes nothing; a row is the number of things
abbrev pub written : Meaning Written ℕ
written = record { place = λ o n k. k; next = λ o. o; held = λ n k. cond (nat_lt k n) k 0 }
