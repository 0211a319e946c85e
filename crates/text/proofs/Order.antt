-- Packing loses nothing, and numeric order of packed names is byte order.
use Rattle.std.proofs.Common.{◌≡◌, ℕ, zero, suc, ◌+◌, ◌*◌, ◌<◌, ◌≤◌, ltb, List, [], ◌∷◌, length, ⊎_elim, arith}
use Rattle.std.proofs.lemmas.Bool.{lt-ltb, le-ltb, ne_eqb, eq-eqb, cases_order}
use Rattle.text.specs.Packed.{padded, numeral, before, Lossless, Ordered}
use Rattle.text.proofs.Packing.{Bytes, spelling_pack}
use Rattle.text.proofs.Shapes.{named_bytes}

pub lossless : Lossless
lossless a n = let h = named_bytes a n in spelling_pack a h.0 h.1

-- a lower front stays lower, whatever digits follow
below : (k n m : ℕ) (a b : List ℕ) → Bytes a → n < m → numeral n (padded k a) < numeral m (padded k b)
unfolding numeral padded
below zero n m a b va h = h
below (suc k) n m [] [] va h = below k (n * 256 + 0) (m * 256 + 0) [] [] tt (omega arith)
below (suc k) n m [] (y ∷ b) va h = below k (n * 256 + 0) (m * 256 + y) [] b tt (omega arith)
below (suc k) n m (x ∷ a) [] va h = below k (n * 256 + x) (m * 256 + 0) a [] va.2 (omega (arith, va.1))
below (suc k) n m (x ∷ a) (y ∷ b) va h = below k (n * 256 + x) (m * 256 + y) a b va.2 (omega (arith, va.1))

none : (k n : ℕ) (a : List ℕ) → Bytes a → numeral n (padded k []) ≤ numeral n (padded k a)
unfolding numeral padded
none zero n a va = omega arith
none (suc k) n [] va = none k (n * 256 + 0) [] tt
none (suc k) n (x ∷ a) va =
    let l = below k (n * 256 + 0) (n * 256 + x) [] a tt (omega (arith, va.0)) in omega arith

-- one digit: equal digits leave it to the rest
digit : (k n x y : ℕ) (a b : List ℕ) → Bytes (x ∷ a) → Bytes (y ∷ b) → ((m : ℕ) → ltb (numeral m (padded k a)) (numeral m (padded k b)) ≡ before a b) → ltb (numeral (n * 256 + x) (padded k a)) (numeral (n * 256 + y) (padded k b)) ≡ before (x ∷ a) (y ∷ b)
digit k n x y a b va vb rest =
    ⊎_elim
    (λ e. rw (le-ltb x y (omega arith), eq-eqb x y e, e) (rest (n * 256 + y)))
    (⊎_elim
    (λ h. rw (lt-ltb x y h) (lt-ltb _ _ (below k (n * 256 + x) (n * 256 + y) a b va.2 (omega (arith, va.1)))))
    (λ h. let l = below k (n * 256 + y) (n * 256 + x) b a vb.2 (omega (arith, vb.1)) in rw (le-ltb x y (omega arith), ne_eqb x y (omega arith)) (le-ltb _ _ (omega arith))))
    (cases_order x y)

by_digits : (k n : ℕ) (a b : List ℕ) → length a ≤ k → length b ≤ k → Bytes a → Bytes b → ltb (numeral n (padded k a)) (numeral n (padded k b)) ≡ before a b
unfolding numeral padded
by_digits k n a [] ha hb va vb = le-ltb _ _ (none k n a va)
by_digits zero n [] (y ∷ b) ha hb va vb = absurd (omega arith)
by_digits zero n (x ∷ a) (y ∷ b) ha hb va vb = absurd (omega arith)
by_digits (suc k) n [] (y ∷ b) ha hb va vb = lt-ltb _ _ (below k (n * 256 + 0) (n * 256 + y) [] b tt (omega (arith, vb.0)))
by_digits (suc k) n (x ∷ a) (y ∷ b) ha hb va vb = digit k n x y a b va vb (λ m. by_digits k m a b (omega arith) (omega arith) va.2 vb.2)

pub ordered : Ordered
ordered a b na nb =
    let va = named_bytes a na in
    let vb = named_bytes b nb in
    by_digits 8 0 a b va.0 vb.0 va.1 vb.1
