-- The open cells of a stand.
use Rattle.std.proofs.Common.{◌≡◌, ℕ, zero, suc, ◌+◌, ◌-◌, ◌<◌, ◌≤◌, Bool, true, false, not, eqb, leb, List, ◌∷◌, length, get_or, set, sym, refl, ap, ap₂, arith, get_or-set_other, get_or-set_same}
use Rattle.std.proofs.lemmas.Bool.{ne_eqb}
use Rattle.std.proofs.lemmas.Bool.Decides.{nat_tests}
use Rattle.grammar.specs.State.{open_cells, outer, with_set}
use Rattle.grammar.specs.Tests.{inside, set_barred}

pub length_cells : (d : ℕ) (sets : List Bool) → length (open_cells d sets) ≡ d
unfolding open_cells
length_cells zero sets = refl
length_cells (suc d) sets = ap suc (length_cells d sets)

pub inside_some : (d : ℕ) (sets : List Bool) → 0 < d → inside (open_cells d sets) ≡ true
unfolding open_cells
inside_some zero sets h = absurd (omega arith)
inside_some (suc d) sets h = refl

pub inside_none : (d : ℕ) (sets : List Bool) → d ≤ 0 → inside (open_cells d sets) ≡ false
unfolding open_cells
inside_none zero sets h = refl
inside_none (suc d) sets h = absurd (omega arith)

pub set_some : (d : ℕ) (sets : List Bool) → (d ≡ 0 → ⊥) → set_barred (open_cells d sets) ≡ get_or sets d false
unfolding open_cells
set_some zero sets h = absurd (h refl)
set_some (suc d) sets h = refl

pub set_none : (d : ℕ) (sets : List Bool) → d ≡ 0 → set_barred (open_cells d sets) ≡ true
unfolding open_cells
set_none zero sets h = refl
set_none (suc d) sets h = absurd (omega arith)

pub cells_above : (d j : ℕ) (sets : List Bool) (b : Bool) → d < j → open_cells d (set sets j b) ≡ open_cells d sets
unfolding open_cells
cells_above zero j sets b h = refl
cells_above (suc d) j sets b h =
    ap₂ (λ x xs. x ∷ xs) (get_or-set_other sets j (suc d) b false (omega arith)) (cells_above d j sets b (omega arith))

pub cells_open : (d : ℕ) (sets : List Bool) → d + 1 < length sets → open_cells (d + 1) (set sets (d + 1) false) ≡ false ∷ open_cells d sets
unfolding open_cells
cells_open d sets h =
    let e : d + 1 ≡ suc d = omega arith in
    let l : suc d < length sets = omega arith in
    rw e (ap₂ (λ x xs. x ∷ xs) (get_or-set_same sets (suc d) false false l) (cells_above d (suc d) sets false (omega arith)))

pub cells_close : (d : ℕ) (sets : List Bool) → open_cells (d - 1) sets ≡ outer (open_cells d sets)
unfolding open_cells
cells_close zero sets = refl
cells_close (suc d) sets = let e : suc d - 1 ≡ d = omega arith in rw e refl

pub cells_marked : (d : ℕ) (sets : List Bool) → d < length sets → open_cells d (set sets d true) ≡ with_set (open_cells d sets)
unfolding open_cells
cells_marked zero sets h = refl
cells_marked (suc d) sets h =
    ap₂ (λ x xs. x ∷ xs) (get_or-set_same sets (suc d) true false h) (cells_above d (suc d) sets true (omega arith))

-- a brace that is not too deep has room
pub room_above : (d : ℕ) (sets : List Bool) → leb 16 (length (open_cells d sets)) ≡ false → d < 16
room_above d sets h = let l = length_cells d sets in grind (arith, nat_tests)

pub inside_is : (d : ℕ) (sets : List Bool) → not (inside (open_cells d sets)) ≡ eqb d 0
unfolding open_cells
inside_is zero sets = refl
inside_is (suc d) sets = sym (ne_eqb (suc d) 0 (omega arith))
