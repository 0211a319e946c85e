-- Walking up from a cell.
use Rattle.std.proofs.Common.{◌≡◌, ℕ, zero, suc, ◌≤◌, true, false, ◌||◌, eqb, List, length, get_or, Some, None, ap, ◌∙◌}
use Rattle.std.proofs.lemmas.List.{get_or_past}
use Rattle.std.proofs.lemmas.Bool.{eq-eqb, ne_eqb}
use Rattle.plan.specs.declared.tables.Cell.{Cell}
use Rattle.plan.specs.Sound.{leads, onward, no_cell}

pub at_root : (n : ℕ) (cs : List Cell) (i : ℕ) → i ≡ 0 → leads n cs i ≡ true
unfolding leads
at_root zero cs i e = eq-eqb i 0 e
at_root (suc n) cs i e = ap (λ b. b || onward (λ p. leads n cs p) (get_or cs i no_cell).parent) (eq-eqb i 0 e)

pub at_end : (n : ℕ) (cs : List Cell) (i : ℕ) → (i ≡ 0 → ⊥) → (get_or cs i no_cell).parent ≡ None → leads n cs i ≡ false
unfolding leads
at_end zero cs i h e = ne_eqb i 0 h
at_end (suc n) cs i h e =
    ap (λ b. b || onward (λ p. leads n cs p) (get_or cs i no_cell).parent) (ne_eqb i 0 h) ∙ ap (onward (λ p. leads n cs p)) e

pub one_up : (n k : ℕ) (cs : List Cell) (i p : ℕ) → n ≡ suc k → (i ≡ 0 → ⊥) → (get_or cs i no_cell).parent ≡ Some p → leads n cs i ≡ leads k cs p
unfolding leads
one_up n k cs i p e h q =
    ap (λ m. leads m cs i) e ∙ ap (λ b. b || onward (λ p. leads k cs p) (get_or cs i no_cell).parent) (ne_eqb i 0 h)
    ∙ ap (onward (λ p. leads k cs p)) q

pub no_more : (n : ℕ) (cs : List Cell) (i : ℕ) → n ≡ 0 → leads n cs i ≡ eqb i 0
unfolding leads
no_more n cs i e = ap (λ m. leads m cs i) e

pub past_cells : (cs : List Cell) (i : ℕ) → length cs ≤ i → (get_or cs i no_cell).parent ≡ None
past_cells cs i h = ap (λ c. c.parent) (get_or_past cs i no_cell h)
