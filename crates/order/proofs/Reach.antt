-- An order that keeps the law reaches every place.
use Rattle.std.proofs.Common.{◌≡◌, ℕ, zero, suc, ◌<◌, ◌≤◌, cond, eqb, List, length, get_or, ◌∙◌, ⊎_elim, arith}
use Rattle.std.proofs.lemmas.Bool.Decides.{nat_tests}
use Rattle.std.proofs.lemmas.Bool.{cases_eq}
use Rattle.order.specs.Trying.{AllTried, Lawful, Meaning, Reaches, answer, most}

-- where f is one-to-one below n and stays below n, each number below n is a value of f: take the last argument away, and let what had the
-- value n have its value
pub hits : (n : ℕ) (f : ℕ → ℕ) → ((k : ℕ) → k < n → f k < n) → ((j k : ℕ) → j < n → k < n → f j ≡ f k → j ≡ k) → (r : ℕ) → r < n → (k : ℕ) × (k < n) × (f k ≡ r)
hits zero f low one r l = absurd (omega arith)
hits (suc n) f low one r l =
    ⊎_elim (λ (e : f n ≡ r). (n, omega arith, e))
    (λ (ne : f n ≡ r → ⊥).
    let low_n = low n (omega arith) in
    let back = λ (k : ℕ) (b : k < n). one k n (omega arith) (omega arith) in
    let h =
    hits n (λ k. cond (eqb (f k) n) (f n) (f k))
    (λ k b. let low_k = low k (omega arith) in let back_k = back k b in grind (arith, nat_tests))
    (λ j k bj bk e. let back_j = back j bj in let back_k = back k bk in let one_jk = one j k (omega arith) (omega arith) in grind (arith, nat_tests))
    (cond (eqb r n) (f n) r)
    (grind (arith, nat_tests)) in
    let back_h = back h.0 h.1 in
    let is = h.2 in
    (h.0, omega (arith, h.1), grind (arith, nat_tests)))
    (cases_eq (f n) r)

pub reaches : {O R : Type 0} (m : Meaning O R) → Lawful m → (o : O) → Reaches (m.place o)
reaches m law o n r few l = hits n (m.place o n) (λ k. law.within o n k few) (λ j k. law.apart o n j k few) r l

pub answered : (place : ℕ → ℕ → ℕ) (n k : ℕ) → n ≤ most → k < n → answer place n k ≡ place n k
answered place n k m l = grind (arith, nat_tests)

-- a list of all answers has every number in it
pub all_tried : (place : ℕ → ℕ → ℕ) → Reaches place → (xs : List ℕ) (n : ℕ) → length xs ≡ n → ((k : ℕ) → k < n → get_or xs k 0 ≡ answer place n k) → AllTried xs
all_tried place reach xs n long is few r l =
    let h = reach n r (omega arith) (omega arith) in
    (h.0, omega (arith, h.1), is h.0 h.1 ∙ (answered place n h.0 (omega arith) h.1 ∙ h.2))
