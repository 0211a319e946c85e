-- Lists with the same standings.
use Rattle.std.proofs.Common.{◌≡◌, ℕ, ◌<◌, ◌≤◌, cond, eqb, List, [], ◌∷◌, length, sym, ◌∙◌, arith}
use Rattle.std.specs.List.{AllByRecursion as All}
use Rattle.std.proofs.lemmas.Bool.Decides.{nat_tests}
use Rattle.plan.specs.Sound.{count}
use Rattle.showing.proofs.Totals.{total, total_all, total_alike, total_swap, total_most, all_of, count_total, length_total}

-- what holds of what stands holds of each
pub all_standing : (P : ℕ → Type 0) (xs : List ℕ) → ((x : ℕ) → 0 < count x xs → P x) → All P xs
unfolding count
all_standing P [] h = tt
all_standing P (x ∷ xs) h = (h x (grind (arith, nat_tests)), all_standing P xs (λ y l. h y (grind (arith, nat_tests))))

pub same_length : (xs ys : List ℕ) → ((x : ℕ) → count x xs ≤ 1) → ((x : ℕ) → count x xs ≡ count x ys) → length xs ≡ length ys
same_length xs ys d e =
    length_total xs
    ∙ (total_all (λ x. 1) (λ x. total (λ y. cond (eqb x y) 1 0) ys) xs (all_standing (λ x. 1 ≡ total (λ y. cond (eqb x y) 1 0) ys) xs (λ x l. (let a = d x in let b = e x in let c = count_total x ys in omega arith)))
    ∙ (total_swap (λ x y. cond (eqb x y) 1 0) xs ys
    ∙ (total_all (λ y. total (λ x. cond (eqb x y) 1 0) xs) (λ y. 1) ys (all_standing (λ y. total (λ x. cond (eqb x y) 1 0) xs ≡ 1) ys (λ y l. (let a = d y in let b = e y in let c = count_total y xs in let g = total_alike (λ x. cond (eqb x y) 1 0) (λ x. cond (eqb y x) 1 0) xs (λ x. grind (arith, nat_tests)) in omega arith)))
    ∙ sym (length_total ys))))

-- numbers that stand once, and all among others, are not more
pub not_longer : (xs ys : List ℕ) → ((x : ℕ) → count x xs ≤ 1) → ((x : ℕ) → 0 < count x xs → 0 < count x ys) → ((x : ℕ) → count x ys ≤ 1) → length xs ≤ length ys
not_longer xs ys d e g =
    let a = length_total xs in
    let b = total_all (λ x. 1) (λ x. total (λ y. cond (eqb x y) 1 0) ys) xs (all_standing (λ x. 1 ≡ total (λ y. cond (eqb x y) 1 0) ys) xs (λ x l. (let u = g x in let v = e x l in let c = count_total x ys in omega arith))) in
    let c = total_swap (λ x y. cond (eqb x y) 1 0) xs ys in
    let f = total_most (λ y. total (λ x. cond (eqb x y) 1 0) xs) 1 ys (all_of (λ y. total (λ x. cond (eqb x y) 1 0) xs ≤ 1) ys (λ y. (let u = d y in let v = count_total y xs in let w = total_alike (λ x. cond (eqb x y) 1 0) (λ x. cond (eqb y x) 1 0) xs (λ x. grind (arith, nat_tests)) in omega arith))) in
    omega arith
