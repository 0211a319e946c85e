-- Numbers one after another, and those that stand nowhere.
use Rattle.std.proofs.Common.{◌≡◌, ℕ, zero, suc, ◌+◌, ◌<◌, ◌≤◌, Bool, true, false, cond, eqb, ltb, List, [], ◌∷◌, ◌++◌, length, get_or, replicate, filter, sym, refl, ap, ◌∙◌, ap₂, ⊎_elim, append-nil, arith}
use lib.ListN.{length-replicate}
use Rattle.std.proofs.lemmas.List.Elements.{filter-append}
use Rattle.std.proofs.lemmas.Bool.Decides.{nat_tests}
use Rattle.std.proofs.lemmas.Bool.{cases_eq}
use Rattle.plan.specs.Sound.{count, rows}
use Rattle.plan.specs.Tally.{bumped, tallied}
use Rattle.plan.proofs.Counting.{bumped_here, bumped_other, length_bumped, length_tallied, tallied_append, zero_at}

pub rows_more : (i n : ℕ) → rows i (suc n) ≡ rows i n ++ ((i + n) ∷ [])
unfolding rows
rows_more i zero = ap (λ j. j ∷ []) (omega arith)
rows_more i (suc n) = ap (λ t. i ∷ t) (rows_more (suc i) n ∙ ap (λ j. rows (suc i) n ++ (j ∷ [])) (omega arith))

step : (p : ℕ → Bool) (n : ℕ) → filter p (rows 0 (n + 1)) ≡ filter p (rows 0 n) ++ cond (p n) (n ∷ []) []
step p n =
    let a : n + 1 ≡ suc n = omega arith in
    let b : 0 + n ≡ n = omega arith in
    ap (λ j. filter p (rows 0 j)) a ∙ ap (filter p) (rows_more 0 n) ∙ filter-append p (rows 0 n) ((0 + n) ∷ []) ∙ ap (λ j. filter p (rows 0 n) ++ filter p (j ∷ [])) b

pub kept_yes : (p : ℕ → Bool) (n : ℕ) → p n ≡ true → filter p (rows 0 (n + 1)) ≡ filter p (rows 0 n) ++ (n ∷ [])
kept_yes p n h = step p n ∙ ap (λ v. filter p (rows 0 n) ++ cond v (n ∷ []) []) h

pub kept_no : (p : ℕ → Bool) (n : ℕ) → p n ≡ false → filter p (rows 0 (n + 1)) ≡ filter p (rows 0 n)
kept_no p n h = step p n ∙ ap (λ v. filter p (rows 0 n) ++ cond v (n ∷ []) []) h ∙ append-nil (filter p (rows 0 n))

pub none_kept : (p : ℕ → Bool) → filter p (rows 0 0) ≡ []
unfolding rows
none_kept p = refl

kept_alike : (p q : ℕ → Bool) (i n : ℕ) → ((x : ℕ) → x < i + n → p x ≡ q x) → filter p (rows i n) ≡ filter q (rows i n)
unfolding rows
kept_alike p q i zero h = refl
kept_alike p q i (suc n) h =
    let ih = kept_alike p q (suc i) n (λ x b. h x (omega arith)) in
    ap (λ v. cond v (i ∷ filter p (rows (suc i) n)) (filter p (rows (suc i) n))) (h i (omega arith))
    ∙ ap (λ t. cond (q i) (i ∷ t) t) ih

-- a counter is zero where its number stands nowhere
zero_end : (x y n m j : ℕ) (t : Bool) → (x ≡ y → m ≡ cond (ltb n 3) (n + 1) n) → ((x ≡ y → ⊥) → m ≡ n) → t ≡ eqb (m + j) 0 → t ≡ eqb (n + cond (eqb x y) (suc j) j) 0
zero_end x y n m j t same other ih = grind (arith, nat_tests)

tallied_zero : (s counts : List ℕ) (x : ℕ) → x < length counts → get_or counts x 0 ≤ 3 → eqb (get_or (tallied s counts) x 0) 0 ≡ eqb (get_or counts x 0 + count x s) 0
unfolding tallied count
tallied_zero [] counts x h k = ap (λ n. eqb n 0) (omega arith)
tallied_zero (y ∷ s) counts x h k =
    let l = length_bumped y counts in
    let near : x < length (bumped y counts) = omega arith in
    let small : get_or (bumped y counts) x 0 ≤ 3 = ⊎_elim (λ (e : x ≡ y). let b = bumped_here x y counts e h k in grind (arith, nat_tests)) (λ (e : x ≡ y → ⊥). let b = bumped_other x y counts e in omega arith) (cases_eq x y) in
    zero_end x y (get_or counts x 0) (get_or (bumped y counts) x 0) (count x s) (eqb (get_or (tallied s (bumped y counts)) x 0) 0)
    (λ e. bumped_here x y counts e h k) (bumped_other x y counts) (tallied_zero s (bumped y counts) x near small)

pub zeros_right : (s t a b : List ℕ) → a ≡ tallied s (replicate 8256 0) → b ≡ tallied t a → filter (λ x. eqb (get_or b x 0) 0) (rows 0 (length b)) ≡ filter (λ x. eqb (count x (s ++ t)) 0) (rows 0 8256)
zeros_right s t a b e₁ e₂ =
    let r = length-replicate {A = ℕ} 8256 0 in
    let e : b ≡ tallied (s ++ t) (replicate 8256 0) = e₂ ∙ ap (tallied t) e₁ ∙ sym (tallied_append s t (replicate 8256 0)) in
    let l : length b ≡ 8256 = ap length e ∙ length_tallied (s ++ t) (replicate 8256 0) ∙ r in
    ap (λ n. filter (λ x. eqb (get_or b x 0) 0) (rows 0 n)) l
    ∙ kept_alike (λ x. eqb (get_or b x 0) 0) (λ x. eqb (count x (s ++ t)) 0) 0 8256
    (λ x h.
    let z = zero_at 8256 x in
    ap (λ c. eqb (get_or c x 0) 0) e ∙ tallied_zero (s ++ t) (replicate 8256 0) x (omega arith) (omega arith) ∙ ap (λ n. eqb n 0) (omega arith))

-- numbers that are each their own place
rows_here : (i : ℕ) (xs : List ℕ) → ((k : ℕ) → k < length xs → get_or xs k 0 ≡ i + k) → xs ≡ rows i (length xs)
unfolding rows
rows_here i [] h = refl
rows_here i (x ∷ xs) h =
    let e : x ≡ i = h 0 (omega arith) ∙ omega arith in
    ap₂ (λ y t. y ∷ t) e (rows_here (suc i) xs (λ k l. h (suc k) (omega arith) ∙ omega arith))

pub all_rows : (n : ℕ) (xs : List ℕ) → length xs ≡ n → ((k : ℕ) → k < n → get_or xs k 0 ≡ k) → xs ≡ rows 0 n
all_rows n xs l h = rows_here 0 xs (λ k m. h k (omega arith) ∙ omega arith) ∙ ap (rows 0) l
