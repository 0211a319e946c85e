-- The names that a plan's links are shown by.
use Rattle.std.proofs.Common.{◌≡◌, ℕ, zero, suc, ◌+◌, ◌*◌, ◌/◌, ◌^◌, ◌<◌, ◌≤◌, Bool, true, ◌&&◌, eqb, leb, List, [], ◌∷◌, ◌++◌, length, decimal, filter, sym, refl, ap, ◌∙◌, ⊎_elim, mul-le-mul_right, mul_assoc, mul_comm, pow-suc, zero-add, arith, length-append}
use Rattle.std.proofs.lemmas.Bool.Decides.{nat_tests}
use Rattle.std.proofs.lemmas.Fmt.{digits_decimal, length-decimal-le, decimal_injective}
use Rattle.std.proofs.lemmas.Bool.{and_parts, and_from, eq-eqb, cond-false, cases_eq, cond_both, le-leb, ne_eqb}
use Rattle.text.specs.Classes.{class_of, digit, tail, upper}
use Rattle.std.specs.List.{list_all}
use Rattle.text.specs.Shapes.{is_name}
use Rattle.text.specs.Packed.{pack, spelling, padded, numeral, named, underscored}
use Rattle.text.proofs.Packing.{Bytes}
use Rattle.text.proofs.Shapes.{named_bytes}
use Rattle.text.proofs.Order.{lossless}
use Rattle.grammar.specs.Reading.{}
use Rattle.plan.specs.Sound.{count}
use Rattle.showing.specs.Shown.{number_name, place, joins, firsts}
use Rattle.grammar.specs.Events.{proper_name}
use Rattle.showing.proofs.Setting.{own}

-- digits go on a name
digit_tail : (b : ℕ) → digit b ≡ true → tail b ≡ true
unfolding class_of
digit_tail b h = grind (arith, nat_tests)

digits_tails : (ds : List ℕ) → list_all digit ds ≡ true → list_all tail ds ≡ true
digits_tails [] h = refl
digits_tails (d ∷ ds) h = let p = and_parts (digit d) (list_all digit ds) h in and_from (tail d) (list_all tail ds) (digit_tail d p.0) (digits_tails ds p.1)

underscore_upper : upper 95 ≡ true
unfolding class_of
underscore_upper = refl

-- _ and a number below 10,000
number_bytes : (i : ℕ) → i ≤ 8192 → (is_name (95 ∷ decimal i) ≡ true) × (length (95 ∷ decimal i) ≤ 5)
number_bytes i h =
    let small : i < 2 ^ 64 = omega arith in
    let few : i < 10 ^ 4 = omega arith in
    let l = length-decimal-le 4 i (omega arith) few small in
    let t = digits_tails (decimal i) (digits_decimal own i small) in
    (and_from (upper 95 && list_all tail (decimal i)) (leb (suc (length (decimal i))) 8) (and_from (upper 95) (list_all tail (decimal i)) underscore_upper t) (le-leb (suc (length (decimal i))) 8 (omega arith)), omega arith)

name_named : (bs : List ℕ) → is_name bs ≡ true → named bs ≡ true
name_named bs h = grind (arith, nat_tests)

pub number_spelled : (i : ℕ) → i ≤ 8192 → spelling (number_name i).packed ≡ 95 ∷ decimal i
number_spelled i h = lossless (95 ∷ decimal i) (name_named (95 ∷ decimal i) (number_bytes i h).0)

pub number_short : (i : ℕ) → i ≤ 8192 → length (spelling (number_name i).packed) ≤ 5
number_short i h = rw (number_spelled i h) (number_bytes i h).1

pub number_proper : (i : ℕ) → i ≤ 8192 → proper_name (number_name i) ≡ true
number_proper i h =
    let e = number_spelled i h in
    and_from (is_name (spelling (number_name i).packed)) (eqb (pack (spelling (number_name i).packed)) (number_name i).packed)
    (ap is_name e ∙ (number_bytes i h).0) (eq-eqb _ _ (ap pack e))

pub number_same : (i j : ℕ) → i ≤ 8192 → j ≤ 8192 → (number_name i).packed ≡ (number_name j).packed → i ≡ j
number_same i j h g e =
    let s : 95 ∷ decimal i ≡ 95 ∷ decimal j = sym (number_spelled i h) ∙ ap spelling e ∙ number_spelled j g in
    let t : decimal i ≡ decimal j = cc in
    decimal_injective i j (omega arith) (omega arith) t

-- one digit after a front
front_step : (n b k x : ℕ) → b < 256 → (n * 256 + b) * 256 ^ k ≤ x → x < suc (n * 256 + b) * 256 ^ k → (n * 256 ^ suc k ≤ x) × (x < suc n * 256 ^ suc k)
front_step n b k x h l g =
    let p : 256 ^ suc k ≡ 256 * 256 ^ k = pow-suc 256 k ∙ mul_comm (256 ^ k) 256 in
    let low : n * 256 ^ suc k ≡ (n * 256) * 256 ^ k = ap (λ z. n * z) p ∙ sym (mul_assoc n 256 (256 ^ k)) in
    let high : suc n * 256 ^ suc k ≡ (suc n * 256) * 256 ^ k = ap (λ z. suc n * z) p ∙ sym (mul_assoc (suc n) 256 (256 ^ k)) in
    let q : suc (n * 256 + b) * 256 ^ k ≤ (suc n * 256) * 256 ^ k = mul-le-mul_right (256 ^ k) (omega arith) in
    let r : (n * 256) * 256 ^ k ≤ (n * 256 + b) * 256 ^ k = mul-le-mul_right (256 ^ k) (omega arith) in
    (omega arith, omega arith)

-- digits after a front leave the front as the highest
numeral_front : (k n : ℕ) (bs : List ℕ) → Bytes bs → (n * 256 ^ k ≤ numeral n (padded k bs)) × (numeral n (padded k bs) < suc n * 256 ^ k)
unfolding numeral padded
numeral_front zero n bs v = (omega arith, omega arith)
numeral_front (suc k) n [] v = let ih = numeral_front k (n * 256 + 0) [] tt in front_step n 0 k _ (omega arith) ih.0 ih.1
numeral_front (suc k) n (b ∷ bs) v = let ih = numeral_front k (n * 256 + b) bs v.2 in front_step n b k _ v.1 ih.0 ih.1

first_digit : (b : ℕ) (bs : List ℕ) → pack (b ∷ bs) ≡ numeral b (padded 7 bs)
unfolding numeral padded
first_digit b bs = ap (λ n. numeral n (padded 7 bs)) (zero-add b)

pub number_underscored : (i : ℕ) → i ≤ 8192 → underscored (number_name i) ≡ true
number_underscored i h =
    let v = (named_bytes (95 ∷ decimal i) (name_named (95 ∷ decimal i) (number_bytes i h).0)).1 in
    let f = numeral_front 7 95 (decimal i) v.2 in
    let e = first_digit 95 (decimal i) in
    let low : 95 * 2 ^ 56 ≤ pack (95 ∷ decimal i) = omega arith in
    let high : pack (95 ∷ decimal i) < 96 * 2 ^ 56 = omega arith in
    eq-eqb (pack (95 ∷ decimal i) / 2 ^ 56) 95 (omega arith)

pub place_most : (x : ℕ) (xs : List ℕ) → place x xs ≤ length xs
unfolding place
place_most x [] = omega arith
place_most x (y ∷ ys) = let ih = place_most x ys in grind (arith, nat_tests)

pub place_same : (x y : ℕ) (xs : List ℕ) → place x xs ≡ place y xs → place x xs < length xs → x ≡ y
unfolding place
place_same x y [] e h = absurd (omega arith)
place_same x y (z ∷ zs) e h = let ih = place_same x y zs in grind (arith, nat_tests)

-- a number that joined a list stands in it
pub place_append : (x : ℕ) (xs ys : List ℕ) → place x xs < length xs → place x (xs ++ ys) < length (xs ++ ys)
unfolding place
place_append x [] ys h = absurd (omega arith)
place_append x (z ∷ zs) ys h = let ih = place_append x zs ys in grind (arith, nat_tests)

place_pushed : (x : ℕ) (xs : List ℕ) → place x (xs ++ (x ∷ [])) < length (xs ++ (x ∷ []))
unfolding place
place_pushed x [] = grind (arith, nat_tests)
place_pushed x (z ∷ zs) = let ih = place_pushed x zs in grind (arith, nat_tests)

joined_kept : (x y : ℕ) (xs : List ℕ) → place x xs < length xs → place x (joins xs y) < length (joins xs y)
joined_kept x y xs h =
    cond_both (eqb (place y xs) (length xs)) (xs ++ (y ∷ [])) xs (λ zs. place x zs < length zs) (λ _. place_append x xs (y ∷ []) h) (λ _. h)

pub joined_new : (x : ℕ) (xs : List ℕ) → place x (joins xs x) < length (joins xs x)
joined_new x xs =
    cond_both (eqb (place x xs) (length xs)) (xs ++ (x ∷ [])) xs (λ zs. place x zs < length zs) (λ _. place_pushed x xs) (λ e. let m = place_most x xs in grind (arith, nat_tests))

firsts_kept : (x : ℕ) (xs ys : List ℕ) → place x xs < length xs → place x (firsts xs ys) < length (firsts xs ys)
unfolding firsts
firsts_kept x xs [] h = h
firsts_kept x xs (y ∷ ys) h = firsts_kept x (joins xs y) ys (joined_kept x y xs h)

-- each number that stands is among the first standings
pub firsts_has : (x : ℕ) (xs ys : List ℕ) → 0 < count x ys → place x (firsts xs ys) < length (firsts xs ys)
unfolding firsts count
firsts_has x xs [] h = absurd (omega arith)
firsts_has x xs (y ∷ ys) h =
    ⊎_elim
    (λ (e : x ≡ y). rw (sym e) (firsts_kept x (joins xs x) ys (joined_new x xs)))
    (λ (n : x ≡ y → ⊥). let c = cond-false (eqb x y) (suc (count x ys)) (count x ys) (ne_eqb x y n) in firsts_has x (joins xs y) ys (omega arith))
    (cases_eq x y)

joined_length : (xs : List ℕ) (y : ℕ) → length (joins xs y) ≤ suc (length xs)
joined_length xs y =
    cond_both (eqb (place y xs) (length xs)) (xs ++ (y ∷ [])) xs (λ zs. length zs ≤ suc (length xs)) (λ _. let l = length-append xs (y ∷ []) in omega arith) (λ _. omega arith)

pub firsts_length : (xs ys : List ℕ) → length (firsts xs ys) ≤ length xs + length ys
unfolding firsts
firsts_length xs [] = omega arith
firsts_length xs (y ∷ ys) = let ih = firsts_length (joins xs y) ys in let j = joined_length xs y in omega arith

pub kept_length : {A : Type 0} (p : A → Bool) (xs : List A) → length (filter p xs) ≤ length xs
kept_length p [] = omega arith
kept_length p (x ∷ xs) = let ih = kept_length p xs in cond_both (p x) (x ∷ filter p xs) (filter p xs) (λ zs. length zs ≤ suc (length xs)) (λ _. omega arith) (λ _. omega arith)
