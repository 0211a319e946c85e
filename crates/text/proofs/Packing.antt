-- Packing: what one turn of the loop does, and that packing loses nothing.
use Rattle.std.proofs.Common.{◌≡◌, ℕ, zero, suc, ◌+◌, ◌-◌, ◌*◌, ◌/◌, ◌%◌, ◌^◌, ◌<◌, ◌≤◌, eqb, List, [], ◌∷◌, ◌++◌, length, take, drop, min, replicate, not, sym, refl, ap, ap₂, ◌∙◌, cond, true, false, one-add, subst, append-nil, add-zero, mul_comm, pow-suc, zero-add, arith}
use native.Mathlib.Nat.{min_comm}
use Rattle.std.proofs.lemmas.List.{drop-replicate, take_min}
use Rattle.std.proofs.Math.Nat.{div-div-eq-div-mul}
use Rattle.std.proofs.lemmas.Bool.{cond-false, ne_eqb}
use Rattle.std.specs.Int.{w64, from_be_bytes, byte_at, bytes_high_first}
use Rattle.std.specs.List.{prefix_len}
use Rattle.text.specs.Packed.{padded, numeral, pack, digits, before_zero, spelling}

-- eight bytes are the number that they write
pub be_numeral : (bs : List ℕ) → length bs ≡ 8 → from_be_bytes w64 bs ≡ numeral 0 bs
unfolding numeral
be_numeral [] l = absurd (omega arith)
be_numeral (a ∷ []) l = absurd (omega arith)
be_numeral (a ∷ (b ∷ [])) l = absurd (omega arith)
be_numeral (a ∷ (b ∷ (c ∷ []))) l = absurd (omega arith)
be_numeral (a ∷ (b ∷ (c ∷ (d ∷ [])))) l = absurd (omega arith)
be_numeral (a ∷ (b ∷ (c ∷ (d ∷ (e ∷ []))))) l = absurd (omega arith)
be_numeral (a ∷ (b ∷ (c ∷ (d ∷ (e ∷ (f ∷ [])))))) l = absurd (omega arith)
be_numeral (a ∷ (b ∷ (c ∷ (d ∷ (e ∷ (f ∷ (g ∷ []))))))) l = absurd (omega arith)
be_numeral (a ∷ (b ∷ (c ∷ (d ∷ (e ∷ (f ∷ (g ∷ (h ∷ [])))))))) l = omega arith
be_numeral (a ∷ (b ∷ (c ∷ (d ∷ (e ∷ (f ∷ (g ∷ (h ∷ (i ∷ more))))))))) l = absurd (omega arith)

-- the first bytes, and zeros after them
zeros : (k : ℕ) → padded k [] ≡ replicate k 0
unfolding padded
zeros zero = refl
zeros (suc k) = ap (λ t. 0 ∷ t) (zeros k)

pub padded_is : (k : ℕ) (bs : List ℕ) → padded k bs ≡ take k bs ++ replicate (k - length bs) 0
unfolding padded
padded_is zero bs = search arith
padded_is (suc k) [] = let e : suc k - 0 ≡ suc k = omega arith in rw e (zeros (suc k))
padded_is (suc k) (b ∷ bs) = let e : suc k - suc (length bs) ≡ k - length bs = omega arith in rw e (ap (λ t. b ∷ t) (padded_is k bs))

pub padded_eight : (bs : List ℕ) (n : ℕ) → n ≡ min (length bs) 8 → take n bs ++ drop n (replicate 8 0) ≡ padded 8 bs
padded_eight bs n e =
    let t : take n bs ≡ take 8 bs = rw (e, min_comm (length bs) 8) (take_min 8 bs) in
    let m : 8 - n ≡ 8 - length bs = omega arith in let d : drop n (replicate 8 0) ≡ replicate (8 - length bs) 0 = drop-replicate n 8 0 ∙ ap (λ k. replicate k 0) m in
    sym (padded_is 8 bs ∙ ap₂ (λ s t. s ++ t) (sym t) (sym d))

-- the eight bytes of a number
byte_up : (k n : ℕ) → byte_at k (n / 256) ≡ n / 256 ^ suc k % 256
byte_up zero n = refl
byte_up (suc k) n = let e : n / 256 / 256 ^ suc k ≡ n / 256 ^ suc (suc k) = div-div-eq-div-mul n 256 (256 ^ suc k) ∙ ap (λ m. n / m) (sym (pow-suc 256 (suc k) ∙ mul_comm (256 ^ suc k) 256)) in ap (λ x. x % 256) e

digits_more : (k n : ℕ) (after : List ℕ) → bytes_high_first k (n / 256) ++ (n % 256 ∷ after) ≡ bytes_high_first (suc k) n ++ after
digits_more zero n after = refl
digits_more (suc k) n after = ap₂ (λ x xs. x ∷ xs) (byte_up k n) (digits_more k n after)

pub digits_be : (k n : ℕ) (after : List ℕ) → digits k n after ≡ bytes_high_first k n ++ after
unfolding digits
digits_be zero n after = refl
digits_be (suc k) n after = digits_be k (n / 256) (n % 256 ∷ after) ∙ digits_more k n after

-- what stands before the first zero
pub before_run : (bs : List ℕ) → take (prefix_len (λ b. not (eqb b 0)) bs) bs ≡ before_zero bs
unfolding before_zero
before_run [] = refl
before_run (b ∷ bs) =
    elim (eqb b 0) as (λ v. take (cond (not v) (1 + prefix_len (λ x. not (eqb x 0)) bs) 0) (b ∷ bs) ≡ cond v [] (b ∷ before_zero bs)) [ true ↦ refl | false ↦ rw one-add (ap (λ t. b ∷ t) (before_run bs)) ]

-- the eight bytes and the number of them before the first zero, as the library gives them
pub bytes_spelled : (n : ℕ) (bs : List ℕ) → bs ≡ bytes_high_first 8 n → bs ≡ digits 8 n []
bytes_spelled n bs e = e ∙ sym (append-nil (bytes_high_first 8 n)) ∙ sym (digits_be 8 n [])

run_before : (bs : List ℕ) → prefix_len (λ b. not (eqb b 0)) bs ≡ length (before_zero bs)
unfolding before_zero
run_before [] = refl
run_before (b ∷ bs) =
    elim (eqb b 0) as (λ v. cond (not v) (1 + prefix_len (λ x. not (eqb x 0)) bs) 0 ≡ length (cond v [] (b ∷ before_zero bs))) [ true ↦ refl | false ↦ rw one-add (ap suc (run_before bs)) ]

pub count_spelled : (n k : ℕ) (bs : List ℕ) → bs ≡ bytes_high_first 8 n → k ≡ prefix_len (λ b. not (eqb b 0)) bs → k ≡ length (spelling n)
count_spelled n k bs e h = h ∙ run_before bs ∙ ap (λ d. length (before_zero d)) (bytes_spelled n bs e)

-- what is spelled is the front of the eight bytes
length_digits : (k n : ℕ) (after : List ℕ) → length (digits k n after) ≡ k + length after
unfolding digits
length_digits zero n after = omega arith
length_digits (suc k) n after = let ih = length_digits k (n / 256) (n % 256 ∷ after) in omega arith

pub eight_digits : (n : ℕ) → length (digits 8 n []) ≡ 8
eight_digits n = length_digits 8 n []

pub before_short : (bs : List ℕ) → length (before_zero bs) ≤ length bs
unfolding before_zero
before_short [] = omega arith
before_short (b ∷ bs) =
    let ih = before_short bs in
    elim (eqb b 0) as (λ v. length (cond v [] (b ∷ before_zero bs)) ≤ suc (length bs)) [ true ↦ omega arith | false ↦ omega arith ]

pub before_front : (bs : List ℕ) → take (length (before_zero bs)) bs ≡ before_zero bs
before_front bs = ap (λ n. take n bs) (sym (run_before bs)) ∙ before_run bs

pub spelling_short : (n : ℕ) → length (spelling n) ≤ 8
spelling_short n = let a = before_short (digits 8 n []) in let b = eight_digits n in omega arith

pub spelling_front : (n : ℕ) → take (length (spelling n)) (digits 8 n []) ≡ spelling n
spelling_front n = before_front (digits 8 n [])

-- bytes of a name: none is zero, each is below 256
abbrev pub Bytes : List ℕ → Type 0
Bytes [] = Unit {0}
Bytes (b ∷ bs) = (0 < b) × (b < 256) × Bytes bs

abbrev pub Under : List ℕ → Type 0
Under [] = Unit {0}
Under (b ∷ bs) = (b < 256) × Under bs

digits_numeral : (ds : List ℕ) (j n : ℕ) (after : List ℕ) → Under ds → digits (j + length ds) (numeral n ds) after ≡ digits j n (ds ++ after)
unfolding digits numeral
digits_numeral [] j n after v = rw add-zero
digits_numeral (d ∷ ds) j n after v =
    let q : (n * 256 + d) / 256 ≡ n = omega (arith, v.0) in
    let r : (n * 256 + d) % 256 ≡ d = omega (arith, v.0) in
    let m : j + suc (length ds) ≡ suc j + length ds = omega arith in
    rw m (digits_numeral ds (suc j) (n * 256 + d) after v.1 ∙ simp (q, r))

length_padded : (k : ℕ) (bs : List ℕ) → length (padded k bs) ≡ k
unfolding padded
length_padded zero bs = refl
length_padded (suc k) [] = ap suc (length_padded k [])
length_padded (suc k) (b ∷ bs) = ap suc (length_padded k bs)

under_padded : (k : ℕ) (bs : List ℕ) → Bytes bs → Under (padded k bs)
unfolding padded
under_padded zero bs v = tt
under_padded (suc k) [] v = (omega arith, under_padded k [] tt)
under_padded (suc k) (b ∷ bs) v = (v.1, under_padded k bs v.2)

cut_padded : (k : ℕ) (bs : List ℕ) → length bs ≤ k → Bytes bs → before_zero (padded k bs) ≡ bs
unfolding padded before_zero
cut_padded zero [] h v = refl
cut_padded zero (b ∷ bs) h v = absurd (omega arith)
cut_padded (suc k) [] h v = refl
cut_padded (suc k) (b ∷ bs) h v =
    cond-false (eqb b 0) _ _ (ne_eqb b 0 (omega (arith, v.0))) ∙ ap (λ t. b ∷ t) (cut_padded k bs (omega arith) v.2)

none_left : (ds : List ℕ) → digits 0 0 (ds ++ []) ≡ ds
unfolding digits
none_left ds = append-nil ds

pub pack_be : (bs : List ℕ) → from_be_bytes w64 (padded 8 bs) ≡ pack bs
pack_be bs = be_numeral (padded 8 bs) (length_padded 8 bs)

pub spelling_pack : (bs : List ℕ) → length bs ≤ 8 → Bytes bs → spelling (pack bs) ≡ bs
spelling_pack bs h v =
    let e : digits 8 (pack bs) [] ≡ padded 8 bs =
    subst (λ k. digits k (pack bs) [] ≡ padded 8 bs) (zero-add _ ∙ length_padded 8 bs) (digits_numeral (padded 8 bs) 0 0 [] (under_padded 8 bs v) ∙ none_left (padded 8 bs)) in
    ap before_zero e ∙ cut_padded 8 bs h v
