-- Numbers: their digits, their values and their range.
use Rattle.std.specs.Prelude.{◌≡◌, ℕ, zero, suc, ◌^◌, ◌<◌, ◌≤◌, min, Bool, true, false, cond, ◌&&◌, List, [], ◌∷◌, length, ℤ, pos, negsuc, neg_ℤ, Some, None, decimal, FitsSigned, ◌==◌, ◌≢◌, nat_le, slice_index, refl}
use Rattle.std.proofs.Common.{sym, ap, ap₂, ◌∙◌, ⊎_elim, arith}
use Rattle.std.specs.Fmt.{signed_decimal}
use Rattle.std.specs.Int.{IsInRange, w32}
use Rattle.std.proofs.lemmas.Bool.Decides.{nat_tests}
use Rattle.std.proofs.lemmas.Bool.{eq-eqb, and_parts, and_from, cases_Bool, cases_lt, cond-true, cond-false, leb-true, le-leb, lt-leb, ne_eqb}
use Rattle.std.proofs.lemmas.Str.Parse.{IsNumeralModel, IsDigitsTest, FoldsDigits, numerals_by_fold}
use Rattle.std.proofs.lemmas.Fmt.{decimal_nonempty, digits_decimal, digits_value-decimal, length-decimal-le}
use Rattle.text.specs.Classes.{class_of, digit, within}
use Rattle.std.specs.List.{list_all, prefix_len}
use Rattle.text.specs.Shapes.{begins, is_number}
use Rattle.text.specs.Numbers.{digits_value}
use Rattle.text.proofs.Shapes.{all_longest}
use Rattle.text.proofs.Slices.{past, at_first}
use Rattle.label.specs.declared.form.Form.TheVariants.{Number}
use Rattle.label.specs.Tokens.{held_value, in_range, negative, number_token, number_value, read_number, unsigned}

-- a digit is one of the bytes 48 to 57
pub digit_is : (b : ℕ) → digit b ≡ within 48 57 b
unfolding class_of
digit_is b = grind (arith, nat_tests)

pub digit_in : (b : ℕ) → digit b ≡ true → IsInRange 48 57 b
digit_in b t = let e = digit_is b in (grind (arith, nat_tests), grind (arith, nat_tests))

pub digit_from : (b : ℕ) → 48 ≤ b → b ≤ 57 → digit b ≡ true
digit_from b l h = let e = digit_is b in grind (arith, nat_tests)

tells_all : IsDigitsTest (λ ds. list_all digit ds ≡ true)
tells_all =
    record {
      empty = refl;
      parts = λ c cs h. let p = and_parts (digit c) (list_all digit cs) h in (digit_in c p.0, p.1);
      more = λ c cs i h. and_from (digit c) (list_all digit cs) (digit_from c i.0 i.1) h;
    }

folds_value : FoldsDigits digits_value
unfolding digits_value
folds_value = record { empty = λ n. refl; more = λ n c cs i. refl }

-- `all digit` and `digits_value` are what the library's lemmas on digits speak of
own : IsNumeralModel (λ ds. list_all digit ds ≡ true) (digits_value 0)
own = numerals_by_fold (λ ds. list_all digit ds ≡ true) tells_all digits_value folds_value

-- digits with no sign
digits_number : (ds : List ℕ) → 0 < length ds → list_all digit ds ≡ true → (is_number ds ≡ true) × (number_value ds ≡ pos (digits_value 0 ds))
digits_number [] h t = absurd (omega arith)
digits_number (b ∷ bs) h t =
    let i = digit_in b (and_parts (digit b) (list_all digit bs) t).0 in
    let e = ne_eqb b 45 (λ e. omega (arith, i.0)) in
    (cond-false (b == 45) _ _ e ∙ t, cond-false (b == 45) _ _ e)

begins_all : (ds : List ℕ) → 0 < length ds → begins digit digit ds ≡ list_all digit ds
begins_all [] h = absurd (omega arith)
begins_all (b ∷ bs) h = refl

-- the token of a number, and what reading it gives
pub record NumberShown (z : ℤ) : Type 0 where
  pub is : number_token z ≡ Some (Number, signed_decimal z)
  pub whole : is_number (signed_decimal z) ≡ true
  pub short : length (signed_decimal z) ≤ 11
  pub back : read_number (signed_decimal z) ≡ Some z

read_back : (bs : List ℕ) (z : ℤ) → is_number bs ≡ true → number_value bs ≡ z → in_range z ≡ true → read_number bs ≡ Some z
read_back bs z n v r =
    cond-true (is_number bs && in_range (number_value bs)) _ _ (and_from (is_number bs) (in_range (number_value bs)) n (ap in_range v ∙ r)) ∙ ap Some v

pub number_shown : (z : ℤ) → in_range z ≡ true → NumberShown z
number_shown (pos n) h =
    let l = leb-true n 2147483647 h in
    let small : n < 2 ^ 64 = omega arith in
    let few : n < 10 ^ 10 = omega arith in
    let s = digits_number (decimal n) (decimal_nonempty n small) (digits_decimal own n small) in
    let w = digits_value-decimal own n small in
    let k = length-decimal-le 10 n (omega arith) few small in
    record {
      is = cond-true (in_range (pos n)) _ _ h;
      whole = s.0;
      short = omega arith;
      back = read_back (decimal n) (pos n) s.0 (s.1 ∙ ap pos w) h;
    }
number_shown (negsuc n) h =
    let l = leb-true n 2147483647 h in
    let small : suc n < 2 ^ 64 = omega arith in
    let few : suc n < 10 ^ 10 = omega arith in
    let w = digits_value-decimal own (suc n) small in
    let k = length-decimal-le 10 (suc n) (omega arith) few small in
    let b = begins_all (decimal (suc n)) (decimal_nonempty (suc n) small) ∙ digits_decimal own (suc n) small in
    record {
      is = cond-true (in_range (negsuc n)) _ _ h;
      whole = b;
      short = omega arith;
      back = read_back (signed_decimal (negsuc n)) (negsuc n) b (ap (λ m. neg_ℤ (pos m)) w) h;
    }

-- what is read is in range
pub number_mine : (bs : List ℕ) (z : ℤ) → read_number bs ≡ Some z → in_range z ≡ true
number_mine bs z h =
    let test = is_number bs && in_range (number_value bs) in
    ⊎_elim
    (λ t. let c : Some (number_value bs) ≡ Some z = sym (cond-true test (Some (number_value bs)) None t) ∙ h in let e : number_value bs ≡ z = cc in ap in_range (sym e) ∙ (and_parts (is_number bs) (in_range (number_value bs)) t).1)
    (λ f. let c : None ≡ Some z = sym (cond-false test (Some (number_value bs)) None f) ∙ h in let n : ◌≡◌ {A = ℕ} 0 1 = cc in absurd (omega arith))
    (cases_Bool test)

-- digits, by the run of digits at their front
begins_run : (s : List ℕ) → 0 < length s → begins digit digit s ≡ (prefix_len digit s == length s)
begins_run s h = begins_all s h ∙ all_longest digit s

pub run_whole : (s : List ℕ) (n : ℕ) → 0 < length s → prefix_len digit s ≡ length s → n ≡ min (digits_value 0 s) 4294967295 → Some n ≡ held_value s
run_whole s n h e v = ap Some v ∙ sym (cond-true (begins digit digit s) _ _ (begins_run s h ∙ eq-eqb _ _ e))

pub run_short : (s : List ℕ) → 0 < length s → (prefix_len digit s ≢ length s) → None ≡ held_value s
run_short s h e = sym (cond-false (begins digit digit s) _ _ (begins_run s h ∙ ne_eqb _ _ e))

pub run_empty : (s : List ℕ) → length s ≤ 0 → None ≡ held_value s
run_empty [] h = refl
run_empty (b ∷ bs) h = absurd (omega arith)

-- a number by the value that its digits are held at
range_minus : (w : ℕ) → in_range (neg_ℤ (pos w)) ≡ nat_le w 2147483648
range_minus zero = refl
range_minus (suc k) = grind (arith, nat_tests)

-- held or not, a value is within a bound below the highest or is not, and below it is the same
held_within : (bound w : ℕ) (f : ℕ → ℤ) → bound < 4294967295 → cond (nat_le (min w 4294967295) bound) (Some (f (min w 4294967295))) None ≡ cond (nat_le w bound) (Some (f w)) None
held_within bound w f h =
    ⊎_elim
    (λ (l : bound < w). let m : bound < min w 4294967295 = omega arith in rw (lt-leb (min w 4294967295) bound m, lt-leb w bound l))
    (λ (l : w ≤ bound). let m : min w 4294967295 ≡ w = omega arith in ap (λ v. cond (nat_le v bound) (Some (f v)) None) m)
    (cases_lt bound w)

-- two tests, one inside the other
by_both : {X : Type 0} (a b : Bool) (x : X) → cond (a && b) (Some x) None ≡ cond a (cond b (Some x) None) None
by_both true b x = refl
by_both false b x = refl

pub negative_held : (ds : List ℕ) → read_number (45 ∷ ds) ≡ negative (held_value ds)
negative_held ds =
    let w = digits_value 0 ds in
    let t = begins digit digit ds in
    by_both t (in_range (neg_ℤ (pos w))) (neg_ℤ (pos w))
    ∙ ap (λ v. cond t (cond v (Some (neg_ℤ (pos w))) None) None) (range_minus w)
    ∙ ap (λ v. cond t v None) (sym (held_within 2147483648 w (λ n. neg_ℤ (pos n)) (omega arith)))
    ∙ inside t
  where
    inside : (t : Bool) → cond t (negative (Some (min (digits_value 0 ds) 4294967295))) None ≡ negative (cond t (Some (min (digits_value 0 ds) 4294967295)) None)
    inside true = refl
    inside false = refl

pub unsigned_held : (b : ℕ) (bs : List ℕ) → (b ≢ 45) → read_number (b ∷ bs) ≡ unsigned (held_value (b ∷ bs))
unsigned_held b bs h =
    let w = digits_value 0 (b ∷ bs) in
    let t = begins digit digit (b ∷ bs) in
    let e = ne_eqb b 45 h in
    let n : is_number (b ∷ bs) ≡ t = cond-false (b == 45) _ _ e in
    let v : number_value (b ∷ bs) ≡ pos w = cond-false (b == 45) _ _ e in
    ap₂ (λ x y. cond (x && in_range y) (Some y) None) n v
    ∙ by_both t (in_range (pos w)) (pos w)
    ∙ ap (λ x. cond t x None) (sym (held_within 2147483647 w pos (omega arith)))
    ∙ inside t
  where
    inside : (t : Bool) → cond t (unsigned (Some (min (digits_value 0 (b ∷ bs)) 4294967295))) None ≡ unsigned (cond t (Some (min (digits_value 0 (b ∷ bs)) 4294967295)) None)
    inside true = refl
    inside false = refl

-- the same at slice patterns
pub read_minus : (s : List ℕ) → 0 < length s → slice_index s 0 ≡ 45 → negative (held_value (past 1 s)) ≡ read_number s
read_minus s h e = sym (ap read_number (at_first 0 s h ∙ ap (λ b. b ∷ past 1 s) e) ∙ negative_held (past 1 s))

pub read_plain : (s : List ℕ) → (0 < length s → slice_index s 0 ≢ 45) → unsigned (held_value s) ≡ read_number s
read_plain [] h = refl
read_plain (b ∷ bs) h = sym (unsigned_held b bs (h (omega arith)))

-- every number of 32 bits is in range
pub in_range_from_fits : (z : ℤ) → FitsSigned w32 z → in_range z ≡ true
in_range_from_fits (pos n) f = le-leb n 2147483647 (omega (arith, f.sfits))
in_range_from_fits (negsuc n) f = le-leb n 2147483647 (omega (arith, f.sfits))
