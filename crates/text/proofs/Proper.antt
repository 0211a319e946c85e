-- Each token of a text has the bytes of its sort.
use Rattle.std.proofs.Common.{◌≡◌, ℕ, zero, suc, ◌+◌, Bool, true, false, cond, ◌&&◌, eqb, ltb, leb, List, [], ◌∷◌, length, take, Ok, Err, refl, ap, ◌∙◌, one-add, arith}
use Rattle.std.proofs.lemmas.Bool.Decides.{nat_tests}
use Rattle.std.proofs.lemmas.List.Folds.{length-prefix_len}
use Rattle.text.specs.declared.class.Class.{Class}
use Rattle.text.specs.declared.class.Class.TheVariants as classes
use Rattle.text.specs.declared.token.Sort.{Sort}
use Rattle.text.specs.declared.token.Sort.TheVariants as sorts
use Rattle.text.specs.declared.token.Mark.TheVariants.{Turn, Colon}
use Rattle.fault.specs.declared.Refusal.TheVariants.{NoToken, LongName}
use Rattle.text.specs.Classes.{class_of, blank, lower, upper, digit, tail, lower_class, upper_class, digit_class}
use Rattle.std.specs.List.{list_all, prefix_len}
use Rattle.text.specs.Shapes.{begins, is_number}
use Rattle.text.specs.Tokens.{Stream, Front, tokens, first, front, by_class, measured, negative, tok, colon, single}
use Rattle.text.specs.Answer.{proper, Proper, TokensProper}

-- the bytes of a run pass
run_passes : (p : ℕ → Bool) (bs : List ℕ) → list_all p (take (prefix_len p bs) bs) ≡ true
run_passes p [] = refl
run_passes p (b ∷ bs) =
    elim (p b) as (λ v. (p b ≡ v) → list_all p (take (cond v (1 + prefix_len p bs) 0) (b ∷ bs)) ≡ true) [
      | true ↦ λ e. rw one-add (ap (λ v. v && list_all p (take (prefix_len p bs) bs)) e ∙ run_passes p bs)
      | false ↦ λ e. refl
    ] refl

-- where the front is a token, its bytes are proper
abbrev Fine : ℕ → List ℕ → Front → Type 0
Fine b bs (Ok f) = proper (tok f.0 (b ∷ take f.1 bs)) ≡ true
Fine b bs (Err r) = Unit {0}

short : (n m : ℕ) → ltb n 8 ≡ true → m ≡ n → leb (suc m) 8 ≡ true
short n m h e = grind (arith, nat_tests)

-- a first byte and its run are a word or a line name
named_run : (first : ℕ → Bool) (b : ℕ) (bs : List ℕ) → first b ≡ true → ltb (prefix_len tail bs) 8 ≡ true → begins first tail (b ∷ take (prefix_len tail bs) bs) && leb (suc (length (take (prefix_len tail bs) bs))) 8 ≡ true
named_run first b bs e h =
    let r = run_passes tail bs in
    let s = short (prefix_len tail bs) (length (take (prefix_len tail bs) bs)) h (length-prefix_len tail bs) in
    rw (e, r, s)

measured_fine : (s : Sort) (b : ℕ) (bs : List ℕ) → (ltb (prefix_len tail bs) 8 ≡ true → proper (tok s (b ∷ take (prefix_len tail bs) bs)) ≡ true) → Fine b bs (measured s (prefix_len tail bs))
measured_fine s b bs fine =
    let n = prefix_len tail bs in
    elim (ltb n 8) as (λ v. (ltb n 8 ≡ v) → Fine b bs (cond v (Ok (s, n)) (Err LongName))) [ true ↦ fine | false ↦ λ h. tt ] refl

digit_not_minus : (b : ℕ) → digit b ≡ true → eqb b 45 ≡ false
unfolding class_of
digit_not_minus b e = grind (arith, nat_tests)

abbrev minus_class : Class → Bool
minus_class classes.Blank = false
minus_class classes.Lower = false
minus_class classes.Upper = false
minus_class classes.Digit = false
minus_class classes.Minus = true
minus_class classes.Mark = false
minus_class classes.Other = false

minus_is : (b : ℕ) → class_of b ≡ classes.Minus → eqb b 45 ≡ true
unfolding class_of
minus_is b e = let h : minus_class (class_of b) ≡ true = ap minus_class e in grind (arith, nat_tests)

number_fine : (b : ℕ) (bs : List ℕ) → digit b ≡ true → is_number (b ∷ take (prefix_len digit bs) bs) ≡ true
number_fine b bs e = rw (digit_not_minus b e, e) (run_passes digit bs)

-- a run that is not empty begins with what passes
begins_run : (bs : List ℕ) → (prefix_len digit bs ≡ 0 → ⊥) → begins digit digit (take (prefix_len digit bs) bs) ≡ true
begins_run [] h = absurd (h refl)
begins_run (b ∷ bs) h =
    elim (digit b) as (λ v. (digit b ≡ v) → (cond v (1 + prefix_len digit bs) 0 ≡ 0 → ⊥) → begins digit digit (take (cond v (1 + prefix_len digit bs) 0) (b ∷ bs)) ≡ true) [
      | true ↦ λ e k. rw (one-add, e) (run_passes digit bs)
      | false ↦ λ e k. absurd (k refl)
    ] refl h

negative_fine : (b : ℕ) (bs : List ℕ) → eqb b 45 ≡ true → Fine b bs (negative (prefix_len digit bs))
negative_fine b bs e =
    let n = prefix_len digit bs in
    elim (eqb n 0) as (λ v. (eqb n 0 ≡ v) → Fine b bs (cond v (Err NoToken) (Ok (sorts.Number, n)))) [
      | true ↦ λ h. tt
      | false ↦ λ h. let z : (n ≡ 0 → ⊥) = grind (arith, nat_tests) in rw e (begins_run bs z)
    ] refl

mark_fine : (b : ℕ) (bs : List ℕ) (m : Bool) → Fine b bs (cond m (colon bs) (Ok (sorts.Mark (single b), 0)))
mark_fine b bs true = colon_fine bs
  where
    colon_fine : (cs : List ℕ) → Fine b bs (colon cs)
    colon_fine [] = refl
    colon_fine (c ∷ cs) = elim (eqb c 45) as (λ v. Fine b bs (cond v (Ok (sorts.Mark Turn, 1)) (Ok (sorts.Mark Colon, 0)))) [ true ↦ refl | false ↦ refl ]
mark_fine b bs false = refl

front_fine : (b : ℕ) (bs : List ℕ) → Fine b bs (front b bs)
front_fine b bs = by (class_of b) refl
  where
    by : (k : Class) → class_of b ≡ k → Fine b bs (by_class k b bs)
    by classes.Blank e = tt
    by classes.Lower e = measured_fine sorts.Word b bs (named_run lower b bs (ap lower_class e))
    by classes.Upper e = measured_fine sorts.LineName b bs (named_run upper b bs (ap upper_class e))
    by classes.Digit e = number_fine b bs (ap digit_class e)
    by classes.Minus e = negative_fine b bs (minus_is b e)
    by classes.Mark e = mark_fine b bs (eqb b 58)
    by classes.Other e = tt

first_proper : (rest : ℕ → Stream) (at b : ℕ) (bs : List ℕ) (f : Front) → Fine b bs f → ((n : ℕ) → Proper (rest n)) → Proper (first rest at b bs f)
first_proper rest at b bs (Ok f) h r = (h, r f.1)
first_proper rest at b bs (Err x) h r = tt

skip_proper : (k at : ℕ) (bs : List ℕ) → Proper (tokens k at bs)
unfolding tokens
skip_proper k at [] = tt
skip_proper (suc k) at (b ∷ bs) = skip_proper k (suc at) bs
skip_proper zero at (b ∷ bs) =
    elim (blank b) as (λ v. Proper (cond v (tokens zero (suc at) bs) (first (λ n. tokens n (suc at) bs) at b bs (front b bs)))) [
      | true ↦ skip_proper zero (suc at) bs
      | false ↦ first_proper (λ n. tokens n (suc at) bs) at b bs (front b bs) (front_fine b bs) (λ n. skip_proper n (suc at) bs)
    ]

pub tokens_proper : TokensProper
tokens_proper at bs = skip_proper 0 at bs
