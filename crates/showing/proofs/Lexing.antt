-- The first token of a text that begins with a token's bytes.
use Rattle.std.proofs.Common.{◌≡◌, ℕ, suc, ◌+◌, ◌<◌, Bool, true, false, ◌&&◌, eqb, ltb, leb, List, [], ◌∷◌, ◌++◌, length, take, Ok, sym, refl, ap, ◌∙◌, ap₂, one-add, ⊎_elim, add-zero, arith}
use Rattle.std.proofs.lemmas.Bool.{cond-true, cond-false, and_parts, leb-true, lt-ltb, false≢true, cases_Bool, eqb-true, ne_eqb}
use Rattle.text.specs.declared.class.Class.{Class}
use Rattle.text.specs.declared.class.Class.TheVariants as classes
use Rattle.text.specs.declared.token.Sort.{Sort}
use Rattle.text.specs.declared.token.Sort.TheVariants as sorts
use Rattle.text.specs.Classes.{class_of, blank, blank_class, lower, upper, digit, tail, lower_class, upper_class, digit_class}
use Rattle.std.specs.List.{list_all, prefix_len}
use Rattle.text.specs.Shapes.{begins, is_word, is_name, is_number}
use Rattle.text.specs.Tokens.{Front, token, tokens, first, front, by_class, measured, negative, tok, word, name, number}

-- a run goes as far as its bytes, where what follows does not go on with it
run_stops : (p : ℕ → Bool) (w rest : List ℕ) → list_all p w ≡ true → prefix_len p rest ≡ 0 → prefix_len p (w ++ rest) ≡ length w
run_stops p [] rest a s = s
run_stops p (b ∷ w) rest a s =
    let h = and_parts (p b) (list_all p w) a in
    cond-true (p b) _ _ h.0 ∙ rw one-add (ap suc (run_stops p w rest h.1 s))

take_front : (w rest : List ℕ) → take (length w) (w ++ rest) ≡ w
take_front [] rest = refl
take_front (b ∷ w) rest = ap (λ t. b ∷ t) (take_front w rest)

skip_front : (w rest : List ℕ) (at : ℕ) → tokens (length w) at (w ++ rest) ≡ tokens 0 (at + length w) rest
unfolding tokens
skip_front [] rest at = rw add-zero
skip_front (b ∷ w) rest at = let e : at + suc (length w) ≡ suc at + length w = omega arith in rw e (skip_front w rest (suc at))

-- a token by its first byte and those after it
by_front : (s : Sort) (b : ℕ) (w rest : List ℕ) (at : ℕ) → blank b ≡ false → front b (w ++ rest) ≡ Ok (s, length w) → tokens 0 at (b ∷ (w ++ rest)) ≡ token (tok s (b ∷ w)) at (tokens 0 (at + suc (length w)) rest)
unfolding tokens
by_front s b w rest at n f =
    let e : suc at + length w ≡ at + suc (length w) = omega arith in
    cond-false (blank b) _ _ n
    ∙ ap (first (λ m. tokens m (suc at) (w ++ rest)) at b (w ++ rest)) f
    ∙ ap₂ (λ t r. token (tok s (b ∷ t)) at r) (take_front w rest) (skip_front w rest (suc at) ∙ ap (λ m. tokens 0 m rest) e)

abbrev Lexed : Class → (ℕ → List ℕ → Front) → Type 0
Lexed c f = (blank_class c ≡ false) × ((b : ℕ) (bs : List ℕ) → by_class c b bs ≡ f b bs)

at_lower : (c : Class) → lower_class c ≡ true → Lexed c (λ b bs. measured sorts.Word (prefix_len tail bs))
at_lower classes.Blank h = absurd (false≢true h)
at_lower classes.Lower h = (refl, λ b bs. refl)
at_lower classes.Upper h = absurd (false≢true h)
at_lower classes.Digit h = absurd (false≢true h)
at_lower classes.Minus h = absurd (false≢true h)
at_lower classes.Mark h = absurd (false≢true h)
at_lower classes.Other h = absurd (false≢true h)

at_upper : (c : Class) → upper_class c ≡ true → Lexed c (λ b bs. measured sorts.LineName (prefix_len tail bs))
at_upper classes.Blank h = absurd (false≢true h)
at_upper classes.Lower h = absurd (false≢true h)
at_upper classes.Upper h = (refl, λ b bs. refl)
at_upper classes.Digit h = absurd (false≢true h)
at_upper classes.Minus h = absurd (false≢true h)
at_upper classes.Mark h = absurd (false≢true h)
at_upper classes.Other h = absurd (false≢true h)

at_digit : (c : Class) → digit_class c ≡ true → Lexed c (λ b bs. Ok (sorts.Number, prefix_len digit bs))
at_digit classes.Blank h = absurd (false≢true h)
at_digit classes.Lower h = absurd (false≢true h)
at_digit classes.Upper h = absurd (false≢true h)
at_digit classes.Digit h = (refl, λ b bs. refl)
at_digit classes.Minus h = absurd (false≢true h)
at_digit classes.Mark h = absurd (false≢true h)
at_digit classes.Other h = absurd (false≢true h)

-- a run of at most so many bytes after the first
named_front : (s : Sort) (w rest : List ℕ) → list_all tail w ≡ true → leb (suc (length w)) 8 ≡ true → prefix_len tail rest ≡ 0 → measured s (prefix_len tail (w ++ rest)) ≡ Ok (s, length w)
named_front s w rest a l stop =
    let few = leb-true (suc (length w)) 8 l in
    ap (measured s) (run_stops tail w rest a stop) ∙ cond-true (ltb (length w) 8) _ _ (lt-ltb (length w) 8 (omega arith))

pub word_first : (w rest : List ℕ) (at : ℕ) → is_word w ≡ true → prefix_len tail rest ≡ 0 → tokens 0 at (w ++ rest) ≡ token (word w) at (tokens 0 (at + length w) rest)
word_first [] rest at h stop = absurd (false≢true h)
word_first (b ∷ w) rest at h stop =
    let p = and_parts (lower b && list_all tail w) (leb (suc (length w)) 8) h in
    let q = and_parts (lower b) (list_all tail w) p.0 in
    let c = at_lower (class_of b) q.0 in
    by_front sorts.Word b w rest at c.0 (c.1 b (w ++ rest) ∙ named_front sorts.Word w rest q.1 p.1 stop)

pub name_first : (w rest : List ℕ) (at : ℕ) → is_name w ≡ true → prefix_len tail rest ≡ 0 → tokens 0 at (w ++ rest) ≡ token (name w) at (tokens 0 (at + length w) rest)
name_first [] rest at h stop = absurd (false≢true h)
name_first (b ∷ w) rest at h stop =
    let p = and_parts (upper b && list_all tail w) (leb (suc (length w)) 8) h in
    let q = and_parts (upper b) (list_all tail w) p.0 in
    let c = at_upper (class_of b) q.0 in
    by_front sorts.LineName b w rest at c.0 (c.1 b (w ++ rest) ∙ named_front sorts.LineName w rest q.1 p.1 stop)

minus_lexed : Lexed (class_of 45) (λ b bs. negative (prefix_len digit bs))
unfolding class_of
minus_lexed = (refl, λ b bs. refl)

-- digits after a minus sign are some
some_digits : (w : List ℕ) → begins digit digit w ≡ true → (0 < length w) × (list_all digit w ≡ true)
some_digits [] h = absurd (false≢true h)
some_digits (b ∷ w) h = (omega arith, h)

pub number_first : (w rest : List ℕ) (at : ℕ) → is_number w ≡ true → prefix_len digit rest ≡ 0 → tokens 0 at (w ++ rest) ≡ token (number w) at (tokens 0 (at + length w) rest)
number_first [] rest at h stop = absurd (false≢true h)
number_first (b ∷ w) rest at h stop = ⊎_elim minus plain (cases_Bool (eqb b 45))
  where
    minus : eqb b 45 ≡ true → tokens 0 at (b ∷ (w ++ rest)) ≡ token (number (b ∷ w)) at (tokens 0 (at + suc (length w)) rest)
    minus e =
        let i : b ≡ 45 = eqb-true b 45 e in
        let d = some_digits w (sym (cond-true (eqb b 45) _ _ e) ∙ h) in
        let c : Lexed (class_of b) (λ b bs. negative (prefix_len digit bs)) = rw i minus_lexed in
        let n : negative (prefix_len digit (w ++ rest)) ≡ Ok (sorts.Number, length w) = ap negative (run_stops digit w rest d.1 stop) ∙ cond-false (eqb (length w) 0) _ _ (ne_eqb (length w) 0 (omega (arith, d.0))) in
        by_front sorts.Number b w rest at c.0 (c.1 b (w ++ rest) ∙ n)

    plain : eqb b 45 ≡ false → tokens 0 at (b ∷ (w ++ rest)) ≡ token (number (b ∷ w)) at (tokens 0 (at + suc (length w)) rest)
    plain e =
        let q = and_parts (digit b) (list_all digit w) (sym (cond-false (eqb b 45) _ _ e) ∙ h) in
        let c = at_digit (class_of b) q.0 in
        by_front sorts.Number b w rest at c.0 (c.1 b (w ++ rest) ∙ ap (λ n. Ok (sorts.Number, n)) (run_stops digit w rest q.1 stop))
