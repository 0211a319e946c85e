-- Numbers in a command.
use Rattle.std.proofs.Common.{◌≡◌, ℕ, ◌^◌, ◌<◌, ◌≤◌, Bool, true, false, cond, ◌&&◌, leb, List, [], ◌∷◌, length, Some, None, Ok, Err, Option, Result, ⊎_elim, refl, sym, ap, ◌∙◌, rules, arith}
use denote.Ref.{Bor}
use Rattle.std.proofs.lemmas.Bool.{cases_lt, lt-leb}
use Rattle.std.proofs.lemmas.Bool.Decides.{nat_tests}
use Rattle.std.proofs.lemmas.Fmt.{IsAscii-from_digits}
use Rattle.std.proofs.lemmas.Str.{IsUtf8-from_ascii}
use Rattle.std.proofs.lemmas.Str.Parse.{IsDigitsTest, IsNumeralModel, FoldsDigits, numerals_by_fold, parse_digits}
use Rattle.std.specs.Bool.{then_some}
use Rattle.std.specs.List.{list_all}
use Rattle.std.specs.Result.{MatchResult, OkIff, result_ok}
use Rattle.std.specs.Str.{IsUtf8}
use Rattle.std.specs.Str.Parse.{ParsesUnsigned}
use Rattle.text.specs.Classes.{class_of, digit}
use Rattle.text.specs.Numbers.{digits_value}
use Rattle.text.specs.Shapes.{begins}
use Rattle.bigvosk.specs.Numbers.{number_up_to}

-- a digit is a byte of a range
in_range : (b : ℕ) → digit b ≡ true → (48 ≤ b) × (b ≤ 57)
unfolding class_of
in_range b e = grind (arith, nat_tests)

from_range : (b : ℕ) → 48 ≤ b → b ≤ 57 → digit b ≡ true
unfolding class_of
from_range b l h = grind (arith, nat_tests)

both : (a b : Bool) → (a && b) ≡ true → (a ≡ true) × (b ≡ true)
both true b e = (refl, e)
both false b e = absurd (cc)

digits : IsDigitsTest (λ ds. list_all digit ds ≡ true)
digits = record {
  empty = refl;
  parts = λ c cs e. let b = both (digit c) (list_all digit cs) e in (in_range c b.0, b.1);
  more = λ c cs h e. rw (from_range c h.0 h.1) e;
}

folds : FoldsDigits digits_value
unfolding digits_value
folds = search rules

own : IsNumeralModel (λ ds. list_all digit ds ≡ true) (digits_value 0)
own = numerals_by_fold _ digits digits_value folds

-- a text that is not made, and one that is
pub no_text : {X E : Type 0} (U : Type 0) (P : X → Type 0) (Q : E → Type 0) (r : Result X E) → result_ok r ≡ None → MatchResult r P (λ e. (U → ⊥) × Q e) → U → ⊥
no_text U P Q (Ok x) e h u = absurd (cc)
no_text U P Q (Err x) e h u = h.0 u

pub the_text : {E : Type 0} (U : Type 0) (Q : E → Type 0) (s : List ℕ) (t : Bor (List ℕ)) (r : Result (Bor (List ℕ)) E) → result_ok r ≡ Some t →
    MatchResult r (λ x. (x.now ≡ s) × U) Q → t.now ≡ s
the_text U Q s t (Ok x) e h = let same : x ≡ t = cc in ap (λ b. b.now) (sym same) ∙ h.0
the_text U Q s t (Err x) e h = absurd (cc)

kept : (b : Bool) (n : ℕ) → then_some b n ≡ cond b (Some n) None
kept true n = refl
kept false n = refl

module _ (most : ℕ) where
  abbrev answer : List ℕ → Option ℕ
  answer s = cond (begins digit digit s && leb (digits_value 0 s) most) (Some (digits_value 0 s)) None

  pub not_digits : (s : List ℕ) → begins digit digit s ≡ false → None ≡ number_up_to most s
  unfolding number_up_to
  not_digits s e = sym (ap (λ t. cond (t && leb (digits_value 0 s) most) (Some (digits_value 0 s)) None) e)

  all_digits : (s : List ℕ) → begins digit digit s ≡ true → list_all digit s ≡ true
  all_digits [] e = absurd (cc)
  all_digits (b ∷ bs) e = e

  module _ (s : List ℕ) (e : begins digit digit s ≡ true) where
    passes : list_all digit s ≡ true
    passes = all_digits s e

    pub is_text : IsUtf8 s
    is_text = IsUtf8-from_ascii s (IsAscii-from_digits s (own.to s passes))

  begun : (s : List ℕ) → 0 < length s → list_all digit s ≡ true → begins digit digit s ≡ true
  begun [] h e = absurd (omega arith)
  begun (b ∷ bs) h e = e

  fits : (s : List ℕ) → 0 < length s → list_all digit s ≡ true → cond (leb (digits_value 0 s) most) (Some (digits_value 0 s)) None ≡ answer s
  fits s h e = sym (ap (λ t. cond (t && leb (digits_value 0 s) most) (Some (digits_value 0 s)) None) (begun s h e))

  too_much : (s : List ℕ) → list_all digit s ≡ true → most < 2 ^ 32 → ((0 < length s) × (digits_value 0 s < 2 ^ 32) → ⊥) → None ≡ answer s
  too_much [] e small h = refl
  too_much (b ∷ bs) e small h =
      ⊎_elim (λ (l : digits_value 0 (b ∷ bs) < 2 ^ 32). absurd (h (omega arith, l)))
      (λ (l : 2 ^ 32 ≤ digits_value 0 (b ∷ bs)).
      let over : leb (digits_value 0 (b ∷ bs)) most ≡ false = lt-leb (digits_value 0 (b ∷ bs)) most (omega arith) in
      sym (ap (λ t. cond t (Some (digits_value 0 (b ∷ bs))) None) over) ∙ fits (b ∷ bs) (omega arith) e)
      (cases_lt (digits_value 0 (b ∷ bs)) (2 ^ 32))

  module _ (s : List ℕ) (e : begins digit digit s ≡ true) (small : most < 2 ^ 32) {E : Type 0} where
    gives : (r : Result ℕ E) → OkIff r ((0 < length s) × (digits_value 0 s < 2 ^ 32)) (digits_value 0 s) → (n : ℕ) → result_ok r ≡ Some n →
        cond (leb n most) (Some n) None ≡ answer s
    gives (Ok x) h n f = let same : n ≡ digits_value 0 s = cc in rw same (fits s h.0.0 (passes s e))
    gives (Err x) h n f = absurd (cc)

    lacks : (r : Result ℕ E) → OkIff r ((0 < length s) × (digits_value 0 s < 2 ^ 32)) (digits_value 0 s) → result_ok r ≡ None → None ≡ answer s
    lacks (Ok x) h f = absurd (cc)
    lacks (Err x) h f = too_much s (passes s e) small h

    module _ (r : Result ℕ E) (h : ParsesUnsigned 32 10 s r) where
      pub number_is : (n : ℕ) → result_ok r ≡ Some n → then_some (leb n most) n ≡ number_up_to most s
      unfolding number_up_to
      number_is n f = kept (leb n most) n ∙ gives r (parse_digits own 32 s r h (passes s e)) n f

      pub number_none : result_ok r ≡ None → None ≡ number_up_to most s
      unfolding number_up_to
      number_none f = lacks r (parse_digits own 32 s r h (passes s e)) f
