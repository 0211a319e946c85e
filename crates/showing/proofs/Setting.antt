-- The digits of a set are read to that set.
use Rattle.std.proofs.Common.{◌≡◌, ℕ, ◌^◌, ◌<◌, ◌≤◌, true, cond, ◌&&◌, eqb, leb, List, [], ◌∷◌, length, Some, None, decimal, refl, ap, ◌∙◌, arith}
use Rattle.std.proofs.lemmas.Fmt.{decimal_nonempty, digits_decimal, digits_value-decimal}
use Rattle.std.proofs.lemmas.Str.Parse.{IsNumeralModel, IsDigitsTest, FoldsDigits, numerals_by_fold}
use Rattle.std.proofs.lemmas.Bool.{and_parts, and_from, cond-true, cond-false, le-leb, ne_eqb}
use Rattle.text.specs.Classes.{digit}
use Rattle.std.specs.List.{list_all}
use Rattle.text.specs.Shapes.{is_number}
use Rattle.text.specs.Numbers.{digits_value}
use Rattle.label.specs.Digits.{digit_in, digit_from}
use Rattle.grammar.specs.Tests.{set_of}

tells_all : IsDigitsTest (λ ds. list_all digit ds ≡ true)
tells_all =
    record {
      empty = refl;
      parts = λ c cs h. let p = and_parts (digit c) (list_all digit cs) h in (digit_in c p.0, p.1);
      more = λ c cs i h. and_from (digit c) (list_all digit cs) (digit_from c i.0 i.1) h;
    }

folds_value : FoldsDigits digits_value
unfolding digits_value
folds_value = record { empty = λ n. refl; more = λ n c cs i. refl }

pub own : IsNumeralModel (λ ds. list_all digit ds ≡ true) (digits_value 0)
own = numerals_by_fold (λ ds. list_all digit ds ≡ true) tells_all digits_value folds_value

from_digits : (ds : List ℕ) (j : ℕ) → 0 < length ds → list_all digit ds ≡ true → digits_value 0 ds ≡ j → 1 ≤ j → j ≤ 15 → (is_number ds ≡ true) × (set_of ds ≡ Some j)
from_digits [] j h a v l m = absurd (omega arith)
from_digits (b ∷ bs) j h a v l m =
    let i = digit_in b (and_parts (digit b) (list_all digit bs) a).0 in
    let e = ne_eqb b 45 (λ e. omega (arith, i.0)) in (
      cond-false (eqb b 45) _ _ e ∙ a,
      cond-false (eqb b 45) _ _ e ∙ ap (λ n. cond (leb 1 n && leb n 15) (Some n) None) v ∙ cond-true (leb 1 j && leb j 15) _ _ (and_from (leb 1 j) (leb j 15) (le-leb 1 j l) (le-leb j 15 m)),
    )

pub set_back : (j : ℕ) → 1 ≤ j → j ≤ 15 → (is_number (decimal j) ≡ true) × (set_of (decimal j) ≡ Some j)
set_back j l m =
    let small : j < 2 ^ 64 = omega arith in
    from_digits (decimal j) j (decimal_nonempty j small) (digits_decimal own j small) (digits_value-decimal own j small) l m
