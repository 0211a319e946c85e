-- A value that is a label for certain is told by its label alone.
use Rattle.std.specs.Prelude.{◌≡◌, true}
use Rattle.std.proofs.Math.Bool.{Bool-set}
use mathlib.Core.HLevel.{is_prop→PathP}
use Rattle.label.specs.declared.sure.SureWord.{SureWord}
use Rattle.label.specs.declared.sure.SureNumber.{SureNumber}
use Rattle.label.specs.Tokens.{in_range, word_label}

pub same_sure_word : (s t : SureWord) → s.packed ≡ t.packed → s ≡ t
same_sure_word s t p =
    λ i. record { packed = p i; word = is_prop→PathP (λ j. word_label (p j) ≡ true) (λ j. Bool-set (word_label (p j)) true) s.word t.word i }

pub same_sure_number : (s t : SureNumber) → s.value ≡ t.value → s ≡ t
same_sure_number s t p =
    λ i. record { value = p i; fits = is_prop→PathP (λ j. in_range (p j) ≡ true) (λ j. Bool-set (in_range (p j)) true) s.fits t.fits i }
