-- Rows of a table.
use Rattle.std.proofs.Common.{◌≡◌, ℕ, suc, ◌+◌, ◌-◌, ◌<◌, ◌≤◌, List, [], ◌∷◌, ◌++◌, length, take, drop, set, sym, refl, ap, ◌∙◌, ap₂, arith, length-drop, take-take}
use lib.Seq.{paste}
use Rattle.std.specs.List.{copy_within, remove}
use Rattle.std.proofs.lemmas.List.{drop-take}
use Rattle.std.proofs.lemmas.List.Edits.{take-paste}

pub first_row : {A : Type 0} (s : List A) (x : A) → (length s ≡ 0 → ⊥) → take 1 (set s 0 x) ≡ x ∷ []
first_row [] x h = absurd (h refl)
first_row (y ∷ s) x h = refl

-- a row taken out: those after it are copied over it
pub taken_out : {A : Type 0} (old : List A) (at count : ℕ) → at < count → count ≤ length old → take (count - 1) (copy_within old (at + 1) count at) ≡ remove (take count old) at
taken_out old at count h k =
    let s = drop (at + 1) old in
    let n = count - (at + 1) in
    let l = length-drop (at + 1) old in
    let c : (at + 1) + n ≡ count = omega arith in
    let m : at + n ≡ count - 1 = omega arith in
    let a : at + 1 ≡ suc at = omega arith in
    ap (λ j. take j (paste old at s n)) (sym m) ∙ take-paste old at s n (omega arith) (omega arith)
    ∙ ap₂ ◌++◌ (sym (take-take at count old (omega arith))) (sym (drop-take (at + 1) n old) ∙ ap (λ j. drop (at + 1) (take j old)) c ∙ ap (λ j. drop j (take count old)) a)
