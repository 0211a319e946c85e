-- A row put in: those from its place on are copied down first.
use Rattle.std.proofs.Common.{◌≡◌, ℕ, ◌+◌, ◌-◌, ◌<◌, ◌≤◌, List, [], ◌∷◌, ◌++◌, length, take, drop, set, sym, ap, ◌∙◌, ap₂, append_assoc, arith, length-drop, length-take-le, take-take}
use Rattle.std.specs.List.{copy_within, insert}
use Rattle.std.proofs.Math.Seq.{take-set-lt}
use Rattle.std.proofs.lemmas.List.{drop-take, set-append_left, take_more_set}
use Rattle.std.proofs.lemmas.List.Edits.{take-paste}

pub put_in : {A : Type 0} (old : List A) (at count : ℕ) (row : A) → at ≤ count → count < length old → take (count + 1) (set (copy_within old at count (at + 1)) at row) ≡ insert (take count old) at row
put_in old at count row h k =
    let n = count - at in
    let t = take n (drop at old) in
    let l = length-drop at old in
    let short = length-take-le (at + 1) old (omega arith) in
    let m : (at + 1) + n ≡ count + 1 = omega arith in
    let c : at + n ≡ count = omega arith in
    take-set-lt (count + 1) (copy_within old at count (at + 1)) at row (omega arith)
    ∙ ap (λ s. set s at row) (ap (λ j. take j (copy_within old at count (at + 1))) (sym m) ∙ take-paste old (at + 1) (drop at old) n (omega arith) (omega arith))
    ∙ set-append_left (take (at + 1) old) t at row (omega arith)
    ∙ ap (λ s. s ++ t) (sym (take-set-lt (at + 1) old at row (omega arith)) ∙ take_more_set old at row (omega arith))
    ∙ append_assoc (take at old) (row ∷ []) t
    ∙ ap₂ (λ s r. s ++ (row ∷ r)) (sym (take-take at count old h)) (sym (drop-take at n old) ∙ ap (λ j. drop at (take j old)) c)
