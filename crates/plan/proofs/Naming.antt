-- Names of free links.
use Rattle.std.proofs.Common.{◌≡◌, ℕ, suc, ◌+◌, ◌-◌, ◌<◌, Bool, true, false, cond, not, ◌&&◌, ◌||◌, eqb, List, [], ◌∷◌, map, drop, drop-cons, add-one, length, length-drop, get_or, take, refl, ap, ◌∙◌, ap₂, arith}
use Rattle.std.proofs.lemmas.Bool.{ne_eqb}
use Rattle.std.proofs.lemmas.Bool.Decides.{nat_tests}
use Rattle.std.proofs.lemmas.List.{take_all}
use Rattle.std.specs.List.{list_any}
use Rattle.text.specs.Packed.{digits, pack, spelling}
use Rattle.text.specs.Shapes.{is_name}
use Rattle.label.specs.Spell.{spelling_front}
use Rattle.plan.specs.declared.tables.FreeLink.{FreeLink}
use Rattle.plan.specs.Sound.{count, distinct}

-- what the code reads past the end
abbrev pub no_link : FreeLink
no_link = record { name = record { packed = 0 }; link = 0 }

abbrev pub packed_names : List FreeLink → List ℕ
packed_names s = map (λ f. f.name.packed) s

eqb_turn : (n m : ℕ) → eqb n m ≡ eqb m n
eqb_turn n m = grind (arith, nat_tests)

count_any : (n : ℕ) (s : List FreeLink) → eqb (count n (packed_names s)) 0 ≡ not (list_any (λ f. eqb f.name.packed n) s)
unfolding count
count_any n [] = refl
count_any n (f ∷ s) =
    ap (λ t. eqb (cond t (suc (count n (packed_names s))) (count n (packed_names s))) 0) (eqb_turn n f.name.packed)
    ∙ elim (eqb f.name.packed n) as (λ t. eqb (cond t (suc (count n (packed_names s))) (count n (packed_names s))) 0 ≡ not (t || list_any (λ f. eqb f.name.packed n) s)) [
      | true ↦ ne_eqb _ 0 (λ z. omega arith)
      | false ↦ count_any n s
    ]

-- the names from a row on, by whether the first stands among the others
abbrev pub is_met : List FreeLink → ℕ → Bool
is_met s i = list_any (λ f. eqb f.name.packed (get_or s i no_link).name.packed) (take (length s - (i + 1)) (drop (i + 1) s))

pub apart_here : (s : List FreeLink) (i : ℕ) (b : Bool) → i < length s → b ≡ is_met s i → distinct (packed_names (drop i s)) ≡ (not b && distinct (packed_names (drop (i + 1) s)))
unfolding distinct
apart_here s i b h e =
    let n = length-drop (suc i) s in
    rw (e, add-one, take_all (length s - suc i) (drop (suc i) s) (omega arith), drop-cons s i no_link)
    (ap (λ v. v && distinct (packed_names (drop (suc i) s))) (count_any (get_or s i no_link).name.packed (drop (suc i) s)))

-- what the code tests of a number
pub packed_test : (number n p : ℕ) (bytes : List ℕ) (w : Bool) → bytes ≡ digits 8 number [] → n ≡ length (spelling number) → w ≡ is_name (take (n - 0) bytes) → p ≡ pack (take (n - 0) bytes) → (w && eqb p number) ≡ (is_name (spelling number) && eqb (pack (spelling number)) number)
packed_test number n p bytes w b c t q =
    let m : n - 0 ≡ length (spelling number) = omega arith in
    let e : take (n - 0) bytes ≡ spelling number = ap₂ take m b ∙ spelling_front number in
    ap₂ (λ x y. x && eqb y number) (t ∙ ap is_name e) (q ∙ ap pack e)
