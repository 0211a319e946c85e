-- Places, written one after another.
use Rattle.std.proofs.Common.{◌≡◌, ℕ, ◌+◌, ◌<◌, ◌≤◌, List, [], ◌∷◌, ◌++◌, length, get_or, drop, decimal, sym, ap, ◌∙◌, append_assoc, append-nil, arith, drop-cons, add-one}
use Rattle.std.proofs.lemmas.List.FromFn.{fill_by_all, get_or-map-range_with_len, length-map-range_with_len}
use Rattle.std.proofs.lemmas.List.{drop_all}
use Rattle.order.specs.Trying.{answer, listing}
use Rattle.order.proofs.Reach.{answered}
use Rattle.bigvosk.specs.declared.line.OrderName.{OrderName}
use Rattle.bigvosk.specs.Places.{PlacesOf, place_by, places_by, spaced}

-- one number more: a space and its digits
pub spaced_on : (out s t : List ℕ) (k : ℕ) → k < length s → t ≡ decimal (get_or s k 0) → ((out ++ (32 ∷ [])) ++ t) ++ spaced (drop (k + 1) s) ≡ out ++ spaced (drop k s)
unfolding spaced
spaced_on out s t k h d =
    let e : drop k s ≡ get_or s k 0 ∷ drop (k + 1) s = rw add-one (drop-cons s k 0 h) in
    append_assoc (out ++ (32 ∷ [])) t (spaced (drop (k + 1) s))
    ∙ append_assoc out (32 ∷ []) (t ++ spaced (drop (k + 1) s))
    ∙ ap (λ x. out ++ (32 ∷ (x ++ spaced (drop (k + 1) s)))) d
    ∙ ap (λ x. out ++ spaced x) (sym e)

pub spaced_end : (out s : List ℕ) (k : ℕ) → length s ≤ k → out ++ spaced (drop k s) ≡ out
unfolding spaced
spaced_end out s k h = ap (λ x. out ++ spaced x) (drop_all k s h) ∙ append-nil out

pub places_are : (order : OrderName) (n : ℕ) → PlacesOf order n (places_by order n)
unfolding places_by
places_are order n h =
    fill_by_all (place_by order n) (listing (place_by order) n) n 0 (length-map-range_with_len _ 0 n)
    (λ k l. get_or-map-range_with_len (answer (place_by order) n) 0 n k k 0 l (omega arith) ∙ answered (place_by order) n k h l)
