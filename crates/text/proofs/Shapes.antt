-- Which bytes are a word or a name, and what stands before a zero.
use Rattle.std.proofs.Common.{◌≡◌, ℕ, suc, ◌<◌, ◌≤◌, Bool, true, ◌&&◌, eqb, ltb, List, [], ◌∷◌, length, get_or, refl, ap, arith}
use Rattle.std.proofs.lemmas.Bool.Decides.{nat_tests}
use Rattle.text.specs.Classes.{class_of, tail}
use Rattle.std.specs.List.{list_all, prefix_len}
use Rattle.text.specs.Shapes.{begins, is_word, is_name}
use Rattle.text.specs.declared.packed.Packing.{Packing}
use Rattle.text.specs.declared.packed.Packing.TheVariants.{Word, LineName}
use Rattle.text.specs.Packed.{heads, spells, named}
use Rattle.text.proofs.Slices.{past, at_first}
use Rattle.text.proofs.Packing.{Bytes}

pub all_longest : (p : ℕ → Bool) (bs : List ℕ) → list_all p bs ≡ eqb (prefix_len p bs) (length bs)
all_longest p [] = refl
all_longest p (b ∷ bs) = let ih = all_longest p bs in grind (arith, nat_tests)

-- bytes that begin with what they go on with
pub begins_whole : (p : ℕ → Bool) (bs : List ℕ) → 0 < length bs → begins p p bs ≡ list_all p bs
begins_whole p [] h = absurd (omega arith)
begins_whole p (b ∷ bs) h = refl

-- a word or a line name at a slice pattern
pub spells_shape : (of : Packing) (s : List ℕ) → 0 < length s → spells of s ≡ ((heads of (get_or s 0 0) && list_all tail (past 1 s)) && ltb (length (past 1 s)) 8)
spells_shape Word s h = ap is_word (at_first 0 s h)
spells_shape LineName s h = ap is_name (at_first 0 s h)

-- what goes on a name is a byte, and not zero
tail_byte : (b : ℕ) → tail b ≡ true → (0 < b) × (b < 256)
unfolding class_of
tail_byte b t = (grind (arith, nat_tests), grind (arith, nat_tests))

pub tails_bytes : (bs : List ℕ) → list_all tail bs ≡ true → Bytes bs
tails_bytes [] t = tt
tails_bytes (b ∷ bs) t = let h : (tail b ≡ true) × (list_all tail bs ≡ true) = grind (arith, nat_tests) in ((tail_byte b h.0).0, (tail_byte b h.0).1, tails_bytes bs h.1)

pub named_bytes : (bs : List ℕ) → named bs ≡ true → (length bs ≤ 8) × Bytes bs
named_bytes [] t = (omega arith, tt)
named_bytes (b ∷ bs) t =
    let h : (tail b ≡ true) × (list_all tail bs ≡ true) × (suc (length bs) ≤ 8) = grind (arith, nat_tests) in
    (h.2, ((tail_byte b h.0).0, (tail_byte b h.0).1, tails_bytes bs h.1))
