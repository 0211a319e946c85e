-- Bytes cut in two at the first byte that equals a mark.
use Rattle.std.specs.Prelude.{◌≡◌, ℕ, ◌<◌, ◌⊎◌, List, [], ◌∷◌, ◌++◌, length, ◌==◌, ◌≢◌, slice_index}
use Rattle.std.specs.List.{after_first, before_first}

-- what is before the first mark: all, where there is none
unfoldable pub before : ℕ → List ℕ → List ℕ
before mark = before_first (λ b. b == mark)

-- what is past the first mark: nothing, where there is none
unfoldable pub past : ℕ → List ℕ → List ℕ
past mark = after_first (λ b. b == mark)

-- no byte equals the mark
abbrev pub Free : ℕ → List ℕ → Type 0
Free mark s = (k : ℕ) → k < length s → slice_index s k ≢ mark

-- the two parts are the text again, with the mark between them where it has one, and no mark in the first
pub record CutAt (mark : ℕ) (s front back : List ℕ) : Type 0 where
  pub free : Free mark front
  pub whole : (s ≡ front ++ (mark ∷ back)) ⊎ ((s ≡ front) × (back ≡ []))
