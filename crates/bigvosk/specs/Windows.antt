-- The part of a text that is shown for a place in it.
use Rattle.std.specs.Prelude.{◌≡◌, ℕ, ◌+◌, ◌-◌, ◌<◌, ◌≤◌, min, cond, ◌&&◌, List, [], ◌∷◌, ◌++◌, map, length, take, drop, replicate, codes, nat_le, slice_index}
use Rattle.bigvosk.specs.declared.window.Window.{Window}

-- bytes 32 to 126 as they are, any other as ?
abbrev pub shown_byte : ℕ → ℕ
shown_byte b = cond (nat_le 32 b && nat_le b 126) b 63

-- from 30 bytes before the place, or the start; 60 bytes, or up to the text's end
abbrev pub window_at : ℕ → ℕ → Window
window_at place len = record { from = place - 30; to = min (place - 30 + 60) len; caret = place - (place - 30) }

-- a place past the end counts as the end
abbrev pub window_of : ℕ → ℕ → Window
window_of place len = window_at (min place len) len

abbrev pub newline : List ℕ
newline = 10 ∷ []

-- the bytes of a text that a window has
abbrev pub part_of : Window → List ℕ → List ℕ
part_of w text = take (w.to - w.from) (drop w.from text)

-- the part that is shown, and below it a caret under the place
abbrev pub pointing_by : Window → List ℕ → List ℕ
pointing_by w text = codes "  " ++ (map shown_byte (part_of w text) ++ (newline ++ (codes "  " ++ (replicate w.caret 32 ++ (codes "^" ++ newline)))))

unfoldable pub pointing : ℕ → List ℕ → List ℕ
pointing place text = pointing_by (window_of place (length text)) text

-- of the part that is shown, the byte past the first `caret` ones is the byte at the place;
-- where the place is the text's end, they are the whole part
pub record CaretUnder (place : ℕ) (text shown : List ℕ) (caret : ℕ) : Type 0 where
  pub byte : place < length text → slice_index shown caret ≡ slice_index text place
  pub end : length text ≤ place → caret ≡ length shown
