-- What a script prints.
use Rattle.std.specs.Prelude.{◌≡◌, ℕ, cond, ◌⊎◌, List, [], ◌∷◌, ◌++◌, codes, ◌==◌}
use Rattle.label.specs.declared.named.KindName.{KindName}
use Rattle.bigvosk.specs.Answers.{answer_to}
use Rattle.bigvosk.specs.Commands.{Told, pass_over, set_kind, read_text, list_places, not_known, command_of}
use Rattle.bigvosk.specs.Cuts.{Free}
use Rattle.bigvosk.specs.Windows.{newline}

-- one byte more at the front of the first line
abbrev pub led : ℕ → List (List ℕ) → List (List ℕ)
led b [] = (b ∷ []) ∷ []
led b (line ∷ lines) = (b ∷ line) ∷ lines

-- the lines of a script: each ends at a newline, and the last may do without
unfoldable pub lines_of : List ℕ → List (List ℕ)
lines_of [] = []
lines_of (b ∷ bs) = cond (b == 10) ([] ∷ lines_of bs) (led b (lines_of bs))

-- a newline after each line
abbrev pub ended : List (List ℕ) → List ℕ
ended [] = []
ended (line ∷ lines) = line ++ (newline ++ ended lines)

-- no line has a newline
abbrev pub Unbroken : List (List ℕ) → Type 0
Unbroken [] = Unit {0}
Unbroken (line ∷ lines) = Free 10 line × Unbroken lines

-- the lines of a script have no newline, and are the script again, where its last line may lack the newline
pub record Lines (script : List ℕ) (lines : List (List ℕ)) : Type 0 where
  pub unbroken : Unbroken lines
  pub whole : (ended lines ≡ script) ⊎ (ended lines ≡ script ++ newline)

-- the kind of labels after a command
abbrev pub next_kind : KindName → Told → KindName
next_kind k pass_over = k
next_kind k (set_kind j) = j
next_kind k (read_text text) = k
next_kind k (list_places n order) = k
next_kind k not_known = k

-- a line as it is printed before its answer
abbrev pub echo : List ℕ → List ℕ
echo line = codes "> " ++ (line ++ newline)

-- nothing for a line that is passed over, and for any other the line and then its answer
abbrev pub printed_as : KindName → List ℕ → Told → List ℕ
printed_as k line pass_over = []
printed_as k line (set_kind j) = echo line ++ answer_to k (set_kind j)
printed_as k line (read_text text) = echo line ++ answer_to k (read_text text)
printed_as k line (list_places n order) = echo line ++ answer_to k (list_places n order)
printed_as k line not_known = echo line ++ answer_to k not_known

unfoldable pub printed : KindName → List ℕ → List ℕ
printed k line = printed_as k line (command_of line)

-- what lines print, one after another, from a kind of labels on
unfoldable pub transcript : KindName → List (List ℕ) → List ℕ
transcript k [] = []
transcript k (line ∷ lines) = printed k line ++ transcript (next_kind k (command_of line)) lines

-- the kind of labels after all lines
unfoldable pub kind_after : KindName → List (List ℕ) → KindName
kind_after k [] = k
kind_after k (line ∷ lines) = kind_after (next_kind k (command_of line)) lines
