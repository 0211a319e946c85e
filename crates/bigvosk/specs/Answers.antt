-- The answer to each command, as bytes.
use Rattle.std.specs.Prelude.{ℕ, Bool, true, false, cond, ◌&&◌, List, [], ◌++◌, Ok, Err, codes, decimal, Result, nat_le}
use Rattle.fault.specs.declared.Fault.{Fault}
use Rattle.fault.specs.declared.Layer.{Layer}
use Rattle.fault.specs.declared.Layer.TheVariants.{Text, Grammar, Book, Plan, Run}
use Rattle.fault.specs.declared.Refusal.{Refusal}
use Rattle.fault.specs.Words.{message}
use Rattle.fault.specs.Table.{number_of, layer_of}
use Rattle.label.specs.WordKind.{word_kind}
use Rattle.label.specs.WordOrNumberKind.{mixed_kind}
use Rattle.grammar.specs.declared.sheet.Sheet.{Sheet}
use Rattle.grammar.specs.Sheets.{sheet_of}
use Rattle.label.specs.declared.named.KindName.{KindName}
use Rattle.label.specs.declared.named.KindName.TheVariants.{Words, Numbers}
use Rattle.bigvosk.specs.Commands.{Told, pass_over, set_kind, read_text, list_places, not_known}
use Rattle.bigvosk.specs.Places.{places_by, places_line}
use Rattle.bigvosk.specs.Windows.{newline, pointing}

-- what reading a text answers, by the kind of labels
unfoldable pub read_as : KindName → List ℕ → Result Sheet Fault
read_as Words text = sheet_of word_kind text
read_as Numbers text = sheet_of mixed_kind text

abbrev pub of_text : Layer → Bool
of_text Text = true
of_text Grammar = true
of_text Book = false
of_text Plan = false
of_text Run = false

-- refusals whose place is pointed at: the numbers 2 to 14 of layer text or grammar
abbrev pub points : Refusal → Bool
points r = nat_le 2 (number_of r) && (nat_le (number_of r) 14 && of_text (layer_of r))

abbrev pub sheet_line : Sheet → List ℕ
sheet_line s =
    codes "read " ++ (decimal s.atoms ++ (codes " pieces, " ++ (decimal s.cells ++ (codes " bays, " ++
    (decimal s.connectors ++ (codes " connectors, " ++ (decimal s.once ++ (codes " names standing once" ++ newline))))))))

abbrev pub fault_line : Fault → List ℕ
fault_line f = message f ++ newline

-- a refusal, and the lines that point at its place in the text
unfoldable pub refused : Fault → List ℕ → List ℕ
refused f text = fault_line f ++ cond (points f.refusal) (pointing f.place text) []

abbrev pub outcome_of : Result Sheet Fault → List ℕ → List ℕ
outcome_of (Ok s) text = sheet_line s
outcome_of (Err f) text = refused f text

abbrev pub answer_to : KindName → Told → List ℕ
answer_to k pass_over = []
answer_to k (set_kind j) = codes "done" ++ newline
answer_to k (read_text text) = outcome_of (read_as k text) text
answer_to k (list_places n order) = places_line (places_by order n)
answer_to k not_known = codes "unknown command" ++ newline
