-- What each number of a fault means at a token, after the tokens before it.
use Rattle.std.specs.Prelude.{ℕ, Bool, true, false, cond, not, ◌&&◌, ◌||◌, List, [], ◌∷◌, length, is_some, Some, None, Option, ◌==◌, nat_le}
use Rattle.label.specs.declared.form.Form.TheVariants as forms
use Rattle.label.specs.Kind.{Kind}
use Rattle.text.specs.Limits.{depth_limit, port_limit, set_limit}
use Rattle.text.specs.Numbers.{digits_value}
use Rattle.grammar.specs.declared.stand.Phase.{Phase}
use Rattle.grammar.specs.declared.stand.Phase.TheVariants.{Start, Item, Label, Ports, Port, First, Second, Set, After}
use Rattle.grammar.specs.Seen.{Seen, word, number, name, comma, open_paren, close_paren, open_brace, close_brace, equal, at_sign, other}
use Rattle.grammar.specs.State.{State, item_due, times}

-- the limits of a hang
abbrev pub connector_limit : ℕ
connector_limit = 64

abbrev pub text_limit : ℕ
text_limit = 65535

abbrev pub is_label : Seen → Bool
is_label (word w) = true
is_label (number w) = true
is_label (name n) = false
is_label comma = false
is_label open_paren = false
is_label close_paren = false
is_label open_brace = false
is_label close_brace = false
is_label equal = false
is_label at_sign = false
is_label other = false

abbrev pub is_number : Seen → Bool
is_number (word w) = false
is_number (number w) = true
is_number (name n) = false
is_number comma = false
is_number open_paren = false
is_number close_paren = false
is_number open_brace = false
is_number close_brace = false
is_number equal = false
is_number at_sign = false
is_number other = false

abbrev pub is_name : Seen → Bool
is_name (word w) = false
is_name (number w) = false
is_name (name n) = true
is_name comma = false
is_name open_paren = false
is_name close_paren = false
is_name open_brace = false
is_name close_brace = false
is_name equal = false
is_name at_sign = false
is_name other = false

abbrev pub is_comma : Seen → Bool
is_comma (word w) = false
is_comma (number w) = false
is_comma (name n) = false
is_comma comma = true
is_comma open_paren = false
is_comma close_paren = false
is_comma open_brace = false
is_comma close_brace = false
is_comma equal = false
is_comma at_sign = false
is_comma other = false

abbrev pub is_open_paren : Seen → Bool
is_open_paren (word w) = false
is_open_paren (number w) = false
is_open_paren (name n) = false
is_open_paren comma = false
is_open_paren open_paren = true
is_open_paren close_paren = false
is_open_paren open_brace = false
is_open_paren close_brace = false
is_open_paren equal = false
is_open_paren at_sign = false
is_open_paren other = false

abbrev pub is_close_paren : Seen → Bool
is_close_paren (word w) = false
is_close_paren (number w) = false
is_close_paren (name n) = false
is_close_paren comma = false
is_close_paren open_paren = false
is_close_paren close_paren = true
is_close_paren open_brace = false
is_close_paren close_brace = false
is_close_paren equal = false
is_close_paren at_sign = false
is_close_paren other = false

abbrev pub is_open_brace : Seen → Bool
is_open_brace (word w) = false
is_open_brace (number w) = false
is_open_brace (name n) = false
is_open_brace comma = false
is_open_brace open_paren = false
is_open_brace close_paren = false
is_open_brace open_brace = true
is_open_brace close_brace = false
is_open_brace equal = false
is_open_brace at_sign = false
is_open_brace other = false

abbrev pub is_close_brace : Seen → Bool
is_close_brace (word w) = false
is_close_brace (number w) = false
is_close_brace (name n) = false
is_close_brace comma = false
is_close_brace open_paren = false
is_close_brace close_paren = false
is_close_brace open_brace = false
is_close_brace close_brace = true
is_close_brace equal = false
is_close_brace at_sign = false
is_close_brace other = false

abbrev pub is_equal : Seen → Bool
is_equal (word w) = false
is_equal (number w) = false
is_equal (name n) = false
is_equal comma = false
is_equal open_paren = false
is_equal close_paren = false
is_equal open_brace = false
is_equal close_brace = false
is_equal equal = true
is_equal at_sign = false
is_equal other = false

abbrev pub is_at_sign : Seen → Bool
is_at_sign (word w) = false
is_at_sign (number w) = false
is_at_sign (name n) = false
is_at_sign comma = false
is_at_sign open_paren = false
is_at_sign close_paren = false
is_at_sign open_brace = false
is_at_sign close_brace = false
is_at_sign equal = false
is_at_sign at_sign = true
is_at_sign other = false

-- what an item begins with
abbrev pub begins_item : Seen → Bool
begins_item s = is_label s || (is_name s || (is_open_brace s || is_at_sign s))

-- some cell is open
abbrev pub inside : List Bool → Bool
inside [] = false
inside (b ∷ bs) = true

-- what ends an item: a comma, or the brace of the cell around it
abbrev pub ends_item : List Bool → Seen → Bool
ends_item cs s = is_comma s || (is_close_brace s && inside cs)

-- the tokens that the form has here, with the limits lifted
abbrev pub allowed : Phase → List Bool → Seen → Bool
allowed Start cs s = begins_item s || (is_close_brace s && inside cs)
allowed Item cs s = begins_item s
allowed Label cs s = is_open_paren s || ends_item cs s
allowed (Ports n) cs s = is_name s
allowed (Port n) cs s = is_comma s || is_close_paren s
allowed First cs s = is_equal s
allowed Second cs s = is_name s
allowed Set cs s = is_number s
allowed After cs s = ends_item cs s

-- the label that a token means in the place of a label
abbrev pub label_read : {L : Type 0} → Kind L → Seen → Option L
label_read k (word w) = k.read forms.Word w
label_read k (number w) = k.read forms.Number w
label_read k (name n) = None
label_read k comma = None
label_read k open_paren = None
label_read k close_paren = None
label_read k open_brace = None
label_read k close_brace = None
label_read k equal = None
label_read k at_sign = None
label_read k other = None

-- the set that a number means: 1 to 15, with no minus sign
abbrev pub set_of : List ℕ → Option ℕ
set_of [] = None
set_of (b ∷ bs) = cond (b == 45) None (cond (nat_le 1 (digits_value 0 (b ∷ bs)) && nat_le (digits_value 0 (b ∷ bs)) set_limit) (Some (digits_value 0 (b ∷ bs))) None)

abbrev pub number_bytes : Seen → List ℕ
number_bytes (word w) = []
number_bytes (number w) = w
number_bytes (name n) = []
number_bytes comma = []
number_bytes open_paren = []
number_bytes close_paren = []
number_bytes open_brace = []
number_bytes close_brace = []
number_bytes equal = []
number_bytes at_sign = []
number_bytes other = []

abbrev pub is_set_phase : Phase → Bool
is_set_phase Start = false
is_set_phase Item = false
is_set_phase Label = false
is_set_phase (Ports n) = false
is_set_phase (Port n) = false
is_set_phase First = false
is_set_phase Second = false
is_set_phase Set = true
is_set_phase After = false

-- the ports of an atom are all there, and one more is due
abbrev pub ports_full : Phase → Bool
ports_full Start = false
ports_full Item = false
ports_full Label = false
ports_full (Ports n) = nat_le port_limit n
ports_full (Port n) = false
ports_full First = false
ports_full Second = false
ports_full Set = false
ports_full After = false

-- how often the name that a token is stood before
abbrev pub stood : State → Seen → ℕ
stood st (word w) = 0
stood st (number w) = 0
stood st (name n) = times n st.names
stood st comma = 0
stood st open_paren = 0
stood st close_paren = 0
stood st open_brace = 0
stood st close_brace = 0
stood st equal = 0
stood st at_sign = 0
stood st other = 0

-- the innermost cell has its set, or there is no cell
abbrev pub set_barred : List Bool → Bool
set_barred [] = true
set_barred (b ∷ bs) = b

-- 4: the token stands for an atom's label, and the kind has no such label
abbrev pub foreign_label : {L : Type 0} → Kind L → State → Seen → Bool
foreign_label k st s = item_due st.phase && (is_label s && not (is_some (label_read k s)))

-- 5: the form does not have this token here
abbrev pub unexpected : State → Seen → Bool
unexpected st s = not (allowed st.phase st.cells s)

-- 6: a brace inside 16 others
abbrev pub too_deep : State → Seen → Bool
too_deep st s = is_open_brace s && nat_le depth_limit (length st.cells)

-- 7: a ninth port
abbrev pub ninth_port : State → Seen → Bool
ninth_port st s = is_name s && ports_full st.phase

-- 8: a third standing
abbrev pub third_standing : State → Seen → Bool
third_standing st s = is_name s && nat_le 2 (stood st s)

-- 11: a set on the outermost level, or a second one in a cell
abbrev pub misplaced_set : State → Seen → Bool
misplaced_set st s = is_at_sign s && set_barred st.cells

-- 12: a connector past the 64th
abbrev pub crowded : State → Seen → Bool
crowded st s = is_name s && (item_due st.phase && nat_le connector_limit st.connectors)

-- 14: a set that is not 1 to 15
abbrev pub wrong_set : State → Seen → Bool
wrong_set st s = is_set_phase st.phase && (is_number s && not (is_some (set_of (number_bytes s))))
