-- Where the reading of a hang stands after some tokens.
use Rattle.std.specs.Prelude.{ℕ, zero, suc, ◌+◌, Bool, true, false, cond, List, [], ◌∷◌, ◌==◌, slice_index_or}
use Rattle.text.specs.declared.packed.Name.{Name}
use Rattle.grammar.specs.declared.stand.Phase.{Phase}
use Rattle.grammar.specs.declared.stand.Phase.TheVariants.{Start, Item, Label, Ports, Port, First, Second, Set, After}
use Rattle.grammar.specs.declared.stand.Stand.{Stand}
use Rattle.grammar.specs.declared.stand.Standing.{Standing}
use Rattle.grammar.specs.Seen.{Seen, word, number, name, comma, open_paren, close_paren, open_brace, close_brace, equal, at_sign, other}

pub record State : Type 0 where
  pub phase : Phase
  -- the open cells, the innermost first: whether each has its set
  pub cells : List Bool
  -- how many connectors were begun
  pub connectors : ℕ
  -- the names that stood, in the order of their first standing
  pub names : List Standing

abbrev pub start : State
start = record { phase = Start; cells = []; connectors = 0; names = [] }

-- an item may begin here
abbrev pub item_due : Phase → Bool
item_due Start = true
item_due Item = true
item_due Label = false
item_due (Ports n) = false
item_due (Port n) = false
item_due First = false
item_due Second = false
item_due Set = false
item_due After = false

-- how often a name stood: not yet, once, or twice
unfoldable pub times : Name → List Standing → ℕ
times n [] = 0
times n (s ∷ ss) = cond (s.name.packed == n.packed) (cond s.twice 2 1) (times n ss)

-- the names that stood, after one more standing of a name at a place
unfoldable pub noted : Name → ℕ → List Standing → List Standing
noted n p [] = record { name = n; twice = false; place = p } ∷ []
noted n p (s ∷ ss) = cond (s.name.packed == n.packed) (record { name = s.name; twice = true; place = s.place } ∷ ss) (s ∷ noted n p ss)

abbrev pub after_name : Phase → Phase
after_name Start = First
after_name Item = First
after_name Label = First
after_name (Ports n) = Port (n + 1)
after_name (Port n) = First
after_name First = First
after_name Second = After
after_name Set = First
after_name After = First

abbrev pub after_number : Phase → Phase
after_number Start = Label
after_number Item = Label
after_number Label = Label
after_number (Ports n) = Label
after_number (Port n) = Label
after_number First = Label
after_number Second = Label
after_number Set = After
after_number After = Label

abbrev pub after_comma : Phase → Phase
after_comma Start = Item
after_comma Item = Item
after_comma Label = Item
after_comma (Ports n) = Item
after_comma (Port n) = Ports n
after_comma First = Item
after_comma Second = Item
after_comma Set = Item
after_comma After = Item

abbrev pub next_phase : Phase → Seen → Phase
next_phase p (word w) = Label
next_phase p (number w) = after_number p
next_phase p (name n) = after_name p
next_phase p comma = after_comma p
next_phase p open_paren = Ports 0
next_phase p close_paren = After
next_phase p open_brace = Start
next_phase p close_brace = After
next_phase p equal = Second
next_phase p at_sign = Set
next_phase p other = After

-- the innermost cell has its set now
abbrev pub with_set : List Bool → List Bool
with_set [] = []
with_set (b ∷ bs) = true ∷ bs

abbrev pub outer : List Bool → List Bool
outer [] = []
outer (b ∷ bs) = bs

abbrev pub next_cells : List Bool → Seen → List Bool
next_cells cs (word w) = cs
next_cells cs (number w) = cs
next_cells cs (name n) = cs
next_cells cs comma = cs
next_cells cs open_paren = cs
next_cells cs close_paren = cs
next_cells cs open_brace = false ∷ cs
next_cells cs close_brace = outer cs
next_cells cs equal = cs
next_cells cs at_sign = with_set cs
next_cells cs other = cs

abbrev pub next_connectors : Phase → ℕ → Seen → ℕ
next_connectors p c (word w) = c
next_connectors p c (number w) = c
next_connectors p c (name n) = cond (item_due p) (c + 1) c
next_connectors p c comma = c
next_connectors p c open_paren = c
next_connectors p c close_paren = c
next_connectors p c open_brace = c
next_connectors p c close_brace = c
next_connectors p c equal = c
next_connectors p c at_sign = c
next_connectors p c other = c

abbrev pub next_names : List Standing → Seen → ℕ → List Standing
next_names ns (word w) p = ns
next_names ns (number w) p = ns
next_names ns (name n) p = noted n p ns
next_names ns comma p = ns
next_names ns open_paren p = ns
next_names ns close_paren p = ns
next_names ns open_brace p = ns
next_names ns close_brace p = ns
next_names ns equal p = ns
next_names ns at_sign p = ns
next_names ns other p = ns

-- the state after one token more, at a place
abbrev pub next_state : State → Seen → ℕ → State
next_state st s p = record { phase = next_phase st.phase s; cells = next_cells st.cells s; connectors = next_connectors st.phase st.connectors s; names = next_names st.names s p }

-- the open cells of a code's stand
unfoldable pub open_cells : ℕ → List Bool → List Bool
open_cells zero sets = []
open_cells (suc d) sets = slice_index_or sets (suc d) false ∷ open_cells d sets

abbrev pub state_of : Stand → List Standing → State
state_of st ns = record { phase = st.phase; cells = open_cells st.depth st.sets; connectors = st.connectors; names = ns }
