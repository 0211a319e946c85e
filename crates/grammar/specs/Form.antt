-- The form of a hang, with the limits lifted: lists of items, with commas between.
use Rattle.std.specs.Prelude.{◌≡◌, ℕ, List, [], ◌∷◌, ◌++◌}
use Rattle.text.specs.declared.packed.Name.{Name}
use Rattle.grammar.specs.Seen.{Seen, word, number, name, comma, open_paren, close_paren, open_brace, close_brace, equal, at_sign}

-- a label: a word or a number
pub data Written : Type 0 where
  by_word : List ℕ → Written
  by_number : List ℕ → Written

-- items one after another: each constructor is the first item, with the items after it
pub data Items : Type 0 where
  none : Items
  -- an atom with its ports; without any it stands alone
  atom : Written → List Name → Items → Items
  cell : Items → Items → Items
  connector : Name → Name → Items → Items
  set : List ℕ → Items → Items

abbrev pub label_token : Written → Seen
label_token (by_word w) = word w
label_token (by_number w) = number w

abbrev pub more_ports : List Name → List Seen
more_ports [] = close_paren ∷ []
more_ports (n ∷ ns) = comma ∷ (name n ∷ more_ports ns)

abbrev pub port_tokens : List Name → List Seen
port_tokens [] = []
port_tokens (n ∷ ns) = open_paren ∷ (name n ∷ more_ports ns)

-- a comma before items, if there are any
abbrev pub joined : Items → List Seen → List Seen
joined none s = s
joined (atom l ns rest) s = comma ∷ s
joined (cell inner rest) s = comma ∷ s
joined (connector a b rest) s = comma ∷ s
joined (set w rest) s = comma ∷ s

-- the tokens of items
abbrev pub item_tokens : Items → List Seen
item_tokens none = []
item_tokens (atom l ns rest) = label_token l ∷ (port_tokens ns ++ joined rest (item_tokens rest))
item_tokens (cell inner rest) = open_brace ∷ (item_tokens inner ++ (close_brace ∷ joined rest (item_tokens rest)))
item_tokens (connector a b rest) = name a ∷ (equal ∷ (name b ∷ joined rest (item_tokens rest)))
item_tokens (set w rest) = at_sign ∷ (number w ∷ joined rest (item_tokens rest))

-- tokens are a hang, but for the limits
abbrev pub Formed : List Seen → Type 0
Formed ts = (h : Items) × (item_tokens h ≡ ts)

-- tokens are the beginning of a hang, but for the limits
abbrev pub Beginning : List Seen → Type 0
Beginning ts = (more : List Seen) × Formed (ts ++ more)
