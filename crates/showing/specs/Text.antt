-- The text of events, without blanks.
use Rattle.std.specs.Prelude.{ℕ, List, [], ◌∷◌, ◌++◌, Some, None, codes, decimal, Option}
use Rattle.label.specs.declared.form.Form.{Form}
use Rattle.label.specs.Kind.{Kind}
use Rattle.text.specs.Packed.{spelling}
use Rattle.grammar.specs.declared.event.Event.{Event}
use Rattle.grammar.specs.declared.event.Event.TheVariants as events
use Rattle.showing.specs.declared.last.Last.{Last}
use Rattle.showing.specs.declared.last.Last.TheVariants as last

-- before an item: a comma, unless it is the first of its list; an atom's ports are ended
abbrev pub before_item : Last → List ℕ
before_item last.Nothing = []
before_item last.Label = codes ","
before_item last.Port = codes "),"
before_item last.Item = codes ","

abbrev pub before_port : Last → List ℕ
before_port last.Nothing = codes "("
before_port last.Label = codes "("
before_port last.Port = codes ","
before_port last.Item = codes "("

-- at the end of a list
abbrev pub at_end : Last → List ℕ
at_end last.Nothing = []
at_end last.Label = []
at_end last.Port = codes ")"
at_end last.Item = []

-- what goes before an event
abbrev pub lead : {L : Type 0} → Last → Event L → List ℕ
lead b (events.Label l) = before_item b
lead b (events.Port n) = before_port b
lead b events.Enter = before_item b
lead b events.Leave = at_end b
lead b (events.Set j) = before_item b
lead b (events.First n) = before_item b
lead b (events.Second n) = codes "="

abbrev pub token_bytes : Option (Form × List ℕ) → List ℕ
token_bytes None = []
token_bytes (Some t) = t.1

-- an event's own bytes
abbrev pub own : {L : Type 0} → Kind L → Event L → List ℕ
own k (events.Label l) = token_bytes (k.token l)
own k (events.Port n) = spelling n.packed
own k events.Enter = codes "{"
own k events.Leave = codes "}"
own k (events.Set j) = codes "@" ++ decimal j
own k (events.First n) = spelling n.packed
own k (events.Second n) = spelling n.packed

abbrev pub past : {L : Type 0} → Event L → Last
past (events.Label l) = last.Label
past (events.Port n) = last.Port
past events.Enter = last.Nothing
past events.Leave = last.Item
past (events.Set j) = last.Item
past (events.First n) = last.Item
past (events.Second n) = last.Item

unfoldable pub text_of : {L : Type 0} → Kind L → Last → List (Event L) → List ℕ
text_of k b [] = at_end b
text_of k b (e ∷ es) = lead b e ++ (own k e ++ text_of k (past e) es)
