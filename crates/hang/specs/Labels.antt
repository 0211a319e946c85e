-- The labels of a text that a register lacks. They are listed by their tokens, which tell them apart.
use Rattle.std.specs.Prelude.{ℕ, Bool, true, false, cond, ◌&&◌, ◌||◌, List, [], ◌∷◌, ◌++◌, Option}
use Rattle.std.specs.List.{list_any}
use Rattle.std.specs.Option.{option_eq}
use Rattle.std.specs.Str.{bytes_eq}
use Rattle.label.specs.declared.form.Form.{Form}
use Rattle.label.specs.declared.form.Form.TheVariants.{Word, Number}
use Rattle.label.specs.Kind.{Kind}
use Rattle.grammar.specs.declared.event.Event.{Event}
use Rattle.grammar.specs.declared.event.Event.TheVariants as events
use Rattle.grammar.specs.Reading.{Events, event, end, fault}
use Rattle.plan.specs.declared.tables.Census.{Census}
use Rattle.plan.specs.Sound.{registered}

abbrev pub same_form : Form → Form → Bool
same_form Word Word = true
same_form Word Number = false
same_form Number Word = false
same_form Number Number = true

-- two tokens are the same
abbrev pub same : Option (Form × List ℕ) → Option (Form × List ℕ) → Bool
same = option_eq (λ a b. same_form a.0 b.0 && bytes_eq a.1 b.1)

-- a token is one of those listed
abbrev pub known : Option (Form × List ℕ) → List (Option (Form × List ℕ)) → Bool
known t ts = list_any (λ x. same x t) ts

-- a label is listed unless the register or the list has it
abbrev pub noted_label : {L : Type 0} → Kind L → List (Census L) → List (Option (Form × List ℕ)) → Event L → List (Option (Form × List ℕ))
noted_label k register ts (events.Label l) = cond (registered k l register || known (k.token l) ts) ts (ts ++ (k.token l ∷ []))
noted_label k register ts (events.Port n) = ts
noted_label k register ts events.Enter = ts
noted_label k register ts events.Leave = ts
noted_label k register ts (events.Set j) = ts
noted_label k register ts (events.First n) = ts
noted_label k register ts (events.Second n) = ts

-- the tokens of the labels of events that the register lacks
unfoldable pub lacking : {L : Type 0} → Kind L → List (Census L) → List (Option (Form × List ℕ)) → Events L → List (Option (Form × List ℕ))
lacking k register ts (event e rest) = lacking k register (noted_label k register ts e) rest
lacking k register ts end = ts
lacking k register ts (fault f) = ts

-- an event's label is one of the kind
abbrev pub is_mine : {L : Type 0} → Kind L → Event L → Bool
is_mine k (events.Label l) = k.mine l
is_mine k (events.Port n) = true
is_mine k events.Enter = true
is_mine k events.Leave = true
is_mine k (events.Set j) = true
is_mine k (events.First n) = true
is_mine k (events.Second n) = true

-- every label of events is one of the kind
unfoldable pub all_mine : {L : Type 0} → Kind L → Events L → Bool
all_mine k (event e rest) = is_mine k e && all_mine k rest
all_mine k end = true
all_mine k (fault f) = true
