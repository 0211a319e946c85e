-- The events of a text, by its form.
use Rattle.std.specs.Prelude.{◌≡◌, ℕ, Bool, true, ◌&&◌, List, [], ◌∷◌, ◌++◌, map, is_some, Some, None, Option}
use Rattle.label.specs.Kind.{Kind}
use Rattle.grammar.specs.declared.event.Event.{Event}
use Rattle.grammar.specs.declared.event.Event.TheVariants as events
use Rattle.grammar.specs.Tests.{label_read, set_of}
use Rattle.grammar.specs.Reading.{Events, event, end, hang_events, labelled, setting}
use Rattle.grammar.specs.Laws.{fault_of, text_tokens}
use Rattle.grammar.specs.Form.{Items, none, atom, cell, connector, set, item_tokens, label_token}

-- events one after another, and what follows them
abbrev pub followed : {L : Type 0} → List (Event L) → Events L → Events L
followed [] rest = rest
followed (e ∷ es) rest = event e (followed es rest)

-- what an option holds
abbrev pub given : {A : Type 0} → Option A → List A
given None = []
given (Some x) = x ∷ []

-- the events of a form: of an atom its label, as the kind reads it, then its ports; of a cell its beginning, its items and its end; of a connector its two names; of a set its number
abbrev pub item_events : {L : Type 0} → Kind L → Items → List (Event L)
item_events k none = []
item_events k (atom w ns rest) = given (labelled (label_read k (label_token w))) ++ (map events.Port ns ++ item_events k rest)
item_events k (cell inner rest) = events.Enter ∷ (item_events k inner ++ (events.Leave ∷ item_events k rest))
item_events k (connector a b rest) = events.First a ∷ (events.Second b ∷ item_events k rest)
item_events k (set w rest) = given (setting (set_of w)) ++ item_events k rest

-- each label of a form is one of the kind, and each set is one
abbrev pub reads : {L : Type 0} → Kind L → Items → Bool
reads k none = true
reads k (atom w ns rest) = is_some (label_read k (label_token w)) && reads k rest
reads k (cell inner rest) = reads k inner && reads k rest
reads k (connector a b rest) = reads k rest
reads k (set w rest) = is_some (set_of w) && reads k rest

-- a form is that of a text, and says what its events are
pub record FormOf {L : Type 0} (k : Kind L) (bs : List ℕ) (h : Items) : Type 0 where
  pub tokens : item_tokens h ≡ text_tokens k bs
  pub right : reads k h ≡ true
  pub events : hang_events k 0 bs ≡ followed (item_events k h) end

-- a text without fault has one form, which says its events
pub record FormedText {L : Type 0} (k : Kind L) (bs : List ℕ) : Type 0 where
  pub form : Items
  pub tokens : item_tokens form ≡ text_tokens k bs
  pub only : (h : Items) → item_tokens h ≡ text_tokens k bs → h ≡ form
  pub each : (h : Items) → item_tokens h ≡ text_tokens k bs → FormOf k bs h

abbrev pub FormLaw : {L : Type 0} → Kind L → Type 0
FormLaw k = (bs : List ℕ) → fault_of (hang_events k 0 bs) ≡ None → FormedText k bs
