-- What an event does: the names that it gives, how many cells are open after it, and the connectors that it begins.
use Rattle.std.specs.Prelude.{ℕ, ◌+◌, ◌-◌, Bool, ◌&&◌, List, [], ◌∷◌, ◌==◌}
use Rattle.text.specs.declared.packed.Name.{Name}
use Rattle.text.specs.Packed.{pack, spelling}
use Rattle.text.specs.Shapes.{is_name}
use Rattle.grammar.specs.declared.event.Event.{Event}
use Rattle.grammar.specs.declared.event.Event.TheVariants as events
use Rattle.grammar.specs.Reading.{Events, event, end, fault}

-- a packed line name
abbrev pub proper_name : Name → Bool
proper_name n = is_name (spelling n.packed) && pack (spelling n.packed) == n.packed

-- how many cells are open after an event
abbrev pub depth_after : {L : Type 0} → ℕ → Event L → ℕ
depth_after d (events.Label l) = d
depth_after d (events.Port n) = d
depth_after d events.Enter = d + 1
depth_after d events.Leave = d - 1
depth_after d (events.Set j) = d
depth_after d (events.First n) = d
depth_after d (events.Second n) = d

abbrev pub event_names : {L : Type 0} → Event L → List ℕ → List ℕ
event_names (events.Label l) ns = ns
event_names (events.Port n) ns = n.packed ∷ ns
event_names events.Enter ns = ns
event_names events.Leave ns = ns
event_names (events.Set j) ns = ns
event_names (events.First n) ns = n.packed ∷ ns
event_names (events.Second n) ns = n.packed ∷ ns

-- the standings of names in events, packed, in their order
unfoldable pub name_standings : {L : Type 0} → Events L → List ℕ
name_standings (event e rest) = event_names e (name_standings rest)
name_standings end = []
name_standings (fault f) = []

-- an event begins so many connectors
abbrev pub connectors_at : {L : Type 0} → Event L → ℕ
connectors_at (events.Label l) = 0
connectors_at (events.Port n) = 0
connectors_at events.Enter = 0
connectors_at events.Leave = 0
connectors_at (events.Set j) = 0
connectors_at (events.First n) = 1
connectors_at (events.Second n) = 0

-- a number of each event, summed
unfoldable pub summed : {L : Type 0} → (Event L → ℕ) → Events L → ℕ
summed f (event e rest) = f e + summed f rest
summed f end = 0
summed f (fault x) = 0

abbrev pub connectors_in : {L : Type 0} → Events L → ℕ
connectors_in es = summed connectors_at es
