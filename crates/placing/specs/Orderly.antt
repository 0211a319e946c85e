-- What the grammar sees to in the events of a text.
use Rattle.std.specs.Prelude.{ℕ, ◌-◌, Bool, true, false, not, ◌&&◌, ◌==◌, nat_le, nat_lt}
use Rattle.label.specs.Kind.{Kind}
use Rattle.grammar.specs.declared.event.Event.{Event}
use Rattle.grammar.specs.declared.event.Event.TheVariants as events
use Rattle.grammar.specs.Reading.{Events, event, end, fault}
use Rattle.grammar.specs.Events.{depth_after, proper_name}
use Rattle.text.specs.Limits.{depth_limit, port_limit, set_limit}

-- how many ports more may follow an event
abbrev pub ports_after : {L : Type 0} → ℕ → Event L → ℕ
ports_after p (events.Label l) = port_limit
ports_after p (events.Port n) = p - 1
ports_after p events.Enter = 0
ports_after p events.Leave = 0
ports_after p (events.Set j) = 0
ports_after p (events.First n) = 0
ports_after p (events.Second n) = 0

-- a connector lacks its second name
abbrev pub halfway : {L : Type 0} → Event L → Bool
halfway (events.Label l) = false
halfway (events.Port n) = false
halfway events.Enter = false
halfway events.Leave = false
halfway (events.Set j) = false
halfway (events.First n) = true
halfway (events.Second n) = false

-- an event may come where so many cells are open, so many ports more may follow, and a connector lacks its second name or not
abbrev pub may_come : {L : Type 0} → Kind L → ℕ → ℕ → Bool → Event L → Bool
may_come k d p c (events.Label l) = not c && k.mine l
may_come k d p c (events.Port n) = not c && (nat_lt 0 p && proper_name n)
may_come k d p c events.Enter = not c && nat_lt d depth_limit
may_come k d p c events.Leave = not c && nat_lt 0 d
may_come k d p c (events.Set j) = not c && (nat_lt 0 d && (nat_le 1 j && nat_le j set_limit))
may_come k d p c (events.First n) = not c && proper_name n
may_come k d p c (events.Second n) = c && proper_name n

-- each event may come where it stands, and at the end all cells are closed
unfoldable pub orderly : {L : Type 0} → Kind L → ℕ → ℕ → Bool → Events L → Bool
orderly k d p c (event e rest) = may_come k d p c e && orderly k (depth_after d e) (ports_after p e) (halfway e) rest
orderly k d p c end = d == 0 && not c
orderly k d p c (fault f) = true
