-- Which events have a text that is read back to them.
use Rattle.std.specs.Prelude.{◌≡◌, ℕ, ◌+◌, ◌≤◌, Bool, true, false, not, ◌&&◌, List, [], ◌∷◌, length, ◌==◌, ◌≢◌, nat_le, nat_lt}
use Rattle.label.specs.Kind.{Kind}
use Rattle.text.specs.declared.packed.Name.{Name}
use Rattle.grammar.specs.declared.event.Event.{Event}
use Rattle.grammar.specs.declared.event.Event.TheVariants as events
use Rattle.text.specs.Limits.{depth_limit, port_limit, set_limit}
use Rattle.grammar.specs.Tests.{connector_limit, text_limit}
use Rattle.text.specs.Packed.{underscored}
use Rattle.grammar.specs.Reading.{Events, event, end, hang_events}
use Rattle.grammar.specs.Events.{connectors_in, depth_after, name_standings, proper_name}
use Rattle.plan.specs.declared.tables.Plan.{Plan}
use Rattle.plan.specs.Model.{Model, model_of}
use Rattle.plan.specs.Sound.{Sound, count}
use Rattle.showing.specs.declared.last.Last.TheVariants as last
use Rattle.showing.specs.Text.{text_of}
use Rattle.showing.specs.Shown.{plan_events, shown}

-- the events alone, and then the end
unfoldable pub stream : {L : Type 0} → List (Event L) → Events L
stream [] = end
stream (e ∷ es) = event e (stream es)

-- what stands before an event
pub data Before : Type 0 where
  -- nothing in its list of items
  opening : Before
  -- an atom's label
  label : Before
  -- an atom with so many ports
  ports : ℕ → Before
  -- the first name of a connector
  halfway : Before
  -- another item
  item : Before

-- no connector lacks its second name
abbrev pub whole : Before → Bool
whole opening = true
whole label = true
whole (ports n) = true
whole halfway = false
whole item = true

-- a port may follow
abbrev pub port_due : Before → Bool
port_due opening = false
port_due label = true
port_due (ports n) = nat_lt n port_limit
port_due halfway = false
port_due item = false

abbrev pub opens : Before → Bool
opens opening = true
opens label = false
opens (ports n) = false
opens halfway = false
opens item = false

abbrev pub one_port_more : Before → Before
one_port_more opening = ports 1
one_port_more label = ports 1
one_port_more (ports n) = ports (n + 1)
one_port_more halfway = ports 1
one_port_more item = ports 1

-- what stands before the event after
abbrev pub then : {L : Type 0} → Before → Event L → Before
then x (events.Label l) = label
then x (events.Port n) = one_port_more x
then x events.Enter = opening
then x events.Leave = item
then x (events.Set j) = item
then x (events.First n) = halfway
then x (events.Second n) = item

-- an event may stand after what stands before it, where so many cells are open; a set stands first in its cell
abbrev pub may_stand : {L : Type 0} → Kind L → ℕ → Before → Event L → Bool
may_stand k d x (events.Label l) = whole x && k.mine l
may_stand k d x (events.Port n) = port_due x && proper_name n
may_stand k d x events.Enter = whole x && nat_lt d depth_limit
may_stand k d x events.Leave = whole x && nat_lt 0 d
may_stand k d x (events.Set j) = opens x && (nat_lt 0 d && (nat_le 1 j && nat_le j set_limit))
may_stand k d x (events.First n) = whole x && proper_name n
may_stand k d x (events.Second n) = not (whole x) && proper_name n

-- each event may stand where it does, and at the end all cells are left
unfoldable pub in_order : {L : Type 0} → Kind L → ℕ → Before → List (Event L) → Bool
in_order k d x [] = whole x && d == 0
in_order k d x (e ∷ es) = may_stand k d x e && in_order k (depth_after d e) (then x e) es

-- how many connectors there are
abbrev pub connectors : {L : Type 0} → List (Event L) → ℕ
connectors es = connectors_in (stream es)

-- the standings of names, packed, in their order
abbrev pub names_in : {L : Type 0} → List (Event L) → List ℕ
names_in es = name_standings (stream es)

-- events of a hang
pub record Writable {L : Type 0} (k : Kind L) (es : List (Event L)) : Type 0 where
  pub order : in_order k 0 opening es ≡ true
  pub few : connectors es ≤ connector_limit
  -- no name stands a third time
  pub twice : (n : Name) → count n.packed (names_in es) ≤ 2
  -- no name that begins with _ stands just once
  pub not_alone : (n : Name) → underscored n ≡ true → count n.packed (names_in es) ≢ 1

-- the text of such events is read to just these, unless it is too long
abbrev pub ReadsBack : {L : Type 0} → Kind L → Type 0
ReadsBack {L} k =
    (es : List (Event L)) → Writable k es → length (text_of k last.Nothing es) ≤ text_limit
    → hang_events k 0 (text_of k last.Nothing es) ≡ stream es

-- what a plan shows can be read again
pub record Readable {L : Type 0} (k : Kind L) (m : Model L) : Type 0 where
  -- its events are those of a hang
  pub writable : Writable k (plan_events m)
  -- their text is not too long
  pub short : length (shown k m) ≤ text_limit
  -- and is read to just these events
  pub back : hang_events k 0 (shown k m) ≡ stream (plan_events m)

-- so it is with each sound plan
abbrev pub ShownReadable : {L : Type 0} → Kind L → Type 0
ShownReadable {L} k = (p : Plan L) → Sound k p → Readable k (model_of p)
