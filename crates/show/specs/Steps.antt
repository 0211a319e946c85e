-- What is written on a walk, links being numbered as they are met.
use Rattle.std.specs.Prelude.{ℕ, ◌+◌, ◌-◌, ◌^◌, min, cond, not, ◌&&◌, ◌∷◌, length, is_some, Some, None, fold, Option, nat_lt, option_map, slice_index_or, slice_set}
use Rattle.text.specs.declared.packed.Name.{Name}
use Rattle.label.specs.Kind.{Kind}
use Rattle.grammar.specs.declared.event.Event.TheVariants as events
use Rattle.plan.specs.Model.{Model, Node}
use Rattle.showing.specs.Walk.{Step, atom, enter, leave, whole_walk}
use Rattle.showing.specs.Shown.{number_name, open_name, set_events, ties}
use Rattle.show.specs.Page.{Page, Numbers, event_written, ended}

-- the next number goes to a link that has none; a link past the table gets none
unfoldable pub next_to : Numbers → ℕ → Numbers
next_to n x =
    cond (nat_lt x (length n.table) && not (is_some (slice_index_or n.table x None)))
    (record { table = slice_set n.table x (Some n.count); count = min (n.count + 1) (2 ^ 16 - 1) }) n

abbrev pub with_number : Page → ℕ → Page
with_number p x = record { ink = p.ink; last = p.last; free = p.free; numbers = next_to p.numbers x }

-- the number of a link, if it has one
abbrev pub number_in : Page → ℕ → Option ℕ
number_in p x = slice_index_or p.numbers.table x None

-- a link that has an open name, or none, is numbered where it has none
abbrev pub named_by : Page → ℕ → Option Name → Page
named_by p x (Some n) = p
named_by p x None = with_number p x

abbrev pub named_on : Page → ℕ → Page
named_on p x = named_by p x (open_name x p.free)

-- an open name, or else that of a number
abbrev pub either_name : Option Name → Option ℕ → Option Name
either_name (Some n) i = Some n
either_name None i = option_map number_name i

-- the name that a link is shown by
abbrev pub named_as : Page → ℕ → Option Name
named_as p x = either_name (open_name x p.free) (number_in (named_on p x) x)

-- a port, by the name of its link
abbrev pub port_by : {L : Type 0} → Kind L → Page → Option Name → Page
port_by k p (Some n) = event_written k p (events.Port n)
port_by k p None = p

abbrev pub port_written : {L : Type 0} → Kind L → Page → ℕ → Page
port_written k p x = port_by k (named_on p x) (named_as p x)

-- an atom with its ports
abbrev pub node_written : {L : Type 0} → Kind L → Page → Node L → Page
node_written k p a = fold (port_written k) (event_written k p (events.Label a.label)) a.links

-- a step of the walk
abbrev pub step_written : {L : Type 0} → Kind L → Page → Step L → Page
step_written k p (atom a) = node_written k p a
step_written k p (enter s) = fold (event_written k) p (events.Enter ∷ set_events s)
step_written k p leave = event_written k p events.Leave

-- the connectors between free links
abbrev pub ties_written : {L : Type 0} → Kind L → Page → Page
ties_written k p = fold (event_written k) p (ties p.free)

-- a whole plan
abbrev pub plan_written : {L : Type 0} → Kind L → Model L → Page → Page
plan_written k m p = ended (ties_written k (fold (step_written k) p (whole_walk m)))
