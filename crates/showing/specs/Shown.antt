-- What show writes of a plan.
use Rattle.std.specs.Prelude.{ℕ, suc, cond, not, List, [], ◌∷◌, ◌++◌, map, length, drop, is_some, Some, None, Ok, Err, decimal, filter, Option, Result, ◌==◌, nat_le, option_map}
use Rattle.std.specs.List.{find}
use Rattle.fault.specs.declared.Refusal.TheVariants.{UnsoundPlan, ShortBuffer}
use Rattle.fault.specs.declared.Fault.{Fault}
use Rattle.label.specs.Kind.{Kind}
use Rattle.text.specs.declared.packed.Name.{Name}
use Rattle.text.specs.Packed.{pack}
use Rattle.grammar.specs.declared.event.Event.{Event}
use Rattle.grammar.specs.declared.event.Event.TheVariants as events
use Rattle.plan.specs.declared.tables.FreeLink.{FreeLink}
use Rattle.plan.specs.declared.tables.Plan.{Plan}
use Rattle.plan.specs.Model.{Model, model_of}
use Rattle.plan.specs.Tests.{sound_test}
use Rattle.showing.specs.declared.last.Last.TheVariants as last
use Rattle.std.specs.List.{flat_map}
use Rattle.showing.specs.Walk.{Step, atom, enter, leave, whole_walk}
use Rattle.showing.specs.Text.{text_of}

-- the open name of a link, if it has one
unfoldable pub open_name : ℕ → List FreeLink → Option Name
open_name x fs = option_map (λ f. f.name) (find (λ f. f.link == x) fs)

abbrev pub step_links : {L : Type 0} → Step L → List ℕ
step_links (atom a) = a.links
step_links (enter k) = []
step_links leave = []

-- where a number stands first in a list, or the list's length
unfoldable pub place : ℕ → List ℕ → ℕ
place x [] = 0
place x (y ∷ ys) = cond (x == y) 0 (suc (place x ys))

-- a number joins a list unless it stands there
abbrev pub joins : List ℕ → ℕ → List ℕ
joins xs x = cond (place x xs == length xs) (xs ++ (x ∷ [])) xs

-- numbers in the order of their first standing, after some
unfoldable pub firsts : List ℕ → List ℕ → List ℕ
firsts xs [] = xs
firsts xs (y ∷ ys) = firsts (joins xs y) ys

-- the links that go by a number, in the order in which they are first shown
unfoldable pub numbered : {L : Type 0} → Model L → List ℕ
numbered m = firsts [] (filter (λ x. not (is_some (open_name x m.free))) (flat_map step_links (whole_walk m)))

-- _0, _1 and so on
abbrev pub number_name : ℕ → Name
number_name i = record { packed = pack (95 ∷ decimal i) }

abbrev pub or_number : Option Name → ℕ → Name
or_number (Some n) i = n
or_number None i = number_name i

-- the name that a link is shown by
abbrev pub shown_name : {L : Type 0} → Model L → ℕ → Name
shown_name m x = or_number (open_name x m.free) (place x (numbered m))

abbrev pub set_events : {L : Type 0} → ℕ → List (Event L)
set_events k = cond (k == 0) [] (events.Set k ∷ [])

abbrev pub step_events : {L : Type 0} → (ℕ → Name) → Step L → List (Event L)
step_events name (atom a) = events.Label a.label ∷ map (λ x. events.Port (name x)) a.links
step_events name (enter k) = events.Enter ∷ set_events k
step_events name leave = events.Leave ∷ []

abbrev pub tie : {L : Type 0} → Name → Option Name → List (Event L)
tie n None = []
tie n (Some later) = events.First n ∷ (events.Second later ∷ [])

-- the connectors between free links: a row, and a later row on the same link
unfoldable pub ties : {L : Type 0} → List FreeLink → List (Event L)
ties [] = []
ties (f ∷ fs) = tie f.name (open_name f.link fs) ++ ties fs

-- the events of a plan
abbrev pub plan_events : {L : Type 0} → Model L → List (Event L)
plan_events m = flat_map (step_events (shown_name m)) (whole_walk m) ++ ties m.free

-- the text of a plan
abbrev pub shown : {L : Type 0} → Kind L → Model L → List ℕ
shown k m = text_of k last.Nothing (plan_events m)

-- 20 of a plan that is not sound, then 23 of a buffer that is too short; else the number of bytes
abbrev pub show_answer : {L : Type 0} → Kind L → Plan L → ℕ → Result ℕ Fault
show_answer k p room =
    cond (sound_test k p) (cond (nat_le (length (shown k (model_of p))) room) (Ok (length (shown k (model_of p)))) (Err (record { refusal = ShortBuffer; place = 0 })))
    (Err (record { refusal = UnsoundPlan; place = 0 }))

-- the buffer after it: the text, and past it what stood there; as it was where the call is refused
abbrev pub show_buffer : {L : Type 0} → Kind L → Plan L → List ℕ → Result ℕ Fault → List ℕ
show_buffer k p old (Ok n) = shown k (model_of p) ++ drop (length (shown k (model_of p))) old
show_buffer k p old (Err f) = old
