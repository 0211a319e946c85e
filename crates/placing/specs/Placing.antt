-- What hanging a text makes of a plan.
use Rattle.std.specs.Prelude.{ℕ, cond, List, [], ◌∷◌, ◌++◌, map, length, get_or, Some, None, Option, ◌==◌, slice_index_or, slice_set}
use Rattle.label.specs.Kind.{Kind}
use Rattle.text.specs.declared.packed.Name.{Name}
use Rattle.grammar.specs.declared.event.Event.{Event}
use Rattle.grammar.specs.declared.event.Event.TheVariants as events
use Rattle.grammar.specs.declared.stand.Standing.{Standing}
use Rattle.grammar.specs.Reading.{Events, event, end, fault}
use Rattle.plan.specs.declared.tables.Cell.{Cell}
use Rattle.plan.specs.declared.tables.FreeLink.{FreeLink}
use Rattle.plan.specs.declared.tables.Census.{Census}
use Rattle.plan.specs.Model.{Model, Node}
use Rattle.plan.specs.Sound.{link_limit, no_cell, rows}
use Rattle.register.specs.Rows.{added}
use Rattle.placing.specs.Links.{free_after, link_at, links_from, unused}

-- a plan while the events of a text are placed on it
pub record Placing (L : Type 0) : Type 0 where
  pub atoms : List (Node L)
  pub cells : List Cell
  pub register : List (Census L)
  -- the innermost cell that is open
  pub inside : ℕ
  -- the link of the first name of a connector
  pub first : ℕ
  -- what each link has become by the connectors so far
  pub became : List ℕ

-- the last atom has one more port
unfoldable pub with_port : {L : Type 0} → ℕ → List (Node L) → List (Node L)
with_port x [] = []
with_port x (a ∷ []) = record { label = a.label; cell = a.cell; links = a.links ++ (x ∷ []) } ∷ []
with_port x (a ∷ (b ∷ atoms)) = a ∷ with_port x (b ∷ atoms)

abbrev pub or_root : Option ℕ → ℕ
or_root None = 0
or_root (Some p) = p

abbrev pub parent_of : List Cell → ℕ → ℕ
parent_of cells c = or_root (get_or cells c no_cell).parent

abbrev pub with_set : List Cell → ℕ → ℕ → List Cell
with_set cells c k = slice_set cells c (record { parent = (get_or cells c no_cell).parent; set = k })

-- what a link has become
abbrev pub become : List ℕ → ℕ → ℕ
become became x = slice_index_or became x x

abbrev pub put : ℕ → ℕ → ℕ → ℕ
put x y z = cond (z == x) y z

-- a connector: the link of its second name stands for that of its first
abbrev pub joined : ℕ → ℕ → List ℕ → List ℕ
joined x y became = map (put (become became x) (become became y)) became

-- one event, where each name has its link
abbrev pub place_one : {L : Type 0} → Kind L → (Name → ℕ) → Placing L → Event L → Placing L
place_one k link p (events.Label l) =
    record { atoms = p.atoms ++ (record { label = l; cell = p.inside; links = [] } ∷ []); cells = p.cells; register = added k l p.register; inside = p.inside; first = p.first; became = p.became }
place_one k link p (events.Port n) =
    record { atoms = with_port (link n) p.atoms; cells = p.cells; register = p.register; inside = p.inside; first = p.first; became = p.became }
place_one k link p events.Enter =
    record { atoms = p.atoms; cells = p.cells ++ (record { parent = Some p.inside; set = 0 } ∷ []); register = p.register; inside = length p.cells; first = p.first; became = p.became }
place_one k link p events.Leave =
    record { atoms = p.atoms; cells = p.cells; register = p.register; inside = parent_of p.cells p.inside; first = p.first; became = p.became }
place_one k link p (events.Set j) =
    record { atoms = p.atoms; cells = with_set p.cells p.inside j; register = p.register; inside = p.inside; first = p.first; became = p.became }
place_one k link p (events.First n) =
    record { atoms = p.atoms; cells = p.cells; register = p.register; inside = p.inside; first = link n; became = p.became }
place_one k link p (events.Second n) =
    record { atoms = p.atoms; cells = p.cells; register = p.register; inside = p.inside; first = p.first; became = joined p.first (link n) p.became }

unfoldable pub place_all : {L : Type 0} → Kind L → (Name → ℕ) → Placing L → Events L → Placing L
place_all k link p (event e rest) = place_all k link (place_one k link p e) rest
place_all k link p end = p
place_all k link p (fault f) = p

-- a text is placed on the root, and no link has become another yet
abbrev pub begun : {L : Type 0} → Model L → Placing L
begun m = record { atoms = m.atoms; cells = m.cells; register = m.register; inside = 0; first = 0; became = rows 0 link_limit }

abbrev pub relinked : {L : Type 0} → List ℕ → Node L → Node L
relinked became a = record { label = a.label; cell = a.cell; links = map (become became) a.links }

abbrev pub refreed : List ℕ → FreeLink → FreeLink
refreed became f = record { name = f.name; link = become became f.link }

-- every end lies on what its link has become
abbrev pub absorbed : {L : Type 0} → Placing L → List FreeLink → Model L
absorbed p free = record { atoms = map (relinked p.became) p.atoms; cells = p.cells; free = map (refreed p.became) free; register = p.register }

abbrev pub links_in : {L : Type 0} → Model L → List Standing → List ℕ
links_in m names = links_from m.free (unused m) names

-- the plan after a text with these names and events
abbrev pub hung : {L : Type 0} → Kind L → Model L → List Standing → Events L → Model L
hung k m names es = absorbed (place_all k (link_at names (links_in m names)) (begun m) es) (free_after m.free names (links_in m names))
