-- A plan and a hand, while the events of a text are placed.
use Rattle.std.specs.Prelude.{◌≡◌, ℕ, ◌+◌, ◌<◌, ◌≤◌, min, Bool, true, List, [], ◌∷◌, length, take, nat_le, slice_set}
use Rattle.label.specs.Kind.{Kind}
use Rattle.text.specs.declared.packed.Name.{Name}
use Rattle.grammar.specs.declared.event.Event.{Event}
use Rattle.grammar.specs.declared.event.Event.TheVariants as events
use Rattle.grammar.specs.Reading.{Events}
use Rattle.plan.specs.declared.tables.Atom.{Atom}
use Rattle.plan.specs.declared.tables.Plan.{Plan}
use Rattle.plan.specs.Model.{Node, SameTables, model_of}
use Rattle.std.specs.List.{list_all}
use Rattle.text.specs.Limits.{port_limit}
use Rattle.plan.specs.Sound.{atom_limit, cell_limit, link_limit, rows}
use Rattle.plan.specs.Tests.{register_test}
use Rattle.register.specs.Rows.{added}
use Rattle.placing.specs.Counts.{cells_at, cells_in, labels_at, labels_in}
use Rattle.placing.specs.Orderly.{orderly}
use Rattle.placing.specs.Placing.{Placing, place_all}
use Rattle.placing.proofs.KeepGoing.{Going}
use Rattle.hang.specs.declared.hand.Hand.{Hand}
use Rattle.hang.specs.Labels.{is_mine}

-- what the tables and the hand stand for
abbrev pub placing_of : {L : Type 0} → Plan L → Hand → Placing L
placing_of p h = record { atoms = (model_of p).atoms; cells = (model_of p).cells; register = (model_of p).register; inside = h.inside; first = h.first; became = h.became }

-- how many ports the last atom has
unfoldable pub last_ports : {L : Type 0} → List (Node L) → ℕ
last_ports [] = 0
last_ports (a ∷ []) = length a.links
last_ports (a ∷ (b ∷ atoms)) = last_ports (b ∷ atoms)

-- an atom with one port more
abbrev pub ported : {L : Type 0} → ℕ → Atom L → Atom L
ported x a = record { label = a.label; cell = a.cell; arity = a.arity + 1; links = slice_set a.links a.arity x }

-- no atom has too many ports
abbrev pub arities_fit : {L : Type 0} → Plan L → Bool
arities_fit p = list_all (λ a. nat_le a.arity port_limit) (take p.atom_count p.atoms.now)

-- a port comes after an atom that has fewer than eight
abbrev pub PortRoom : {L : Type 0} → List (Node L) → Event L → Type 0
PortRoom atoms (events.Label l) = Unit {0}
PortRoom atoms (events.Port n) = (0 < length atoms) × (last_ports atoms < port_limit)
PortRoom atoms events.Enter = Unit {0}
PortRoom atoms events.Leave = Unit {0}
PortRoom atoms (events.Set j) = Unit {0}
PortRoom atoms (events.First n) = Unit {0}
PortRoom atoms (events.Second n) = Unit {0}

abbrev pub LabelRoom : {L : Type 0} → Kind L → Plan L → Event L → Type 0
LabelRoom k p (events.Label l) = length (added k l (model_of p).register) ≤ length p.register.now
LabelRoom k p (events.Port n) = Unit {0}
LabelRoom k p events.Enter = Unit {0}
LabelRoom k p events.Leave = Unit {0}
LabelRoom k p (events.Set j) = Unit {0}
LabelRoom k p (events.First n) = Unit {0}
LabelRoom k p (events.Second n) = Unit {0}

-- the tables have room for an event, and the register is right
pub record Ready {L : Type 0} (k : Kind L) (p : Plan L) (e : Event L) : Type 0 where
  pub atoms : p.atom_count + labels_at e ≤ length p.atoms.now
  pub few_atoms : p.atom_count + labels_at e ≤ 1024
  pub cells : p.cell_count + cells_at e ≤ length p.cells.now
  pub few_cells : p.cell_count + cells_at e ≤ 128
  pub rows : p.label_count ≤ length p.register.now
  pub labels : LabelRoom k p e
  pub port : PortRoom (model_of p).atoms e
  pub mine : is_mine k e ≡ true
  pub known : list_all (λ a. k.mine a.label) (model_of p).atoms ≡ true
  pub register : register_test k (model_of p).atoms (model_of p).register ≡ true
  pub arities : arities_fit p ≡ true

-- the free links are as they were, the tables are the same ones, counts are within them, and no atom has too many ports
pub record Beside {L : Type 0} (p q : Plan L) : Type 0 where
  pub tables : SameTables p q
  pub free : q.free.now ≡ p.free.now
  pub free_count : q.free_count ≡ p.free_count
  pub atoms_within : q.atom_count ≤ length q.atoms.now
  pub cells_within : q.cell_count ≤ length q.cells.now
  pub rows_within : q.label_count ≤ length q.register.now
  pub arities : arities_fit q ≡ true

-- the events that are left can be placed, and the plan is right so far
pub record Placeable {L : Type 0} (k : Kind L) (link : Name → ℕ) (p : Plan L) (h : Hand) (es : Events L) : Type 0 where
  -- how many cells are open, how many ports more may follow, and whether a connector lacks its second name
  pub depth : ℕ
  pub ports : ℕ
  pub half : Bool
  pub order : orderly k depth ports half es ≡ true
  pub going : Going k depth ports (placing_of p h)
  pub atoms : p.atom_count + labels_in es ≤ min (length p.atoms.now) atom_limit
  pub cells : p.cell_count + cells_in es ≤ min (length p.cells.now) cell_limit
  pub counted : p.label_count ≤ length p.register.now
  pub rows : length (place_all k link (placing_of p h) es).register ≤ length p.register.now
  pub arities : arities_fit p ≡ true

-- a hand before the first event: on the root, and no link has become another
abbrev pub fresh_hand : Hand
fresh_hand = record { inside = 0; first = 0; became = rows 0 link_limit }

-- the tables are the same ones, counts are within them, and no atom has too many ports
pub record Placed {L : Type 0} (p q : Plan L) : Type 0 where
  pub tables : SameTables p q
  pub atoms_within : q.atom_count ≤ length q.atoms.now
  pub cells_within : q.cell_count ≤ length q.cells.now
  pub free_within : q.free_count ≤ length q.free.now
  pub rows_within : q.label_count ≤ length q.register.now
  pub arities : arities_fit q ≡ true
