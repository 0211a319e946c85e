-- What the tables of a plan stand for.
use Rattle.std.specs.Prelude.{◌≡◌, ℕ, cond, List, [], ◌∷◌, map, length, take, None, Ok, Err, Result, ◌==◌}
use Rattle.fault.specs.declared.Refusal.TheVariants.{UnsoundPlan}
use Rattle.fault.specs.declared.Fault.{Fault}
use Rattle.plan.specs.declared.tables.Atom.{Atom}
use Rattle.plan.specs.declared.tables.Cell.{Cell}
use Rattle.plan.specs.declared.tables.FreeLink.{FreeLink}
use Rattle.plan.specs.declared.tables.Census.{Census}
use Rattle.plan.specs.declared.tables.Plan.{Plan}

-- an atom with the links at its ports, and no others
pub record Node (L : Type 0) : Type 0 where
  pub label : L
  pub cell : ℕ
  pub links : List ℕ

-- a plan with nothing free in it
pub record Model (L : Type 0) : Type 0 where
  pub atoms : List (Node L)
  pub cells : List Cell
  pub free : List FreeLink
  pub register : List (Census L)

abbrev pub node_of : {L : Type 0} → Atom L → Node L
node_of a = record { label = a.label; cell = a.cell; links = take a.arity a.links }

abbrev pub model_of : {L : Type 0} → Plan L → Model L
model_of p = record {
  atoms = map node_of (take p.atom_count p.atoms.now);
  cells = take p.cell_count p.cells.now;
  free = take p.free_count p.free.now;
  register = take p.label_count p.register.now;
}

-- all that the tables hold, rows past the counts too
pub record Tables (L : Type 0) : Type 0 where
  pub atoms : List (Atom L)
  pub atom_count : ℕ
  pub cells : List Cell
  pub cell_count : ℕ
  pub free : List FreeLink
  pub free_count : ℕ
  pub register : List (Census L)
  pub label_count : ℕ

abbrev pub tables_of : {L : Type 0} → Plan L → Tables L
tables_of p = record {
  atoms = p.atoms.now;
  atom_count = p.atom_count;
  cells = p.cells.now;
  cell_count = p.cell_count;
  free = p.free.now;
  free_count = p.free_count;
  register = p.register.now;
  label_count = p.label_count;
}

-- the tables are the same ones, and as long
pub record SameTables {L : Type 0} (p q : Plan L) : Type 0 where
  pub atoms : q.atoms.ghost_name ≡ p.atoms.ghost_name
  pub atom_rows : length q.atoms.now ≡ length p.atoms.now
  pub cells : q.cells.ghost_name ≡ p.cells.ghost_name
  pub cell_rows : length q.cells.now ≡ length p.cells.now
  pub free : q.free.ghost_name ≡ p.free.ghost_name
  pub free_rows : length q.free.now ≡ length p.free.now
  pub register : q.register.ghost_name ≡ p.register.ghost_name
  pub label_rows : length q.register.now ≡ length p.register.now

-- the plan that a strike leaves: the root, with set 1, and nothing else
abbrev pub struck : {L : Type 0} → Model L
struck = record { atoms = []; cells = record { parent = None; set = 1 } ∷ []; free = []; register = [] }

-- a strike wants a row for the root
abbrev pub strike_answer : {L : Type 0} → Plan L → Result (Unit {0}) Fault
strike_answer p = cond (length p.cells.now == 0) (Err (record { refusal = UnsoundPlan; place = 0 })) (Ok tt)
