-- A plan in tables of a desk.
use Rattle.std.specs.Prelude.{◌≡◌, ◌<◌, Bool, true, cond, ◌&&◌, List, [], map, length, take, Ok, Err, vec_items, Result, ◌==◌, nat_le}
use Rattle.fault.specs.declared.Refusal.TheVariants.{UnsoundPlan}
use Rattle.fault.specs.declared.Fault.{Fault}
use Rattle.label.specs.Kind.{Kind}
use Rattle.plan.specs.declared.tables.Atom.{Atom}
use Rattle.plan.specs.declared.tables.Cell.{Cell}
use Rattle.plan.specs.declared.tables.FreeLink.{FreeLink}
use Rattle.plan.specs.declared.tables.Census.{Census}
use Rattle.plan.specs.Model.{Model, Tables, node_of, struck}
use Rattle.plan.specs.Sound.{atom_limit, cell_limit, free_limit, label_limit, room}
use Rattle.plan.specs.Tests.{tables_test}
use Rattle.desk.specs.declared.desk.Desk.{Desk}
use Rattle.desk.specs.declared.desk.Rows.{Rows}

-- a plan, and how many rows each of its tables has
pub record Held (L : Type 0) : Type 0 where
  pub rows : Rows
  pub model : Model L

-- four tables, of each of which so many rows count
abbrev pub tabled : {L : Type 0} → List (Atom L) → List Cell → List FreeLink → List (Census L) → Rows → Tables L
tabled atoms cells free register n = record {
  atoms = atoms;
  atom_count = n.atoms;
  cells = cells;
  cell_count = n.cells;
  free = free;
  free_count = n.free;
  register = register;
  label_count = n.labels;
}

-- the tables of a desk
abbrev pub on_desk : {L : Type 0} → Desk L → Tables L
on_desk d = tabled (vec_items d.atoms) (vec_items d.cells) (vec_items d.free) (vec_items d.register) d.counts

-- what tables hold: the rows that count
abbrev pub held : {L : Type 0} → Tables L → Held L
held t = record {
  rows = record { atoms = length t.atoms; cells = length t.cells; free = length t.free; labels = length t.register };
  model = record {
    atoms = map node_of (take t.atom_count t.atoms);
    cells = take t.cell_count t.cells;
    free = take t.free_count t.free;
    register = take t.label_count t.register;
  };
}

-- no count passes its table, and the rows that count are those of a sound plan
abbrev pub sound_tables : {L : Type 0} → Kind L → Tables L → Bool
sound_tables k t =
    (nat_le t.atom_count (room atom_limit t.atoms) && (nat_le t.cell_count (room cell_limit t.cells)
    && (nat_le t.free_count (room free_limit t.free) && nat_le t.label_count (room label_limit t.register))))
    && tables_test k (take t.cell_count t.cells) (take t.atom_count t.atoms) (take t.free_count t.free) (take t.label_count t.register)

-- the tables are those of a sound plan, if they have a row for the root
abbrev pub Ready : {L : Type 0} → Kind L → Tables L → Type 0
Ready k t = 0 < length t.cells → sound_tables k t ≡ true

abbrev pub unsound : Fault
unsound = record { refusal = UnsoundPlan; place = 0 }

-- nothing, not even the root
abbrev pub nothing : {L : Type 0} → Model L
nothing = record { atoms = []; cells = []; free = []; register = [] }

-- what a call leaves: the plan that it makes, or what was there where it is refused
abbrev pub after_call : {L : Type 0} → Result (Unit {0}) Fault → Model L → Held L → Held L
after_call (Ok x) m h = record { rows = h.rows; model = m }
after_call (Err f) m h = h

-- a strike wants a row for the root
abbrev pub strike_told : {L : Type 0} → Held L → Result (Unit {0}) Fault
strike_told h = cond (h.rows.cells == 0) (Err unsound) (Ok tt)

abbrev pub after_strike : {L : Type 0} → Held L → Held L
after_strike h = after_call (strike_told h) struck h
