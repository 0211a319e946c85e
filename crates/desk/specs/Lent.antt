-- Tables that are lent, as a plan, to a call.
use Rattle.std.specs.Prelude.{◌≡◌}
use Rattle.std.specs.Borrow.{MutBor}
use Rattle.std.specs.Fn.{Called, Mut}
use Rattle.plan.specs.declared.tables.Plan.{Plan}
use Rattle.plan.specs.Model.{SameTables, Tables, tables_of}

-- a call that was lent the tables t gave r, and left the tables u, unless it put others in their place; the closure that was called became `then`
pub record Lent {L F R : Type 0} (g : Mut F (MutBor (Plan L) × Unit {0}) (R × (MutBor (Plan L) × Unit {0}))) (call : F) (t : Tables L) (r : R) (u : Tables L) (then : F) : Type 0 where
  pub shown : MutBor (Plan L)
  pub left : MutBor (Plan L)
  pub shows : tables_of shown.now ≡ t
  pub met : Called g call (shown, tt) (r, (left, tt)) then
  pub back : SameTables shown.now left.now → u ≡ tables_of left.now
