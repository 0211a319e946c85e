use Rattle.std.proofs.Common.{sym, refl}
use Rattle.desk.proofs.Lending.{same_tables}
use Rattle.desk.proofs.lent.lend.Goals as goal

pub returns : goal.returns
returns g c =
    let q = c.call-answer.new.arg2 in
    record {
      shown = _;
      left = _;
      shows = refl;
      met = c.call-answer.ensures;
      back = λ s.
          same_tables c.atoms-1.given.0 q.atoms.now c.cells-1.given.0 q.cells.now c.free-1.given.0 q.free.now c.register-1.given.0 q.register.now _ _
          (c.atoms-1.given.1.1 (sym s.atoms)) (c.cells-1.given.1.1 (sym s.cells)) (c.free-1.given.1.1 (sym s.free)) (c.register-1.given.1.1 (sym s.register)) refl;
    }
