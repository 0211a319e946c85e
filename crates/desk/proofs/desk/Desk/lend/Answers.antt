use Rattle.std.proofs.Common.{sym, ◌∙◌}
use Rattle.desk.proofs.Lending.{back, lent}
use Rattle.desk.proofs.desk.Desk.lend.Goals as goal

pub returns : goal.returns
returns g c =
    let d = c.args.self.now in
    let x = c.lend.new in
    let keeps = c.lend.auto in
    let told = c.lend.ensures in
    let a = c.as_mut_slice.result.now in
    let b = c.as_mut_slice-2.result.now in
    let f = c.as_mut_slice-3.result.now in
    let r = c.as_mut_slice-4.result.now in
    let ea = c.as_mut_slice.ensures.value in
    let eb = c.as_mut_slice-2.ensures.value in
    let ef = c.as_mut_slice-3.ensures.value in
    let er = c.as_mut_slice-4.ensures.value in
    record {
      shown = told.shown;
      left = told.left;
      shows = told.shows ∙ sym (lent d a b f r ea eb ef er);
      met = told.met;
      back = λ s. back d a b f r ea eb ef er x.atoms x.cells x.free x.register x.counts keeps.atoms keeps.cells keeps.free keeps.register ∙ told.back s;
    }
