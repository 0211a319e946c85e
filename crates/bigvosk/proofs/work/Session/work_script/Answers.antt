use Rattle.std.proofs.Common.{◌<◌, ◌++◌, length, vec_items, ap, ◌∙◌, rules}
use Rattle.bigvosk.specs.Scripts.{kind_after, lines_of, printed, transcript}
use Rattle.bigvosk.proofs.Working.{kind_on, print_on}
use Rattle.bigvosk.proofs.work.Session.work_script.Goals as goal

pub loop-rest-preserved : goal.loop-rest-preserved
loop-rest-preserved c =
    let k = c.loop-rest.self.kind in
    let out = vec_items c.loop-rest.self.out in
    let s = c.loop-rest.rest.now in
    let line = c.cut.result.0.now in
    let after = c.cut.result.1.now in
    let some : 0 < length s = search rules in
    let told = c.in_ok-work_line.ensures in
    record {
      kind =
          ap (λ j. kind_after j (lines_of after)) told.kind
          ∙ kind_on k s line after some c.cut.ensures.before c.cut.ensures.past
          ∙ c.loop-rest.invariant.kind;
      print =
          ap (λ o. o ++ transcript c.work_line.new.self.kind (lines_of after)) told.print
          ∙ ap (λ j. (out ++ printed k line) ++ transcript j (lines_of after)) told.kind
          ∙ print_on k out s line after some c.cut.ensures.before c.cut.ensures.past
          ∙ c.loop-rest.invariant.print;
    }
