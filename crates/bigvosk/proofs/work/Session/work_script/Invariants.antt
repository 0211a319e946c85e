use Rattle.std.proofs.Common.{◌≡◌, ◌++◌, length, vec_items}
use Rattle.bigvosk.specs.Scripts.{kind_after, lines_of, transcript}
use Rattle.bigvosk.proofs.work.Session.work_script.Given as goal

abbrev pub invariant-loop-rest : goal.invariant-loop-rest
invariant-loop-rest l =
    record {
      kind : kind_after l.self.kind (lines_of l.rest) ≡ kind_after l.initial.self.kind (lines_of l.script);
      print : vec_items l.self.out ++ transcript l.self.kind (lines_of l.rest)
          ≡ vec_items l.initial.self.out ++ transcript l.initial.self.kind (lines_of l.script);
    }

abbrev pub decreases-loop-rest : goal.decreases-loop-rest
decreases-loop-rest l = length l.rest
