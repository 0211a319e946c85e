use Rattle.std.proofs.Common.{◌≡◌, ◌+◌, ◌≤◌, true, [], map, length, None}
use Rattle.std.specs.Option.{option_map}
use Rattle.label.specs.Written.{told}
use Rattle.grammar.specs.Laws.{fault_of}
use Rattle.grammar.specs.Pull.{final, left}
use Rattle.placing.specs.Counts.{labels_in}
use Rattle.hang.specs.Labels.{all_mine, lacking}
use Rattle.hang.proofs.labels.count_lacking.Given as goal

abbrev pub invariant-loop-event : goal.invariant-loop-event
invariant-loop-event g l = record {
  list : lacking g.L.Label.kind l.register.0.now (map (option_map told) l.tokens.items) (left g.L.Label.kind l.reader) ≡ lacking g.L.Label.kind l.register.0.now [] (left g.L.Label.kind l.initial.reader);
  whole : final l.reader ≡ final l.initial.reader;
  clean : fault_of (left g.L.Label.kind l.reader) ≡ None;
  mine : all_mine g.L.Label.kind (left g.L.Label.kind l.reader) ≡ true;
  few : length l.tokens.items + labels_in (left g.L.Label.kind l.reader) ≤ 1024;
}

abbrev pub decreases-loop-event : goal.decreases-loop-event
decreases-loop-event g l = length l.reader.rest.now
