use Rattle.std.proofs.Common.{◌≡◌, drop, fold}
use Rattle.showing.specs.Shown.{ties}
use Rattle.show.specs.Page.{page_of, event_written}
use Rattle.show.proofs.scribe.Scribe.put_ties.Given as goal

abbrev pub invariant-loop-row : goal.invariant-loop-row
invariant-loop-row g l =
    fold (event_written g.L.Label.kind) (page_of l.self) (ties (drop l.row l.free)) ≡ fold (event_written g.L.Label.kind) (page_of l.initial.self) (ties l.free)
