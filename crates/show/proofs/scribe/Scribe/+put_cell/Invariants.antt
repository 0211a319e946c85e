use Rattle.std.proofs.Common.{◌≡◌, ◌-◌, length, get_or, fold, filter}
use Rattle.plan.specs.Model.{model_of}
use Rattle.plan.specs.Sound.{no_cell, rows}
use Rattle.std.specs.List.{flat_map}
use Rattle.showing.specs.Walk.{cells_in, has_parent}
use Rattle.show.specs.Page.{page_of}
use Rattle.show.specs.Steps.{step_written}
use Rattle.show.proofs.Walks.{cell_walk}
use Rattle.show.proofs.scribe.Scribe.+put_cell.Given as goal

abbrev pub invariant-loop-row : goal.invariant-loop-row
invariant-loop-row g l =
    fold (step_written g.L.Label.kind) (page_of l.self)
    (flat_map (cell_walk l.below (model_of l.plan)) (filter (λ r. has_parent l.cell (get_or (model_of l.plan).cells r no_cell).parent) (rows l.row (length (model_of l.plan).cells - l.row))))
    ≡ fold (step_written g.L.Label.kind) (page_of l.initial.self) (flat_map (cell_walk l.below (model_of l.plan)) (cells_in l.cell (model_of l.plan).cells))

abbrev pub decreases-put_cell : goal.decreases-put_cell
decreases-put_cell g l = l.levels
