use Rattle.std.proofs.Common.{◌≡◌, ℕ, suc, ◌+◌, ◌-◌, ◌<◌, Bool, List, length, get_or, fold, filter, sym, ap, ◌∙◌, arith}
use Rattle.grammar.specs.declared.event.Event.TheVariants as events
use Rattle.plan.specs.Model.{model_of}
use Rattle.plan.specs.Sound.{no_cell, rows}
use Rattle.std.specs.List.{flat_map}
use Rattle.showing.specs.Walk.{cells_in, has_parent, walk}
use Rattle.show.specs.Page.{Page, page_of, event_written}
use Rattle.show.specs.Steps.{step_written}
use Rattle.show.proofs.Walks.{cell_walk, walk_none, walk_more, cell_met, row_here, row_other, row_end}
use Rattle.show.proofs.scribe.Scribe.+put_cell.Goals as goal
use Rattle.show.proofs.scribe.Scribe.+put_cell.Goals.{then-lies_in, else-lies_in}

pub returns-in_default : goal.returns-in_default
returns-in_default g t c =
    let m = model_of c.args.plan.now in
    let f = step_written g.L.Label.kind in
    let p = page_of c.args.self.now in
    let none : c.args.levels ≡ 0 = omega (arith, c.in_default.ensures) in
    sym (ap (λ n. fold f p (walk n m c.args.cell)) none ∙ walk_none f m c.args.cell p)

pub loop-row-preserved : goal.loop-row-preserved
loop-row-preserved g t c =
    let k = g.L.Label.kind in
    let m = model_of c.args.plan.now in
    let f = step_written k in
    let n = c.in-Some.below in
    let i = c.loop-row.row in
    let count = length m.cells in
    let p = page_of c.loop-row.self in
    let has : (ℕ → Bool) = λ r. has_parent c.args.cell (get_or m.cells r no_cell).parent in
    let left : List ℕ = filter has (rows (i + 1) (count - (i + 1))) in
    let in' : i < count = c.loop-row-test.true in
    let here : has i ≡ c.lies_in.result = sym c.lies_in.ensures in
    elim c.if-lies_in.branch [
      | then-lies_in w ↦
          let q : page_of c.if-lies_in.self ≡ fold f p (cell_walk n m i) =
          ap page_of w.self-is
          ∙ w.put_event.ensures
          ∙ ap (λ (x : Page). event_written k x events.Leave) (w.put_cell.ensures ∙ ap (λ (x : Page). fold f x (walk n m i)) w.put_enter.ensures)
          ∙ sym (cell_met f n m i p) in
          ap (λ (x : Page). fold f x (flat_map (cell_walk n m) left)) q
          ∙ sym (row_here f (cell_walk n m) has i count p in' (here ∙ w.if-lies_in.true))
          ∙ c.loop-row.invariant
      | else-lies_in w ↦
          ap (λ (x : Page). fold f x (flat_map (cell_walk n m) left)) (ap page_of w.self-is)
          ∙ sym (row_other f (cell_walk n m) has i count p in' (here ∙ w.if-lies_in.false))
          ∙ c.loop-row.invariant
    ]

pub returns : goal.returns
returns g t c =
    let m = model_of c.args.plan.now in
    let f = step_written g.L.Label.kind in
    let n = c.in-Some.below in
    let p = page_of c.args.self.now in
    let has : (ℕ → Bool) = λ r. has_parent c.args.cell (get_or m.cells r no_cell).parent in
    let levels : c.args.levels ≡ suc n = omega (arith, c.in-Some.ensures) in
    sym (row_end f (cell_walk n m) has c.loop-row.row (length m.cells) (page_of c.loop-row.self) c.loop-row-test.false)
    ∙ c.loop-row.invariant
    ∙ ap (λ (x : Page). fold f x (flat_map (cell_walk n m) (cells_in c.args.cell m.cells))) c.put_atoms.ensures
    ∙ sym (walk_more f n m c.args.cell p)
    ∙ ap (λ j. fold f p (walk j m c.args.cell)) (sym levels)
