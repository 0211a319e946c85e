use Rattle.std.proofs.Common.{◌≡◌, ◌-◌}
use Rattle.plan.specs.Sound.{leads}
use Rattle.plan.proofs.cells.leads_up.Given as goal

abbrev pub invariant-loop : goal.invariant-loop
invariant-loop l = leads (16 - l.counter) l.cells l.at ≡ leads 16 l.cells l.from
