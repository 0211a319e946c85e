use Rattle.std.proofs.Common.{◌≡◌, true, take}
use Rattle.std.specs.List.{list_all}
use Rattle.plan.specs.Sound.{registered}
use Rattle.plan.proofs.Tallying.{Counts}
use Rattle.plan.proofs.register.register_sound.Given as goal

abbrev pub invariant-loop-atom : goal.invariant-loop-atom
invariant-loop-atom g l =
    record { counts : Counts g.L.Label.kind l.rows (take l.atom-index l.atoms) l.counts; listed : list_all (λ a. registered g.L.Label.kind a.label l.rows) (take l.atom-index l.atoms) ≡ true }
