use Rattle.std.proofs.Common.{refl, rules, length-set}
use Rattle.plan.proofs.Struck.{root_left, struck_sound}
use Rattle.plan.proofs.strike.strike.Goals as goal

pub returns-clause-after : goal.returns-clause-after
returns-clause-after g c = root_left {L = g.row.L.Denot} _ (search rules)

pub returns-clause-sound : goal.returns-clause-sound
returns-clause-sound g c =
    λ _. struck_sound g.L.Label.kind _ (simp length-set (search rules)) refl refl refl refl (root_left {L = g.row.L.Denot} _ (search rules))
