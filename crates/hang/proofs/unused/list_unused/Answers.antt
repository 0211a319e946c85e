use Rattle.std.proofs.Common.{map, replicate, refl, ◌∙◌}
use Rattle.plan.specs.Model.{node_of}
use Rattle.plan.specs.Sound.{port_links}
use Rattle.plan.specs.Tally.{tallied}
use Rattle.hang.proofs.Numbers.{zeros_right}
use Rattle.hang.proofs.unused.list_unused.Goals as goal

pub returns : goal.returns
returns g c =
    c.list_zeros.ensures
    ∙ zeros_right (port_links (map node_of c.args.atoms.now)) (map (λ f. f.link) c.args.free.now) (tallied (port_links (map node_of c.args.atoms.now)) (replicate 8256 0)) c.count_ends.result refl c.count_ends.ensures
