use Rattle.std.proofs.Common.{◌≡◌, sym, ◌∙◌, rules}
use Rattle.std.proofs.lemmas.Bool.Decides.{Decides-at}
use Rattle.plan.specs.Tests.{sound_test}
use Rattle.plan.proofs.Deciding.{decided}
use Rattle.plan.proofs.Wholeness.{whole}
use Rattle.plan.proofs.check.is_sound.Goals as goal

pub returns-then-counts_fit-clause-decides : goal.returns-then-counts_fit-clause-decides
returns-then-counts_fit-clause-decides g c =
    Decides-at c.tables_sound.result (sound_test g.L.Label.kind c.args.plan.now) (search rules) (decided g.L.Label.kind c.args.plan.now)

pub returns-then-counts_fit-clause-whole : goal.returns-then-counts_fit-clause-whole
returns-then-counts_fit-clause-whole g c =
    let e : c.tables_sound.result ≡ sound_test g.L.Label.kind c.args.plan.now = search rules in
    λ t. whole g.L.Label.kind c.args.plan.now ((decided g.L.Label.kind c.args.plan.now).0 (sym e ∙ t))
