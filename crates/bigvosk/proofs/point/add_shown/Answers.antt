use Rattle.std.proofs.Common.{rules}
use Rattle.std.proofs.lemmas.Iterator.{YieldsList-from_map, YieldsList-from_slice}
use Rattle.std.proofs.lemmas.Iterator.Adapters.{items_from_extend}
use Rattle.bigvosk.specs.Windows.{shown_byte}
use Rattle.bigvosk.proofs.point.add_shown.Goals as goal

pub returns : goal.returns
returns c =
    let h =
    items_from_extend c.extend.result c.extend.ensures.ran
    (YieldsList-from_map _ shown_byte (YieldsList-from_slice c.args.part.now (cc)) c.map.ensures.closure (λ x r q k. search rules)) in
    search rules
