use Rattle.std.proofs.Common.{◌≡◌, get_or, Some, None, sym, ap, arith}
use Rattle.std.proofs.lemmas.Grind.{common_steps}
use Rattle.show.specs.Page.{Numbers, page_of}
use Rattle.show.proofs.Linking.{next_kept}
use Rattle.show.proofs.scribe.Scribe.number_of.Goals as goal

pub returns-in-Some-clause-page : goal.returns-in-Some-clause-page
returns-in-Some-clause-page c =
    let p = page_of c.args.self.now in
    let l = c.in_ok-number.ensures in
    let e : get_or p.numbers.table c.args.link None ≡ Some c.in-Some.number = grind (arith, common_steps, l.lookup) in
    ap (λ (n : Numbers). record { ink = p.ink; last = p.last; free = p.free; numbers = n }) (sym (next_kept p.numbers c.args.link c.in-Some.number e))
