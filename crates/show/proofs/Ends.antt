-- What a whole text leaves in the buffer.
use Rattle.std.proofs.lemmas.List.Folds.{list_all-append}
use Rattle.std.proofs.Common.{◌≡◌, ℕ, true, List, sym, ap, ◌∙◌, subst, arith}
use Rattle.std.proofs.lemmas.Bool.{and_parts}
use Rattle.std.specs.List.{list_all}
use Rattle.label.specs.Kind.{Kind, Lawful}
use Rattle.plan.specs.declared.tables.Plan.{Plan}
use Rattle.plan.specs.Model.{model_of}
use Rattle.plan.specs.Sound.{Sound, port_links}
use Rattle.showing.specs.Shown.{shown}
use Rattle.showing.proofs.Readable.{shown_readable}
use Rattle.show.specs.Page.{Ink, Page}
use Rattle.show.specs.Steps.{plan_written}
use Rattle.show.proofs.Followed.{below}
use Rattle.show.proofs.Held.{Held, held, blank}
use Rattle.show.proofs.Whole.{empty_page, plan_shown}

-- links of a sound plan are low
low : {L : Type 0} (k : Kind L) (p : Plan L) → Sound k p → list_all below (port_links (model_of p).atoms) ≡ true
low k p s = (and_parts (list_all below (port_links (model_of p).atoms)) _ (sym (list_all-append below (port_links (model_of p).atoms) _) ∙ s.links)).0

-- the buffer after a plan was written
pub plan_held : {L : Type 0} (k : Kind L) (p : Plan L) {name : ℕ} {old : List ℕ} (q : Page) → Lawful k → Sound k p → q ≡ plan_written k (model_of p) (empty_page (blank name old) (model_of p).free) → Held name old (shown k (model_of p)) q.ink
plan_held k p {name} {old} q law s e =
    let Is : Ink → Type 0 = Held name old (shown k (model_of p)) in
    let short = (shown_readable k law p s).short in
    subst Is (sym (ap (λ (x : Page). x.ink) e ∙ plan_shown k (model_of p) (blank name old) (low k p s))) (held name old (shown k (model_of p)) (omega arith))
