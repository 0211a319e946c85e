use Rattle.std.proofs.Common.{◌≡◌, sym, ap, ◌∙◌, subst}
use Rattle.grammar.specs.Names.{names_of}
use Rattle.grammar.specs.Pull.{left}
use Rattle.grammar.specs.Reading.{hang_events}
use Rattle.grammar.specs.Sheets.{text_names}
use Rattle.plan.specs.Model.{model_of}
use Rattle.placing.specs.Links.{link_at}
use Rattle.placing.specs.Placing.{links_in}
use Rattle.hang.specs.Hand.{Placeable, fresh_hand}
use Rattle.hang.proofs.Hanging.{begun_left, handed_link, placeable}
use Rattle.hang.proofs.hang.place_named.Goals as goal

pub place_text-requires-clause-ready : goal.place_text-requires-clause-ready
place_text-requires-clause-ready g c =
    let k = g.L.Label.kind in
    let p = c.args.plan.now in
    let text = c.args.text.now in
    let linked = c.link_names-linked.result in
    let names = ap names_of c.link_names-linked.ensures.names in
    let link = handed_link (model_of p) text (names_of linked.names.now) linked.links.items (names ∙ c.requires.names) (c.link_names-linked.ensures.links ∙ sym (ap (links_in (model_of p)) names)) in
    let events : left k c.new-reader.result ≡ hang_events k 0 text = begun_left k text c.new-reader.result c.requires.hangable.short c.new-reader.ensures in
    subst (λ f. Placeable k f p fresh_hand (left k c.new-reader.result)) (sym link)
    (subst (λ es. Placeable k (link_at (text_names text) (links_in (model_of p) (text_names text))) p fresh_hand es) (sym events) (placeable k g.met.L.Label.lawful p text c.requires.hangable c.requires.atoms c.requires.cells c.requires.labels))
