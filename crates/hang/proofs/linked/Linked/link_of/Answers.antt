use Rattle.std.proofs.Common.{get_or, sym, ap, ◌∙◌}
use Rattle.grammar.specs.Names.{names_of}
use Rattle.hang.proofs.Linking.{link_missing, link_there}
use Rattle.hang.proofs.linked.Linked.link_of.Goals as goal

pub returns-in-Some : goal.returns-in-Some
returns-in-Some c =
    let linked = c.args.self.now in
    ap (λ t. get_or t c.in-Some.row 0) c.deref.ensures.0
    ∙ link_there c.args.name (names_of linked.names.now) linked.links.items linked.same c.in-Some.row 0 (sym c.in-Some.is ∙ c.find.ensures)

pub returns-in-None : goal.returns-in-None
returns-in-None c =
    let linked = c.args.self.now in
    link_missing c.args.name (names_of linked.names.now) linked.links.items linked.same (sym c.in-None.is ∙ c.find.ensures)
