use Rattle.std.proofs.Common.{length, take, ap, ◌∙◌}
use Rattle.grammar.specs.Names.{names_of}
use Rattle.placing.specs.Links.{links_from}
use Rattle.placing.proofs.KeepNames.{length_links}
use Rattle.hang.proofs.Linking.{linked_names}
use Rattle.hang.proofs.names.link_names.Goals as goal

pub invariant_of-result : goal.invariant_of-result
invariant_of-result g c =
    let free = take c.args.plan.now.free_count c.args.plan.now.free.now in
    record { same = ap length c.assign_links-links.ensures ∙ length_links free c.deref-2.result.now c.deref.result.now ∙ ap length c.deref.ensures.0 }

pub returns-clause-links : goal.returns-clause-links
returns-clause-links g c =
    let free = take c.args.plan.now.free_count c.args.plan.now.free.now in
    c.assign_links-links.ensures ∙ ap (links_from free c.deref-2.result.now) c.deref.ensures.0
    ∙ linked_names c.args.plan.now (names_of c.args.names.now) c.deref-2.result.now (c.deref-2.ensures.0 ∙ c.list_unused-unused.ensures)
