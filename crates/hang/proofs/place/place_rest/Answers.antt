use Rattle.std.proofs.Common.{◌≡◌, sym, ap, ◌∙◌, subst}
use Rattle.grammar.specs.Names.{names_of}
use Rattle.grammar.specs.Pull.{left}
use Rattle.grammar.specs.Reading.{event}
use Rattle.placing.specs.Links.{link_at}
use Rattle.placing.specs.Placing.{place_all}
use Rattle.hang.specs.Hand.{Placeable, placing_of}
use Rattle.hang.proofs.Heading.{all_halted}
use Rattle.hang.proofs.Stepping.{all_on, beside_again, placeable_on, ready}
use Rattle.hang.proofs.place.place_rest.Goals as goal

pub place_event-requires : goal.place_event-requires
place_event-requires g c =
    let k = g.L.Label.kind in
    let link = link_at (names_of c.args.linked.now.names.now) c.args.linked.now.links.items in
    let gives : event c.in-Some.event (left k c.next_event.new.reader) ≡ left k c.loop-event.reader = c.in-Some.ensures.0 in
    ready k link c.loop-event.plan c.loop-event.hand c.in-Some.event (left k c.next_event.new.reader)
    (subst (λ es. Placeable k link c.loop-event.plan c.loop-event.hand es) (sym gives) c.loop-event.invariant.0)

pub loop-event-preserved : goal.loop-event-preserved
loop-event-preserved g c =
    let k = g.L.Label.kind in
    let link = link_at (names_of c.args.linked.now.names.now) c.args.linked.now.links.items in
    let e = c.in-Some.event in
    let rest = left k c.next_event.new.reader in
    let p = c.loop-event.plan in
    let h = c.loop-event.hand in
    let q = c.place_event.new.plan in
    let i = c.place_event.new.hand in
    let gives : event e rest ≡ left k c.loop-event.reader = c.in-Some.ensures.0 in
    let was = subst (λ es. Placeable k link p h es) (sym gives) c.loop-event.invariant.0 in (
      placeable_on k link g.met.L.Label.lawful p q h i e rest was c.place_event.ensures.is c.place_event.ensures.beside,
      ap (λ z. place_all k link z rest) c.place_event.ensures.is ∙ sym (all_on k link (placing_of p h) e rest) ∙ ap (place_all k link (placing_of p h)) gives ∙ c.loop-event.invariant.1,
      beside_again c.args.plan.now p q c.loop-event.invariant.2 c.place_event.ensures.beside,
    )

pub returns : goal.returns
returns g c =
    let k = g.L.Label.kind in
    let link = link_at (names_of c.args.linked.now.names.now) c.args.linked.now.links.items in
    record { is = sym (all_halted k link (placing_of c.loop-event.plan c.loop-event.hand) (left k c.loop-event.reader) c.in_default.ensures.0) ∙ c.loop-event.invariant.1; beside = c.loop-event.invariant.2 }
