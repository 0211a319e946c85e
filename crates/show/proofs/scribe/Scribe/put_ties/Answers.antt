use Rattle.std.proofs.Common.{◌≡◌, ◌+◌, ◌-◌, length, get_or, take, drop, Some, None, fold, Option, sym, ap, ◌∙◌, arith, length-drop}
use Rattle.std.proofs.lemmas.List.{take_all}
use Rattle.text.specs.declared.packed.Name.{Name}
use Rattle.grammar.specs.declared.event.Event.TheVariants as events
use Rattle.plan.proofs.Naming.{no_link}
use Rattle.showing.specs.Shown.{open_name, tie, ties}
use Rattle.show.specs.Page.{Page, page_of, event_written}
use Rattle.show.proofs.Linking.{ties_more, ties_end}
use Rattle.show.proofs.scribe.Scribe.put_ties.Goals as goal
use Rattle.show.proofs.scribe.Scribe.put_ties.Goals.{in-Some, in_default}

pub loop-row-preserved : goal.loop-row-preserved
loop-row-preserved g c =
    let k = g.L.Label.kind in
    let s = c.args.self.now.free.now in
    let i = c.loop-row.row in
    let p = page_of c.loop-row.self in
    let f = get_or s i no_link in
    let after : take (length s - (i + 1)) (drop (i + 1) s) ≡ drop (i + 1) s = take_all _ _ (simp length-drop (omega arith)) in
    let found : open_name f.link (drop (i + 1) s) ≡ c.open_name.result = sym (c.open_name.ensures ∙ ap (open_name f.link) after) in
    let more = ties_more k s i no_link p c.loop-row-test.true in
    elim c.match-open_name.branch [
      | in-Some w ↦
          let o : open_name f.link (drop (i + 1) s) ≡ Some w.in-Some.later = found ∙ w.in-Some.is in
          ap (λ (q : Page). fold (event_written k) q (ties (drop (i + 1) s))) (ap page_of w.self-is ∙ w.put_event-in-Some.ensures ∙ ap (λ (q : Page). event_written k q (events.Second w.in-Some.later)) w.put_event.ensures)
          ∙ ap (λ (later : Option Name). fold (event_written k) (fold (event_written k) p (tie f.name later)) (ties (drop (i + 1) s))) (sym o)
          ∙ sym more
          ∙ c.loop-row.invariant
      | in_default w ↦
          let o : open_name f.link (drop (i + 1) s) ≡ None = found ∙ w.in_default.is in
          ap (λ (q : Page). fold (event_written k) q (ties (drop (i + 1) s))) (ap page_of w.self-is)
          ∙ ap (λ (later : Option Name). fold (event_written k) (fold (event_written k) p (tie f.name later)) (ties (drop (i + 1) s))) (sym o)
          ∙ sym more
          ∙ c.loop-row.invariant
    ]

pub returns : goal.returns
returns g c = sym (ties_end g.L.Label.kind c.args.self.now.free.now c.loop-row.row (page_of c.loop-row.self) c.loop-row-test.false) ∙ c.loop-row.invariant
