use Rattle.std.proofs.Common.{◌≡◌, ℕ, ◌+◌, [], ◌∷◌, ◌++◌, length, get_or, drop, sym, ap, ◌∙◌, append-nil, arith, rules}
use Rattle.std.proofs.lemmas.List.{drop_all}
use Rattle.placing.specs.Links.{links_from}
use Rattle.hang.proofs.Linking.{links_none, next_number, no_standing, one_closed, one_new}
use Rattle.hang.proofs.links.assign_links.Goals as goal
use Rattle.hang.proofs.links.assign_links.Goals.{in-Some, in-None}

pub loop-standing-preserved : goal.loop-standing-preserved
loop-standing-preserved c =
    let free = c.args.free.now in
    let ss = c.args.standings.now in
    let i = c.loop-standing.standing-index in
    let links = c.loop-standing.links.items in
    let many : length c.push.new.self.items ≡ length links + 1 = c.push.ensures.len in
    elim c.match-closed_link.branch [
      | in-Some w ↦ record {
        many = omega arith;
        links = rw w.numbers-is (one_closed free _ ss i no_standing c.loop-standing-test.true links _ _ _ (sym c.closed_link.ensures ∙ w.in-Some.is) (c.push.ensures.items ∙ ap (λ (x : ℕ). links ++ (x ∷ [])) w.link-is) c.loop-standing.invariant.links);
      }
      | in-None w ↦
          let number : w.unwrap_or-link.result ≡ get_or c.loop-standing.numbers.iter.rest.now 0 0 = let steps = w.next.ensures.steps in w.unwrap_or-link.ensures ∙ next_number _ _ _ steps.0 _ steps.1 steps.2 in
          let left : w.next.new.self.iter.rest.now ≡ drop 1 c.loop-standing.numbers.iter.rest.now = search rules in
          record {
            many = omega arith;
            links = rw w.numbers-is (one_new free _ ss i no_standing c.loop-standing-test.true links _ _ _ _ (sym c.closed_link.ensures ∙ w.in-None.is) number left (c.push.ensures.items ∙ ap (λ (x : ℕ). links ++ (x ∷ [])) w.link-is) c.loop-standing.invariant.links);
          }
    ]

pub returns : goal.returns
returns c =
    let free = c.args.free.now in
    let ss = c.args.standings.now in
    let none : drop c.loop-standing.standing-index ss ≡ [] = drop_all c.loop-standing.standing-index ss c.loop-standing-test.false in
    sym (append-nil c.loop-standing.links.items) ∙ ap (λ t. c.loop-standing.links.items ++ t) (sym (ap (links_from free c.loop-standing.numbers.iter.rest.now) none ∙ links_none free _)) ∙ c.loop-standing.invariant.links
