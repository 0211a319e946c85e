use Rattle.std.proofs.Common.{◌≡◌, ◌+◌, ◌<◌, false, not, leb, List, [], ◌++◌, length, get_or, take, filter, is_ok, sym, refl, ap, ap₂, ◌∙◌, ⊎_elim, append-nil, arith, rules}
use Rattle.std.proofs.lemmas.List.{drop_all}
use Rattle.std.proofs.lemmas.Bool.{le-leb}
use Rattle.grammar.specs.Names.{names_of}
use Rattle.plan.specs.declared.tables.FreeLink.{FreeLink}
use Rattle.plan.proofs.Naming.{no_link}
use Rattle.placing.specs.Links.{free_after, opened, stays}
use Rattle.hang.proofs.Freeing.{kept_here, left_here, listed, opened_end, opened_here, opened_not, shorter, too_many}
use Rattle.hang.proofs.free.list_free.Goals as goal
use Rattle.hang.proofs.free.list_free.Goals.{then-not-stands_once+in_ok-try_push, else-not-stands_once}

pub loop-link-init : goal.loop-link-init
loop-link-init g c =
    let free = take c.args.plan.now.free_count c.args.plan.now.free.now in
    let none : length c.new-list.result.items ≡ 0 = ap length c.new-list.ensures in
    record { few = omega arith; links = ap (λ t. t ++ filter (stays (names_of c.args.linked.now.names.now)) free) c.new-list.ensures }

pub returns-in_err-try_push-clause-few : goal.returns-in_err-try_push-clause-few
returns-in_err-try_push-clause-few g c =
    let ns = names_of c.args.linked.now.names.now in
    let free = take c.args.plan.now.free_count c.args.plan.now.free.now in
    let i = c.loop-link.link-index in
    let refused : is_ok c.from_residual.result ≡ false = search rules in
    let full : length c.loop-link.list.items ≡ 64 = c.in_err-try_push.ensures.full in
    let here = kept_here (stays ns) free i no_link c.loop-link-test.true (ap not (sym c.stands_once.ensures ∙ c.if-not-stands_once.true)) in
    refused ∙ too_many c.loop-link.list.items _ _ (opened free ns c.args.linked.now.links.items) (get_or free i no_link) full (ap (λ t. c.loop-link.list.items ++ t) (sym here) ∙ c.loop-link.invariant.links)

pub loop-link-preserved : goal.loop-link-preserved
loop-link-preserved g c =
    let ns = names_of c.args.linked.now.names.now in
    let free = take c.args.plan.now.free_count c.args.plan.now.free.now in
    let i = c.loop-link.link-index in
    let items = c.loop-link.list.items in
    elim c.if-not-stands_once.branch [
      | then-not-stands_once+in_ok-try_push w ↦ (
          let here = kept_here (stays ns) free i no_link c.loop-link-test.true (ap not (sym c.stands_once.ensures ∙ w.if-not-stands_once.true)) in
          let more : length w.try_push.new.self.items ≡ length items + 1 = w.in_ok-try_push.ensures.len in
          let room : length items < 64 = w.in_ok-try_push.ensures.variant.0 refl in
          rw w.list-is
          (record {
            few = omega arith;
            links = listed items _ _ _ _ w.in_ok-try_push.ensures.ok (ap (λ t. items ++ t) (sym here) ∙ c.loop-link.invariant.links);
          })
          )
      | else-not-stands_once w ↦
          rw w.list-is
          (record {
            few = c.loop-link.invariant.few;
            links = ap (λ t. items ++ t) (sym (left_here (stays ns) free i no_link c.loop-link-test.true (ap not (sym c.stands_once.ensures ∙ w.if-not-stands_once.false)))) ∙ c.loop-link.invariant.links;
          })
    ]

pub loop-standing-init : goal.loop-standing-init
loop-standing-init g c =
    let ns = names_of c.args.linked.now.names.now in
    let free = take c.args.plan.now.free_count c.args.plan.now.free.now in
    let links = c.args.linked.now.links.items in
    let a : c.into_iter-standing-iterator.result.a.rest.now ≡ ns = search rules in
    let b : c.into_iter-standing-iterator.result.b.rest.now ≡ links = search rules in
    let all : c.loop-link.list.items ≡ filter (stays ns) free =
    sym (append-nil c.loop-link.list.items) ∙ ap (λ t. c.loop-link.list.items ++ filter (stays ns) t) (sym (drop_all c.loop-link.link-index free c.loop-link-test.false)) ∙ c.loop-link.invariant.links in
    record { few = c.loop-link.invariant.few; same = ap length a ∙ sym c.args.linked.now.same ∙ sym (ap length b); links = ap₂ (λ s t. s ++ t) all (ap₂ (opened free) a b) }

pub loop-standing-preserved-in-Continue-branch-2 : goal.loop-standing-preserved-in-Continue-branch-2
loop-standing-preserved-in-Continue-branch-2 g c =
    let free = take c.args.plan.now.free_count c.args.plan.now.free.now in
    let items = c.loop-standing.list.items in
    let steps = c.in-Some.ensures.steps in
    let room : length items < 64 = c.in_ok-try_push-2.ensures.variant.0 refl in
    let more : length c.try_push-then-opens.new.self.items ≡ length items + 1 = c.in_ok-try_push-2.ensures.len in
    record {
      few = omega arith;
      same = shorter _ _ _ _ _ _ steps.0 steps.1 c.loop-standing.invariant.same;
      links = listed items _ _ _ _ c.in_ok-try_push-2.ensures.ok
          (ap (λ t. items ++ t) (sym (opened_here free _ _ _ _ _ _ steps.0 steps.1 (sym c.opens.ensures ∙ c.if-opens.true))) ∙ c.loop-standing.invariant.links);
    }

pub returns-in_err-try_push-2-clause-few : goal.returns-in_err-try_push-2-clause-few
returns-in_err-try_push-2-clause-few g c =
    let free = take c.args.plan.now.free_count c.args.plan.now.free.now in
    let items = c.loop-standing.list.items in
    let after = free_after free (names_of c.args.linked.now.names.now) c.args.linked.now.links.items in
    let steps = c.in-Some.ensures.steps in
    let refused : is_ok c.from_residual-in_err-try_push-2.result ≡ false = search rules in
    let full : length items ≡ 64 = c.in_err-try_push-2.ensures.full in
    refused
    ∙ too_many items _ after [] _ full (ap (λ t. items ++ t) (sym (opened_here free _ _ _ _ _ _ steps.0 steps.1 (sym c.opens.ensures ∙ c.if-opens.true))) ∙ c.loop-standing.invariant.links)
    ∙ ap (λ t. leb (length t) 64) (append-nil after)

pub loop-standing-preserved : goal.loop-standing-preserved
loop-standing-preserved g c =
    let free = take c.args.plan.now.free_count c.args.plan.now.free.now in
    let steps = c.in-Some.ensures.steps in
    record {
      few = c.loop-standing.invariant.few;
      same = shorter _ _ _ _ _ _ steps.0 steps.1 c.loop-standing.invariant.same;
      links = ap (λ t. c.loop-standing.list.items ++ t) (sym (opened_not free _ _ _ _ _ _ steps.0 steps.1 (sym c.opens.ensures ∙ c.if-opens.false))) ∙ c.loop-standing.invariant.links;
    }

pub returns : goal.returns
returns g c =
    let free = take c.args.plan.now.free_count c.args.plan.now.free.now in
    let items = c.loop-standing.list.items in
    let a = c.loop-standing.standing-iterator.a.rest.now in
    let b = c.loop-standing.standing-iterator.b.rest.now in
    let none : length a ≡ 0 = ⊎_elim (λ h. h.1.0) (λ h. let z : length b ≡ 0 = h.1.0 in c.loop-standing.invariant.same ∙ z) c.in-None.ensures.steps in
    let all : items ≡ free_after free (names_of c.args.linked.now.names.now) c.args.linked.now.links.items =
    sym (append-nil items) ∙ ap (λ t. items ++ t) (sym (opened_end free a b none)) ∙ c.loop-standing.invariant.links in
    record { few = sym (ap (λ (t : List FreeLink). leb (length t) 64) (sym all) ∙ le-leb (length items) 64 c.loop-standing.invariant.few); links = all }
