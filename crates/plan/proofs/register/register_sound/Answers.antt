use Rattle.std.proofs.Common.{◌≡◌, ℕ, ◌<◌, true, false, length, replicate, is_some, position, Some, sym, refl, subst, ap, ◌∙◌, arith, rules}
use lib.ListN.{length-replicate}
use Rattle.std.proofs.lemmas.Bool.{and_right, and_from}
use Rattle.std.proofs.lemmas.List.Folds.{list_all_at, list_all_more}
use Rattle.std.proofs.lemmas.List.Sums.{AllPass-from_list_all}
use Rattle.plan.specs.Places.{Filed}
use Rattle.plan.specs.Sound.{alike, registered}
use Rattle.plan.proofs.Counting.{zero_at}
use Rattle.plan.proofs.Deciding.{register_by}
use Rattle.plan.proofs.Placing.{alone, registered_position}
use Rattle.plan.proofs.Tallying.{counts_fit, counts_more, counts_none, counts_say}
use Rattle.plan.proofs.register.register_sound.Goals as goal

pub returns-in_default : goal.returns-in_default
returns-in_default g c = sym (register_by g.L.Label.kind c.args.atoms.now c.args.rows.now false (ap is_some (sym c.in_default.is) ∙ c.of.ensures.is))

pub loop-atom-init : goal.loop-atom-init
loop-atom-init g c =
    let long = length-replicate {A = ℕ} 1024 0 in
    record { counts = counts_none g.L.Label.kind c.args.rows.now (replicate 1024 0) (omega arith) (zero_at 1024); listed = refl }

pub returns-in_default-position : goal.returns-in_default-position
returns-in_default-position g c =
    let k = g.L.Label.kind in
    let rows = c.args.rows.now in
    let x = c.atom-item.result in
    let same = c.in-Some.ensures.same in
    let none : registered k x.label rows ≡ false = registered_position k x.label rows ∙ ap (λ s. is_some (position (λ r. alike k x.label r.label) s)) (sym same) ∙ ap is_some (sym c.position.ensures) ∙ search rules in
    sym (register_by k c.args.atoms.now rows true (ap is_some (sym c.in-Some.is) ∙ c.of.ensures.is)
    ∙ and_right _ _ (list_all_at (λ a. registered k a.label rows) c.args.atoms.now c.loop-atom.atom-index x (omega arith) (ap (λ a. registered k a.label rows) (sym c.atom-item.is) ∙ none)))

pub overflow_add-counts : goal.overflow_add-counts
overflow_add-counts g c =
    let k = g.L.Label.kind in
    let rows = c.args.rows.now in
    let x = c.atom-item.result in
    let same = c.in-Some.ensures.same in
    let mine : k.mine x.label ≡ true = ap (λ a. k.mine a.label) c.atom-item.is ∙ AllPass-from_list_all (λ a. k.mine a.label) c.args.atoms.now c.requires.mine c.loop-atom.atom-index x (omega arith) in
    let at : position (λ r. alike k x.label r.label) rows ≡ Some c.in-Some-position.row = ap (position (λ r. alike k x.label r.label)) (sym same) ∙ sym c.position.ensures ∙ c.in-Some-position.is in
    let found = alone k g.met.L.Label.lawful x.label mine rows (subst (Filed k) same c.in-Some.register.filed) c.in-Some-position.row at in
    let few = counts_fit k rows c.args.atoms.now c.loop-atom.counts c.loop-atom.atom-index c.in-Some-position.row c.loop-atom.invariant.counts (search rules) found.0 in
    search rules

pub loop-atom-preserved : goal.loop-atom-preserved
loop-atom-preserved g c =
    let k = g.L.Label.kind in
    let rows = c.args.rows.now in
    let atoms = c.args.atoms.now in
    let i = c.loop-atom.atom-index in
    let x = c.atom-item.result in
    let same = c.in-Some.ensures.same in
    let inside : i < length atoms = search rules in
    let mine : k.mine x.label ≡ true = ap (λ a. k.mine a.label) c.atom-item.is ∙ AllPass-from_list_all (λ a. k.mine a.label) atoms c.requires.mine i x inside in
    let at : position (λ r. alike k x.label r.label) rows ≡ Some c.in-Some-position.row = ap (position (λ r. alike k x.label r.label)) (sym same) ∙ sym c.position.ensures ∙ c.in-Some-position.is in
    let here : registered k x.label rows ≡ true = registered_position k x.label rows ∙ ap is_some at in
    record {
      counts = counts_more k g.met.L.Label.lawful rows (subst (Filed k) same c.in-Some.register.filed) atoms c.loop-atom.counts i c.in-Some-position.row x mine inside c.atom-item.is at c.loop-atom.invariant.counts;
      listed = list_all_more (λ a. registered k a.label rows) atoms i x inside ∙ and_from _ _ c.loop-atom.invariant.listed (ap (λ a. registered k a.label rows) (sym c.atom-item.is) ∙ here);
    }

pub returns : goal.returns
returns g c =
    let k = g.L.Label.kind in
    let rows = c.args.rows.now in
    let atoms = c.args.atoms.now in
    c.rows_match.ensures ∙ counts_say k rows atoms c.loop-atom.counts c.loop-atom.atom-index (search rules) c.loop-atom.invariant.counts c.loop-atom.invariant.listed
    ∙ sym (register_by k atoms rows true (ap is_some (sym c.in-Some.is) ∙ c.of.ensures.is))
