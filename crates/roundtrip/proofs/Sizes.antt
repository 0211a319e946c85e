-- How many atoms, cells and labels the text of a sound plan has.
use Rattle.std.proofs.Common.{◌≡◌, ℕ, suc, ◌+◌, ◌*◌, true, false, cond, eqb, List, [], ◌∷◌, map, length, Some, None, Option, sym, refl, ap, ◌∙◌, arith}
use Rattle.std.proofs.lemmas.Bool.{cond_both}
use Rattle.label.specs.Kind.{Kind}
use Rattle.text.specs.declared.packed.Name.{Name}
use Rattle.grammar.specs.declared.event.Event.{Event}
use Rattle.grammar.specs.declared.event.Event.TheVariants as events
use Rattle.grammar.specs.Laws.{fault_of}
use Rattle.plan.specs.declared.tables.FreeLink.{FreeLink}
use Rattle.plan.specs.Model.{Model, Node}
use Rattle.plan.specs.Sound.{alike, atoms_of}
use Rattle.grammar.specs.Events.{summed}
use Rattle.placing.specs.Counts.{labels_at, cells_at, label_at}
use Rattle.std.specs.List.{flat_map}
use Rattle.showing.specs.Walk.{Step, atom, enter, leave, whole_walk}
use Rattle.showing.specs.Shown.{open_name, shown_name, set_events, step_events, tie, ties, plan_events}
use Rattle.showing.specs.Reading.{stream}
use Rattle.showing.proofs.Totals.{summed_total, total, total_append, total_alike, total_flat, total_map, total_none, length_total}
use Rattle.showing.proofs.Visits.{weigh}
use Rattle.showing.proofs.Meeting.{Facts, walk_weight}

pub stream_clean : {L : Type 0} (es : List (Event L)) → fault_of (stream es) ≡ None
unfolding stream
stream_clean [] = refl
stream_clean (e ∷ es) = stream_clean es

-- what counts no names counts nothing in connectors
ties_none : {L : Type 0} (f : Event L → ℕ) → ((n : Name) → f (events.First n) ≡ 0) → ((n : Name) → f (events.Second n) ≡ 0) → (fs : List FreeLink) → total f (ties fs) ≡ 0
unfolding ties total
ties_none f a b [] = refl
ties_none f a b (x ∷ fs) =
    let ih = ties_none f a b fs in
    let l = total_append f (tie x.name (open_name x.link fs)) (ties fs) in
    let o = one (open_name x.link fs) in
    omega arith
  where
    one : (o : Option Name) → total f (tie x.name o) ≡ 0
    one None = refl
    one (Some n) = let p = a x.name in let q = b n in omega arith

-- a number of each step, over the whole plan
module _ {L : Type 0} (k : Kind L) (m : Model L) (facts : Facts k m) where
  counted : (f : Event L → ℕ) (w : Node L → ℕ) (u : ℕ) → ((n : Name) → f (events.First n) ≡ 0) → ((n : Name) → f (events.Second n) ≡ 0) → ((s : Step L) → total f (step_events (shown_name m) s) ≡ weigh w u 0 s) → summed f (stream (plan_events m)) + u ≡ total w m.atoms + length m.cells * u
  counted f w u a b h =
      let steps = whole_walk m in
      let t = summed_total f (plan_events m) in
      let s = total_append f (flat_map (step_events (shown_name m)) steps) (ties m.free) in
      let c = total_flat f (step_events (shown_name m)) steps ∙ total_alike (λ s. total f (step_events (shown_name m) s)) (weigh w u 0) steps h in
      let n = ties_none f a b m.free in
      let e = walk_weight k m facts w u 0 in
      let z : u + 0 ≡ u = omega arith in
      let v : total (weigh w u 0) steps + u ≡ total w m.atoms + length m.cells * u = ap (λ v. total (weigh w u 0) steps + v) (sym z) ∙ (e ∙ ap (λ v. total w m.atoms + length m.cells * v) z) in
      omega arith

  ports_none : (f : Event L → ℕ) → ((n : Name) → f (events.Port n) ≡ 0) → (name : ℕ → Name) (xs : List ℕ) → total f (map (λ x. events.Port (name x)) xs) ≡ 0
  ports_none f h name xs = total_map f (λ x. events.Port (name x)) xs ∙ (total_alike (λ x. f (events.Port (name x))) (λ x. 0) xs (λ x. h (name x)) ∙ total_none xs)

  set_none : (f : Event L → ℕ) → ((j : ℕ) → f (events.Set j) ≡ 0) → (j : ℕ) → total f (set_events j) ≡ 0
  unfolding total
  set_none f h j = cond_both (eqb j 0) [] (events.Set j ∷ []) (λ es. total f es ≡ 0) (λ _. refl) (λ _. let e = h j in omega arith)

  pub atoms_counted : summed labels_at (stream (plan_events m)) ≡ length m.atoms
  unfolding total
  atoms_counted =
      let e = counted labels_at (λ a. 1) 0 (λ n. refl) (λ n. refl) by in
      let l = length_total m.atoms in omega arith
    where
      by : (s : Step L) → total labels_at (step_events (shown_name m) s) ≡ weigh (λ a. 1) 0 0 s
      by (atom a) = let p = ports_none labels_at (λ n. refl) (shown_name m) a.links in omega arith
      by (enter j) = let p = set_none labels_at (λ j. refl) j in omega arith
      by leave = refl

  pub cells_counted : summed cells_at (stream (plan_events m)) + 1 ≡ length m.cells
  unfolding total
  cells_counted =
      let e = counted cells_at (λ a. 0) 1 (λ n. refl) (λ n. refl) by in
      let l = total_none m.atoms in omega arith
    where
      by : (s : Step L) → total cells_at (step_events (shown_name m) s) ≡ weigh (λ a. 0) 1 0 s
      by (atom a) = let p = ports_none cells_at (λ n. refl) (shown_name m) a.links in omega arith
      by (enter j) = let p = set_none cells_at (λ j. refl) j in omega arith
      by leave = refl

  atoms_total : (l : L) (nodes : List (Node L)) → atoms_of k l nodes ≡ total (λ a. cond (alike k l a.label) 1 0) nodes
  unfolding atoms_of total
  atoms_total l [] = refl
  atoms_total l (a ∷ nodes) =
      let ih = atoms_total l nodes in
      elim (alike k l a.label) as (λ v. cond v (suc (atoms_of k l nodes)) (atoms_of k l nodes) ≡ cond v 1 0 + total (λ a. cond (alike k l a.label) 1 0) nodes) [ true ↦ omega arith | false ↦ omega arith ]

  pub labels_counted : (l : L) → summed (label_at k l) (stream (plan_events m)) ≡ atoms_of k l m.atoms
  unfolding total
  labels_counted l =
      let w : Node L → ℕ = λ a. cond (alike k l a.label) 1 0 in
      let e = counted (label_at k l) w 0 (λ n. refl) (λ n. refl) by in
      let t = atoms_total l m.atoms in omega arith
    where
      by : (s : Step L) → total (label_at k l) (step_events (shown_name m) s) ≡ weigh (λ a. cond (alike k l a.label) 1 0) 0 0 s
      by (atom a) = let p = ports_none (label_at k l) (λ n. refl) (shown_name m) a.links in omega arith
      by (enter j) = let p = set_none (label_at k l) (λ j. refl) j in omega arith
      by leave = refl
