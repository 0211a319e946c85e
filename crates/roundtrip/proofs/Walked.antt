-- A walk through a plan whose rows lie in the order of another's walk.
use Rattle.std.proofs.lemmas.List.Elements.{filter-append}
use Rattle.showing.proofs.Lists.{kept_map, map_flat}
use Rattle.std.proofs.lemmas.Simd.{map-map}
use Rattle.std.proofs.lemmas.List.Folds.{flat_map-map}
use Rattle.std.proofs.Common.{◌≡◌, ℕ, zero, suc, ◌<◌, ◌≤◌, Bool, eqb, List, [], ◌∷◌, ◌++◌, map, length, get_or, Some, None, filter, Option, sym, refl, ap, ◌∙◌, ap₂, ⊎_elim, append-nil, arith}
use mathlib.Core.List.{map-append}
use lib.ListN.{length-map}
use Rattle.std.specs.List.{AllByRecursion as All}
use Rattle.std.proofs.lemmas.Bool.{cases_eq, cond-true, cond-false, eq-eqb, ne_eqb}
use Rattle.text.specs.declared.packed.Name.{Name}
use Rattle.grammar.specs.declared.event.Event.TheVariants as events
use Rattle.plan.specs.declared.tables.Cell.{Cell}
use Rattle.plan.specs.Model.{Model, Node}
use Rattle.plan.specs.Sound.{count, no_cell, rows}
use Rattle.std.specs.List.{flat_map}
use Rattle.showing.specs.Walk.{Step, atom, enter, leave, has_parent, atoms_in, cells_in, walk}
use Rattle.showing.specs.Shown.{place, step_links, step_events}
use Rattle.showing.proofs.Totals.{all_weaker}
use Rattle.showing.proofs.Visits.{parent}
use Rattle.showing.proofs.Freed.{count_here, count_later}
use Rattle.showing.proofs.Named.{place_same}
use Rattle.roundtrip.proofs.Preorder.{count_none, place_in, getD_place, places, kept_alike, inner}
use Rattle.roundtrip.proofs.Tallies.{all_standing}

-- a step, without the cell of its atom, and its links as another function has them
abbrev pub bare : {L : Type 0} → (ℕ → ℕ) → Step L → Step L
bare h (atom a) = atom (record { label = a.label; cell = 0; links = map h a.links })
bare h (enter j) = enter j
bare h leave = leave

pub map_self : (xs : List ℕ) → map (λ x. x) xs ≡ xs
map_self [] = refl
map_self (x ∷ xs) = ap (λ t. x ∷ t) (map_self xs)

pub flat_alike : {A B : Type 0} (f g : A → List B) (xs : List A) → All (λ x. f x ≡ g x) xs → flat_map f xs ≡ flat_map g xs
flat_alike f g [] h = refl
flat_alike f g (x ∷ xs) h = ap₂ (λ a b. a ++ b) h.0 (flat_alike f g xs h.1)

-- what a bare step shows

bare_events : {L : Type 0} (name : ℕ → Name) (h : ℕ → ℕ) (s : Step L) → step_events name (bare h s) ≡ step_events (λ x. name (h x)) s
bare_events name h (atom a) = ap (λ t. events.Label a.label ∷ t) (map-map (λ x. events.Port (name x)) h a.links)
bare_events name h (enter j) = refl
bare_events name h leave = refl

pub bare_shown : {L : Type 0} (name : ℕ → Name) (h : ℕ → ℕ) (ss : List (Step L)) → flat_map (step_events name) (map (bare h) ss) ≡ flat_map (step_events (λ x. name (h x))) ss
bare_shown name h [] = refl
bare_shown name h (s ∷ ss) = ap₂ (λ a b. a ++ b) (bare_events name h s) (bare_shown name h ss)

bare_one : {L : Type 0} (h : ℕ → ℕ) (s : Step L) → step_links (bare h s) ≡ map h (step_links s)
bare_one h (atom a) = refl
bare_one h (enter j) = refl
bare_one h leave = refl

pub bare_links : {L : Type 0} (h : ℕ → ℕ) (ss : List (Step L)) → flat_map step_links (map (bare h) ss) ≡ map h (flat_map step_links ss)
bare_links h [] = refl
bare_links h (s ∷ ss) = ap₂ (λ a b. a ++ b) (bare_one h s) (bare_links h ss) ∙ sym (map-append h (step_links s) (flat_map step_links ss))

module _ {L : Type 0} (m n : Model L) (v : List ℕ) (h : ℕ → ℕ) where
  -- the new row of a cell
  abbrev pub row : ℕ → ℕ
  row r = place r v

  abbrev pub lifted : Option ℕ → Option ℕ
  lifted None = None
  lifted (Some q) = Some (row q)

  abbrev pub new_cell : ℕ → Cell
  new_cell r = record { parent = lifted (parent m.cells r); set = (get_or m.cells r no_cell).set }

  abbrev pub again : ℕ → Node L → Node L
  again i a = record { label = a.label; cell = i; links = map h a.links }

  abbrev pub new_atoms : ℕ → List (Node L)
  new_atoms r = map (again (row r)) (atoms_in r m.atoms)

  -- the other plan has just these rows
  pub record Rowed : Type 0 where
    pub once : (r : ℕ) → count r v ≤ 1
    pub covers : (r : ℕ) → r < length m.cells → 0 < count r v
    pub inner_order : (c : ℕ) → c < length m.cells → filter (λ r. has_parent c (parent m.cells r)) v ≡ cells_in c m.cells
    pub cells : n.cells ≡ map new_cell v
    pub atoms : n.atoms ≡ flat_map new_atoms v

  moved_none : (i j : ℕ) (as' : List (Node L)) → (i ≡ j → ⊥) → atoms_in j (map (again i) as') ≡ []
  moved_none i j [] e = refl
  moved_none i j (a ∷ ax) e = cond-false (eqb i j) _ _ (ne_eqb i j e) ∙ moved_none i j ax e

  moved_all : (i : ℕ) (ax : List (Node L)) → atoms_in i (map (again i) ax) ≡ map (again i) ax
  moved_all i [] = refl
  moved_all i (a ∷ ax) = cond-true (eqb i i) _ _ (eq-eqb i i refl) ∙ ap (λ t. again i a ∷ t) (moved_all i ax)

  atoms_kept : (c : ℕ) (xs : List ℕ) → ((r : ℕ) → row r ≡ row c → r ≡ c) → (count c xs ≡ 0 → atoms_in (row c) (flat_map new_atoms xs) ≡ []) × (count c xs ≡ 1 → atoms_in (row c) (flat_map new_atoms xs) ≡ new_atoms c)
  atoms_kept c [] inj = (λ z. refl, λ z. let e = count_none c in absurd (omega arith))
  atoms_kept c (x ∷ xs) inj =
      let ih = atoms_kept c xs inj in
      let s = filter-append (λ (a : Node L). eqb a.cell (row c)) (new_atoms x) (flat_map new_atoms xs) in
      ⊎_elim
      (λ (e : c ≡ x).
      let l = count_here c x xs e in (
        λ z. absurd (omega arith),
        λ z.
            s ∙ (ap₂ (λ a b. a ++ b) (ap (λ q. atoms_in (row c) (new_atoms q)) (sym e) ∙ moved_all (row c) (atoms_in c m.atoms)) (ih.0 (omega arith)) ∙ append-nil (new_atoms c)),
      ))
      (λ (e : c ≡ x → ⊥).
      let l = count_later c x xs e in
      let none = moved_none (row x) (row c) (atoms_in x m.atoms) (λ i. e (sym (inj x i))) in
      (λ z. s ∙ ap₂ (λ a b. a ++ b) none (ih.0 (omega arith)), λ z. s ∙ ap₂ (λ a b. a ++ b) none (ih.1 (omega arith))))
      (cases_eq c x)

  module _ (w : Rowed) where
    apart : (c : ℕ) → c < length m.cells → (r : ℕ) → row r ≡ row c → r ≡ c
    apart c l r e = sym (place_same c r v (sym e) (place_in c v (w.covers c l)))

    atoms_again : (c : ℕ) → c < length m.cells → atoms_in (row c) n.atoms ≡ new_atoms c
    atoms_again c l =
        let a = w.once c in
        let b = w.covers c l in
        ap (atoms_in (row c)) w.atoms ∙ (atoms_kept c v (apart c l)).1 (omega arith)

    parent_again : (c : ℕ) → c < length m.cells → (o : Option ℕ) → has_parent (row c) (lifted o) ≡ has_parent c o
    parent_again c l None = refl
    parent_again c l (Some q) =
        ⊎_elim
        (λ (e : q ≡ c). eq-eqb (row q) (row c) (ap row e) ∙ sym (eq-eqb q c e))
        (λ (e : q ≡ c → ⊥). ne_eqb (row q) (row c) (λ i. e (apart c l q i)) ∙ sym (ne_eqb q c e))
        (cases_eq q c)

    cell_again : (r : ℕ) → 0 < count r v → get_or n.cells (row r) no_cell ≡ new_cell r
    cell_again r l = ap (λ cs. get_or cs (row r) no_cell) w.cells ∙ getD_place new_cell no_cell r v l

    cells_again : (c : ℕ) → c < length m.cells → cells_in (row c) n.cells ≡ map row (cells_in c m.cells)
    cells_again c l =
        let p : ℕ → Bool = λ i. has_parent (row c) (get_or n.cells i no_cell).parent in
        let long : length n.cells ≡ length v = ap length w.cells ∙ length-map v new_cell in
        ap (λ k. filter p (rows 0 k)) long
        ∙ (ap (filter p) (sym (places v w.once))
        ∙ (kept_map p row v
        ∙ ap (map row) (kept_alike (λ r. p (row r)) (λ r. has_parent c (parent m.cells r)) v
        (all_standing (λ r. p (row r) ≡ has_parent c (parent m.cells r)) v (λ r i. ap (λ (x : Cell). has_parent (row c) x.parent) (cell_again r i) ∙ parent_again c l (parent m.cells r)))
        ∙ w.inner_order c l)))

    atoms_bare : (i : ℕ) (ax : List (Node L)) → map (bare (λ x. x)) (map atom (map (again i) ax)) ≡ map (bare h) (map atom ax)
    atoms_bare i [] = refl
    atoms_bare i (a ∷ ax) = ap₂ (λ ls t. atom (record { label = a.label; cell = 0; links = ls }) ∷ t) (map_self (map h a.links)) (atoms_bare i ax)

    abbrev around : Model L → ℕ → ℕ → List (Step L)
    around o d r = enter (get_or o.cells r no_cell).set ∷ (walk d o r ++ (leave ∷ []))

    pub walked : (d c : ℕ) → c < length m.cells → map (bare (λ x. x)) (walk d n (row c)) ≡ map (bare h) (walk d m c)
    unfolding walk
    walked zero c l = refl
    walked (suc d) c l =
        let f : Step L → Step L = bare (λ x. x) in
        let g : Step L → Step L = bare h in
        let rs = cells_in c m.cells in
        let first : map f (map atom (atoms_in (row c) n.atoms)) ≡ map g (map atom (atoms_in c m.atoms)) = ap (λ ax. map f (map atom ax)) (atoms_again c l) ∙ atoms_bare (row c) (atoms_in c m.atoms) in
        let one : (r : ℕ) → (r < length m.cells) × (parent m.cells r ≡ Some c) → map f (around n d (row r)) ≡ map g (around m d r) =
        λ r q.
        ap₂ (λ a b. a ∷ b) (ap (λ (x : Cell). enter x.set) (cell_again r (w.covers r q.0)))
        (map-append f (walk d n (row r)) (leave ∷ []) ∙ (ap (λ t. t ++ (leave ∷ [])) (walked d r q.0) ∙ sym (map-append g (walk d m r) (leave ∷ [])))) in
        let later : map f (flat_map (around n d) (cells_in (row c) n.cells)) ≡ map g (flat_map (around m d) rs) =
        ap (λ xs. map f (flat_map (around n d) xs)) (cells_again c l)
        ∙ (ap (map f) (flat_map-map (around n d) row rs)
        ∙ (map_flat f (λ r. around n d (row r)) rs
        ∙ (flat_alike (λ r. map f (around n d (row r))) (λ r. map g (around m d r)) rs (all_weaker (λ r. (r < length m.cells) × (parent m.cells r ≡ Some c)) (λ r. map f (around n d (row r)) ≡ map g (around m d r)) rs one (inner m.cells c))
        ∙ sym (map_flat g (around m d) rs)))) in
        map-append f (map atom (atoms_in (row c) n.atoms)) (flat_map (around n d) (cells_in (row c) n.cells))
        ∙ (ap₂ (λ a b. a ++ b) first later
        ∙ sym (map-append g (map atom (atoms_in c m.atoms)) (flat_map (around m d) rs)))
