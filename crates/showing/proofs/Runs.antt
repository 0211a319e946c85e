-- The events of a sound plan are in order.
use Rattle.std.proofs.lemmas.List.Concat.{flat_map-append}
use Rattle.std.proofs.Common.{◌≡◌, ℕ, zero, suc, ◌+◌, ◌-◌, ◌<◌, ◌≤◌, true, false, ◌&&◌, ◌||◌, eqb, ltb, leb, List, [], ◌∷◌, ◌++◌, map, length, get_or, Some, None, Option, sym, refl, ap, ◌∙◌, subst, ap₂, ⊎_elim, append_assoc, append-nil, arith}
use Rattle.std.specs.List.{AllByRecursion as All}
use Rattle.std.proofs.lemmas.Bool.Decides.{nat_tests}
use Rattle.std.proofs.lemmas.Bool.{and_from, cases_Bool, cond_both, eqb-true, false≢true, le-leb, lt-ltb}
use Rattle.label.specs.Kind.{Kind}
use Rattle.text.specs.declared.packed.Name.{Name}
use Rattle.grammar.specs.declared.event.Event.{Event}
use Rattle.grammar.specs.declared.event.Event.TheVariants as events
use Rattle.plan.specs.declared.tables.Cell.{Cell}
use Rattle.plan.specs.declared.tables.FreeLink.{FreeLink}
use Rattle.plan.specs.Model.{Model, Node}
use Rattle.plan.specs.Sound.{leads, onward, no_cell, rows}
use Rattle.plan.specs.Sound as sound
use Rattle.std.specs.List.{flat_map}
use Rattle.showing.specs.Walk.{Step, atom, enter, leave, has_parent, atoms_in, cells_in, walk, whole_walk}
use Rattle.showing.specs.Shown.{open_name, shown_name, set_events, step_events, tie, ties, plan_events}
use Rattle.grammar.specs.Events.{proper_name, depth_after, connectors_at}
use Rattle.showing.specs.Reading.{Before, opening, label, ports, halfway, item, whole, may_stand, then, in_order, connectors, Writable}
use Rattle.showing.proofs.Totals.{summed_total, total, total_append, total_alike, total_none, total_flat, total_map, all_kept, all_both, all_rows, all_weaker}
use Rattle.showing.proofs.Visits.{parent}
use Rattle.showing.proofs.Meeting.{Facts}
use Rattle.showing.proofs.Freed.{open_good}
use Rattle.showing.proofs.Twice.{open_proper, shown_proper, standings_right}

module _ {L : Type 0} (k : Kind L) where
  -- events of whole items, where so many cells are open: whatever may follow items may follow them
  abbrev Goes : ℕ → List (Event L) → Type 0
  Goes d es = (x : Before) → whole x ≡ true → (rest : List (Event L)) → ((y : Before) → whole y ≡ true → in_order k d y rest ≡ true) → in_order k d x (es ++ rest) ≡ true

  goes_none : (d : ℕ) → Goes d []
  goes_none d x h rest f = f x h

  goes_append : (d : ℕ) (es gs : List (Event L)) → Goes d es → Goes d gs → Goes d (es ++ gs)
  goes_append d es gs a b x h rest f = rw append_assoc (a x h (gs ++ rest) (λ y g. b y g rest f))

  -- one event more before
  before : (d : ℕ) (x : Before) (e : Event L) (es : List (Event L)) → may_stand k d x e ≡ true → in_order k (depth_after d e) (then x e) es ≡ true → in_order k d x (e ∷ es) ≡ true
  unfolding in_order
  before d x e es h g = and_from (may_stand k d x e) (in_order k (depth_after d e) (then x e) es) h g

  module _ (name : ℕ → Name) (good : (x : ℕ) → proper_name (name x) ≡ true) where
    more_ports : (d j : ℕ) (xs : List ℕ) (rest : List (Event L)) → j + length xs ≤ 8 → ((y : Before) → whole y ≡ true → in_order k d y rest ≡ true) → in_order k d (ports j) (map (λ x. events.Port (name x)) xs ++ rest) ≡ true
    more_ports d j [] rest h f = f (ports j) refl
    more_ports d j (x ∷ xs) rest h f =
        before d (ports j) (events.Port (name x)) (map (λ x. events.Port (name x)) xs ++ rest)
        (and_from (ltb j 8) (proper_name (name x)) (lt-ltb j 8 (omega arith)) (good x))
        (more_ports d (j + 1) xs rest (omega arith) f)

    ports_go : (d : ℕ) (xs : List ℕ) (rest : List (Event L)) → length xs ≤ 8 → ((y : Before) → whole y ≡ true → in_order k d y rest ≡ true) → in_order k d label (map (λ x. events.Port (name x)) xs ++ rest) ≡ true
    ports_go d [] rest h f = f label refl
    ports_go d (x ∷ xs) rest h f =
        before d label (events.Port (name x)) (map (λ x. events.Port (name x)) xs ++ rest) (good x) (more_ports d 1 xs rest (omega arith) f)

    atom_goes : (d : ℕ) (a : Node L) → k.mine a.label ≡ true → length a.links ≤ 8 → Goes d (step_events name (atom a))
    atom_goes d a mine few x h rest f =
        before d x (events.Label a.label) (map (λ x. events.Port (name x)) a.links ++ rest) (and_from (whole x) (k.mine a.label) h mine) (ports_go d a.links rest few f)

    atoms_go : (d : ℕ) (nodes : List (Node L)) → All (λ a. (k.mine a.label ≡ true) × (length a.links ≤ 8)) nodes → Goes d (flat_map (step_events name) (map atom nodes))
    atoms_go d [] h = goes_none d
    atoms_go d (a ∷ nodes) h = goes_append d (step_events name (atom a)) (flat_map (step_events name) (map atom nodes)) (atom_goes d a h.0.0 h.0.1) (atoms_go d nodes h.1)

  -- where a cell ends
  leaves : (d : ℕ) (rest : List (Event L)) → ((y : Before) → whole y ≡ true → in_order k d y rest ≡ true) → (y : Before) → whole y ≡ true → in_order k (suc d) y (events.Leave ∷ rest) ≡ true
  leaves d rest f y h =
      let e : suc d - 1 ≡ d = omega arith in
      before (suc d) y events.Leave rest (and_from (whole y) (ltb 0 (suc d)) h (lt-ltb 0 (suc d) (omega arith))) (rw e (f item refl))

  set_go : (d s : ℕ) (inner : List (Event L)) → s ≤ 15 → ((y : Before) → whole y ≡ true → in_order k (suc d) y inner ≡ true) → in_order k (suc d) opening (set_events s ++ inner) ≡ true
  set_go d s inner h f =
      cond_both (eqb s 0) [] (events.Set s ∷ []) (λ es. in_order k (suc d) opening (es ++ inner) ≡ true)
      (λ _. f opening refl)
      (λ e.
      let some : 1 ≤ s = grind (arith, nat_tests) in
      before (suc d) opening (events.Set s) inner
      (and_from (ltb 0 (suc d)) (leb 1 s && leb s 15) (lt-ltb 0 (suc d) (omega arith)) (and_from (leb 1 s) (leb s 15) (le-leb 1 s some) (le-leb s 15 h)))
      (f item refl))

  cell_goes : (d s : ℕ) (inner : List (Event L)) → d < 16 → s ≤ 15 → Goes (suc d) inner → Goes d ((events.Enter ∷ set_events s) ++ (inner ++ (events.Leave ∷ [])))
  cell_goes d s inner deep few g x h rest f =
      let e : d + 1 ≡ suc d = omega arith in
      let inside : in_order k (suc d) opening (set_events s ++ (inner ++ (events.Leave ∷ rest))) ≡ true = set_go d s (inner ++ (events.Leave ∷ rest)) few (λ y i. g y i (events.Leave ∷ rest) (leaves d rest f)) in
      let same : (set_events s ++ (inner ++ (events.Leave ∷ []))) ++ rest ≡ set_events s ++ (inner ++ (events.Leave ∷ rest)) = append_assoc (set_events s) (inner ++ (events.Leave ∷ [])) rest ∙ ap (λ t. set_events s ++ t) (append_assoc inner (events.Leave ∷ []) rest) in
      before d x events.Enter ((set_events s ++ (inner ++ (events.Leave ∷ []))) ++ rest) (and_from (whole x) (ltb d 16) h (lt-ltb d 16 deep))
      (ap₂ (λ d t. in_order k d opening t) e same ∙ inside)

-- a cell so many levels below the root
abbrev pub Deep : List Cell → ℕ → ℕ → Type 0
Deep cells zero r = r ≡ 0
Deep cells (suc d) r = (q : ℕ) × ((parent cells r ≡ Some q) × Deep cells d q)

-- leads to it through so many parents and no fewer
pub deep_most : (cells : List Cell) (d n r : ℕ) → parent cells 0 ≡ None → Deep cells d r → leads n cells r ≡ true → d ≤ n
unfolding leads
deep_most cells zero n r top h l = omega arith
deep_most cells (suc d) zero r top h l =
    let e : parent cells 0 ≡ Some h.0 = ap (parent cells) (sym (eqb-true r 0 l)) ∙ h.1.0 in
    let z : ◌≡◌ {A = ℕ} 0 1 = cc in absurd (omega arith)
deep_most cells (suc d) (suc n) r top h l =
    ⊎_elim
    (λ t. let e : parent cells 0 ≡ Some h.0 = ap (parent cells) (sym (eqb-true r 0 t)) ∙ h.1.0 in let z : ◌≡◌ {A = ℕ} 0 1 = cc in absurd (omega arith))
    (λ f. let o : leads n cells h.0 ≡ true = ap (onward (λ p. leads n cells p)) (sym h.1.0) ∙ or_right f in let ih = deep_most cells d n h.0 top h.1.1 o in omega arith)
    (cases_Bool (eqb r 0))
  where
    or_right : eqb r 0 ≡ false → onward (λ p. leads n cells p) (parent cells r) ≡ true
    or_right f = ap (λ v. v || onward (λ p. leads n cells p) (parent cells r)) (sym f) ∙ l

pub has_parent_is : (c : ℕ) (o : Option ℕ) → has_parent c o ≡ true → o ≡ Some c
has_parent_is c None h = absurd (false≢true h)
has_parent_is c (Some q) h = ap Some (eqb-true q c h)

pub set_low : (cells : List Cell) (r : ℕ) → All (λ c. c.set ≤ 15) cells → (get_or cells r no_cell).set ≤ 15
set_low [] r h = omega arith
set_low (c ∷ cells) zero h = h.0
set_low (c ∷ cells) (suc r) h = set_low cells r h.1

module _ {L : Type 0} (k : Kind L) (m : Model L) (f : Facts k m) where
  abbrev shown_step : Step L → List (Event L)
  shown_step = step_events (shown_name m)

  abbrev through : ℕ → ℕ → List (Step L)
  through n r = enter (get_or m.cells r no_cell).set ∷ (walk n m r ++ (leave ∷ []))

  through_is : (n r : ℕ) → flat_map shown_step (through n r) ≡ (events.Enter ∷ set_events (get_or m.cells r no_cell).set) ++ (flat_map shown_step (walk n m r) ++ (events.Leave ∷ []))
  through_is n r = ap (λ t. (events.Enter ∷ set_events (get_or m.cells r no_cell).set) ++ t) (flat_map-append shown_step (walk n m r) (leave ∷ []))

  -- through the cells of a cell
  cells_go : (n d c : ℕ) (rs : List ℕ) → Deep m.cells d c → ((r : ℕ) → Deep m.cells (suc d) r → Goes k (suc d) (flat_map shown_step (walk n m r))) → All (λ r. (r < 0 + length m.cells) × (has_parent c (parent m.cells r) ≡ true)) rs → Goes k d (flat_map shown_step (flat_map (through n) rs))
  cells_go n d c [] deep inner h = goes_none k d
  cells_go n d c (r ∷ rs) deep inner h =
      let below : Deep m.cells (suc d) r = (c, (has_parent_is c (parent m.cells r) h.0.1, deep)) in
      let l = h.0.0 in
      let most : suc d ≤ 16 = deep_most m.cells (suc d) 16 r f.top below (f.lead r (omega arith)) in
      let one : Goes k d (flat_map shown_step (through n r)) = subst (Goes k d) (sym (through_is n r)) (cell_goes k d (get_or m.cells r no_cell).set (flat_map shown_step (walk n m r)) (omega arith) (set_low m.cells r f.sets) (inner r below)) in
      subst (Goes k d) (sym (flat_map-append shown_step (through n r) (flat_map (through n) rs)))
      (goes_append k d (flat_map shown_step (through n r)) (flat_map shown_step (flat_map (through n) rs)) one (cells_go n d c rs deep inner h.1))

  walk_goes : (n d c : ℕ) → Deep m.cells d c → Goes k d (flat_map shown_step (walk n m c))
  unfolding walk
  walk_goes zero d c deep = goes_none k d
  walk_goes (suc n) d c deep =
      let nodes = atoms_in c m.atoms in
      let rs = cells_in c m.cells in
      let fine = all_both (λ a. k.mine a.label ≡ true) (λ a. length a.links ≤ 8) m.atoms f.labels f.ports in
      let kept = all_kept (λ a. (k.mine a.label ≡ true) × (length a.links ≤ 8)) (λ a. eqb a.cell c) m.atoms fine in
      let here = atoms_go k (shown_name m) (shown_proper k m f) d nodes (all_weaker (λ a. ((k.mine a.label ≡ true) × (length a.links ≤ 8)) × (eqb a.cell c ≡ true)) (λ a. (k.mine a.label ≡ true) × (length a.links ≤ 8)) nodes (λ a h. h.0) kept) in
      let inner = cells_go n d c rs deep (λ r below. walk_goes n (suc d) r below) (all_kept (λ r. r < 0 + length m.cells) (λ r. has_parent c (parent m.cells r)) (rows 0 (length m.cells)) (all_rows 0 (length m.cells))) in
      subst (Goes k d) (sym (flat_map-append shown_step (map atom nodes) (flat_map (through n) rs)))
      (goes_append k d (flat_map shown_step (map atom nodes)) (flat_map shown_step (flat_map (through n) rs)) here inner)

  -- the connectors between free links
  tie_goes : (n : Name) (o : Option Name) → proper_name n ≡ true → ((a : Name) → o ≡ Some a → proper_name a ≡ true) → Goes k 0 (tie n o)
  tie_goes n None h g x w rest r = goes_none k 0 x w rest r
  tie_goes n (Some a) h g x w rest r =
      before k 0 x (events.First n) (events.Second a ∷ rest) (and_from (whole x) (proper_name n) w h)
      (before k 0 halfway (events.Second a) rest (g a refl) (r item refl))

  ties_go : (fs : List FreeLink) → All (λ f. sound.open_name f.name ≡ true) fs → Goes k 0 (ties fs)
  unfolding ties
  ties_go [] h = goes_none k 0
  ties_go (g ∷ fs) h =
      goes_append k 0 (tie g.name (open_name g.link fs)) (ties fs)
      (tie_goes g.name (open_name g.link fs) (open_proper g.name h.0).0 (λ a e. (open_proper a (open_good (λ a. sound.open_name a ≡ true) g.link fs a h.1 e)).0))
      (ties_go fs h.1)

  ended : (y : Before) → whole y ≡ true → in_order k 0 y [] ≡ true
  unfolding in_order
  ended y h = and_from (whole y) (eqb 0 0) h refl

  pub plan_order : in_order k 0 opening (plan_events m) ≡ true
  plan_order =
      walk_goes 17 0 0 refl opening refl (ties m.free)
      (λ y h. ap (in_order k 0 y) (sym (append-nil (ties m.free))) ∙ ties_go m.free f.names y h [] ended)

-- how many connectors

step_connectors : {L : Type 0} (name : ℕ → Name) (s : Step L) → total connectors_at (step_events name s) ≡ 0
unfolding total
step_connectors {L} name (atom a) =
    let port : ℕ → Event L = λ x. events.Port (name x) in
    let e = total_map connectors_at port a.links ∙ total_none a.links in omega arith
step_connectors {L} name (enter k) =
    cond_both (eqb k 0) [] (events.Set k ∷ []) (λ es. 0 + total {A = Event L} connectors_at es ≡ 0) (λ _. refl) (λ _. refl)
step_connectors name leave = refl

ties_connectors : (L : Type 0) (fs : List FreeLink) → total (connectors_at {L = L}) (ties fs) ≤ length fs
unfolding ties total
ties_connectors L [] = omega arith
ties_connectors L (f ∷ fs) =
    let a = total_append (connectors_at {L = L}) (tie f.name (open_name f.link fs)) (ties fs) in
    let b = one (open_name f.link fs) in
    let ih = ties_connectors L fs in
    omega arith
  where
    one : (o : Option Name) → total (connectors_at {L = L}) (tie f.name o) ≤ 1
    one None = omega arith
    one (Some a) = omega arith

pub plan_connectors : {L : Type 0} (m : Model L) → connectors (plan_events m) ≤ length m.free
plan_connectors {L} m =
    let steps = whole_walk m in
    let a = summed_total connectors_at (plan_events m) in
    let b = total_append connectors_at (flat_map (step_events (shown_name m)) steps) (ties m.free) in
    let c = total_flat connectors_at (step_events (shown_name m)) steps ∙ total_alike (λ s. total connectors_at (step_events (shown_name m) s)) (λ s. 0) steps (step_connectors (shown_name m)) ∙ total_none steps in
    let d = ties_connectors L m.free in
    omega arith

pub shown_writable : {L : Type 0} (k : Kind L) (m : Model L) → Facts k m → Writable k (plan_events m)
shown_writable k m f =
    let n = plan_connectors m in
    record {
      order = plan_order k m f;
      few = omega (arith, f.few_free);
      twice = λ n. (standings_right k m f n).0;
      not_alone = λ n. (standings_right k m f n).1;
    }
