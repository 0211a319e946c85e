-- Placing the events of a walk: the atoms and the cells come to lie in the order of the walk.
use Rattle.std.proofs.Common.{◌≡◌, ℕ, zero, suc, ◌<◌, ◌≤◌, eqb, List, [], ◌∷◌, ◌++◌, map, length, get_or, set, Some, None, Option, sym, refl, ap, ◌∙◌, subst, ap₂, append_assoc, append-nil, arith}
use mathlib.Core.List.{map-append}
use lib.ListN.{length-map}
use lib.Seq.{get_or-append_seam}
use Rattle.std.specs.List.{AllByRecursion as All}
use Rattle.std.proofs.lemmas.Bool.{cond_both, eqb-true}
use Rattle.label.specs.Kind.{Kind}
use Rattle.text.specs.declared.packed.Name.{Name}
use Rattle.grammar.specs.declared.event.Event.{Event}
use Rattle.grammar.specs.declared.event.Event.TheVariants as events
use Rattle.plan.specs.declared.tables.Cell.{Cell}
use Rattle.plan.specs.Model.{Model, Node}
use Rattle.plan.specs.Sound.{count, no_cell}
use Rattle.placing.specs.Placing.{Placing, with_port, or_root, parent_of, with_set, place_one, place_all}
use Rattle.std.specs.List.{flat_map}
use Rattle.showing.specs.Walk.{Step, atom, enter, leave, atoms_in, cells_in, walk}
use Rattle.showing.specs.Shown.{place, step_events}
use Rattle.showing.specs.Reading.{stream}
use Rattle.showing.proofs.Totals.{count_append, all_weaker}
use Rattle.showing.proofs.Visits.{parent, visits}
use Rattle.showing.proofs.Freed.{count_here}
use Rattle.std.proofs.lemmas.List.Concat.{flat_map-append}
use Rattle.roundtrip.proofs.Preorder.{Enough, inner, place_past}

-- one more port for the last atom
port_last : {L : Type 0} (x : ℕ) (ax : List (Node L)) (a : Node L) → with_port x (ax ++ (a ∷ [])) ≡ ax ++ (record { label = a.label; cell = a.cell; links = a.links ++ (x ∷ []) } ∷ [])
unfolding with_port
port_last x [] a = refl
port_last x (b ∷ []) a = refl
port_last x (b ∷ (c ∷ ax)) a = ap (λ t. b ∷ t) (port_last x (c ∷ ax) a)

set_last : (cs : List Cell) (c d : Cell) → set (cs ++ (c ∷ [])) (length cs) d ≡ cs ++ (d ∷ [])
set_last [] c d = refl
set_last (b ∷ cs) c d = ap (λ t. b ∷ t) (set_last cs c d)

with_set_last : (cs : List Cell) (c : Cell) (j : ℕ) → with_set (cs ++ (c ∷ [])) (length cs) j ≡ cs ++ (record { parent = c.parent; set = j } ∷ [])
with_set_last cs c j =
    ap (λ (x : Cell). set (cs ++ (c ∷ [])) (length cs) (record { parent = x.parent; set = j })) (get_or-append_seam cs c [] no_cell)
    ∙ set_last cs c (record { parent = c.parent; set = j })

module _ {L : Type 0} (k : Kind L) (link : Name → ℕ) where
  -- a list of events is placed
  abbrev pub run : Placing L → List (Event L) → Placing L
  run p es = place_all k link p (stream es)

  pub run_append : (p : Placing L) (es gs : List (Event L)) → run p (es ++ gs) ≡ run (run p es) gs
  unfolding place_all stream
  run_append p [] gs = refl
  run_append p (e ∷ es) gs = run_append (place_one k link p e) es gs

  -- what is followed of a plan while events are placed on it
  pub record At (p : Placing L) (ax : List (Node L)) (cs : List Cell) (i : ℕ) (b : List ℕ) : Type 0 where
    pub atoms : p.atoms ≡ ax
    pub cells : p.cells ≡ cs
    pub inside : p.inside ≡ i
    pub became : p.became ≡ b

  at_same : {p : Placing L} {ax ax' : List (Node L)} {cs cs' : List Cell} {i i' : ℕ} {b : List ℕ} → At p ax cs i b → ax ≡ ax' → cs ≡ cs' → i ≡ i' → At p ax' cs' i' b
  at_same h e f g = record { atoms = h.atoms ∙ e; cells = h.cells ∙ f; inside = h.inside ∙ g; became = h.became }

  pub at_after : (p : Placing L) (es gs : List (Event L)) (ax : List (Node L)) (cs : List Cell) (i : ℕ) (b : List ℕ) → At (run (run p es) gs) ax cs i b → At (run p (es ++ gs)) ax cs i b
  at_after p es gs ax cs i b h = subst (λ q. At q ax cs i b) (sym (run_append p es gs)) h

  pub at_none : (p : Placing L) (ax : List (Node L)) (cs : List Cell) (i : ℕ) (b : List ℕ) → At p ax cs i b → At (run p []) ax cs i b
  unfolding place_all stream
  at_none p ax cs i b h = h

  module _ (name : ℕ → Name) where
    -- the link of a link's name
    abbrev pub renamed : ℕ → ℕ
    renamed x = link (name x)

    abbrev pub moved : ℕ → Node L → Node L
    moved i a = record { label = a.label; cell = i; links = map renamed a.links }

    at_ports : (p : Placing L) (ax : List (Node L)) (a : Node L) (cs : List Cell) (i : ℕ) (b : List ℕ) (xs : List ℕ) → At p (ax ++ (a ∷ [])) cs i b → At (run p (map (λ x. events.Port (name x)) xs)) (ax ++ (record { label = a.label; cell = a.cell; links = a.links ++ map renamed xs } ∷ [])) cs i b
    unfolding place_all stream
    at_ports p ax a cs i b [] h = at_same h (ap (λ ls. ax ++ (record { label = a.label; cell = a.cell; links = ls } ∷ [])) (sym (append-nil a.links))) refl refl
    at_ports p ax a cs i b (x ∷ xs) h =
        let a' : Node L = record { label = a.label; cell = a.cell; links = a.links ++ (renamed x ∷ []) } in
        let one : At (place_one k link p (events.Port (name x))) (ax ++ (a' ∷ [])) cs i b = record { atoms = ap (with_port (renamed x)) h.atoms ∙ port_last (renamed x) ax a; cells = h.cells; inside = h.inside; became = h.became } in
        at_same (at_ports (place_one k link p (events.Port (name x))) ax a' cs i b xs one)
        (ap (λ ls. ax ++ (record { label = a.label; cell = a.cell; links = ls } ∷ [])) (append_assoc a.links (renamed x ∷ []) (map renamed xs))) refl refl

    at_atom : (p : Placing L) (ax : List (Node L)) (a : Node L) (cs : List Cell) (i : ℕ) (b : List ℕ) → At p ax cs i b → At (run p (step_events name (atom a))) (ax ++ (moved i a ∷ [])) cs i b
    unfolding place_all stream
    at_atom p ax a cs i b h =
        at_ports (place_one k link p (events.Label a.label)) ax (record { label = a.label; cell = i; links = [] }) cs i b a.links
        (record { atoms = ap₂ (λ t j. t ++ (record { label = a.label; cell = j; links = [] } ∷ [])) h.atoms h.inside; cells = h.cells; inside = h.inside; became = h.became })

    at_atoms : (p : Placing L) (ax nodes : List (Node L)) (cs : List Cell) (i : ℕ) (b : List ℕ) → At p ax cs i b → At (run p (flat_map (step_events name) (map atom nodes))) (ax ++ map (moved i) nodes) cs i b
    at_atoms p ax [] cs i b h = at_none p (ax ++ []) cs i b (at_same h (sym (append-nil ax)) refl refl)
    at_atoms p ax (a ∷ nodes) cs i b h =
        let es = step_events name (atom a) in
        let gs = flat_map (step_events name) (map atom nodes) in
        at_after p es gs (ax ++ (moved i a ∷ map (moved i) nodes)) cs i b
        (at_same (at_atoms (run p es) (ax ++ (moved i a ∷ [])) nodes cs i b (at_atom p ax a cs i b h)) (append_assoc ax (moved i a ∷ []) (map (moved i) nodes)) refl refl)

    at_enter : (p : Placing L) (ax : List (Node L)) (cs : List Cell) (i j : ℕ) (b : List ℕ) → At p ax cs i b → At (run p (step_events name (enter j))) ax (cs ++ (record { parent = Some i; set = j } ∷ [])) (length cs) b
    unfolding place_all stream
    at_enter p ax cs i j b h =
        let c : Cell = record { parent = Some i; set = 0 } in
        let q = place_one k link p events.Enter in
        let entered : At q ax (cs ++ (c ∷ [])) (length cs) b = record { atoms = h.atoms; cells = ap₂ (λ t n. t ++ (record { parent = Some n; set = 0 } ∷ [])) h.cells h.inside; inside = ap length h.cells; became = h.became } in
        cond_both (eqb j 0) [] (events.Set j ∷ []) (λ es. At (run q es) ax (cs ++ (record { parent = Some i; set = j } ∷ [])) (length cs) b)
        (λ e. at_same entered refl (ap (λ n. cs ++ (record { parent = Some i; set = n } ∷ [])) (sym (eqb-true j 0 e))) refl)
        (λ e. record { atoms = entered.atoms; cells = ap₂ (λ t n. with_set t n j) entered.cells entered.inside ∙ with_set_last cs c j; inside = entered.inside; became = entered.became })

    at_leave : (p : Placing L) (ax : List (Node L)) (cs ds : List Cell) (c : Cell) (i : ℕ) (b : List ℕ) → c.parent ≡ Some i → At p ax (cs ++ (c ∷ ds)) (length cs) b → At (run p (step_events name leave)) ax (cs ++ (c ∷ ds)) i b
    unfolding place_all stream
    at_leave p ax cs ds c i b e h =
        record {
          atoms = h.atoms;
          cells = h.cells;
          inside = ap₂ parent_of h.cells h.inside ∙ (ap (λ (x : Cell). or_root x.parent) (get_or-append_seam cs c ds no_cell) ∙ ap or_root e);
          became = h.became;
        }

    module _ (m : Model L) (v : List ℕ) (once : (x : ℕ) → count x v ≤ 1) where
      -- the new row of a cell
      abbrev pub row : ℕ → ℕ
      row r = place r v

      abbrev pub lifted : Option ℕ → Option ℕ
      lifted None = None
      lifted (Some q) = Some (row q)

      abbrev pub new_cell : ℕ → Cell
      new_cell r = record { parent = lifted (parent m.cells r); set = (get_or m.cells r no_cell).set }

      abbrev pub new_atoms : ℕ → List (Node L)
      new_atoms r = map (moved (row r)) (atoms_in r m.atoms)

      abbrev steps : List (Step L) → List (Event L)
      steps ss = flat_map (step_events name) ss

      abbrev around : ℕ → ℕ → List (Step L)
      around n r = enter (get_or m.cells r no_cell).set ∷ (walk n m r ++ (leave ∷ []))

      around_is : (n r : ℕ) (rest : List (Step L)) → steps (around n r ++ rest) ≡ step_events name (enter (get_or m.cells r no_cell).set) ++ (steps (walk n m r) ++ (step_events name leave ++ steps rest))
      around_is n r rest =
          ap (λ t. step_events name (enter (get_or m.cells r no_cell).set) ++ t)
          (ap steps (append_assoc (walk n m r) (leave ∷ []) rest) ∙ flat_map-append (step_events name) (walk n m r) (leave ∷ rest))

      -- the cells below a cell are placed
      abbrev Places : ℕ → ℕ → Type 0
      Places n r =
          (pre post : List ℕ) (p : Placing L) (ax : List (Node L)) (b : List ℕ) → v ≡ pre ++ (visits m.cells n r ++ post)
          → At p ax (map new_cell (pre ++ (r ∷ []))) (row r) b
          → At (run p (steps (walk n m r))) (ax ++ flat_map new_atoms (visits m.cells n r)) (map new_cell (pre ++ visits m.cells n r)) (row r) b

      row_is : (pre rest : List ℕ) (r : ℕ) → v ≡ pre ++ (r ∷ rest) → row r ≡ length pre
      row_is pre rest r e =
          let c = count_append r pre (r ∷ rest) in
          let h = count_here r r rest refl in
          let o = once r in
          let w : count r v ≡ count r (pre ++ (r ∷ rest)) = ap (count r) e in
          ap (place r) e ∙ place_past r pre rest (omega arith)

      -- through one cell
      through_one : (n c r : ℕ) (pre post : List ℕ) (p : Placing L) (ax : List (Node L)) (b : List ℕ) → Places (suc n) r → parent m.cells r ≡ Some c → v ≡ pre ++ (visits m.cells (suc n) r ++ post)
          → At p ax (map new_cell pre) (row c) b
          → (rest : List (Step L)) (ax' : List (Node L)) (cs' : List Cell)
          → ((q : Placing L) → At q (ax ++ flat_map new_atoms (visits m.cells (suc n) r)) (map new_cell (pre ++ visits m.cells (suc n) r)) (row c) b → At (run q (steps rest)) ax' cs' (row c) b)
          → At (run p (steps (around (suc n) r ++ rest))) ax' cs' (row c) b
      unfolding visits
      through_one n c r pre post p ax b ih up e h rest ax' cs' next =
          let j = (get_or m.cells r no_cell).set in
          let below = flat_map (visits m.cells n) (cells_in r m.cells) in
          let here : row r ≡ length pre = row_is pre (below ++ post) r e in
          let n1 = length-map pre new_cell in
          let c1 : Cell = record { parent = Some (row c); set = j } in
          let same : c1 ≡ new_cell r = ap (λ o. record { parent = lifted o; set = j }) (sym up) in
          let one = at_same (at_enter p ax (map new_cell pre) (row c) j b h) refl (ap (λ x. map new_cell pre ++ (x ∷ [])) same ∙ sym (map-append new_cell pre (r ∷ []))) (n1 ∙ sym here) in
          let two = ih pre post (run p (step_events name (enter j))) ax b e one in
          let es1 = step_events name (enter j) in
          let es2 = steps (walk (suc n) m r) in
          let q2 = run (run p es1) es2 in
          let ax2 = ax ++ flat_map new_atoms (visits m.cells (suc n) r) in
          let cs2 = map new_cell (pre ++ visits m.cells (suc n) r) in
          let three : At (run q2 (step_events name leave)) ax2 (map new_cell pre ++ (new_cell r ∷ map new_cell below)) (row c) b =
          at_leave q2 ax2 (map new_cell pre) (map new_cell below) (new_cell r) (row c) b (ap lifted up) (at_same two refl (map-append new_cell pre (r ∷ below)) (here ∙ sym n1)) in
          let four = next (run q2 (step_events name leave)) (at_same three refl (sym (map-append new_cell pre (r ∷ below))) refl) in
          subst (λ es. At (run p es) ax' cs' (row c) b) (sym (around_is (suc n) r rest))
          (at_after p es1 (es2 ++ (step_events name leave ++ steps rest)) ax' cs' (row c) b
          (at_after (run p es1) es2 (step_events name leave ++ steps rest) ax' cs' (row c) b
          (at_after q2 (step_events name leave) (steps rest) ax' cs' (row c) b four)))

      through : (n c : ℕ) (rs pre post : List ℕ) (p : Placing L) (ax : List (Node L)) (b : List ℕ) → ((r : ℕ) → Enough m.cells n r → Places n r) → All (λ r. parent m.cells r ≡ Some c) rs → All (Enough m.cells n) rs → v ≡ pre ++ (flat_map (visits m.cells n) rs ++ post)
          → At p ax (map new_cell pre) (row c) b
          → At (run p (steps (flat_map (around n) rs))) (ax ++ flat_map new_atoms (flat_map (visits m.cells n) rs)) (map new_cell (pre ++ flat_map (visits m.cells n) rs)) (row c) b
      through n c [] pre post p ax b ih up g e h =
          at_none p (ax ++ []) (map new_cell (pre ++ [])) (row c) b (at_same h (sym (append-nil ax)) (ap (map new_cell) (sym (append-nil pre))) refl)
      through zero c (r ∷ rs) pre post p ax b ih up g e h = absurd g.0
      through (suc n) c (r ∷ rs) pre post p ax b ih up g e h =
          let vs = visits m.cells (suc n) r in
          let ws = flat_map (visits m.cells (suc n)) rs in
          through_one n c r pre (ws ++ post) p ax b (ih r g.0) up.0 (e ∙ ap (λ t. pre ++ t) (append_assoc vs ws post)) h (flat_map (around (suc n)) rs)
          (ax ++ flat_map new_atoms (vs ++ ws)) (map new_cell (pre ++ (vs ++ ws)))
          (λ q w.
          at_same (through (suc n) c rs (pre ++ vs) post q (ax ++ flat_map new_atoms vs) b ih up.1 g.1 (e ∙ (ap (λ t. pre ++ t) (append_assoc vs ws post) ∙ sym (append_assoc pre vs (ws ++ post)))) w)
          (append_assoc ax (flat_map new_atoms vs) (flat_map new_atoms ws) ∙ ap (λ t. ax ++ t) (sym (flat_map-append new_atoms vs ws)))
          (ap (map new_cell) (append_assoc pre vs ws)) refl)

      pub placed : (n r : ℕ) → Enough m.cells n r → Places n r
      unfolding walk visits
      placed zero r g pre post p ax b e h = absurd g
      placed (suc n) r g pre post p ax b e h =
          let rs = cells_in r m.cells in
          let ws = flat_map (visits m.cells n) rs in
          let nodes = atoms_in r m.atoms in
          let es = steps (map atom nodes) in
          let one = at_atoms p ax nodes (map new_cell (pre ++ (r ∷ []))) (row r) b h in
          let up = all_weaker (λ q. (q < length m.cells) × (parent m.cells q ≡ Some r)) (λ q. parent m.cells q ≡ Some r) rs (λ q w. w.1) (inner m.cells r) in
          let two = through n r rs (pre ++ (r ∷ [])) post (run p es) (ax ++ new_atoms r) b (λ q w. placed n q w) up g (e ∙ sym (append_assoc pre (r ∷ []) (ws ++ post))) one in
          let three = at_same two (append_assoc ax (new_atoms r) (flat_map new_atoms ws)) (ap (map new_cell) (append_assoc pre (r ∷ []) ws)) refl in
          subst (λ es. At (run p es) (ax ++ flat_map new_atoms (r ∷ ws)) (map new_cell (pre ++ (r ∷ ws))) (row r) b) (sym (flat_map-append (step_events name) (map atom nodes) (flat_map (around n) rs)))
          (at_after p es (steps (flat_map (around n) rs)) (ax ++ flat_map new_atoms (r ∷ ws)) (map new_cell (pre ++ (r ∷ ws))) (row r) b three)
