-- The items of a form, placed one after another.
use Rattle.std.proofs.Common.{◌≡◌, ℕ, suc, ◌+◌, ◌<◌, true, ◌&&◌, List, [], ◌∷◌, ◌++◌, map, length, get_or, is_some, Some, None, Option, sym, refl, ap, ◌∙◌, subst, ap₂, append_assoc, append-nil, arith, length-append, length-set, get_or-set_same, set-set}
use lib.ListN as lists
use lib.Seq.{get_or-append_seam, set-append_left, set-append_seam, set-get_or}
use Rattle.std.proofs.lemmas.List.{get_or_append_left, map-append}
use Rattle.std.proofs.lemmas.Bool.{and_parts, false≢true}
use Rattle.label.specs.Kind.{Kind}
use Rattle.text.specs.declared.packed.Name.{Name}
use Rattle.grammar.specs.declared.event.Event.{Event}
use Rattle.grammar.specs.declared.event.Event.TheVariants as events
use Rattle.grammar.specs.Tests.{label_read, set_of}
use Rattle.grammar.specs.Reading.{Events, event, labelled, setting}
use Rattle.grammar.specs.Form.{Items, none, atom, cell, connector, set, label_token}
use Rattle.plan.specs.declared.tables.Cell.{Cell}
use Rattle.plan.specs.declared.tables.Census.{Census}
use Rattle.plan.specs.Model.{Node}
use Rattle.plan.specs.Sound.{no_cell}
use Rattle.register.specs.Rows.{added}
use Rattle.placing.specs.Placing.{Placing, joined, or_root, parent_of, place_all, with_port}
use Rattle.forming.specs.Events.{followed, given, item_events, reads}
use Rattle.forming.specs.Places.{cell_count, connectors, direct_set, joined_by, node, set_or, with_label, written_atoms, written_cells}
use Rattle.forming.proofs.Reading.{followed_append}

-- ** Cells

-- a cell of a table with the set that items have directly
abbrev pub settled : List Cell → ℕ → Items → List Cell
settled c i h = lists.set c i (record { parent = (get_or c i no_cell).parent; set = direct_set (get_or c i no_cell).set h })

settled_left : (c t : List Cell) (i : ℕ) (h : Items) → i < length c → settled (c ++ t) i h ≡ settled c i h ++ t
settled_left c t i h l =
    ap (λ x. lists.set (c ++ t) i (record { parent = x.parent; set = direct_set x.set h })) (get_or_append_left c t no_cell i l)
    ∙ set-append_left c t i (record { parent = (get_or c i no_cell).parent; set = direct_set (get_or c i no_cell).set h }) l

settled_last : (c : List Cell) (x : Cell) (h : Items) → settled (c ++ (x ∷ [])) (length c) h ≡ c ++ (record { parent = x.parent; set = direct_set x.set h } ∷ [])
settled_last c x h =
    ap (λ y. lists.set (c ++ (x ∷ [])) (length c) (record { parent = y.parent; set = direct_set y.set h })) (get_or-append_seam c x [] no_cell)
    ∙ set-append_seam c x [] (record { parent = x.parent; set = direct_set x.set h })

settled_set : (c : List Cell) (i j : ℕ) (h : Items) → i < length c → settled (lists.set c i (record { parent = (get_or c i no_cell).parent; set = j })) i h ≡ lists.set c i (record { parent = (get_or c i no_cell).parent; set = direct_set j h })
settled_set c i j h l =
    let v : Cell = record { parent = (get_or c i no_cell).parent; set = j } in
    ap (λ y. lists.set (lists.set c i v) i (record { parent = y.parent; set = direct_set y.set h })) (get_or-set_same c i v no_cell l)
    ∙ set-set c i v (record { parent = (get_or c i no_cell).parent; set = direct_set j h })

pub cells_written : (c r : ℕ) (h : Items) → length (written_cells c r h) ≡ cell_count h
cells_written c r none = refl
cells_written c r (atom w ns h) = cells_written c r h
cells_written c r (cell inner h) =
    let a = cells_written r (suc r) inner in
    let b = cells_written c (suc (r + cell_count inner)) h in
    let n = length-append (written_cells r (suc r) inner) (written_cells c (suc (r + cell_count inner)) h) in
    omega arith
cells_written c r (connector a b h) = cells_written c r h
cells_written c r (set w h) = cells_written c r h

pub joined_append : (link : Name → ℕ) (cs ds : List (Name × Name)) (b : List ℕ) → joined_by link (cs ++ ds) b ≡ joined_by link ds (joined_by link cs b)
joined_append link [] ds b = refl
joined_append link (c ∷ cs) ds b = joined_append link cs ds (joined (link c.0) (link c.1) b)

-- ** Items

module _ {L : Type 0} (k : Kind L) (link : Name → ℕ) where
  abbrev at : List (Node L) → List Cell → List (Census L) → ℕ → ℕ → List ℕ → Placing L
  at a c g i f b = record { atoms = a; cells = c; register = g; inside = i; first = f; became = b }

  abbrev pub add_label : Option L → List (Census L) → List (Census L)
  add_label None g = g
  add_label (Some l) g = added k l g

  abbrev pub register_after : Items → List (Census L) → List (Census L)
  register_after none g = g
  register_after (atom w ns h) g = register_after h (add_label (label_read k (label_token w)) g)
  register_after (cell inner h) g = register_after h (register_after inner g)
  register_after (connector a b h) g = register_after h g
  register_after (set w h) g = register_after h g

  abbrev first_after : Items → ℕ → ℕ
  first_after none f = f
  first_after (atom w ns h) f = first_after h f
  first_after (cell inner h) f = first_after h (first_after inner f)
  first_after (connector a b h) f = first_after h (link a)
  first_after (set w h) f = first_after h f

  -- a plan with items placed on it, where `r` is the next row of a cell
  abbrev pub laid : Items → List (Node L) → List Cell → List (Census L) → ℕ → ℕ → List ℕ → ℕ → Placing L
  laid h a c g i f b r =
      at (a ++ map (node link) (written_atoms k i r h)) (settled c i h ++ written_cells i r h) (register_after h g) i (first_after h f) (joined_by link (connectors h) b)

  port_last : (x : ℕ) (a : List (Node L)) (n : Node L) → with_port x (a ++ (n ∷ [])) ≡ a ++ (record { label = n.label; cell = n.cell; links = n.links ++ (x ∷ []) } ∷ [])
  unfolding with_port
  port_last x [] n = refl
  port_last x (b ∷ []) n = refl
  port_last x (b ∷ (d ∷ a)) n = ap (λ r. b ∷ r) (port_last x (d ∷ a) n)

  ports_lay : (ns : List Name) (a : List (Node L)) (l : L) (ls : List ℕ) (c : List Cell) (g : List (Census L)) (i f : ℕ) (b : List ℕ) (es : List (Event L)) (rest : Events L)
      → place_all k link (at (a ++ (record { label = l; cell = i; links = ls } ∷ [])) c g i f b) (followed (map events.Port ns ++ es) rest)
      ≡ place_all k link (at (a ++ (record { label = l; cell = i; links = ls ++ map link ns } ∷ [])) c g i f b) (followed es rest)
  unfolding place_all
  ports_lay [] a l ls c g i f b es rest = ap (λ t. place_all k link (at (a ++ (record { label = l; cell = i; links = t } ∷ [])) c g i f b) (followed es rest)) (sym (append-nil ls))
  ports_lay (n ∷ ns) a l ls c g i f b es rest =
      ap (λ t. place_all k link (at t c g i f b) (followed (map events.Port ns ++ es) rest)) (port_last (link n) a (record { label = l; cell = i; links = ls }))
      ∙ ports_lay ns a l (ls ++ (link n ∷ [])) c g i f b es rest
      ∙ ap (λ t. place_all k link (at (a ++ (record { label = l; cell = i; links = t } ∷ [])) c g i f b) (followed es rest)) (append_assoc ls (link n ∷ []) (map link ns))

  -- what is left after items, on a plan with them
  abbrev Lays : Items → Type 0
  Lays h =
      (a : List (Node L)) (c : List Cell) (g : List (Census L)) (i f : ℕ) (b : List ℕ) (rest : Events L) → i < length c → reads k h ≡ true
      → place_all k link (at a c g i f b) (followed (item_events k h) rest) ≡ place_all k link (laid h a c g i f b (length c)) rest

  atom_lays : (o : Option L) (ns : List Name) (h : Items) → Lays h → (a : List (Node L)) (c : List Cell) (g : List (Census L)) (i f : ℕ) (b : List ℕ) (rest : Events L) → i < length c → (is_some o && reads k h) ≡ true
      → place_all k link (at a c g i f b) (followed (given (labelled o) ++ (map events.Port ns ++ item_events k h)) rest)
      ≡ place_all k link (at (a ++ map (node link) (with_label o i ns (written_atoms k i (length c) h))) (settled c i h ++ written_cells i (length c) h) (register_after h (add_label o g)) i (first_after h f) (joined_by link (connectors h) b)) rest
  unfolding place_all
  atom_lays None ns h ih a c g i f b rest l r = absurd (false≢true r)
  atom_lays (Some x) ns h ih a c g i f b rest l r =
      let one : List (Node L) = record { label = x; cell = i; links = map link ns } ∷ [] in
      ports_lay ns a x [] c (added k x g) i f b (item_events k h) rest
      ∙ ih (a ++ one) c (added k x g) i f b rest l r
      ∙ ap (λ t. place_all k link (at t (settled c i h ++ written_cells i (length c) h) (register_after h (added k x g)) i (first_after h f) (joined_by link (connectors h) b)) rest) (append_assoc a one (map (node link) (written_atoms k i (length c) h)))

  set_lays : (o : Option ℕ) (h : Items) → Lays h → (a : List (Node L)) (c : List Cell) (g : List (Census L)) (i f : ℕ) (b : List ℕ) (rest : Events L) → i < length c → (is_some o && reads k h) ≡ true
      → place_all k link (at a c g i f b) (followed (given (setting o) ++ item_events k h) rest)
      ≡ place_all k link (at (a ++ map (node link) (written_atoms k i (length c) h)) (lists.set c i (record { parent = (get_or c i no_cell).parent; set = direct_set (set_or (get_or c i no_cell).set o) h }) ++ written_cells i (length c) h) (register_after h g) i (first_after h f) (joined_by link (connectors h) b)) rest
  unfolding place_all
  set_lays None h ih a c g i f b rest l r = absurd (false≢true r)
  set_lays (Some j) h ih a c g i f b rest l r =
      let v : Cell = record { parent = (get_or c i no_cell).parent; set = j } in
      let n : length (lists.set c i v) ≡ length c = length-set c i v in
      ih a (lists.set c i v) g i f b rest (omega arith) r
      ∙ ap₂ (λ s n. place_all k link (at (a ++ map (node link) (written_atoms k i n h)) (s ++ written_cells i n h) (register_after h g) i (first_after h f) (joined_by link (connectors h) b)) rest) (settled_set c i j h l) n

  cell_lays : (inner h : Items) → Lays inner → Lays h → Lays (cell inner h)
  unfolding place_all
  cell_lays inner h first next a c g i f b rest l r =
      let both = and_parts (reads k inner) (reads k h) r in
      let x : Cell = record { parent = Some i; set = 0 } in
      let y : Cell = record { parent = Some i; set = direct_set 0 inner } in
      let n = length c in
      let made = c ++ (x ∷ []) in
      let e : length made ≡ suc n = omega (arith, length-append c (x ∷ [])) in
      let cells = written_cells n (suc n) inner in
      let atoms = written_atoms k n (suc n) inner in
      let after = c ++ (y ∷ cells) in
      let m = suc (n + cell_count inner) in
      let long : length after ≡ m = omega (arith, length-append c (y ∷ cells), cells_written n (suc n) inner) in
      let a₂ = a ++ map (node link) atoms in
      let g₂ = register_after inner g in
      let f₂ = first_after inner f in
      let b₂ = joined_by link (connectors inner) b in
      let left = event events.Leave (followed (item_events k h) rest) in
      let inside : place_all k link (at a made g n f b) (followed (item_events k inner) left) ≡ place_all k link (laid inner a made g n f b (suc n)) left
      = subst (λ z. place_all k link (at a made g n f b) (followed (item_events k inner) left) ≡ place_all k link (laid inner a made g n f b z) left) e (first a made g n f b left (omega arith) both.0) in
      let closed : settled made n inner ++ cells ≡ after = ap (λ s. s ++ cells) (settled_last c x inner) ∙ append_assoc c (y ∷ []) cells in
      let up : parent_of after n ≡ i = ap (λ z. or_root z.parent) (get_or-append_seam c y cells no_cell) in
      let onward : place_all k link (at a₂ after g₂ i f₂ b₂) (followed (item_events k h) rest) ≡ place_all k link (laid h a₂ after g₂ i f₂ b₂ m) rest
      = subst (λ z. place_all k link (at a₂ after g₂ i f₂ b₂) (followed (item_events k h) rest) ≡ place_all k link (laid h a₂ after g₂ i f₂ b₂ z) rest) long (next a₂ after g₂ i f₂ b₂ rest (omega (arith, length-append c (y ∷ cells))) both.1) in
      let all_atoms : a₂ ++ map (node link) (written_atoms k i m h) ≡ a ++ map (node link) (atoms ++ written_atoms k i m h)
      = append_assoc a (map (node link) atoms) (map (node link) (written_atoms k i m h)) ∙ ap (λ t. a ++ t) (sym (map-append (node link) atoms (written_atoms k i m h))) in
      let all_cells : settled after i h ++ written_cells i m h ≡ settled c i h ++ (y ∷ (cells ++ written_cells i m h))
      = ap (λ t. t ++ written_cells i m h) (settled_left c (y ∷ cells) i h l) ∙ append_assoc (settled c i h) (y ∷ cells) (written_cells i m h) in
      ap (place_all k link (at a made g n f b)) (followed_append (item_events k inner) (events.Leave ∷ item_events k h) rest)
      ∙ inside
      ∙ ap (λ t. place_all k link (at a₂ t g₂ n f₂ b₂) left) closed
      ∙ ap (λ t. place_all k link (at a₂ after g₂ t f₂ b₂) (followed (item_events k h) rest)) up
      ∙ onward
      ∙ ap₂ (λ s t. place_all k link (at s t (register_after h g₂) i (first_after h f₂) (joined_by link (connectors h) b₂)) rest) all_atoms all_cells
      ∙ ap (λ t. place_all k link (at (a ++ map (node link) (atoms ++ written_atoms k i m h)) (settled c i h ++ (y ∷ (cells ++ written_cells i m h))) (register_after h g₂) i (first_after h f₂) t) rest) (sym (joined_append link (connectors inner) (connectors h) b))

  pub lays : (h : Items) → Lays h
  unfolding place_all
  lays none a c g i f b rest l r =
      ap₂ (λ s t. place_all k link (at s t g i f b) rest) (sym (append-nil a)) (sym (append-nil (lists.set c i (get_or c i no_cell)) ∙ set-get_or c i no_cell))
  lays (atom w ns h) a c g i f b rest l r = atom_lays (label_read k (label_token w)) ns h (lays h) a c g i f b rest l r
  lays (cell inner h) a c g i f b rest l r = cell_lays inner h (lays inner) (lays h) a c g i f b rest l r
  lays (connector x y h) a c g i f b rest l r = lays h a c g i (link x) (joined (link x) (link y) b) rest l r
  lays (set w h) a c g i f b rest l r = set_lays (set_of w) h (lays h) a c g i f b rest l r
