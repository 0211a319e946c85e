-- The last atom gets one port more, and a cell its set.
use Rattle.std.proofs.Common.{◌≡◌, ℕ, ◌+◌, ◌-◌, ◌<◌, ◌≤◌, List, [], ◌∷◌, ◌++◌, map, length, get_or, take, set, sym, refl, ap, ◌∙◌, arith, get_or-take, length-take}
use lib.Seq.{take-set-lt}
use Rattle.std.proofs.lemmas.List.{length-map, map-append, take_more, take_more_set}
use Rattle.plan.specs.declared.tables.Atom.{Atom}
use Rattle.plan.specs.declared.tables.Cell.{Cell}
use Rattle.plan.specs.declared.tables.Plan.{Plan}
use Rattle.plan.specs.Model.{Node, model_of, node_of}
use Rattle.plan.specs.Sound.{no_cell}
use Rattle.placing.specs.Placing.{Placing, with_port, with_set}
use Rattle.hang.specs.declared.hand.Hand.{Hand}
use Rattle.hang.specs.Hand.{last_ports, ported}

pub some_rows : {A B : Type 0} (f : A → B) (n : ℕ) (xs : List A) → 0 < length (map f (take n xs)) → 0 < n
some_rows f n xs h = let a = length-map (take n xs) f in let b = length-take n xs in omega arith

module _ {L : Type 0} where
  with_port_last : (x : ℕ) (xs : List (Node L)) (b : Node L) → with_port x (xs ++ (b ∷ [])) ≡ xs ++ (record { label = b.label; cell = b.cell; links = b.links ++ (x ∷ []) } ∷ [])
  unfolding with_port
  with_port_last x [] b = refl
  with_port_last x (a ∷ []) b = refl
  with_port_last x (a ∷ (c ∷ xs)) b = ap (λ t. a ∷ t) (with_port_last x (c ∷ xs) b)

  last_ports_last : (xs : List (Node L)) (b : Node L) → last_ports (xs ++ (b ∷ [])) ≡ length b.links
  unfolding last_ports
  last_ports_last [] b = refl
  last_ports_last (a ∷ []) b = refl
  last_ports_last (a ∷ (c ∷ xs)) b = last_ports_last (c ∷ xs) b

  module _ (atoms : List (Atom L)) (n : ℕ) (d : Atom L) (some : 0 < n) (within : n ≤ length atoms) where
    abbrev a : Atom L
    a = get_or atoms (n - 1) d

    last : n ≡ (n - 1) + 1
    last = omega arith

    nodes : map node_of (take n atoms) ≡ map node_of (take (n - 1) atoms) ++ (node_of a ∷ [])
    nodes =
        ap (λ j. map node_of (take j atoms)) last
        ∙ ap (map node_of) (take_more atoms (n - 1) d (omega arith))
        ∙ map-append node_of (take (n - 1) atoms) (a ∷ [])

    pub port_room : last_ports (map node_of (take n atoms)) < 8 → length (node_of (get_or atoms (n - 1) d)).links < 8
    port_room h =
        let e : last_ports (map node_of (take n atoms)) ≡ length (node_of a).links = ap last_ports nodes ∙ last_ports_last (map node_of (take (n - 1) atoms)) (node_of a) in
        omega arith

    pub port_added : (x : ℕ) (b : Atom L) → b ≡ ported x (get_or atoms (n - 1) d) → (get_or atoms (n - 1) d).arity < length (get_or atoms (n - 1) d).links → map node_of (take n (set atoms (n - 1) b)) ≡ with_port x (map node_of (take n atoms))
    port_added x b made room =
        let before = take (n - 1) atoms in
        ap (λ j. map node_of (take j (set atoms (n - 1) b))) last
        ∙ ap (map node_of) (take_more_set atoms (n - 1) b (omega arith))
        ∙ map-append node_of before (b ∷ [])
        ∙ ap (λ y. map node_of before ++ (node_of y ∷ [])) made
        ∙ ap (λ t. map node_of before ++ (record { label = a.label; cell = a.cell; links = t } ∷ [])) (take_more_set a.links a.arity x room)
        ∙ sym (with_port_last x (map node_of before) (node_of a))
        ∙ ap (with_port x) (sym nodes)

pub set_given : (n : ℕ) (cells : List Cell) (row j : ℕ) → row < n → take n (set cells row (record { parent = (get_or cells row no_cell).parent; set = j })) ≡ with_set (take n cells) row j
set_given n cells row j h =
    take-set-lt n cells row _ h
    ∙ ap (λ (x : Cell). set (take n cells) row (record { parent = x.parent; set = j })) (sym (get_or-take n cells row no_cell h))

-- what is placed changes the atoms alone, or the cells
module _ {L : Type 0} (p : Plan L) (h : Hand) where
  pub atoms_placed : {xs ys : List (Node L)} → xs ≡ ys → ◌≡◌ {A = Placing L} (record { atoms = xs; cells = (model_of p).cells; register = (model_of p).register; inside = h.inside; first = h.first; became = h.became }) (record { atoms = ys; cells = (model_of p).cells; register = (model_of p).register; inside = h.inside; first = h.first; became = h.became })
  atoms_placed e = ap (λ t. record { atoms = t; cells = (model_of p).cells; register = (model_of p).register; inside = h.inside; first = h.first; became = h.became }) e

  pub cells_placed : {xs ys : List Cell} → xs ≡ ys → ◌≡◌ {A = Placing L} (record { atoms = (model_of p).atoms; cells = xs; register = (model_of p).register; inside = h.inside; first = h.first; became = h.became }) (record { atoms = (model_of p).atoms; cells = ys; register = (model_of p).register; inside = h.inside; first = h.first; became = h.became })
  cells_placed e = ap (λ t. record { atoms = (model_of p).atoms; cells = t; register = (model_of p).register; inside = h.inside; first = h.first; became = h.became }) e
