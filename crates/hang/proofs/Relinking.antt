-- Loops that put links in place of others.
use Rattle.std.proofs.Common.{◌≡◌, ℕ, ◌+◌, ◌<◌, ◌≤◌, ◌&&◌, leb, List, [], ◌∷◌, ◌++◌, map, length, get_or, take, drop, set, refl, ap, ◌∙◌, ap₂, append-nil, arith}
use Rattle.std.proofs.lemmas.List.{get_or_default, drop_all, take_all, take-map}
use Rattle.std.proofs.lemmas.List.Edits.{map_over_more}
use Rattle.plan.specs.declared.tables.Atom.{Atom}
use Rattle.plan.specs.Model.{Node, node_of}
use Rattle.std.specs.List.{list_all}
use Rattle.placing.specs.Placing.{become, relinked}

-- the next element is written
pub map_next : {X : Type 0} (f : X → X) (xs ys : List X) (i : ℕ) (d v : X) → i < length xs → length ys ≡ length xs → ys ≡ map f (take i xs) ++ drop i xs → v ≡ f (get_or ys i d) → set ys i v ≡ map f (take (i + 1) xs) ++ drop (i + 1) xs
map_next f xs ys i d v l n e h =
    ap (set ys i) h ∙ map_over_more f xs ys i (get_or ys i d) l e (get_or_default ys i d (get_or ys i d) (omega arith))

-- all are written
pub map_done : {X : Type 0} (f : X → X) (xs ys : List X) (i : ℕ) → length xs ≤ i → ys ≡ map f (take i xs) ++ drop i xs → ys ≡ map f xs
map_done f xs ys i l e = e ∙ ap₂ (λ s t. map f s ++ t) (take_all i xs l) (drop_all i xs l) ∙ append-nil (map f xs)

abbrev pub relinked_atom : {L : Type 0} → List ℕ → Atom L → Atom L
relinked_atom became a = record { label = a.label; cell = a.cell; arity = a.arity; links = map (become became) a.links }

-- what relinked rows stand for
pub nodes_relinked : {L : Type 0} (became : List ℕ) (atoms : List (Atom L)) → map node_of (map (relinked_atom became) atoms) ≡ map (relinked became) (map node_of atoms)
nodes_relinked became [] = refl
nodes_relinked {L} became (a ∷ atoms) =
    ap₂ (λ ls (t : List (Node L)). record { label = a.label; cell = a.cell; links = ls } ∷ t) (take-map (become became) a.arity a.links) (nodes_relinked became atoms)

pub arities_kept : {L : Type 0} (became : List ℕ) (atoms : List (Atom L)) → list_all (λ a. leb a.arity 8) (map (relinked_atom became) atoms) ≡ list_all (λ a. leb a.arity 8) atoms
arities_kept became [] = refl
arities_kept became (a ∷ atoms) = ap (λ b. leb a.arity 8 && b) (arities_kept became atoms)
