-- Links renamed: a sound plan stays sound.
use Rattle.std.proofs.lemmas.Simd.{map-map}
use Rattle.std.proofs.Common.{◌≡◌, ℕ, suc, true, cond, ◌&&◌, eqb, ltb, leb, List, [], ◌∷◌, map, length, sym, refl, ap, ◌∙◌, subst, ap₂}
use Rattle.std.proofs.lemmas.List.{length-map}
use Rattle.label.specs.Kind.{Kind}
use Rattle.plan.specs.declared.tables.Census.{Census}
use Rattle.plan.specs.Model.{Model, Node}
use Rattle.std.specs.List.{list_all}
use Rattle.plan.specs.Sound.{alike, ascending, atoms_of, count, distinct, ends, open_name, registered, row_right}
use Rattle.plan.specs.Tests.{register_test}
use Rattle.plan.proofs.Each.{each_alike, each_map}
use Rattle.placing.specs.Keeps.{SoundModel}
use Rattle.sameness.specs.Renaming.{free_by, node_by, renamed_by}
use Rattle.sameness.specs.Keeping.{RenamingSound}
use Rattle.sameness.proofs.Renaming.{ends_by}
use Rattle.sameness.proofs.Apart.{Apart, all_apart, count_by}

module _ {L : Type 0} (k : Kind L) where
  pub atoms_by : (f : ℕ → ℕ) (l : L) (atoms : List (Node L)) → atoms_of k l (map (node_by f) atoms) ≡ atoms_of k l atoms
  unfolding atoms_of
  atoms_by f l [] = refl
  atoms_by f l (a ∷ atoms) = ap (λ n. cond (alike k l a.label) (suc n) n) (atoms_by f l atoms)

  register_by : (f : ℕ → ℕ) (atoms : List (Node L)) (rs : List (Census L)) → register_test k (map (node_by f) atoms) rs ≡ register_test k atoms rs
  register_by f atoms rs =
      ap₂ (λ u v. ascending k rs && (u && v))
      (each_alike (row_right k (map (node_by f) atoms)) (row_right k atoms) (λ c. ap (λ n. k.mine c.label && (ltb 0 c.atoms && eqb c.atoms n)) (atoms_by f c.label atoms)) rs)
      (each_map (λ a. registered k a.label rs) (node_by f) atoms)

  pairs_by : (f : ℕ → ℕ) → Apart f → (xs : List ℕ) → list_all (λ x. eqb (count x (map f xs)) 2) (map f xs) ≡ list_all (λ x. eqb (count x xs) 2) xs
  pairs_by f apart xs =
      each_map (λ x. eqb (count x (map f xs)) 2) f xs
      ∙ each_alike (λ x. eqb (count (f x) (map f xs)) 2) (λ x. eqb (count x xs) 2) (λ x. ap (λ n. eqb n 2) (count_by f apart x xs)) xs

  sound_by : (m : Model L) (f : ℕ → ℕ) → Apart f → SoundModel k m → list_all (λ x. ltb x 8256) (ends (renamed_by f m)) ≡ true → SoundModel k (renamed_by f m)
  sound_by m f apart s low =
      record {
        root = s.root;
        depth = s.depth;
        sets = s.sets;
        labels = each_map (λ a. k.mine a.label) (node_by f) m.atoms ∙ s.labels;
        homes = each_map (λ a. ltb a.cell (length m.cells)) (node_by f) m.atoms ∙ s.homes;
        ports =
            each_map (λ a. leb (length a.links) 8) (node_by f) m.atoms
            ∙ each_alike (λ a. leb (length (map f a.links)) 8) (λ a. leb (length a.links) 8) (λ a. ap (λ n. leb n 8) (length-map a.links f)) m.atoms
            ∙ s.ports;
        links = low;
        pairs = ap (λ xs. list_all (λ x. eqb (count x xs) 2) xs) (ends_by f m) ∙ pairs_by f apart (ends m) ∙ s.pairs;
        names = each_map (λ r. open_name r.name) (free_by f) m.free ∙ s.names;
        apart = ap distinct (map-map (λ r. r.name.packed) (free_by f) m.free) ∙ s.apart;
        register = register_by f m.atoms m.register ∙ s.register;
      }

pub renaming_sound : {L : Type 0} (k : Kind L) → RenamingSound k
renaming_sound k m n s r low =
    let all = all_apart m n r in
    subst (SoundModel k) (sym all.same)
    (sound_by k m all.to all.apart s (subst (λ o. list_all (λ x. ltb x 8256) (ends o) ≡ true) all.same low))
