-- Links renamed: a plan shows the same.
use Rattle.std.proofs.lemmas.List.Elements.{filter_agree}
use Rattle.std.proofs.lemmas.Simd.{map-map}
use Rattle.std.proofs.lemmas.List.Folds.{flat_map-map}
use Rattle.std.specs.Prelude.{option_map}
use Rattle.std.specs.List.{find}
use Rattle.std.proofs.Common.{◌≡◌, ℕ, zero, suc, true, false, cond, not, eqb, leb, List, [], ◌∷◌, ◌++◌, map, length, get_or, is_some, Some, Ok, Err, filter, sym, refl, ap, ◌∙◌, ap₂}
use Rattle.std.proofs.lemmas.List.{length-map, map-append}
use Rattle.fault.specs.declared.Refusal.TheVariants.{UnsoundPlan, ShortBuffer}
use Rattle.label.specs.Kind.{Kind}
use Rattle.grammar.specs.declared.event.Event.{Event}
use Rattle.grammar.specs.declared.event.Event.TheVariants as events
use Rattle.plan.specs.declared.tables.FreeLink.{FreeLink}
use Rattle.plan.specs.Model.{Model, Node, model_of}
use Rattle.plan.specs.Sound.{no_cell}
use Rattle.showing.specs.declared.last.Last.TheVariants as last
use Rattle.std.specs.List.{flat_map}
use Rattle.showing.specs.Walk.{Step, atom, enter, leave, atoms_in, cells_in, walk, whole_walk}
use Rattle.showing.specs.Text.{text_of}
use Rattle.showing.specs.Shown.{firsts, joins, numbered, open_name, or_number, place, plan_events, shown, shown_name, step_events, step_links, tie, ties}
use Rattle.sameness.specs.Renaming.{Renamed, free_by, node_by, renamed_by}
use Rattle.sameness.specs.Keeping.{RenamingShown}
use Rattle.showing.proofs.Lists.{kept_map, map_flat}
use Rattle.sameness.proofs.Apart.{Apart, all_apart, eqb_by}

-- ** lists

flat_alike : {A B : Type 0} (f g : A → List B) → ((x : A) → f x ≡ g x) → (xs : List A) → flat_map f xs ≡ flat_map g xs
flat_alike f g h [] = refl
flat_alike f g h (x ∷ xs) = ap₂ ◌++◌ (h x) (flat_alike f g h xs)

-- ** names of links

module _ (f : ℕ → ℕ) (apart : Apart f) where
  open_by : (x : ℕ) (fs : List FreeLink) → open_name (f x) (map (free_by f) fs) ≡ open_name x fs
  unfolding open_name
  open_by x [] = refl
  open_by x (r ∷ fs) =
      let new = find (λ (g : FreeLink). eqb g.link (f x)) (map (free_by f) fs) in
      let old = find (λ (g : FreeLink). eqb g.link x) fs in
      ap (λ b. option_map (λ (g : FreeLink). g.name) (cond b (Some (free_by f r)) new)) (eqb_by f apart r.link x)
      ∙ elim (eqb r.link x) as (λ b. option_map (λ (g : FreeLink). g.name) (cond b (Some (free_by f r)) new) ≡ option_map (λ (g : FreeLink). g.name) (cond b (Some r) old)) [
        | true ↦ refl
        | false ↦ open_by x fs
      ]

  place_by : (x : ℕ) (xs : List ℕ) → place (f x) (map f xs) ≡ place x xs
  unfolding place
  place_by x [] = refl
  place_by x (y ∷ ys) = ap₂ (λ b n. cond b 0 (suc n)) (eqb_by f apart x y) (place_by x ys)

  joins_by : (xs : List ℕ) (x : ℕ) → joins (map f xs) (f x) ≡ map f (joins xs x)
  joins_by xs x =
      ap₂ (λ b t. cond b t (map f xs)) (ap₂ eqb (place_by x xs) (length-map xs f)) (sym (map-append f xs (x ∷ [])))
      ∙ elim (eqb (place x xs) (length xs)) as (λ b. cond b (map f (xs ++ (x ∷ []))) (map f xs) ≡ map f (cond b (xs ++ (x ∷ [])) xs)) [ true ↦ refl | false ↦ refl ]

  firsts_by : (xs ys : List ℕ) → firsts (map f xs) (map f ys) ≡ map f (firsts xs ys)
  unfolding firsts
  firsts_by xs [] = refl
  firsts_by xs (y ∷ ys) = ap (λ t. firsts t (map f ys)) (joins_by xs y) ∙ firsts_by (joins xs y) ys

-- ** the walk

abbrev step_by : {L : Type 0} → (ℕ → ℕ) → Step L → Step L
step_by f (atom a) = atom (node_by f a)
step_by f (enter j) = enter j
step_by f leave = leave

module _ {L : Type 0} (f : ℕ → ℕ) where
  atoms_in_by : (c : ℕ) (atoms : List (Node L)) → map atom (atoms_in c (map (node_by f) atoms)) ≡ map (step_by f) (map atom (atoms_in c atoms))
  atoms_in_by c atoms =
      ap (map atom) (kept_map (λ a. eqb a.cell c) (node_by f) atoms)
      ∙ map-map atom (node_by f) (atoms_in c atoms) ∙ sym (map-map (step_by f) atom (atoms_in c atoms))

  walk_by : (n : ℕ) (m : Model L) (c : ℕ) → walk n (renamed_by f m) c ≡ map (step_by f) (walk n m c)
  unfolding walk
  walk_by zero m c = refl
  walk_by (suc n) m c =
      let g = λ (r : ℕ). enter (get_or m.cells r no_cell).set ∷ (walk n m r ++ (leave ∷ [])) in
      let h = λ (r : ℕ). enter (get_or m.cells r no_cell).set ∷ (walk n (renamed_by f m) r ++ (leave ∷ [])) in
      ap₂ ◌++◌ (atoms_in_by c m.atoms)
      (flat_alike h (λ r. map (step_by f) (g r)) (λ r. ap (λ t. enter (get_or m.cells r no_cell).set ∷ t) (ap (λ t. t ++ (leave ∷ [])) (walk_by n m r) ∙ sym (map-append (step_by f) (walk n m r) (leave ∷ [])))) (cells_in c m.cells)
      ∙ sym (map_flat (step_by f) g (cells_in c m.cells)))
      ∙ sym (map-append (step_by f) (map atom (atoms_in c m.atoms)) (flat_map g (cells_in c m.cells)))

  step_links_by : (s : Step L) → step_links (step_by f s) ≡ map f (step_links s)
  step_links_by (atom a) = refl
  step_links_by (enter j) = refl
  step_links_by leave = refl

  module _ (apart : Apart f) where
    ties_by : (fs : List FreeLink) → ties {L = L} (map (free_by f) fs) ≡ ties fs
    unfolding ties
    ties_by [] = refl
    ties_by (r ∷ fs) = ap₂ (λ o t. tie r.name o ++ t) (open_by f apart r.link fs) (ties_by fs)

    module _ (m : Model L) where
      walked : whole_walk (renamed_by f m) ≡ map (step_by f) (whole_walk m)
      walked = walk_by 17 m 0

      links_by : flat_map step_links (whole_walk (renamed_by f m)) ≡ map f (flat_map step_links (whole_walk m))
      links_by =
          ap (flat_map step_links) walked ∙ flat_map-map step_links (step_by f) (whole_walk m)
          ∙ flat_alike (λ s. step_links (step_by f s)) (λ s. map f (step_links s)) step_links_by (whole_walk m)
          ∙ sym (map_flat f step_links (whole_walk m))

      numbered_by : numbered (renamed_by f m) ≡ map f (numbered m)
      unfolding numbered
      numbered_by =
          let all = flat_map step_links (whole_walk m) in
          let test = λ (x : ℕ). not (is_some (open_name x m.free)) in
          let test' = λ (x : ℕ). not (is_some (open_name x (map (free_by f) m.free))) in
          ap (λ t. firsts [] (filter test' t)) links_by
          ∙ ap (firsts []) (kept_map test' f all ∙ ap (map f) (filter_agree (λ x. test' (f x)) test (λ x. ap (λ o. not (is_some o)) (open_by f apart x m.free)) all))
          ∙ firsts_by f apart [] (filter test all)

      name_by : (x : ℕ) → shown_name (renamed_by f m) (f x) ≡ shown_name m x
      name_by x = ap₂ or_number (open_by f apart x m.free) (ap (place (f x)) numbered_by ∙ place_by f apart x (numbered m))

      ports_by : (xs : List ℕ) → ◌≡◌ {A = List (Event L)} (map (λ x. events.Port (shown_name (renamed_by f m) x)) (map f xs)) (map (λ x. events.Port (shown_name m x)) xs)
      ports_by [] = refl
      ports_by (x ∷ xs) = ap₂ (λ n t. events.Port n ∷ t) (name_by x) (ports_by xs)

      step_by_events : (s : Step L) → step_events (shown_name (renamed_by f m)) (step_by f s) ≡ step_events (shown_name m) s
      step_by_events (atom a) = ap (λ t. events.Label a.label ∷ t) (ports_by a.links)
      step_by_events (enter j) = refl
      step_by_events leave = refl

      events_by : plan_events (renamed_by f m) ≡ plan_events m
      events_by =
          ap₂ ◌++◌
          (ap (flat_map (step_events (shown_name (renamed_by f m)))) walked
          ∙ flat_map-map (step_events (shown_name (renamed_by f m))) (step_by f) (whole_walk m)
          ∙ flat_alike (λ s. step_events (shown_name (renamed_by f m)) (step_by f s)) (step_events (shown_name m)) step_by_events (whole_walk m))
          (ties_by m.free)

shown_same : {L : Type 0} (k : Kind L) (m n : Model L) → Renamed m n → shown k n ≡ shown k m
shown_same k m n r = let all = all_apart m n r in ap (shown k) all.same ∙ ap (text_of k last.Nothing) (events_by all.to all.apart m)

pub renaming_shown : {L : Type 0} (k : Kind L) → RenamingShown k
renaming_shown k =
    record {
      text = shown_same k;
      answer = λ p q room s t r.
          ap₂ (λ b bytes. cond b (cond (leb (length bytes) room) (Ok (length bytes)) (Err (record { refusal = ShortBuffer; place = 0 }))) (Err (record { refusal = UnsoundPlan; place = 0 })))
          (t ∙ sym s) (shown_same k (model_of p) (model_of q) r);
    }
