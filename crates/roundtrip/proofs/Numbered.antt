-- Numbers in the order of their first standing, under a function.
use Rattle.std.proofs.Common.{◌≡◌, ℕ, suc, true, false, cond, eqb, List, [], ◌∷◌, ◌++◌, map, length, sym, refl, ap, ◌∙◌, ap₂, ⊎_elim}
use mathlib.Core.List.{map-append}
use lib.ListN.{length-map}
use Rattle.std.specs.List.{AllByRecursion as All}
use Rattle.std.proofs.lemmas.Bool.{cases_eq, cond-true, cond-false, cond_both, eq-eqb, ne_eqb}
use Rattle.text.specs.declared.packed.Name.{Name}
use Rattle.grammar.specs.declared.event.Event.{Event}
use Rattle.grammar.specs.declared.event.Event.TheVariants as events
use Rattle.std.specs.List.{flat_map}
use Rattle.showing.specs.Walk.{Step, atom, enter, leave}
use Rattle.showing.specs.Shown.{place, joins, firsts, step_links, step_events}
use Rattle.showing.proofs.Totals.{all_append}

pub map_alike : {A B : Type 0} (f g : A → B) (xs : List A) → All (λ x. f x ≡ g x) xs → map f xs ≡ map g xs
map_alike f g [] h = refl
map_alike f g (x ∷ xs) h = ap₂ (λ a b. a ∷ b) h.0 (map_alike f g xs h.1)

module _ (M : ℕ → Type 0) (h : ℕ → ℕ) (apart : (x y : ℕ) → M x → M y → h x ≡ h y → x ≡ y) where
  pub place_map : (x : ℕ) (xs : List ℕ) → M x → All M xs → place (h x) (map h xs) ≡ place x xs
  unfolding place
  place_map x [] m a = refl
  place_map x (y ∷ ys) m a =
      ⊎_elim
      (λ (e : x ≡ y). cond-true (eqb (h x) (h y)) _ _ (eq-eqb _ _ (ap h e)) ∙ sym (cond-true (eqb x y) _ _ (eq-eqb x y e)))
      (λ (e : x ≡ y → ⊥). cond-false (eqb (h x) (h y)) _ _ (ne_eqb _ _ (λ i. e (apart x y m a.0 i))) ∙ (ap suc (place_map x ys m a.1) ∙ sym (cond-false (eqb x y) _ _ (ne_eqb x y e))))
      (cases_eq x y)

  joins_map : (x : ℕ) (xs : List ℕ) → M x → All M xs → joins (map h xs) (h x) ≡ map h (joins xs x)
  joins_map x xs m a =
      ap₂ (λ i n. cond (eqb i n) (map h xs ++ (h x ∷ [])) (map h xs)) (place_map x xs m a) (length-map xs h)
      ∙ elim (eqb (place x xs) (length xs)) as (λ v. cond v (map h xs ++ (h x ∷ [])) (map h xs) ≡ map h (cond v (xs ++ (x ∷ [])) xs)) [ true ↦ sym (map-append h xs (x ∷ [])) | false ↦ refl ]

  joins_all : (x : ℕ) (xs : List ℕ) → M x → All M xs → All M (joins xs x)
  joins_all x xs m a = cond_both (eqb (place x xs) (length xs)) (xs ++ (x ∷ [])) xs (λ ys. All M ys) (λ _. all_append M xs (x ∷ []) a (m, tt)) (λ _. a)

  pub firsts_all : (xs ys : List ℕ) → All M xs → All M ys → All M (firsts xs ys)
  unfolding firsts
  firsts_all xs [] a b = a
  firsts_all xs (y ∷ ys) a b = firsts_all (joins xs y) ys (joins_all y xs b.0 a) b.1

  pub firsts_map : (xs ys : List ℕ) → All M xs → All M ys → firsts (map h xs) (map h ys) ≡ map h (firsts xs ys)
  unfolding firsts
  firsts_map xs [] a b = refl
  firsts_map xs (y ∷ ys) a b = ap (λ t. firsts t (map h ys)) (joins_map y xs b.0 a) ∙ firsts_map (joins xs y) ys (joins_all y xs b.0 a) b.1

-- steps show the same by names that agree on their links

step_alike : {L : Type 0} (f g : ℕ → Name) (s : Step L) → All (λ x. f x ≡ g x) (step_links s) → step_events f s ≡ step_events g s
step_alike {L} f g (atom a) h = ap (λ (t : List (Event L)). events.Label a.label ∷ t) (map_alike {B = Event L} (λ x. events.Port (f x)) (λ x. events.Port (g x)) a.links (ports a.links h))
  where
    ports : (xs : List ℕ) → All (λ x. f x ≡ g x) xs → All (λ x. ◌≡◌ {A = Event L} (events.Port (f x)) (events.Port (g x))) xs
    ports [] h = tt
    ports (x ∷ xs) h = (ap events.Port h.0, ports xs h.1)
step_alike {L} f g (enter j) h = refl
step_alike {L} f g leave h = refl

all_parts : {A : Type 0} (P : A → Type 0) (xs ys : List A) → All P (xs ++ ys) → All P xs × All P ys
all_parts P [] ys h = (tt, h)
all_parts P (x ∷ xs) ys h = let r = all_parts P xs ys h.1 in ((h.0, r.0), r.1)

pub steps_alike : {L : Type 0} (f g : ℕ → Name) (ss : List (Step L)) → All (λ x. f x ≡ g x) (flat_map step_links ss) → flat_map (step_events f) ss ≡ flat_map (step_events g) ss
steps_alike f g [] h = refl
steps_alike f g (s ∷ ss) h =
    let r = all_parts (λ x. f x ≡ g x) (step_links s) (flat_map step_links ss) h in
    ap₂ (λ a b. a ++ b) (step_alike f g s r.0) (steps_alike f g ss r.1)
