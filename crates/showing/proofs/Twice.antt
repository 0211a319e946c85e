-- How often each name stands in the events of a sound plan.
use Rattle.std.proofs.Common.{◌≡◌, ℕ, ◌+◌, ◌/◌, ◌^◌, ◌<◌, ◌≤◌, true, false, not, ◌&&◌, eqb, List, [], ◌∷◌, ◌++◌, map, length, is_some, Some, None, filter, Option, sym, refl, ap, ◌∙◌, ap₂, ⊎_elim, arith}
use mathlib.Core.List.{map-append}
use Rattle.std.specs.List.{AllByRecursion as All}
use Rattle.std.proofs.lemmas.Bool.Decides.{nat_tests}
use Rattle.std.proofs.lemmas.Bool.{and_parts, and_from, cases_eq, cases_lt, both_ways, not-true, cond_both}
use Rattle.label.specs.Kind.{Kind}
use Rattle.text.specs.declared.packed.Name.{Name}
use Rattle.text.specs.Packed.{pack, spelling, underscored}
use Rattle.text.specs.Shapes.{is_name}
use Rattle.grammar.specs.declared.event.Event.TheVariants as events
use Rattle.grammar.specs.Reading.{}
use Rattle.plan.specs.declared.tables.FreeLink.{FreeLink}
use Rattle.plan.specs.Model.{Model}
use Rattle.plan.specs.Sound.{count, port_links}
use Rattle.plan.specs.Sound as sound
use Rattle.std.specs.List.{flat_map}
use Rattle.showing.specs.Walk.{Step, atom, enter, leave, whole_walk}
use Rattle.showing.specs.Shown.{open_name, step_links, place, firsts, numbered, number_name, or_number, shown_name, set_events, step_events, ties, plan_events}
use Rattle.grammar.specs.Events.{proper_name, name_standings}
use Rattle.showing.specs.Reading.{names_in, stream}
use Rattle.showing.proofs.Totals.{count_append, count_kept}
use Rattle.showing.proofs.Meeting.{Facts, met_links, met_count, met_length}
use Rattle.showing.proofs.Named.{number_proper, number_same, number_underscored, place_most, place_same, firsts_has, firsts_length, kept_length}
use Rattle.showing.proofs.Freed.{names, links, open_none, open_good, open_same, standings_append, tied, tied_never, tied_first, tied_most}

-- a name that begins with a letter is proper, and not a `_` name
pub open_proper : (a : Name) → sound.open_name a ≡ true → (proper_name a ≡ true) × (underscored a ≡ false)
open_proper a h =
    let w = spelling a.packed in
    let p = and_parts (is_name w) (eqb (pack w) a.packed && not (underscored a)) h in
    let q = and_parts (eqb (pack w) a.packed) (not (underscored a)) p.1 in
    (and_from (is_name w) (eqb (pack w) a.packed) p.0 q.0, not-true (underscored a) q.1)

-- a `_` name is none of the open ones
pub underscored_none : (n : Name) (fs : List FreeLink) → All (λ f. sound.open_name f.name ≡ true) fs → underscored n ≡ true → count n.packed (names fs) ≡ 0
unfolding count
underscored_none n [] h u = refl
underscored_none n (f ∷ fs) h u =
    let ih = underscored_none n fs h.1 u in
    let o = (open_proper f.name h.0).1 in
    let other : (n.packed ≡ f.name.packed → ⊥) = λ e. both_ways (underscored f.name) o (ap (λ p. eqb (p / 2 ^ 56) 95) (sym e) ∙ u) in
    grind (arith, nat_tests)

-- a number that stands among others' images is one's
pub found : (g : ℕ → ℕ) (n : ℕ) (xs : List ℕ) → 0 < count n (map g xs) → (x : ℕ) × ((g x ≡ n) × (0 < count x xs))
unfolding count
found g n [] h = absurd (omega arith)
found g n (y ∷ ys) h =
    ⊎_elim
    (λ (e : n ≡ g y). (y, (sym e, (grind (arith, nat_tests)))))
    (λ (e : n ≡ g y → ⊥). let r = found g n ys (grind (arith, nat_tests)) in let l = r.1.1 in (r.0, (r.1.0, (grind (arith, nat_tests)))))
    (cases_eq n (g y))

-- and stands as often as that one, where no other has the same
pub count_image : (g : ℕ → ℕ) (x : ℕ) (xs : List ℕ) → ((y : ℕ) → 0 < count y xs → g y ≡ g x → y ≡ x) → count (g x) (map g xs) ≡ count x xs
unfolding count
count_image g x [] h = refl
count_image g x (y ∷ ys) h =
    let ih = count_image g x ys (λ z l e. h z (grind (arith, nat_tests)) e) in
    let here : g y ≡ g x → y ≡ x = h y (grind (arith, nat_tests)) in
    let same : x ≡ y → g x ≡ g y = ap g in
    grind (arith, nat_tests)

-- the names in events of steps

pub ports_names : (L : Type 0) (name : ℕ → Name) (xs : List ℕ) → names_in {L = L} (map (λ x. events.Port (name x)) xs) ≡ map (λ x. (name x).packed) xs
unfolding stream name_standings
ports_names L name [] = refl
ports_names L name (x ∷ xs) = ap (λ ns. (name x).packed ∷ ns) (ports_names L name xs)

set_names : (L : Type 0) (k : ℕ) → names_in {L = L} (set_events k) ≡ []
unfolding stream name_standings
set_names L k = cond_both (eqb k 0) [] (events.Set k ∷ []) (λ es. names_in es ≡ []) (λ _. refl) (λ _. refl)

step_names : {L : Type 0} (name : ℕ → Name) (s : Step L) → names_in (step_events name s) ≡ map (λ x. (name x).packed) (step_links s)
unfolding stream name_standings
step_names {L} name (atom a) = ports_names L name a.links
step_names {L} name (enter k) = set_names L k
step_names name leave = refl

pub steps_names : {L : Type 0} (name : ℕ → Name) (ss : List (Step L)) → names_in (flat_map (step_events name) ss) ≡ map (λ x. (name x).packed) (flat_map step_links ss)
unfolding stream name_standings
steps_names name [] = refl
steps_names name (s ∷ ss) =
    standings_append (step_events name s) (flat_map (step_events name) ss)
    ∙ ap₂ (λ a b. a ++ b) (step_names name s) (steps_names name ss)
    ∙ sym (map-append (λ x. (name x).packed) (step_links s) (flat_map step_links ss))

module _ {L : Type 0} (k : Kind L) (m : Model L) (f : Facts k m) where
  pub place_low : (x : ℕ) → place x (numbered m) ≤ 8192
  unfolding numbered
  place_low x =
      let ys = filter (λ x. not (is_some (open_name x m.free))) (met_links k m f) in
      let a = place_most x (firsts [] ys) in
      let b = firsts_length [] ys in
      let c = kept_length (λ x. not (is_some (open_name x m.free))) (met_links k m f) in
      let d = met_length k m f in
      omega arith

  pub numbered_has : (x : ℕ) → 0 < count x (met_links k m f) → open_name x m.free ≡ None → place x (numbered m) < length (numbered m)
  unfolding numbered
  numbered_has x h e =
      let p = λ (x : ℕ). not (is_some (open_name x m.free)) in
      let c = count_kept x p (met_links k m f) in
      let t : p x ≡ true = ap (λ o. not (is_some o)) e in
      firsts_has x [] (filter p (met_links k m f)) (grind (arith, nat_tests))

  pub shown_is : (x : ℕ) (o : Option Name) → open_name x m.free ≡ o → shown_name m x ≡ or_number o (place x (numbered m))
  shown_is x o e = ap (λ o. or_number o (place x (numbered m))) e

  pub shown_proper : (x : ℕ) → proper_name (shown_name m x) ≡ true
  shown_proper x = by (open_name x m.free) refl
    where
      by : (o : Option Name) → open_name x m.free ≡ o → proper_name (or_number o (place x (numbered m))) ≡ true
      by None e = number_proper (place x (numbered m)) (place_low x)
      by (Some a) e = (open_proper a (open_good (λ a. sound.open_name a ≡ true) x m.free a f.names e)).0

  -- links of different names are different
  pub apart : (x y : ℕ) → 0 < count x (met_links k m f) → (shown_name m x).packed ≡ (shown_name m y).packed → x ≡ y
  apart x y h e = by (open_name x m.free) (open_name y m.free) refl refl e
    where
      number_open : (i : ℕ) (z : ℕ) (a : Name) → i ≤ 8192 → open_name z m.free ≡ Some a → (number_name i).packed ≡ a.packed → ⊥
      number_open i z a l o s =
          both_ways (underscored a) (open_proper a (open_good (λ a. sound.open_name a ≡ true) z m.free a f.names o)).1
          (ap (λ p. eqb (p / 2 ^ 56) 95) (sym s) ∙ number_underscored i l)

      by : (o p : Option Name) → open_name x m.free ≡ o → open_name y m.free ≡ p → (or_number o (place x (numbered m))).packed ≡ (or_number p (place y (numbered m))).packed → x ≡ y
      by None None a b s = place_same x y (numbered m) (number_same (place x (numbered m)) (place y (numbered m)) (place_low x) (place_low y) s) (numbered_has x h a)
      by None (Some q) a b s = absurd (number_open (place x (numbered m)) y q (place_low x) b s)
      by (Some p) None a b s = absurd (number_open (place y (numbered m)) x p (place_low y) a (sym s))
      by (Some p) (Some q) a b s = open_same x y m.free p q f.apart a b s

  abbrev pub shown_packed : ℕ → ℕ
  shown_packed x = (shown_name m x).packed

  abbrev standing : Name → ℕ
  standing n = count n.packed (names_in (plan_events m))

  pub standing_is : (n : Name) → standing n ≡ count n.packed (map shown_packed (met_links k m f)) + tied L n.packed m.free
  standing_is n =
      ap (count n.packed) (standings_append (flat_map (step_events (shown_name m)) (whole_walk m)) (ties m.free) ∙ ap (λ ns. ns ++ names_in (ties {L = L} m.free)) (steps_names (shown_name m) (whole_walk m)))
      ∙ count_append n.packed (map shown_packed (met_links k m f)) (names_in (ties {L = L} m.free))

  abbrev Right : Name → Type 0
  Right n = (standing n ≤ 2) × (underscored n ≡ true → standing n ≡ 1 → ⊥)

  -- a `_` name stands in no connector
  never_tied : (n : Name) → underscored n ≡ true → tied L n.packed m.free ≡ 0
  never_tied n u = tied_never L n.packed m.free (underscored_none n m.free f.names u)

  -- a name of a link at ports
  of_link : (n : Name) (x : ℕ) → shown_packed x ≡ n.packed → 0 < count x (met_links k m f) → Right n
  of_link n x e h = by (open_name x m.free) refl e
    where
      at_ports : count n.packed (map shown_packed (met_links k m f)) ≡ count x (met_links k m f)
      at_ports = ap (λ p. count p (map shown_packed (met_links k m f))) (sym e) ∙ count_image shown_packed x (met_links k m f) (λ y l s. apart y x l s)

      both : count x (met_links k m f) + count x (links m.free) ≡ 2
      both =
          let a = met_count k m f x in
          let b = count_append x (port_links m.atoms) (links m.free) in
          let t = f.two x (omega arith) in
          omega arith

      by : (o : Option Name) → open_name x m.free ≡ o → (or_number o (place x (numbered m))).packed ≡ n.packed → Right n
      by None o s =
          let u : underscored n ≡ true = ap (λ p. eqb (p / 2 ^ 56) 95) (sym s) ∙ number_underscored (place x (numbered m)) (place_low x) in
          let t = never_tied n u in
          let z = open_none x m.free o in
          let i = standing_is n in
          let a = at_ports in
          let b = both in
          (omega arith, λ u one. omega arith)
      by (Some q) o s =
          let t = (tied_first L x m.free q f.apart o).1 in
          let r : tied L q.packed m.free ≡ tied L n.packed m.free = ap (λ p. tied L p m.free) s in
          let i = standing_is n in
          let a = at_ports in
          let b = both in
          (omega arith, λ u one. both_ways (underscored q) (open_proper q (open_good (λ a. sound.open_name a ≡ true) x m.free q f.names o)).1 (ap (λ p. eqb (p / 2 ^ 56) 95) s ∙ u))

  pub standings_right : (n : Name) → Right n
  standings_right n =
      ⊎_elim
      (λ (l : 0 < count n.packed (map shown_packed (met_links k m f))). let r = found shown_packed n.packed (met_links k m f) l in of_link n r.0 r.1.0 r.1.1)
      (λ (l : count n.packed (map shown_packed (met_links k m f)) ≤ 0).
      let i = standing_is n in
      let t = tied_most L n.packed m.free f.apart in
      (omega arith, λ u one. let z = never_tied n u in omega arith))
      (cases_lt 0 (count n.packed (map shown_packed (met_links k m f))))
