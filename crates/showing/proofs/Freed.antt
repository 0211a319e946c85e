-- The open names of a plan's links, and how often they stand in connectors between free links.
use Rattle.std.specs.Prelude.{option_map}
use Rattle.std.specs.List.{find}
use Rattle.std.proofs.Common.{◌≡◌, ℕ, suc, ◌<◌, ◌≤◌, true, eqb, List, [], ◌∷◌, ◌++◌, map, Some, None, Option, sym, refl, ap, ◌∙◌, subst, ⊎_elim, arith}
use Rattle.std.specs.List.{AllByRecursion as All}
use Rattle.std.proofs.lemmas.Bool.Decides.{nat_tests}
use Rattle.std.proofs.lemmas.Bool.{and_parts, cases_eq, cond-true, cond-false, eq-eqb, ne_eqb, eqb-true}
use Rattle.text.specs.declared.packed.Name.{Name}
use Rattle.grammar.specs.declared.event.Event.{Event}
use Rattle.grammar.specs.declared.event.Event.TheVariants as events
use Rattle.plan.specs.declared.tables.FreeLink.{FreeLink}
use Rattle.plan.specs.Sound.{count, distinct}
use Rattle.showing.specs.Shown.{open_name, ties}
use Rattle.grammar.specs.Events.{name_standings}
use Rattle.showing.specs.Reading.{names_in, stream}

abbrev pub names : List FreeLink → List ℕ
names fs = map (λ f. f.name.packed) fs

abbrev pub links : List FreeLink → List ℕ
links fs = map (λ f. f.link) fs

-- the first row of a link, or the rows after
pub open_here : (x : ℕ) (f : FreeLink) (fs : List FreeLink) → x ≡ f.link → open_name x (f ∷ fs) ≡ Some f.name
unfolding open_name
open_here x f fs e = ap (option_map (λ (f : FreeLink). f.name)) (cond-true (eqb f.link x) (Some f) (find (λ (f : FreeLink). eqb f.link x) fs) (eq-eqb f.link x (sym e)))

pub open_later : (x : ℕ) (f : FreeLink) (fs : List FreeLink) → (x ≡ f.link → ⊥) → open_name x (f ∷ fs) ≡ open_name x fs
unfolding open_name
open_later x f fs n = ap (option_map (λ (f : FreeLink). f.name)) (cond-false (eqb f.link x) (Some f) (find (λ (f : FreeLink). eqb f.link x) fs) (ne_eqb f.link x (λ e. n (sym e))))

pub count_here : (x y : ℕ) (ys : List ℕ) → x ≡ y → count x (y ∷ ys) ≡ suc (count x ys)
unfolding count
count_here x y ys e = cond-true (eqb x y) _ _ (eq-eqb x y e)

pub count_later : (x y : ℕ) (ys : List ℕ) → (x ≡ y → ⊥) → count x (y ∷ ys) ≡ count x ys
unfolding count
count_later x y ys e = cond-false (eqb x y) _ _ (ne_eqb x y e)

-- a link that has an open name is a free one, and the name is one of theirs
pub open_found : (x : ℕ) (fs : List FreeLink) (a : Name) → open_name x fs ≡ Some a → (0 < count a.packed (names fs)) × (0 < count x (links fs))
unfolding count open_name
open_found x [] a e = let z : ◌≡◌ {A = ℕ} 0 1 = cc in absurd (omega arith)
open_found x (f ∷ fs) a e =
    ⊎_elim
    (λ (h : x ≡ f.link).
    let i = open_here x f fs h in
    let s : f.name ≡ a = cc in
    let p : a.packed ≡ f.name.packed = ap (λ n. n.packed) (sym s) in
    let c = count_here a.packed f.name.packed (names fs) p in
    let d = count_here x f.link (links fs) h in
    (omega arith, omega arith))
    (λ (h : x ≡ f.link → ⊥).
    let ih = open_found x fs a (sym (open_later x f fs h) ∙ e) in
    let l = ih.0 in let r = ih.1 in
    (grind (arith, nat_tests), grind (arith, nat_tests)))
    (cases_eq x f.link)

pub open_none : (x : ℕ) (fs : List FreeLink) → open_name x fs ≡ None → count x (links fs) ≡ 0
unfolding count
open_none x [] e = refl
open_none x (f ∷ fs) e =
    ⊎_elim
    (λ (h : x ≡ f.link). let i = open_here x f fs h in let z : ◌≡◌ {A = ℕ} 0 1 = cc in absurd (omega arith))
    (λ (h : x ≡ f.link → ⊥). count_later x f.link (links fs) h ∙ open_none x fs (sym (open_later x f fs h) ∙ e))
    (cases_eq x f.link)

-- what holds of each row's name holds of an open name
pub open_good : (P : Name → Type 0) (x : ℕ) (fs : List FreeLink) (a : Name) → All (λ f. P f.name) fs → open_name x fs ≡ Some a → P a
unfolding open_name
open_good P x [] a h e = let z : ◌≡◌ {A = ℕ} 0 1 = cc in absurd (omega arith)
open_good P x (f ∷ fs) a h e =
    ⊎_elim
    (λ (i : x ≡ f.link). let j = open_here x f fs i in let s : f.name ≡ a = cc in subst P s h.0)
    (λ (i : x ≡ f.link → ⊥). open_good P x fs a h.1 (sym (open_later x f fs i) ∙ e))
    (cases_eq x f.link)

pub apart_parts : (f : FreeLink) (fs : List FreeLink) → distinct (names (f ∷ fs)) ≡ true → (count f.name.packed (names fs) ≡ 0) × (distinct (names fs) ≡ true)
unfolding distinct
apart_parts f fs h =
    let p = and_parts (eqb (count f.name.packed (names fs)) 0) (distinct (names fs)) h in
    (eqb-true (count f.name.packed (names fs)) 0 p.0, p.1)

-- a name that stands later is not the first row's
pub not_first : (f : FreeLink) (fs : List FreeLink) (x : ℕ) (a : Name) → distinct (names (f ∷ fs)) ≡ true → open_name x fs ≡ Some a → a.packed ≡ f.name.packed → ⊥
not_first f fs x a d e s =
    let z = (apart_parts f fs d).0 in
    let o = (open_found x fs a e).0 in
    let c : count a.packed (names fs) ≡ count f.name.packed (names fs) = ap (λ n. count n (names fs)) s in
    omega arith

-- one name is that of one link
pub open_same : (x y : ℕ) (fs : List FreeLink) (a b : Name) → distinct (names fs) ≡ true → open_name x fs ≡ Some a → open_name y fs ≡ Some b → a.packed ≡ b.packed → x ≡ y
unfolding open_name
open_same x y [] a b d e g s = let z : ◌≡◌ {A = ℕ} 0 1 = cc in absurd (omega arith)
open_same x y (f ∷ fs) a b d e g s =
    ⊎_elim
    (λ (h : x ≡ f.link).
    ⊎_elim
    (λ (i : y ≡ f.link). h ∙ sym i)
    (λ (i : y ≡ f.link → ⊥). let j = open_here x f fs h in let k : f.name ≡ a = cc in absurd (not_first f fs y b d (sym (open_later y f fs i) ∙ g) (sym s ∙ ap (λ n. n.packed) (sym k))))
    (cases_eq y f.link))
    (λ (h : x ≡ f.link → ⊥).
    ⊎_elim
    (λ (i : y ≡ f.link). let j = open_here y f fs i in let k : f.name ≡ b = cc in absurd (not_first f fs x a d (sym (open_later x f fs h) ∙ e) (s ∙ ap (λ n. n.packed) (sym k))))
    (λ (i : y ≡ f.link → ⊥). open_same x y fs a b (apart_parts f fs d).1 (sym (open_later x f fs h) ∙ e) (sym (open_later y f fs i) ∙ g) s)
    (cases_eq y f.link))
    (cases_eq x f.link)

pub standings_append : {L : Type 0} (es gs : List (Event L)) → names_in (es ++ gs) ≡ names_in es ++ names_in gs
unfolding stream name_standings
standings_append [] gs = refl
standings_append (events.Label l ∷ es) gs = standings_append es gs
standings_append (events.Port n ∷ es) gs = ap (λ ns. n.packed ∷ ns) (standings_append es gs)
standings_append (events.Enter ∷ es) gs = standings_append es gs
standings_append (events.Leave ∷ es) gs = standings_append es gs
standings_append (events.Set j ∷ es) gs = standings_append es gs
standings_append (events.First n ∷ es) gs = ap (λ ns. n.packed ∷ ns) (standings_append es gs)
standings_append (events.Second n ∷ es) gs = ap (λ ns. n.packed ∷ ns) (standings_append es gs)

module _ (L : Type 0) where
  -- how often a name stands in the connectors
  abbrev pub tied : ℕ → List FreeLink → ℕ
  tied n fs = count n (names_in (ties {L = L} fs))

  -- a row with no later row on its link, and one with
  pub tied_none : (n : ℕ) (f : FreeLink) (fs : List FreeLink) → open_name f.link fs ≡ None → tied n (f ∷ fs) ≡ tied n fs
  unfolding ties
  tied_none n f fs e = rw e

  pub tied_some : (n : ℕ) (f : FreeLink) (fs : List FreeLink) (a : Name) → open_name f.link fs ≡ Some a → tied n (f ∷ fs) ≡ count n (f.name.packed ∷ (a.packed ∷ names_in (ties {L = L} fs)))
  unfolding ties stream name_standings
  tied_some n f fs a e = rw e

  -- a name of no row stands in no connector
  pub tied_never : (n : ℕ) (fs : List FreeLink) → count n (names fs) ≡ 0 → tied n fs ≡ 0
  unfolding ties stream name_standings count
  tied_never n [] h = refl
  tied_never n (f ∷ fs) h = by (open_name f.link fs) refl (tied_never n fs)
    where
      by : (o : Option Name) → open_name f.link fs ≡ o → (count n (names fs) ≡ 0 → tied n fs ≡ 0) → tied n (f ∷ fs) ≡ 0
      by None e ih = let t = tied_none n f fs e in grind (arith, nat_tests)
      by (Some a) e ih =
          let t = tied_some n f fs a e in
          let o = (open_found f.link fs a e).0 in
          let other : (n ≡ a.packed → ⊥) = λ i. (let c : count n (names fs) ≡ count a.packed (names fs) = ap (λ x. count x (names fs)) i in grind (arith, nat_tests)) in
          grind (arith, nat_tests)

  -- the first name of a link stands at most once, and less often than the link among the free ones
  pub tied_first : (x : ℕ) (fs : List FreeLink) (a : Name) → distinct (names fs) ≡ true → open_name x fs ≡ Some a → (tied a.packed fs ≤ 1) × (tied a.packed fs < count x (links fs))
  unfolding open_name
  tied_first x [] a d e = let z : ◌≡◌ {A = ℕ} 0 1 = cc in absurd (omega arith)
  tied_first x (f ∷ fs) a d e =
      ⊎_elim
      (λ (h : x ≡ f.link). here h (open_name f.link fs) refl)
      (λ (h : x ≡ f.link → ⊥). let g = sym (open_later x f fs h) ∙ e in later h g (open_name f.link fs) refl (tied_first x fs a (apart_parts f fs d).1 g))
      (cases_eq x f.link)
    where
      rest : List ℕ
      rest = names_in (ties {L = L} fs)

      here : x ≡ f.link → (o : Option Name) → open_name f.link fs ≡ o → (tied a.packed (f ∷ fs) ≤ 1) × (tied a.packed (f ∷ fs) < count x (links (f ∷ fs)))
      here h o e₂ =
          let j = open_here x f fs h in
          let s : f.name ≡ a = cc in
          let p : a.packed ≡ f.name.packed = ap (λ n. n.packed) (sym s) in
          let z = (apart_parts f fs d).0 in
          let n = tied_never a.packed fs (ap (λ n. count n (names fs)) p ∙ z) in
          let c = count_here x f.link (links fs) h in
          elim o as (λ o. open_name f.link fs ≡ o → (tied a.packed (f ∷ fs) ≤ 1) × (tied a.packed (f ∷ fs) < count x (links (f ∷ fs)))) [
            | None ↦ λ e₃. let t = tied_none a.packed f fs e₃ in (omega arith, omega arith)
            | Some b ↦ λ e₃.
                let t = tied_some a.packed f fs b e₃ in
                let u = count_here a.packed f.name.packed (b.packed ∷ rest) p in
                let v = count_later a.packed b.packed rest (λ i. not_first f fs f.link b d e₃ (sym i ∙ p)) in
                let w = (open_found f.link fs b e₃).1 in
                let y : count x (links fs) ≡ count f.link (links fs) = ap (λ n. count n (links fs)) h in
                (omega arith, omega arith)
          ] e₂

      later : (x ≡ f.link → ⊥) → open_name x fs ≡ Some a → (o : Option Name) → open_name f.link fs ≡ o → (tied a.packed fs ≤ 1) × (tied a.packed fs < count x (links fs)) → (tied a.packed (f ∷ fs) ≤ 1) × (tied a.packed (f ∷ fs) < count x (links (f ∷ fs)))
      later h g o e₂ ih =
          let i = ih.0 in
          let j = ih.1 in
          let c = count_later x f.link (links fs) h in
          elim o as (λ o. open_name f.link fs ≡ o → (tied a.packed (f ∷ fs) ≤ 1) × (tied a.packed (f ∷ fs) < count x (links (f ∷ fs)))) [
            | None ↦ λ e₃. let t = tied_none a.packed f fs e₃ in (omega arith, omega arith)
            | Some b ↦ λ e₃.
                let t = tied_some a.packed f fs b e₃ in
                let u = count_later a.packed f.name.packed (b.packed ∷ rest) (not_first f fs x a d g) in
                let v = count_later a.packed b.packed rest (λ i. h (open_same x f.link fs a b (apart_parts f fs d).1 g e₃ i)) in
                (omega arith, omega arith)
          ] e₂

  -- no name stands a third time in the connectors
  pub tied_most : (n : ℕ) (fs : List FreeLink) → distinct (names fs) ≡ true → tied n fs ≤ 2
  unfolding ties stream name_standings count
  tied_most n [] d = omega arith
  tied_most n (f ∷ fs) d = by (open_name f.link fs) refl (tied_most n fs (apart_parts f fs d).1)
    where
      by : (o : Option Name) → open_name f.link fs ≡ o → tied n fs ≤ 2 → tied n (f ∷ fs) ≤ 2
      by None e ih = let t = tied_none n f fs e in omega arith
      by (Some b) e ih =
          let t = tied_some n f fs b e in
          let m = (tied_first f.link fs b (apart_parts f fs d).1 e).0 in
          let never : n ≡ f.name.packed → tied n fs ≡ 0 = λ i. tied_never n fs (ap (λ n. count n (names fs)) i ∙ (apart_parts f fs d).0) in
          let apart : n ≡ f.name.packed → n ≡ b.packed → ⊥ = λ i j. not_first f fs f.link b d e (sym j ∙ i) in
          let once : n ≡ b.packed → tied n fs ≤ 1 = λ i. (let c : tied n fs ≡ tied b.packed fs = ap (λ n. tied n fs) i in omega arith) in
          grind (arith, nat_tests)
