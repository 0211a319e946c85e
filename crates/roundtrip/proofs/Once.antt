-- How often the names of a sound plan stand in its events: an open name once, any other that stands twice.
use Rattle.std.proofs.Common.{◌≡◌, ℕ, suc, ◌+◌, ◌/◌, ◌^◌, ◌<◌, ◌≤◌, true, cond, eqb, List, [], ◌∷◌, map, Some, None, Option, sym, refl, ap, ◌∙◌, subst, ⊎_elim, arith}
use Rattle.std.proofs.lemmas.Bool.Decides.{nat_tests}
use Rattle.std.proofs.lemmas.Bool.{cases_eq, cases_lt, cond-true, cond-false, eq-eqb, ne_eqb}
use Rattle.label.specs.Kind.{Kind}
use Rattle.text.specs.declared.packed.Name.{Name}
use Rattle.plan.specs.declared.tables.FreeLink.{FreeLink}
use Rattle.plan.specs.Model.{Model}
use Rattle.plan.specs.Sound.{count, distinct, port_links}
use Rattle.showing.specs.Shown.{open_name, place, numbered, shown_name, ties, plan_events}
use Rattle.showing.specs.Reading.{names_in}
use Rattle.showing.proofs.Totals.{count_append}
use Rattle.showing.proofs.Meeting.{Facts, met_links, met_count}
use Rattle.showing.proofs.Freed.{names, links, open_here, open_later, count_here, count_later, open_found, open_none, apart_parts, not_first, tied, tied_none, tied_some, tied_never}
use Rattle.text.specs.Packed.{underscored}
use Rattle.grammar.specs.Reading.{}
use Rattle.showing.proofs.Named.{number_underscored}
use Rattle.showing.proofs.Twice.{underscored_none, place_low, found, count_image, apart, shown_packed, standing_is, shown_is}

-- the link of a name
unfoldable pub link_of : ℕ → List FreeLink → ℕ
link_of p [] = 0
link_of p (f ∷ fs) = cond (eqb p f.name.packed) f.link (link_of p fs)

link_here : (p : ℕ) (f : FreeLink) (fs : List FreeLink) → p ≡ f.name.packed → link_of p (f ∷ fs) ≡ f.link
unfolding link_of
link_here p f fs e = cond-true (eqb p f.name.packed) _ _ (eq-eqb p f.name.packed e)

link_later : (p : ℕ) (f : FreeLink) (fs : List FreeLink) → (p ≡ f.name.packed → ⊥) → link_of p (f ∷ fs) ≡ link_of p fs
unfolding link_of
link_later p f fs e = cond-false (eqb p f.name.packed) _ _ (ne_eqb p f.name.packed e)

-- an open name's link is a free one
pub link_stands : (p : ℕ) (fs : List FreeLink) → 0 < count p (names fs) → 0 < count (link_of p fs) (links fs)
unfolding count
link_stands p [] h = absurd (omega arith)
link_stands p (f ∷ fs) h =
    ⊎_elim
    (λ (e : p ≡ f.name.packed). let l = link_here p f fs e in let c = count_here (link_of p (f ∷ fs)) f.link (links fs) l in omega arith)
    (λ (e : p ≡ f.name.packed → ⊥).
    let l = link_later p f fs e in
    let c = count_later p f.name.packed (names fs) e in
    let ih = link_stands p fs (omega arith) in
    let i : 0 < count (link_of p (f ∷ fs)) (links fs) = subst (λ y. 0 < count y (links fs)) (sym l) ih in
    grind (arith, nat_tests))
    (cases_eq p f.name.packed)

-- the open name of a link has that link
pub link_open : (x : ℕ) (fs : List FreeLink) (a : Name) → distinct (names fs) ≡ true → open_name x fs ≡ Some a → link_of a.packed fs ≡ x
unfolding open_name
link_open x [] a d e = let z : ◌≡◌ {A = ℕ} 0 1 = cc in absurd (omega arith)
link_open x (f ∷ fs) a d e =
    ⊎_elim
    (λ (h : x ≡ f.link). let i = open_here x f fs h in let s : f.name ≡ a = cc in link_here a.packed f fs (ap (λ n. n.packed) (sym s)) ∙ sym h)
    (λ (h : x ≡ f.link → ⊥). let g = sym (open_later x f fs h) ∙ e in link_later a.packed f fs (not_first f fs x a d g) ∙ link_open x fs a (apart_parts f fs d).1 g)
    (cases_eq x f.link)

-- the only name of a link is its open one
pub lone_open : (p : ℕ) (fs : List FreeLink) → 0 < count p (names fs) → count (link_of p fs) (links fs) ≤ 1 → open_name (link_of p fs) fs ≡ Some (record { packed = p })
unfolding count
lone_open p [] h l = absurd (omega arith)
lone_open p (f ∷ fs) h l =
    ⊎_elim
    (λ (e : p ≡ f.name.packed). open_here (link_of p (f ∷ fs)) f fs (link_here p f fs e) ∙ ap (λ p. Some (record { packed = p })) (sym e))
    (λ (e : p ≡ f.name.packed → ⊥).
    let i = link_later p f fs e in
    let c = count_later p f.name.packed (names fs) e in
    let s = link_stands p fs (omega arith) in
    let t : 0 < count (link_of p (f ∷ fs)) (links fs) = subst (λ y. 0 < count y (links fs)) (sym i) s in
    let other : (link_of p (f ∷ fs) ≡ f.link → ⊥) = λ g. (let d = count_here (link_of p (f ∷ fs)) f.link (links fs) g in omega arith) in
    let d = count_later (link_of p (f ∷ fs)) f.link (links fs) other in
    open_later (link_of p (f ∷ fs)) f fs other ∙ (ap (λ y. open_name y fs) i
    ∙ lone_open p fs (omega arith) (subst (λ y. count y (links fs) ≤ 1) i (omega arith))))
    (cases_eq p f.name.packed)

-- a link that stands among the free ones has an open name

-- no link stands more than twice
abbrev pub Few : List FreeLink → Type 0
Few fs = (x : ℕ) → count x (links fs) ≤ 2

few_later : (f : FreeLink) (fs : List FreeLink) → Few (f ∷ fs) → Few fs
unfolding count
few_later f fs h x = let a = h x in grind (arith, nat_tests)

some_same : {a b : Name} → Some a ≡ Some b → a ≡ b
some_same h = cc

module _ (L : Type 0) where
  -- a name stands in the connectors exactly where its link has two rows
  pub tied_is : (p : ℕ) (fs : List FreeLink) → distinct (names fs) ≡ true → Few fs → 0 < count p (names fs) → suc (tied L p fs) ≡ count (link_of p fs) (links fs)
  unfolding count
  tied_is p [] d w h = absurd (omega arith)
  tied_is p (f ∷ fs) d w h =
      ⊎_elim
      (λ (e : p ≡ f.name.packed). here e (open_name f.link fs) refl)
      (λ (e : p ≡ f.name.packed → ⊥). later e (open_name f.link fs) refl (count_later p f.name.packed (names fs) e) (tied_is p fs (apart_parts f fs d).1 (few_later f fs w)))
      (cases_eq p f.name.packed)
    where
      rest : List ℕ
      rest = names_in (ties {L = L} fs)

      here : p ≡ f.name.packed → (o : Option Name) → open_name f.link fs ≡ o → suc (tied L p (f ∷ fs)) ≡ count (link_of p (f ∷ fs)) (links (f ∷ fs))
      here e None g =
          let l = link_here p f fs e in
          let c = ap (λ y. count y (links (f ∷ fs))) l ∙ count_here f.link f.link (links fs) refl in
          let z = open_none f.link fs g in
          let t = tied_none L p f fs g in
          let n = tied_never L p fs (ap (λ n. count n (names fs)) e ∙ (apart_parts f fs d).0) in
          omega arith
      here e (Some b) g =
          let l = link_here p f fs e in
          let c = ap (λ y. count y (links (f ∷ fs))) l ∙ count_here f.link f.link (links fs) refl in
          let z = (open_found f.link fs b g).1 in
          let t = tied_some L p f fs b g in
          let u = count_here p f.name.packed (b.packed ∷ rest) e in
          let v = count_later p b.packed rest (λ i. not_first f fs f.link b d g (sym i ∙ e)) in
          let n = tied_never L p fs (ap (λ n. count n (names fs)) e ∙ (apart_parts f fs d).0) in
          let k = w f.link in
          let j = count_here f.link f.link (links fs) refl in
          omega arith

      later : (p ≡ f.name.packed → ⊥) → (o : Option Name) → open_name f.link fs ≡ o → count p (names (f ∷ fs)) ≡ count p (names fs) → (0 < count p (names fs) → suc (tied L p fs) ≡ count (link_of p fs) (links fs)) → suc (tied L p (f ∷ fs)) ≡ count (link_of p (f ∷ fs)) (links (f ∷ fs))
      later e None g c ih =
          let i = ih (omega arith) in
          let l = link_later p f fs e in
          let s = link_stands p fs (omega arith) in
          let z = open_none f.link fs g in
          let t = tied_none L p f fs g in
          let other : (link_of p fs ≡ f.link → ⊥) = λ q. (let y : count (link_of p fs) (links fs) ≡ count f.link (links fs) = ap (λ y. count y (links fs)) q in omega arith) in
          let d = ap (λ y. count y (links (f ∷ fs))) l ∙ count_later (link_of p fs) f.link (links fs) other in
          omega arith
      later e (Some b) g c ih =
          let i = ih (omega arith) in
          let l = link_later p f fs e in
          let a = (apart_parts f fs d).1 in
          let t = tied_some L p f fs b g in
          let u = count_later p f.name.packed (b.packed ∷ rest) e in
          let lb = link_open f.link fs b a g in
          ⊎_elim
          (λ (q : link_of p fs ≡ f.link).
          let n = ap (λ y. count y (links (f ∷ fs))) (l ∙ q) ∙ count_here f.link f.link (links fs) refl in
          let k = w f.link in
          let j = count_here f.link f.link (links fs) refl in
          let y : count (link_of p fs) (links fs) ≡ count f.link (links fs) = ap (λ y. count y (links fs)) q in
          let o = lone_open p fs (omega arith) (omega arith) in
          let ob : open_name f.link fs ≡ Some (record { packed = p }) = ap (λ y. open_name y fs) (sym q) ∙ o in
          let same : b ≡ record { packed = p } = some_same (sym g ∙ ob) in
          let v = count_here p b.packed rest (sym (ap (λ n. n.packed) same)) in
          let lt : 0 < count f.link (links fs) = (open_found f.link fs b g).1 in
          omega arith)
          (λ (q : link_of p fs ≡ f.link → ⊥).
          let n = ap (λ y. count y (links (f ∷ fs))) l ∙ count_later (link_of p fs) f.link (links fs) q in
          let v = count_later p b.packed rest (λ i. q (ap (λ p. link_of p fs) i ∙ lb)) in
          omega arith)
          (cases_eq (link_of p fs) f.link)

-- Over the whole plan.

module _ {L : Type 0} (k : Kind L) (m : Model L) (f : Facts k m) where
  pub few : Few m.free
  few x =
      let c = count_append x (port_links m.atoms) (links m.free) in
      let t = f.two x in
      ⊎_elim
      (λ (l : 0 < count x (links m.free)). let e = t (omega arith) in omega arith)
      (λ (l : count x (links m.free) ≤ 0). omega arith)
      (cases_lt 0 (count x (links m.free)))

  -- a link that stands has two ends, at ports or free
  pub both_ends : (x : ℕ) → 0 < count x (met_links k m f) + count x (links m.free) → count x (met_links k m f) + count x (links m.free) ≡ 2
  both_ends x h =
      let a = met_count k m f x in
      let b = count_append x (port_links m.atoms) (links m.free) in
      let t = f.two x (omega arith) in
      omega arith

  abbrev pub standings : ℕ → ℕ
  standings p = count p (names_in (plan_events m))

  abbrev pub at_ports : ℕ → ℕ
  at_ports p = count p (map (shown_packed k m f) (met_links k m f))

  pub at_link : (x : ℕ) → 0 < count x (met_links k m f) → at_ports (shown_packed k m f x) ≡ count x (met_links k m f)
  at_link x h = count_image (shown_packed k m f) x (met_links k m f) (λ y l s. apart k m f y x l s)

  pub shown_open : (x : ℕ) (a : Name) → open_name x m.free ≡ Some a → shown_packed k m f x ≡ a.packed
  shown_open x a e = ap (λ n. n.packed) (shown_is k m f x (Some a) e)

  -- the name of a tied link is at no port
  pub open_once : (p : ℕ) → 0 < count p (names m.free) → (at_ports p + tied L p m.free ≡ 1) × (standings p ≡ 1)
  open_once p h =
      let x = link_of p m.free in
      let t = tied_is L p m.free f.apart few h in
      let s = link_stands p m.free h in
      let b = both_ends x (omega arith) in
      let w = few x in
      let i = standing_is k m f (record { packed = p }) in
      let sum : at_ports p + tied L p m.free ≡ 1 =
      ⊎_elim
      (λ (c : 0 < count x (met_links k m f)).
      let o = lone_open p m.free h (omega arith) in
      let n = shown_open x (record { packed = p }) o in
      let a = ap at_ports (sym n) ∙ at_link x c in
      omega arith)
      (λ (c : count x (met_links k m f) ≤ 0).
      let none : at_ports p ≤ 0 =
      ⊎_elim
      (λ (l : 0 < at_ports p).
      let r = found (shown_packed k m f) p (met_links k m f) l in absurd (by r.0 r.1.0 r.1.1 (open_name r.0 m.free) refl c))
      (λ (l : at_ports p ≤ 0). l)
      (cases_lt 0 (at_ports p)) in
      omega arith)
      (cases_lt 0 (count x (met_links k m f))) in
      (sum, omega arith)
    where
      by : (y : ℕ) → shown_packed k m f y ≡ p → 0 < count y (met_links k m f) → (o : Option Name) → open_name y m.free ≡ o → count (link_of p m.free) (met_links k m f) ≤ 0 → ⊥
      by y e l None g c =
          let n = ap (λ n. n.packed) (shown_is k m f y None g) in
          let u : underscored (record { packed = p }) ≡ true = ap (λ p. eqb (p / 2 ^ 56) 95) (sym e ∙ n) ∙ number_underscored (place y (numbered m)) (place_low k m f y) in
          let z = underscored_none (record { packed = p }) m.free f.names u in
          omega arith
      by y e l (Some q) g c =
          let i = sym (ap (λ p. link_of p m.free) (sym (shown_open y q g) ∙ e)) ∙ link_open y m.free q f.apart g in
          let j : count (link_of p m.free) (met_links k m f) ≡ count y (met_links k m f) = ap (λ y. count y (met_links k m f)) i in
          omega arith

  -- a link at ports that has no open name: its name stands twice
  pub closed_twice : (y : ℕ) → 0 < count y (met_links k m f) → open_name y m.free ≡ None → (at_ports (shown_packed k m f y) ≡ 2) × (tied L (shown_packed k m f y) m.free ≡ 0)
  closed_twice y l g =
      let z = open_none y m.free g in
      let b = both_ends y (omega arith) in
      let a = at_link y l in
      let n = ap (λ n. n.packed) (shown_is k m f y None g) in
      let u : underscored (shown_name m y) ≡ true = ap (λ p. eqb (p / 2 ^ 56) 95) n ∙ number_underscored (place y (numbered m)) (place_low k m f y) in
      (omega arith, tied_never L (shown_packed k m f y) m.free (underscored_none (shown_name m y) m.free f.names u))

  -- a name that stands and is not open stands twice
  pub other_twice : (p : ℕ) → count p (names m.free) ≡ 0 → 0 < standings p → standings p ≡ 2
  other_twice p z h =
      let i = standing_is k m f (record { packed = p }) in
      let t = tied_never L p m.free z in
      let r = found (shown_packed k m f) p (met_links k m f) (omega arith) in
      let s = by r.0 r.1.0 r.1.1 (open_name r.0 m.free) refl in
      omega arith
    where
      by : (y : ℕ) → shown_packed k m f y ≡ p → 0 < count y (met_links k m f) → (o : Option Name) → open_name y m.free ≡ o → at_ports p ≡ 2
      by y e l None g = ap at_ports (sym e) ∙ (closed_twice y l g).0
      by y e l (Some q) g =
          let c = (open_found y m.free q g).0 in
          let j : count p (names m.free) ≡ count q.packed (names m.free) = ap (λ p. count p (names m.free)) (sym e ∙ shown_open y q g) in
          absurd (omega arith)
