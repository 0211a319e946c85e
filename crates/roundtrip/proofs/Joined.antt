-- What the connectors between free links make of the links of their names.
use Rattle.std.proofs.Common.{◌≡◌, ℕ, ◌<◌, ◌≤◌, cond, eqb, List, [], ◌∷◌, ◌++◌, length, Some, None, Option, sym, refl, ap, ◌∙◌, ap₂, ⊎_elim, arith}
use lib.ListN.{length-map}
use Rattle.std.proofs.lemmas.Bool.Decides.{nat_tests}
use Rattle.std.proofs.lemmas.List.{get_or-map}
use Rattle.std.proofs.lemmas.Bool.{cases_eq, cond-true, cond-false, eq-eqb, ne_eqb}
use Rattle.label.specs.Kind.{Kind}
use Rattle.text.specs.declared.packed.Name.{Name}
use Rattle.grammar.specs.declared.event.Event.TheVariants as events
use Rattle.plan.specs.declared.tables.FreeLink.{FreeLink}
use Rattle.plan.specs.Sound.{count}
use Rattle.placing.specs.Placing.{Placing, become, joined, place_all, place_one, put}
use Rattle.showing.specs.Shown.{open_name, place, tie, ties}
use Rattle.showing.specs.Reading.{stream, names_in}
use Rattle.showing.proofs.Freed.{count_here, count_later, tied, tied_none, tied_some}
use Rattle.showing.proofs.Named.{place_same}
use Rattle.roundtrip.proofs.Preorder.{place_in}
use Rattle.roundtrip.proofs.Placed.{run}

-- the first name of a connector goes over into the second
abbrev pub over : ℕ → Option Name → ℕ → ℕ
over a None p = p
over a (Some b) p = cond (eqb p a) b.packed p

-- by all connectors between free links
unfoldable pub becomes : List FreeLink → ℕ → ℕ
becomes [] p = p
becomes (f ∷ fs) p = becomes fs (over f.name.packed (open_name f.link fs) p)

pub count_more : (c x : ℕ) (xs : List ℕ) → count c xs ≤ count c (x ∷ xs)
unfolding count
count_more c x xs = grind (arith, nat_tests)

module _ (L : Type 0) where
  over_other : (a : ℕ) (b : Name) (p : ℕ) → (p ≡ a → ⊥) → over a (Some b) p ≡ p
  over_other a b p n = cond-false (eqb p a) b.packed p (ne_eqb p a n)

  over_first : (a : ℕ) (b : Name) (p : ℕ) → p ≡ a → over a (Some b) p ≡ b.packed
  over_first a b p e = cond-true (eqb p a) b.packed p (eq-eqb p a e)

  -- a name that stands in no connector stays, and nothing else becomes it
  pub stays : (c : ℕ) (fs : List FreeLink) → tied L c fs ≡ 0 → becomes fs c ≡ c
  unfolding becomes
  stays c [] z = refl
  stays c (f ∷ fs) z = by (open_name f.link fs) refl (stays c fs)
    where
      by : (o : Option Name) → open_name f.link fs ≡ o → (tied L c fs ≡ 0 → becomes fs c ≡ c) → becomes fs (over f.name.packed (open_name f.link fs) c) ≡ c
      by None e ih = let t = tied_none L c f fs e in ap (λ o. becomes fs (over f.name.packed o c)) e ∙ ih (omega arith)
      by (Some b) e ih =
          let rest = names_in (ties {L = L} fs) in
          let t = tied_some L c f fs b e in
          let other : (c ≡ f.name.packed → ⊥) = λ i. (let u = count_here c f.name.packed (b.packed ∷ rest) i in omega arith) in
          let u = count_later c f.name.packed (b.packed ∷ rest) other in
          let second : (c ≡ b.packed → ⊥) = λ i. (let v = count_here c b.packed rest i in omega arith) in
          let v = count_later c b.packed rest second in
          ap (λ o. becomes fs (over f.name.packed o c)) e ∙ (ap (becomes fs) (over_other f.name.packed b c other) ∙ ih (omega arith))

  pub stays_back : (c p : ℕ) (fs : List FreeLink) → tied L c fs ≡ 0 → becomes fs p ≡ c → p ≡ c
  unfolding becomes
  stays_back c p [] z g = g
  stays_back c p (f ∷ fs) z g = by (open_name f.link fs) refl (λ q. stays_back c q fs)
    where
      by : (o : Option Name) → open_name f.link fs ≡ o → ((q : ℕ) → tied L c fs ≡ 0 → becomes fs q ≡ c → q ≡ c) → p ≡ c
      by None e ih = let t = tied_none L c f fs e in ih p (omega arith) (sym (ap (λ o. becomes fs (over f.name.packed o p)) e) ∙ g)
      by (Some b) e ih =
          let rest = names_in (ties {L = L} fs) in
          let t = tied_some L c f fs b e in
          let other : (c ≡ f.name.packed → ⊥) = λ i. (let u = count_here c f.name.packed (b.packed ∷ rest) i in omega arith) in
          let u = count_later c f.name.packed (b.packed ∷ rest) other in
          let second : (c ≡ b.packed → ⊥) = λ i. (let v = count_here c b.packed rest i in omega arith) in
          let v = count_later c b.packed rest second in
          let s : over f.name.packed (Some b) p ≡ c = ih (over f.name.packed (Some b) p) (omega arith) (sym (ap (λ o. becomes fs (over f.name.packed o p)) e) ∙ g) in
          ⊎_elim
          (λ (i : p ≡ f.name.packed). absurd (second (sym s ∙ over_first f.name.packed b p i)))
          (λ (i : p ≡ f.name.packed → ⊥). sym (over_other f.name.packed b p i) ∙ s)
          (cases_eq p f.name.packed)

  -- of a connector both names become the second
  pub pair : (f : FreeLink) (fs : List FreeLink) (b : Name) → ((c : ℕ) → tied L c (f ∷ fs) ≤ 1) → open_name f.link fs ≡ Some b → (becomes (f ∷ fs) f.name.packed ≡ b.packed) × ((becomes (f ∷ fs) b.packed ≡ b.packed) × (tied L b.packed fs ≡ 0))
  unfolding becomes
  pair f fs b d e =
      let a = f.name.packed in
      let rest = names_in (ties {L = L} fs) in
      let t = tied_some L b.packed f fs b e in
      let o = d b.packed in
      let h = count_here b.packed b.packed rest refl in
      let other : (b.packed ≡ a → ⊥) = λ i. (let u = count_here b.packed a (b.packed ∷ rest) i in omega arith) in
      let u = count_later b.packed a (b.packed ∷ rest) other in
      let z : tied L b.packed fs ≡ 0 = omega arith in (
        ap (λ o. becomes fs (over a o a)) e ∙ (ap (becomes fs) (over_first a b a refl) ∙ stays b.packed fs z),
        (ap (λ o. becomes fs (over a o b.packed)) e ∙ (ap (becomes fs) (over_other a b b.packed other) ∙ stays b.packed fs z), z),
      )

  -- past a row, for names of later connectors
  pub later_same : (f : FreeLink) (fs : List FreeLink) (c : ℕ) → ((c : ℕ) → tied L c (f ∷ fs) ≤ 1) → 0 < tied L c fs → becomes (f ∷ fs) c ≡ becomes fs c
  unfolding becomes
  later_same f fs c d l = by (open_name f.link fs) refl
    where
      by : (o : Option Name) → open_name f.link fs ≡ o → becomes fs (over f.name.packed (open_name f.link fs) c) ≡ becomes fs c
      by None e = ap (λ o. becomes fs (over f.name.packed o c)) e
      by (Some b) e =
          let rest = names_in (ties {L = L} fs) in
          let t = tied_some L c f fs b e in
          let o = d c in
          let v : count c rest ≤ count c (b.packed ∷ rest) = count_more c b.packed rest in
          let other : (c ≡ f.name.packed → ⊥) = λ i. (let u = count_here c f.name.packed (b.packed ∷ rest) i in omega arith) in
          ap (λ o. becomes fs (over f.name.packed o c)) e ∙ ap (becomes fs) (over_other f.name.packed b c other)

  pub later_once : (f : FreeLink) (fs : List FreeLink) → ((c : ℕ) → tied L c (f ∷ fs) ≤ 1) → (c : ℕ) → tied L c fs ≤ 1
  later_once f fs d c = by (open_name f.link fs) refl
    where
      by : (o : Option Name) → open_name f.link fs ≡ o → tied L c fs ≤ 1
      by None e = let t = tied_none L c f fs e in let o = d c in omega arith
      by (Some b) e =
          let rest = names_in (ties {L = L} fs) in
          let t = tied_some L c f fs b e in
          let v : count c rest ≤ count c (b.packed ∷ rest) = count_more c b.packed rest in
          let u : count c (b.packed ∷ rest) ≤ count c (f.name.packed ∷ (b.packed ∷ rest)) = count_more c f.name.packed (b.packed ∷ rest) in
          let o = d c in
          omega arith

-- Placing the connectors.

module _ {L : Type 0} (k : Kind L) (link : Name → ℕ) (ps : List ℕ) (limit : ℕ) (room : length ps ≤ limit) (links_are : (n : Name) → 0 < count n.packed ps → link n ≡ place n.packed ps) where
  -- the link of each name has become that of another
  pub record Became (b : List ℕ) (t : ℕ → ℕ) : Type 0 where
    pub long : length b ≡ limit
    pub is : (p : ℕ) → 0 < count p ps → become b (place p ps) ≡ place (t p) ps

  pub joined_became : (b : List ℕ) (t : ℕ → ℕ) (f s : Name) → Became b t → 0 < count f.packed ps → 0 < count s.packed ps → t f.packed ≡ f.packed → t s.packed ≡ s.packed → Became (joined (link f) (link s) b) (λ p. over f.packed (Some s) (t p))
  joined_became b t f s h lf ls ef es =
      let bf : become b (link f) ≡ place f.packed ps = ap (become b) (links_are f lf) ∙ (h.is f.packed lf ∙ ap (λ q. place q ps) ef) in
      let bs : become b (link s) ≡ place s.packed ps = ap (become b) (links_are s ls) ∙ (h.is s.packed ls ∙ ap (λ q. place q ps) es) in
      record {
        long = length-map b (put (become b (link f)) (become b (link s))) ∙ h.long;
        is = λ p l.
            let w = place_in p ps l in
            let n = h.long in
            get_or-map (put (become b (link f)) (become b (link s))) b (place p ps) (place p ps) (place p ps) (omega arith)
            ∙ (ap₂ (λ x y. put x y (become b (place p ps))) bf bs
            ∙ (ap (put (place f.packed ps) (place s.packed ps)) (h.is p l)
            ∙ put_place f.packed s.packed (t p) lf));
      }
    where
      put_place : (a c q : ℕ) → 0 < count a ps → put (place a ps) (place c ps) (place q ps) ≡ place (cond (eqb q a) c q) ps
      put_place a c q l =
          ⊎_elim
          (λ (e : q ≡ a). cond-true (eqb (place q ps) (place a ps)) _ _ (eq-eqb _ _ (ap (λ x. place x ps) e)) ∙ ap (λ x. place x ps) (sym (cond-true (eqb q a) c q (eq-eqb q a e))))
          (λ (e : q ≡ a → ⊥). cond-false (eqb (place q ps) (place a ps)) _ _ (ne_eqb _ _ (λ i. e (sym (place_same a q ps (sym i) (place_in a ps l))))) ∙ ap (λ x. place x ps) (sym (cond-false (eqb q a) c q (ne_eqb q a e))))
          (cases_eq q a)

  -- what the connectors leave, and what they make of links
  pub record Tied (p q : Placing L) (t : ℕ → ℕ) : Type 0 where
    pub atoms : q.atoms ≡ p.atoms
    pub cells : q.cells ≡ p.cells
    pub became : Became q.became t

  abbrev Goes : List FreeLink → Type 0
  Goes fs =
      (p : Placing L) (t : ℕ → ℕ) → ((c : ℕ) → tied L c fs ≤ 1) → ((c : ℕ) → 0 < tied L c fs → 0 < count c ps) → ((c : ℕ) → 0 < tied L c fs → t c ≡ c) → Became p.became t
      → Tied p (run k link p (ties fs)) (λ c. becomes fs (t c))

  tied_next : (f : FreeLink) (fs : List FreeLink) (o : Option Name) (p : Placing L) (t : ℕ → ℕ) → Goes fs → open_name f.link fs ≡ o → ((c : ℕ) → tied L c (f ∷ fs) ≤ 1) → ((c : ℕ) → 0 < tied L c (f ∷ fs) → 0 < count c ps) → ((c : ℕ) → 0 < tied L c (f ∷ fs) → t c ≡ c) → Became p.became t
      → Tied p (run k link p (tie f.name o ++ ties fs)) (λ c. becomes fs (over f.name.packed o (t c)))
  unfolding place_all stream
  tied_next f fs None p t ih e d w g h =
      ih p t (λ c. let n = tied_none L c f fs e in let a = d c in omega arith) (λ c l. w c (let n = tied_none L c f fs e in omega arith)) (λ c l. g c (let n = tied_none L c f fs e in omega arith)) h
  tied_next f fs (Some b) p t ih e d w g h =
      let a = f.name.packed in
      let rest = names_in (ties {L = L} fs) in
      let ta = tied_some L a f fs b e in
      let tb = tied_some L b.packed f fs b e in
      let ca = count_here a a (b.packed ∷ rest) refl in
      let cb = count_here b.packed b.packed rest refl in
      let cb' = count_more b.packed a (b.packed ∷ rest) in
      let la : 0 < tied L a (f ∷ fs) = omega arith in
      let lb : 0 < tied L b.packed (f ∷ fs) = omega arith in
      let q = place_one k link (place_one k link p (events.First f.name)) (events.Second b) in
      let u : ℕ → ℕ = λ c. over a (Some b) (t c) in
      let more : (c : ℕ) → 0 < tied L c fs → 0 < tied L c (f ∷ fs) =
      λ c l. (let n = tied_some L c f fs b e in let x : count c rest ≤ count c (b.packed ∷ rest) = count_more c b.packed rest in let y = count_more c a (b.packed ∷ rest) in omega arith) in
      let next : Became q.became u = joined_became p.became t f.name b h (w a la) (w b.packed lb) (g a la) (g b.packed lb) in
      let fixed : (c : ℕ) → 0 < tied L c fs → u c ≡ c =
      λ c l.
      let n = tied_some L c f fs b e in
      let x : count c rest ≤ count c (b.packed ∷ rest) = count_more c b.packed rest in
      let o = d c in
      let other : (c ≡ a → ⊥) = λ i. (let z = count_here c a (b.packed ∷ rest) i in omega arith) in
      ap (over a (Some b)) (g c (more c l)) ∙ over_other L a b c other in
      let done = ih q u (later_once L f fs d) (λ c l. w c (more c l)) fixed next in
      record { atoms = done.atoms; cells = done.cells; became = done.became }

  pub tied_all : (fs : List FreeLink) → Goes fs
  unfolding ties becomes place_all stream
  tied_all [] p t d w g h = record { atoms = refl; cells = refl; became = h }
  tied_all (f ∷ fs) p t d w g h = tied_next f fs (open_name f.link fs) p t (tied_all fs) refl d w g h
