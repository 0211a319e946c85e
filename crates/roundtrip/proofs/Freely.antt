-- The free links of the plan hung again: their open names, and the connectors between them.
use Rattle.std.proofs.Common.{◌≡◌, ℕ, ◌+◌, ◌<◌, ◌≤◌, eqb, List, [], ◌∷◌, ◌++◌, map, length, Some, None, Option, sym, refl, ap, ◌∙◌, ⊎_elim, append_assoc, append-nil, arith}
use Rattle.std.specs.List.{AllByRecursion as All}
use Rattle.std.proofs.lemmas.Bool.Decides.{nat_tests}
use Rattle.std.proofs.lemmas.Bool.{cases_eq, cond-true, cond_both, eq-eqb}
use Rattle.text.specs.declared.packed.Name.{Name}
use Rattle.grammar.specs.declared.event.Event.TheVariants as events
use Rattle.plan.specs.declared.tables.FreeLink.{FreeLink}
use Rattle.plan.specs.Sound.{count}
use Rattle.showing.specs.Shown.{open_name, place, joins, firsts, tie, ties}
use Rattle.grammar.specs.Events.{name_standings}
use Rattle.showing.specs.Reading.{names_in, stream}
use Rattle.showing.proofs.Totals.{count_append}
use Rattle.showing.proofs.Freed.{open_here, open_later, count_here, count_later, tied, tied_none, tied_some}
use Rattle.showing.proofs.Named.{place_same}
use Rattle.roundtrip.proofs.Preorder.{count_none, place_in}
use Rattle.roundtrip.proofs.Joined.{becomes, stays, stays_back, pair, later_same, later_once, count_more}

-- ** first standings

pub place_none : (x : ℕ) (xs : List ℕ) → count x xs ≡ 0 → place x xs ≡ length xs
unfolding place count
place_none x [] h = refl
place_none x (y ∷ ys) h = let ih = place_none x ys in grind (arith, nat_tests)

pub place_count : (x : ℕ) (xs : List ℕ) → place x xs < length xs → 0 < count x xs
unfolding place count
place_count x [] h = absurd (omega arith)
place_count x (y ∷ ys) h = let ih = place_count x ys in grind (arith, nat_tests)

joins_new : (x : ℕ) (xs : List ℕ) → count x xs ≡ 0 → joins xs x ≡ xs ++ (x ∷ [])
joins_new x xs h = cond-true (eqb (place x xs) (length xs)) _ _ (eq-eqb _ _ (place_none x xs h))

-- new numbers come last
pub firsts_new : (xs ys : List ℕ) → ((c : ℕ) → 0 < count c ys → count c xs + count c ys ≤ 1) → firsts xs ys ≡ xs ++ ys
unfolding firsts
firsts_new xs [] h = sym (append-nil xs)
firsts_new xs (y ∷ ys) h =
    let e = count_here y y ys refl in
    let o = h y (omega arith) in
    ap (λ t. firsts t ys) (joins_new y xs (omega arith))
    ∙ (firsts_new (xs ++ (y ∷ [])) ys (λ c l.
    let a = count_append c xs (y ∷ []) in
    let n = count_none c in
    let m = count_more c y ys in
    let z = h c (omega arith) in
    ⊎_elim
    (λ (i : c ≡ y). let u = count_here c y ys i in let v = count_here c y [] i in omega arith)
    (λ (i : c ≡ y → ⊥). let u = count_later c y ys i in let v = count_later c y [] i in omega arith)
    (cases_eq c y))
    ∙ append_assoc xs (y ∷ []) ys)

pub firsts_append : (xs ys zs : List ℕ) → firsts xs (ys ++ zs) ≡ firsts (firsts xs ys) zs
unfolding firsts
firsts_append xs [] zs = refl
firsts_append xs (y ∷ ys) zs = firsts_append (joins xs y) ys zs

-- what does not stand is not among them
pub firsts_none : (x : ℕ) (xs ys : List ℕ) → count x xs ≡ 0 → count x ys ≡ 0 → count x (firsts xs ys) ≡ 0
unfolding firsts
firsts_none x xs [] h g = h
firsts_none x xs (y ∷ ys) h g =
    let other : (x ≡ y → ⊥) = λ i. (let u = count_here x y ys i in omega arith) in
    let u = count_later x y ys other in
    firsts_none x (joins xs y) ys
    (cond_both (eqb (place y xs) (length xs)) (xs ++ (y ∷ [])) xs (λ zs. count x zs ≡ 0) (λ _. let a = count_append x xs (y ∷ []) in let v = count_later x y [] other in let n = count_none x in omega arith) (λ _. h))
    (omega arith)

module _ (L : Type 0) (ps : List ℕ) (gs : List FreeLink) where
  -- the free link of a name
  abbrev pub freed : ℕ → FreeLink
  freed p = record { name = record { packed = p }; link = place (becomes gs p) ps }

  pub open_present : (q : ℕ) (xs : List ℕ) → 0 < count q ps → becomes gs q ≡ q → ((p : ℕ) → becomes gs p ≡ q → p ≡ q) → 0 < count q xs → open_name (place q ps) (map freed xs) ≡ Some (record { packed = q })
  open_present q [] l s back h = let n = count_none q in absurd (omega arith)
  open_present q (x ∷ xs) l s back h =
      ⊎_elim
      (λ (e : place q ps ≡ place (becomes gs x) ps).
      let i : x ≡ q = back x (sym (place_same q (becomes gs x) ps e (place_in q ps l))) in
      open_here (place q ps) (freed x) (map freed xs) e ∙ ap (λ p. Some (record { packed = p })) i)
      (λ (e : place q ps ≡ place (becomes gs x) ps → ⊥).
      let other : (q ≡ x → ⊥) = λ i. e (ap (λ p. place p ps) (sym s ∙ ap (becomes gs) i)) in
      let c = count_later q x xs other in
      open_later (place q ps) (freed x) (map freed xs) e ∙ open_present q xs l s back (omega arith))
      (cases_eq (place q ps) (place (becomes gs x) ps))

  pub open_absent : (q : ℕ) (xs : List ℕ) → 0 < count q ps → ((p : ℕ) → 0 < count p xs → becomes gs p ≡ q → ⊥) → open_name (place q ps) (map freed xs) ≡ None
  unfolding open_name
  open_absent q [] l never = refl
  open_absent q (x ∷ xs) l never =
      let h = count_here x x xs refl in
      let other : (place q ps ≡ place (becomes gs x) ps → ⊥) = λ e. never x (omega arith) (sym (place_same q (becomes gs x) ps e (place_in q ps l))) in
      open_later (place q ps) (freed x) (map freed xs) other ∙ open_absent q xs l (λ p i. let m = count_more p x xs in never p (omega arith))

  -- a row alone on its link makes no connector
  tie_none : (f : FreeLink) (fs : List FreeLink) → open_name f.link fs ≡ None → ties {L = L} (f ∷ fs) ≡ ties fs
  unfolding ties
  tie_none f fs e = ap (λ o. tie f.name o ++ ties fs) e

  tie_some : (f : FreeLink) (fs : List FreeLink) (b : Name) → open_name f.link fs ≡ Some b → ties {L = L} (f ∷ fs) ≡ events.First f.name ∷ (events.Second b ∷ ties fs)
  unfolding ties
  tie_some f fs b e = ap (λ o. tie f.name o ++ ties fs) e

  pub ties_skip : (us ws : List ℕ) → All (λ u. (tied L u gs ≡ 0) × (0 < count u ps)) us → ((c : ℕ) → count c (us ++ ws) ≤ 1) → ties {L = L} (map freed (us ++ ws)) ≡ ties (map freed ws)
  ties_skip [] ws h d = refl
  ties_skip (u ∷ us) ws h d =
      let s = stays L u gs h.0.0 in
      let one = count_here u u (us ++ ws) refl in
      let o = d u in
      let none : open_name (place (becomes gs u) ps) (map freed (us ++ ws)) ≡ None =
      ap (λ p. open_name (place p ps) (map freed (us ++ ws))) s
      ∙ open_absent u (us ++ ws) h.0.1 (λ p l e. let i : count p (us ++ ws) ≡ count u (us ++ ws) = ap (λ p. count p (us ++ ws)) (stays_back L u p gs h.0.0 e) in omega arith) in
      tie_none (freed u) (map freed (us ++ ws)) none
      ∙ ties_skip us ws h.1 (λ c. let m = count_more c u (us ++ ws) in let w = d c in omega arith)

  abbrev standing : List FreeLink → List ℕ
  standing fs = names_in (ties {L = L} fs)

  standing_none : (f : FreeLink) (fs : List FreeLink) → open_name f.link fs ≡ None → standing (f ∷ fs) ≡ standing fs
  standing_none f fs e = ap names_in (tie_none f fs e)

  standing_some : (f : FreeLink) (fs : List FreeLink) (b : Name) → open_name f.link fs ≡ Some b → standing (f ∷ fs) ≡ f.name.packed ∷ (b.packed ∷ standing fs)
  unfolding stream name_standings
  standing_some f fs b e = ap names_in (tie_some f fs b e)

  abbrev Same : List FreeLink → Type 0
  Same fs = ((c : ℕ) → tied L c fs ≤ 1) → ((c : ℕ) → 0 < tied L c fs → becomes gs c ≡ becomes fs c) → ((c : ℕ) → 0 < tied L c fs → 0 < count c ps) → ties {L = L} (map freed (standing fs)) ≡ ties fs

  ties_next : (f : FreeLink) (fs : List FreeLink) (o : Option Name) → open_name f.link fs ≡ o → Same fs → Same (f ∷ fs)
  ties_next f fs None e ih d g w =
      ap (λ xs. ties {L = L} (map freed xs)) (standing_none f fs e)
      ∙ (ih (later_once L f fs d) (λ c l. g c (let n = tied_none L c f fs e in omega arith) ∙ later_same L f fs c d l) (λ c l. w c (let n = tied_none L c f fs e in omega arith))
      ∙ sym (tie_none f fs e))
  ties_next f fs (Some b) e ih d g w =
      let a = f.name.packed in
      let rest = standing fs in
      let ta = tied_some L a f fs b e in
      let tb = tied_some L b.packed f fs b e in
      let ca = count_here a a (b.packed ∷ rest) refl in
      let cb = count_here b.packed b.packed rest refl in
      let cb' = count_more b.packed a (b.packed ∷ rest) in
      let la : 0 < tied L a (f ∷ fs) = omega arith in
      let lb : 0 < tied L b.packed (f ∷ fs) = omega arith in
      let more : (c : ℕ) → 0 < tied L c fs → 0 < tied L c (f ∷ fs) =
      λ c l. (let n = tied_some L c f fs b e in let x : count c rest ≤ count c (b.packed ∷ rest) = count_more c b.packed rest in let y = count_more c a (b.packed ∷ rest) in omega arith) in
      let both = pair L f fs b d e in
      let xa : becomes gs a ≡ b.packed = g a la ∙ both.0 in
      let xb : becomes gs b.packed ≡ b.packed = g b.packed lb ∙ both.1.0 in
      let z : tied L b.packed fs ≡ 0 = both.1.1 in
      let r = map freed rest in
      let first : open_name (place (becomes gs a) ps) (freed b.packed ∷ r) ≡ Some b = open_here (place (becomes gs a) ps) (freed b.packed) r (ap (λ p. place p ps) (xa ∙ sym xb)) in
      let second : open_name (place (becomes gs b.packed) ps) r ≡ None =
      ap (λ p. open_name (place p ps) r) xb
      ∙ open_absent b.packed rest (w b.packed lb) (λ p l i.
      let same : becomes fs p ≡ b.packed = sym (later_same L f fs p d l) ∙ (sym (g p (more p l)) ∙ i) in
      let q : count p rest ≡ count b.packed rest = ap (λ p. count p rest) (stays_back L b.packed p fs z same) in
      omega arith) in
      let done = ih (later_once L f fs d) (λ c l. g c (more c l) ∙ later_same L f fs c d l) (λ c l. w c (more c l)) in
      ap (λ xs. ties {L = L} (map freed xs)) (standing_some f fs b e)
      ∙ (tie_some (freed a) (freed b.packed ∷ r) b first
      ∙ (ap (λ t. events.First f.name ∷ (events.Second b ∷ t)) (tie_none (freed b.packed) r second ∙ done)
      ∙ sym (tie_some f fs b e)))

  pub ties_same : (fs : List FreeLink) → Same fs
  unfolding ties stream name_standings
  ties_same [] d g w = refl
  ties_same (f ∷ fs) d g w = ties_next f fs (open_name f.link fs) refl (ties_same fs) d g w
