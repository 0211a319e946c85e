-- The cells of a sound plan in the order of a walk.
use Rattle.std.proofs.lemmas.List.Elements.{filter-append}
use Rattle.std.proofs.Common.{◌≡◌, ℕ, zero, suc, ◌+◌, ◌<◌, ◌≤◌, Bool, true, cond, eqb, List, [], ◌∷◌, ◌++◌, map, length, get_or, Some, None, filter, sym, refl, ap, ◌∙◌, ap₂, ⊎_elim, append_assoc, append-nil, arith, length-append}
use Rattle.std.specs.List.{AllByRecursion as All}
use Rattle.std.proofs.lemmas.Bool.Decides.{nat_tests}
use Rattle.std.proofs.lemmas.Bool.{cases_lt, cases_eq, cond-true, cond-false, eq-eqb, ne_eqb}
use Rattle.plan.specs.declared.tables.Cell.{Cell}
use Rattle.plan.specs.Sound.{count, leads, rows}
use Rattle.std.specs.List.{flat_map}
use Rattle.showing.specs.Walk.{has_parent, cells_in}
use Rattle.showing.specs.Shown.{place}
use Rattle.showing.proofs.Totals.{count_append, all_kept, all_rows, all_weaker}
use Rattle.showing.proofs.Visits.{parent, visits}
use Rattle.showing.proofs.Freed.{count_here, count_later}
use Rattle.showing.proofs.Runs.{Deep, deep_most, has_parent_is}

-- ** places in a list

pub count_none : (x : ℕ) → count x [] ≡ 0
unfolding count
count_none x = refl

pub place_in : (x : ℕ) (xs : List ℕ) → 0 < count x xs → place x xs < length xs
unfolding place count
place_in x [] h = absurd (omega arith)
place_in x (y ∷ ys) h = let ih = place_in x ys in grind (arith, nat_tests)

pub place_past : (x : ℕ) (pre post : List ℕ) → count x pre ≡ 0 → place x (pre ++ (x ∷ post)) ≡ length pre
unfolding place count
place_past x [] post h = grind (arith, nat_tests)
place_past x (y ∷ pre) post h = let ih = place_past x pre post in grind (arith, nat_tests)

pub getD_place : {A : Type 0} (g : ℕ → A) (d : A) (x : ℕ) (xs : List ℕ) → 0 < count x xs → get_or (map g xs) (place x xs) d ≡ g x
unfolding place count
getD_place g d x [] h = absurd (omega arith)
getD_place g d x (y ∷ ys) h =
    ⊎_elim
    (λ (e : x ≡ y). ap (λ i. get_or (map g (y ∷ ys)) i d) (cond-true (eqb x y) 0 (suc (place x ys)) (eq-eqb x y e)) ∙ ap g (sym e))
    (λ (e : x ≡ y → ⊥). ap (λ i. get_or (map g (y ∷ ys)) i d) (cond-false (eqb x y) 0 (suc (place x ys)) (ne_eqb x y e)) ∙ getD_place g d x ys (grind (arith, nat_tests)))
    (cases_eq x y)

-- the places of a list's numbers, where no number stands twice
places_from : (v pre xs : List ℕ) → v ≡ pre ++ xs → ((x : ℕ) → count x v ≤ 1) → map (λ x. place x v) xs ≡ rows (length pre) (length xs)
unfolding rows
places_from v pre [] e d = refl
places_from v pre (x ∷ xs) e d =
    let c = count_append x pre (x ∷ xs) in
    let o = d x in
    let w : count x v ≡ count x (pre ++ (x ∷ xs)) = ap (count x) e in
    let h = count_here x x xs refl in
    let n = length-append pre (x ∷ []) in
    let here : place x v ≡ length pre = ap (place x) e ∙ place_past x pre xs (omega arith) in
    let ih = places_from v (pre ++ (x ∷ [])) xs (e ∙ sym (append_assoc pre (x ∷ []) xs)) d in
    let n' : length (pre ++ (x ∷ [])) ≡ suc (length pre) = omega arith in
    ap₂ (λ a b. a ∷ b) here (ih ∙ ap (λ i. rows i (length xs)) n')

pub places : (v : List ℕ) → ((x : ℕ) → count x v ≤ 1) → map (λ x. place x v) v ≡ rows 0 (length v)
places v d = places_from v [] v refl d

-- ** what is kept

pub kept_alike : {A : Type 0} (p q : A → Bool) (xs : List A) → All (λ x. p x ≡ q x) xs → filter p xs ≡ filter q xs
kept_alike p q [] h = refl
kept_alike p q (x ∷ xs) h = ap₂ (λ v t. cond v (x ∷ t) t) h.0 (kept_alike p q xs h.1)

-- ** the cells below a cell

module _ (cells : List Cell) where
  -- a walk of so many levels from a cell reaches all below it
  abbrev pub Enough : ℕ → ℕ → Type 0
  Enough zero c = ⊥
  Enough (suc n) c = All (Enough n) (cells_in c cells)

  pub inner : (c : ℕ) → All (λ r. (r < length cells) × (parent cells r ≡ Some c)) (cells_in c cells)
  inner c =
      all_weaker (λ r. (r < 0 + length cells) × (has_parent c (parent cells r) ≡ true)) (λ r. (r < length cells) × (parent cells r ≡ Some c)) (cells_in c cells)
      (λ r h. (let l = h.0 in omega arith, has_parent_is c (parent cells r) h.1))
      (all_kept (λ r. r < 0 + length cells) (λ r. has_parent c (parent cells r)) (rows 0 (length cells)) (all_rows 0 (length cells)))

  pub enough : parent cells 0 ≡ None → ((i : ℕ) → i < length cells → leads 16 cells i ≡ true) → (n d c : ℕ) → d + n ≡ 17 → Deep cells d c → c < length cells → Enough n c
  enough top lead zero d c e deep l = let m = deep_most cells d 16 c top deep (lead c l) in omega arith
  enough top lead (suc n) d c e deep l =
      all_weaker (λ r. (r < length cells) × (parent cells r ≡ Some c)) (Enough n) (cells_in c cells)
      (λ r h. enough top lead n (suc d) r (omega arith) (c, (h.1, deep)) h.0)
      (inner c)

  module _ (c : ℕ) where
    -- the cells of the cell, among others
    abbrev own : List ℕ → List ℕ
    own xs = filter (λ r. has_parent c (parent cells r)) xs

    abbrev Below : ℕ → ℕ → Type 0
    Below n r = (count c (visits cells (suc n) r) ≡ 0 → own (flat_map (visits cells n) (cells_in r cells)) ≡ []) × (count c (visits cells (suc n) r) ≡ 1 → own (flat_map (visits cells n) (cells_in r cells)) ≡ cells_in c cells)

    own_first : (x : ℕ) (xs : List ℕ) → parent cells x ≡ Some c → own (x ∷ xs) ≡ x ∷ own xs
    own_first x xs h = cond-true (has_parent c (parent cells x)) _ _ (ap (has_parent c) h ∙ eq-eqb c c refl)

    own_other : (x d : ℕ) (xs : List ℕ) → (d ≡ c → ⊥) → parent cells x ≡ Some d → own (x ∷ xs) ≡ own xs
    own_other x d xs n h = cond-false (has_parent c (parent cells x)) _ _ (ap (has_parent c) h ∙ ne_eqb d c n)

    visits_split : (n x : ℕ) (rest : List ℕ) → count c (visits cells (suc n) x ++ rest) ≡ count c (visits cells (suc n) x) + count c rest
    visits_split n x rest = count_append c (visits cells (suc n) x) rest

    -- through cells of the cell
    own_inner : (n : ℕ) (xs : List ℕ) → ((r : ℕ) → Enough (suc n) r → Below n r) → All (λ r. parent cells r ≡ Some c) xs → All (Enough (suc n)) xs → count c (flat_map (visits cells (suc n)) xs) ≡ 0 → own (flat_map (visits cells (suc n)) xs) ≡ xs
    unfolding visits
    own_inner n [] ih h g z = refl
    own_inner n (x ∷ xs) ih h g z =
        let s = visits_split n x (flat_map (visits cells (suc n)) xs) in
        let t = flat_map (visits cells n) (cells_in x cells) in
        own_first x (t ++ flat_map (visits cells (suc n)) xs) h.0
        ∙ ap (λ w. x ∷ w) (filter-append (λ r. has_parent c (parent cells r)) t (flat_map (visits cells (suc n)) xs)
        ∙ ap₂ (λ a b. a ++ b) ((ih x g.0).0 (omega arith)) (own_inner n xs ih h.1 g.1 (omega arith)))

    -- through cells of another
    own_apart : (n d : ℕ) (xs : List ℕ) → (d ≡ c → ⊥) → ((r : ℕ) → Enough (suc n) r → Below n r) → All (λ r. parent cells r ≡ Some d) xs → All (Enough (suc n)) xs → (count c (flat_map (visits cells (suc n)) xs) ≡ 0 → own (flat_map (visits cells (suc n)) xs) ≡ []) × (count c (flat_map (visits cells (suc n)) xs) ≡ 1 → own (flat_map (visits cells (suc n)) xs) ≡ cells_in c cells)
    unfolding visits
    own_apart n d [] a ih h g = (λ z. refl, λ z. absurd (none z))
      where
        none : count c [] ≡ 1 → ⊥
        none z = let e = count_none c in omega arith
    own_apart n d (x ∷ xs) a ih h g =
        let rest = flat_map (visits cells (suc n)) xs in
        let s = visits_split n x rest in
        let t = flat_map (visits cells n) (cells_in x cells) in
        let e : own (visits cells (suc n) x ++ rest) ≡ own t ++ own rest = own_other x d (t ++ rest) a h.0 ∙ filter-append (λ r. has_parent c (parent cells r)) t rest in
        let first = ih x g.0 in
        let later = own_apart n d xs a ih h.1 g.1 in (
          λ z. e ∙ ap₂ (λ a b. a ++ b) (first.0 (omega arith)) (later.0 (omega arith)),
          λ z.
              ⊎_elim
              (λ (l : 0 < count c (visits cells (suc n) x)). e ∙ (ap₂ (λ a b. a ++ b) (first.1 (omega arith)) (later.0 (omega arith)) ∙ append-nil (cells_in c cells)))
              (λ (l : count c (visits cells (suc n) x) ≤ 0). e ∙ ap₂ (λ a b. a ++ b) (first.0 (omega arith)) (later.1 (omega arith)))
              (cases_lt 0 (count c (visits cells (suc n) x))),
        )

    flat_none : (xs : List ℕ) → flat_map (visits cells 0) xs ≡ []
    unfolding visits
    flat_none [] = refl
    flat_none (x ∷ xs) = flat_none xs

    all_never : (xs : List ℕ) → All (Enough 0) xs → xs ≡ []
    all_never [] h = refl
    all_never (x ∷ xs) h = absurd h.0

    pub below : (n r : ℕ) → Enough (suc n) r → Below n r
    unfolding visits
    below zero r g =
        let t = flat_map (visits cells 0) (cells_in r cells) in
        let e = flat_none (cells_in r cells) in (
          λ z. ap own e,
          λ z.
              ⊎_elim
              (λ (i : c ≡ r). ap own e ∙ sym (ap (λ q. cells_in q cells) i ∙ all_never (cells_in r cells) g))
              (λ (i : c ≡ r → ⊥). let l = count_later c r t i in let n = ap (count c) e ∙ count_none c in absurd (omega arith))
              (cases_eq c r),
        )
    below (suc n) r g =
        let t = flat_map (visits cells (suc n)) (cells_in r cells) in
        ⊎_elim
        (λ (i : c ≡ r).
        let l = count_here c r t i in (
          λ z. absurd (omega arith),
          λ z.
              own_inner n (cells_in r cells) (λ q w. below n q w) (all_weaker (λ q. (q < length cells) × (parent cells q ≡ Some r)) (λ q. parent cells q ≡ Some c) (cells_in r cells) (λ q h. h.1 ∙ ap Some (sym i)) (inner r)) g (omega arith)
              ∙ ap (λ q. cells_in q cells) (sym i),
        ))
        (λ (i : c ≡ r → ⊥).
        let l = count_later c r t i in
        let both = own_apart n r (cells_in r cells) (λ j. i (sym j)) (λ q w. below n q w) (all_weaker (λ q. (q < length cells) × (parent cells q ≡ Some r)) (λ q. parent cells q ≡ Some r) (cells_in r cells) (λ q h. h.1) (inner r)) g in
        (λ z. both.0 (omega arith), λ z. both.1 (omega arith)))
        (cases_eq c r)
