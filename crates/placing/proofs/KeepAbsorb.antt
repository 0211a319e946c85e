-- Absorbing connectors leaves each link with two ends.
use Rattle.std.proofs.Common.{◌≡◌, ℕ, zero, suc, ◌+◌, ◌<◌, ◌≤◌, true, false, cond, ◌&&◌, eqb, ltb, List, [], ◌∷◌, ◌++◌, map, length, get_or, sym, refl, ap, ◌∙◌, subst, ap₂, arith}
use Rattle.std.proofs.lemmas.List.{get_or-map, length-map, map-append}
use Rattle.std.proofs.lemmas.Bool.{and_from, and_parts, lt-ltb, ltb-true}
use Rattle.std.proofs.lemmas.Bool.Decides.{nat_tests}
use Rattle.plan.specs.declared.tables.FreeLink.{FreeLink}
use Rattle.plan.specs.Model.{Node}
use Rattle.std.specs.List.{list_all}
use Rattle.plan.specs.Sound.{count, port_links, rows}
use Rattle.placing.specs.Placing.{become, joined, put, refreed, relinked}

-- what stands stands twice
abbrev pub Twice : List ℕ → Type 0
Twice xs = (x : ℕ) → 0 < count x xs → count x xs ≡ 2

-- the ends that connectors join, in order
unfoldable pub flat : List (ℕ × ℕ) → List ℕ
flat [] = []
flat (c ∷ cs) = c.0 ∷ (c.1 ∷ flat cs)

-- what links have become by connectors
unfoldable pub joined_all : List (ℕ × ℕ) → List ℕ → List ℕ
joined_all [] became = became
joined_all (c ∷ cs) became = joined_all cs (joined c.0 c.1 became)

-- ** one link put for another

swap_other : (x y a : ℕ) (xs : List ℕ) → (a ≡ x → ⊥) → (a ≡ y → ⊥) → count a (map (put x y) xs) ≡ count a xs
unfolding count
swap_other x y a [] h k = refl
swap_other x y a (z ∷ zs) h k = let ih = swap_other x y a zs h k in grind (arith, nat_tests)

swap_gone : (x y : ℕ) (xs : List ℕ) → (x ≡ y → ⊥) → count x (map (put x y) xs) ≡ 0
unfolding count
swap_gone x y [] h = refl
swap_gone x y (z ∷ zs) h = let ih = swap_gone x y zs h in grind (arith, nat_tests)

swap_joined : (x y : ℕ) (xs : List ℕ) → (x ≡ y → ⊥) → count y (map (put x y) xs) ≡ count x xs + count y xs
unfolding count
swap_joined x y [] h = refl
swap_joined x y (z ∷ zs) h = let ih = swap_joined x y zs h in grind (arith, nat_tests)

swap_same : (x a : ℕ) (xs : List ℕ) → count a (map (put x x) xs) ≡ count a xs
unfolding count
swap_same x a [] = refl
swap_same x a (z ∷ zs) = let ih = swap_same x a zs in grind (arith, nat_tests)

twice_swap : (x y : ℕ) (xs : List ℕ) → Twice (x ∷ (y ∷ xs)) → Twice (map (put x y) xs)
unfolding count
twice_swap x y xs h a =
    let ha = h a in
    let hx = h x in
    let hy = h y in
    let same = λ (e : x ≡ y). swap_same x a xs in
    let other = swap_other x y a xs in
    let gone = swap_gone x y xs in
    let joins = swap_joined x y xs in
    grind (arith, nat_tests)

-- ** through the table

pub become_joined : (x y : ℕ) (b : List ℕ) (z : ℕ) → z < length b → become (joined x y b) z ≡ put (become b x) (become b y) (become b z)
become_joined x y b z l = get_or-map (put (become b x) (become b y)) b z z z l

become_all : (x y : ℕ) (b xs : List ℕ) → list_all (λ z. ltb z (length b)) xs ≡ true → map (become (joined x y b)) xs ≡ map (put (become b x) (become b y)) (map (become b) xs)
become_all x y b [] h = refl
become_all x y b (z ∷ zs) h =
    let both = and_parts (ltb z (length b)) (list_all (λ z. ltb z (length b)) zs) h in
    ap₂ (λ t ts. t ∷ ts) (become_joined x y b z (ltb-true z (length b) both.0)) (become_all x y b zs both.1)

pub length_joined : (x y : ℕ) (b : List ℕ) → length (joined x y b) ≡ length b
length_joined x y b = length-map b (put (become b x) (become b y))

-- connectors absorbed one after another
pub absorbs : (cs : List (ℕ × ℕ)) (es b : List ℕ) → list_all (λ z. ltb z (length b)) (flat cs ++ es) ≡ true → Twice (map (become b) (flat cs ++ es)) → Twice (map (become (joined_all cs b)) es)
unfolding flat joined_all
absorbs [] es b h t = t
absorbs (c ∷ cs) es b h t =
    let x = c.0 in
    let y = c.1 in
    let first = and_parts (ltb x (length b)) (ltb y (length b) && list_all (λ z. ltb z (length b)) (flat cs ++ es)) h in
    let rest = (and_parts (ltb y (length b)) (list_all (λ z. ltb z (length b)) (flat cs ++ es)) first.1).1 in
    let n = length_joined x y b in
    absorbs cs es (joined x y b) (ap (λ m. list_all (λ z. ltb z m) (flat cs ++ es)) n ∙ rest)
    (subst Twice (sym (become_all x y b (flat cs ++ es) rest)) (twice_swap (become b x) (become b y) (map (become b) (flat cs ++ es)) t))

-- ** no link passes the limit

below : (n : ℕ) (b : List ℕ) (i d : ℕ) → list_all (λ x. ltb x n) b ≡ true → i < length b → ltb (get_or b i d) n ≡ true
below n [] i d h l = absurd (omega arith)
below n (x ∷ b) zero d h l = (and_parts (ltb x n) (list_all (λ x. ltb x n) b) h).0
below n (x ∷ b) (suc i) d h l = below n b i d (and_parts (ltb x n) (list_all (λ x. ltb x n) b) h).1 (omega arith)

become_below : (n : ℕ) (b : List ℕ) (z : ℕ) → list_all (λ x. ltb x n) b ≡ true → z < length b → ltb (become b z) n ≡ true
become_below n b z h l = below n b z z h l

map_put_below : (n x y : ℕ) (b : List ℕ) → ltb y n ≡ true → list_all (λ z. ltb z n) b ≡ true → list_all (λ z. ltb z n) (map (put x y) b) ≡ true
map_put_below n x y [] k h = refl
map_put_below n x y (z ∷ b) k h =
    let both = and_parts (ltb z n) (list_all (λ z. ltb z n) b) h in
    let here = both.0 in
    let ih = map_put_below n x y b k both.1 in
    and_from (ltb (put x y z) n) _ (elim (eqb z x) as (λ v. ltb (cond v y z) n ≡ true) [ true ↦ k | false ↦ here ]) ih

map_below : (n : ℕ) (b xs : List ℕ) → list_all (λ x. ltb x n) b ≡ true → list_all (λ z. ltb z (length b)) xs ≡ true → list_all (λ z. ltb z n) (map (become b) xs) ≡ true
map_below n b [] h k = refl
map_below n b (x ∷ xs) h k =
    let both = and_parts (ltb x (length b)) (list_all (λ z. ltb z (length b)) xs) k in
    and_from (ltb (become b x) n) _ (become_below n b x h (ltb-true x (length b) both.0)) (map_below n b xs h both.1)

pub absorbs_below : (n : ℕ) (cs : List (ℕ × ℕ)) (es b : List ℕ) → list_all (λ x. ltb x n) b ≡ true → list_all (λ z. ltb z (length b)) (flat cs ++ es) ≡ true → list_all (λ z. ltb z n) (map (become (joined_all cs b)) es) ≡ true
unfolding flat joined_all
absorbs_below n [] es b k h = map_below n b es k h
absorbs_below n (c ∷ cs) es b k h =
    let x = c.0 in
    let y = c.1 in
    let first = and_parts (ltb x (length b)) (ltb y (length b) && list_all (λ z. ltb z (length b)) (flat cs ++ es)) h in
    let second = and_parts (ltb y (length b)) (list_all (λ z. ltb z (length b)) (flat cs ++ es)) first.1 in
    let m = length_joined x y b in
    absorbs_below n cs es (joined x y b)
    (map_put_below n (become b x) (become b y) b (become_below n b y k (ltb-true y (length b) second.0)) k)
    (ap (λ m. list_all (λ z. ltb z m) (flat cs ++ es)) m ∙ second.1)

-- ** at first no link has become another

rows_at : (j n i : ℕ) → get_or (rows j n) i (j + i) ≡ j + i
unfolding rows
rows_at j zero i = refl
rows_at j (suc n) zero = omega arith
rows_at j (suc n) (suc i) = let e : j + suc i ≡ suc j + i = omega arith in rw e (rows_at (suc j) n i)

pub become_rows : (n x : ℕ) → become (rows 0 n) x ≡ x
become_rows n x = let e : 0 + x ≡ x = omega arith in subst (λ (y : ℕ). get_or (rows 0 n) x y ≡ y) e (rows_at 0 n x)

pub map_rows : (n : ℕ) (xs : List ℕ) → map (become (rows 0 n)) xs ≡ xs
map_rows n [] = refl
map_rows n (x ∷ xs) = ap₂ (λ t ts. t ∷ ts) (become_rows n x) (map_rows n xs)

pub length_rows : (j n : ℕ) → length (rows j n) ≡ n
unfolding rows
length_rows j zero = refl
length_rows j (suc n) = ap suc (length_rows (suc j) n)

pub rows_below : (j n m : ℕ) → j + n ≤ m → list_all (λ x. ltb x m) (rows j n) ≡ true
unfolding rows
rows_below j zero m h = refl
rows_below j (suc n) m h = and_from (ltb j m) _ (lt-ltb j m (omega arith)) (rows_below (suc j) n m (omega arith))

-- ** the ends of a plan

pub ports_relinked : {L : Type 0} (b : List ℕ) (atoms : List (Node L)) → port_links (map (relinked b) atoms) ≡ map (become b) (port_links atoms)
unfolding port_links
ports_relinked b [] = refl
ports_relinked b (a ∷ atoms) =
    ap (λ t. map (become b) a.links ++ t) (ports_relinked b atoms) ∙ sym (map-append (become b) a.links (port_links atoms))

free_relinked : (b : List ℕ) (free : List FreeLink) → map (λ f. f.link) (map (refreed b) free) ≡ map (become b) (map (λ f. f.link) free)
free_relinked b [] = refl
free_relinked b (f ∷ fs) = ap (λ t. become b f.link ∷ t) (free_relinked b fs)

pub ends_absorbed : {L : Type 0} (b : List ℕ) (atoms : List (Node L)) (free : List FreeLink) → (port_links (map (relinked b) atoms) ++ map (λ f. f.link) (map (refreed b) free)) ≡ map (become b) (port_links atoms ++ map (λ f. f.link) free)
ends_absorbed b atoms free =
    ap₂ ◌++◌ (ports_relinked b atoms) (free_relinked b free) ∙ sym (map-append (become b) (port_links atoms) (map (λ f. f.link) free))
