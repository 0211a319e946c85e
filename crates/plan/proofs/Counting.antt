-- Counting the ends of links.
use Rattle.std.proofs.Common.{◌≡◌, ℕ, zero, suc, ◌+◌, ◌<◌, ◌≤◌, Bool, true, false, cond, ◌&&◌, eqb, ltb, List, [], ◌∷◌, ◌++◌, map, length, get_or, set, replicate, sym, refl, ap, ap₂, ◌∙◌, ⊎_elim, arith, length-set, get_or-set_other, get_or-set_same}
use lib.ListN.{length-replicate}
use Rattle.std.proofs.lemmas.Bool.{and_left, cases_lt, le-ltb, lt-ltb}
use Rattle.std.proofs.lemmas.Bool.Decides.{nat_tests}
use Rattle.plan.specs.declared.tables.Atom.{Atom}
use Rattle.plan.specs.declared.tables.FreeLink.{FreeLink}
use Rattle.plan.specs.Model.{node_of}
use Rattle.std.proofs.lemmas.List.Folds.{flat_map-map, list_all-append, list_all-map}
use Rattle.std.proofs.lemmas.List.Sums.{fold-append}
use Rattle.std.specs.List.{flat_map, list_all}
use Rattle.plan.specs.Sound.{count, port_links}
use Rattle.plan.specs.Tally.{bumped, tallied, is_twice}
use Rattle.plan.specs.Tests.{links_test}
use Rattle.plan.proofs.Each.{each_alike, each_both}

pub tallied_append : (s t counts : List ℕ) → tallied (s ++ t) counts ≡ tallied t (tallied s counts)
unfolding tallied
tallied_append s t counts = fold-append (λ n x. bumped x n) counts s t

-- the counters say how often a link stands
pub length_bumped : (y : ℕ) (counts : List ℕ) → length (bumped y counts) ≡ length counts
length_bumped y counts =
    elim (ltb y (length counts) && ltb (get_or counts y 0) 3) as (λ v. length (cond v (set counts y (get_or counts y 0 + 1)) counts) ≡ length counts) [
      | true ↦ length-set counts y _
      | false ↦ refl
    ]

pub length_tallied : (s counts : List ℕ) → length (tallied s counts) ≡ length counts
unfolding tallied
length_tallied [] counts = refl
length_tallied (x ∷ s) counts = length_tallied s (bumped x counts) ∙ length_bumped x counts

pub bumped_other : (x y : ℕ) (counts : List ℕ) → (x ≡ y → ⊥) → get_or (bumped y counts) x 0 ≡ get_or counts x 0
bumped_other x y counts h =
    elim (ltb y (length counts) && ltb (get_or counts y 0) 3) as (λ v. get_or (cond v (set counts y (get_or counts y 0 + 1)) counts) x 0 ≡ get_or counts x 0) [
      | true ↦ get_or-set_other counts y x _ 0 h
      | false ↦ refl
    ]

bumped_same : (y : ℕ) (counts : List ℕ) → y < length counts → get_or counts y 0 ≤ 3 → get_or (bumped y counts) y 0 ≡ cond (ltb (get_or counts y 0) 3) (get_or counts y 0 + 1) (get_or counts y 0)
bumped_same y counts h k =
    let same = get_or-set_same counts y (get_or counts y 0 + 1) 0 h in
    let t : ltb y (length counts) ≡ true = lt-ltb y (length counts) h in
    ap (λ v. get_or (cond (v && ltb (get_or counts y 0) 3) (set counts y (get_or counts y 0 + 1)) counts) y 0) t
    ∙ elim (ltb (get_or counts y 0) 3) as (λ v. get_or (cond v (set counts y (get_or counts y 0 + 1)) counts) y 0 ≡ cond v (get_or counts y 0 + 1) (get_or counts y 0)) [
      | true ↦ same
      | false ↦ refl
    ]

pub bumped_here : (x y : ℕ) (counts : List ℕ) → x ≡ y → x < length counts → get_or counts x 0 ≤ 3 → get_or (bumped y counts) x 0 ≡ cond (ltb (get_or counts x 0) 3) (get_or counts x 0 + 1) (get_or counts x 0)
bumped_here x y counts e h k = ap (λ z. get_or (bumped z counts) x 0) (sym e) ∙ bumped_same x counts h k

-- one end more, as numbers: n before, m after, j in what follows
one_end : (x y n m j : ℕ) (t : Bool) → n ≤ 3 → (x ≡ y → m ≡ cond (ltb n 3) (n + 1) n) → ((x ≡ y → ⊥) → m ≡ n) → (m ≤ 3 → t ≡ eqb (m + j) 2) → t ≡ eqb (n + cond (eqb x y) (suc j) j) 2
one_end x y n m j t k same other ih = grind (arith, nat_tests)

pub tallied_right : (s counts : List ℕ) (x : ℕ) → x < length counts → get_or counts x 0 ≤ 3 → eqb (get_or (tallied s counts) x 0) 2 ≡ eqb (get_or counts x 0 + count x s) 2
unfolding tallied count
tallied_right [] counts x h k = ap (λ n. eqb n 2) (omega arith)
tallied_right (y ∷ s) counts x h k =
    let l = length_bumped y counts in
    let near : x < length (bumped y counts) = omega arith in
    one_end x y (get_or counts x 0) (get_or (bumped y counts) x 0) (count x s) (eqb (get_or (tallied s (bumped y counts)) x 0) 2) k
    (λ e. bumped_here x y counts e h k) (bumped_other x y counts) (tallied_right s (bumped y counts) x near)

-- the counters begin at zero
pub zero_at : (n x : ℕ) → ◌≡◌ {A = ℕ} (get_or (replicate n 0) x 0) 0
zero_at zero x = refl
zero_at (suc n) zero = refl
zero_at (suc n) (suc x) = zero_at n x

pub is_twice_right : (s : List ℕ) (x : ℕ) → is_twice (tallied s (replicate 8256 0)) x ≡ (ltb x 8256 && eqb (count x s) 2)
is_twice_right s x =
    let l : length (tallied s (replicate 8256 0)) ≡ 8256 = length_tallied s (replicate 8256 0) ∙ length-replicate {A = ℕ} 8256 0 in
    let r = length-replicate {A = ℕ} 8256 0 in
    let z = zero_at 8256 x in
    ap (λ n. ltb x n && eqb (get_or (tallied s (replicate 8256 0)) x 0) 2) l
    ∙ ⊎_elim
    (λ (h : x < 8256). ap (λ b. ltb x 8256 && b) (tallied_right s (replicate 8256 0) x (omega arith) (omega arith) ∙ ap (λ n. eqb n 2) (omega arith)))
    (λ (h : 8256 ≤ x). and_left (ltb x 8256) _ (le-ltb x 8256 h) ∙ sym (and_left (ltb x 8256) _ (le-ltb x 8256 h)))
    (cases_lt x 8256)

-- the ends of a plan, atom by atom and then the free links
ports_split : {L : Type 0} (p : ℕ → Bool) (atoms : List (Atom L)) → list_all p (flat_map (λ a. (node_of a).links) atoms) ≡ list_all (λ a. list_all p (node_of a).links) atoms
ports_split p [] = refl
ports_split p (a ∷ atoms) =
    list_all-append p (node_of a).links (flat_map (λ b. (node_of b).links) atoms)
    ∙ ap (λ t. list_all p (node_of a).links && t) (ports_split p atoms)

pub ends_split : {L : Type 0} (p : ℕ → Bool) (atoms : List (Atom L)) (free : List FreeLink) → list_all p (flat_map (λ a. (node_of a).links) atoms ++ map (λ f. f.link) free) ≡ (list_all (λ a. list_all p (node_of a).links) atoms && list_all (λ f. p f.link) free)
ends_split p atoms free =
    list_all-append p (flat_map (λ a. (node_of a).links) atoms) (map (λ f. f.link) free)
    ∙ ap₂ (λ s t. s && t) (ports_split p atoms) (list_all-map p (λ f. f.link) free)

pub links_right : {L : Type 0} (atoms : List (Atom L)) (free : List FreeLink) (counts : List ℕ) → counts ≡ tallied (map (λ f. f.link) free) (tallied (port_links (map node_of atoms)) (replicate 8256 0)) → list_all (is_twice counts) (flat_map (λ a. (node_of a).links) atoms ++ map (λ f. f.link) free) ≡ links_test (map node_of atoms) free
unfolding port_links
links_right atoms free counts e =
    let ports = port_links (map node_of atoms) in
    let links = map (λ f. f.link) free in
    let s = ports ++ links in
    let zeros = replicate 8256 0 in
    ap (λ t. list_all (is_twice counts) (t ++ links)) (sym (flat_map-map (λ n. n.links) node_of atoms))
    ∙ each_alike (is_twice counts) (λ x. ltb x 8256 && eqb (count x s) 2) (λ x. ap (λ t. is_twice t x) (e ∙ sym (tallied_append ports links zeros)) ∙ is_twice_right s x) s
    ∙ each_both (λ x. ltb x 8256) (λ x. eqb (count x s) 2) s
