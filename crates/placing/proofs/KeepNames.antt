-- What the names of a text do to the ends of a plan's links.
use Rattle.std.proofs.Common.{◌≡◌, ℕ, suc, ◌+◌, ◌<◌, ◌≤◌, Bool, true, false, cond, eqb, List, [], ◌∷◌, map, length, get_or, drop, is_some, Some, None, filter, Option, sym, refl, ap, ◌∙◌, subst, ap₂, arith}
use Rattle.std.proofs.lemmas.Bool.{and_parts, cond-true, eq-eqb, ne_eqb, eqb-true}
use Rattle.std.proofs.lemmas.Bool.Decides.{nat_tests}
use Rattle.text.specs.declared.packed.Name.{Name}
use Rattle.grammar.specs.declared.stand.Standing.{Standing}
use Rattle.grammar.specs.Names.{position}
use Rattle.grammar.specs.State.{times}
use Rattle.plan.specs.declared.tables.FreeLink.{FreeLink}
use Rattle.plan.specs.Sound.{count, distinct}
use Rattle.placing.specs.Links.{closed, linked, links_from, open_link, opened, stays}
use Rattle.placing.proofs.KeepTally.{count_without, tally, tally_split, without}

abbrev pub packed_names : List Standing → List ℕ
packed_names names = map (λ s. s.name.packed) names

abbrev pub free_names : List FreeLink → List ℕ
free_names free = map (λ f. f.name.packed) free

abbrev pub free_links : List FreeLink → List ℕ
free_links free = map (λ f. f.link) free

abbrev pub key : ℕ → Name
key x = record { packed = x }

-- ** each name weighs as often as it stands

unfoldable pub weigh : (ℕ → Bool) → List Standing → List ℕ → ℕ
weigh p [] links = 0
weigh p (s ∷ ss) [] = 0
weigh p (s ∷ ss) (x ∷ xs) = cond (p x) (cond s.twice 2 1) 0 + weigh p ss xs

pub times_none : (n : Name) (ss : List Standing) → count n.packed (packed_names ss) ≡ 0 → times n ss ≡ 0
unfolding times count
times_none n [] h = refl
times_none n (s ∷ ss) h = let ih = times_none n ss in grind (arith, nat_tests)

nothing_stands : (s : List ℕ) → ((n : Name) → times n [] ≡ count n.packed s) → s ≡ []
unfolding times count
nothing_stands [] h = refl
nothing_stands (x ∷ s) h =
    let e : 0 ≡ cond (eqb x x) (suc (count x s)) (count x s) = h (key x) in
    let t : cond (eqb x x) (suc (count x s)) (count x s) ≡ suc (count x s) = cond-true (eqb x x) (suc (count x s)) (count x s) (eq-eqb x x refl) in
    absurd (omega arith)

rest_told : (a : Standing) (ss : List Standing) (s : List ℕ) → count a.name.packed (packed_names ss) ≡ 0 → ((n : Name) → times n (a ∷ ss) ≡ count n.packed s) → (n : Name) → times n ss ≡ count n.packed (without a.name.packed s)
unfolding times
rest_told a ss s none h n =
    let w = count_without a.name.packed n.packed s in
    let hn = h n in
    let z : a.name.packed ≡ n.packed → times n ss ≡ 0 = λ e. times_none n ss (subst (λ x. count x (packed_names ss) ≡ 0) e none) in
    grind (arith, nat_tests)

pub weighs : (p : ℕ → Bool) (names : List Standing) (links s : List ℕ) → length links ≡ length names → distinct (packed_names names) ≡ true → ((n : Name) → times n names ≡ count n.packed s) → tally p (map (λ x. get_or links (position (key x) names) 0) s) ≡ weigh p names links
unfolding weigh distinct position times tally
weighs p [] links s l d h = ap (λ t. tally p (map (λ x. get_or links 0 0) t)) (nothing_stands s h)
weighs p (a ∷ ss) [] s l d h = absurd (omega arith)
weighs p (a ∷ ss) (x ∷ xs) s l d h =
    let k = a.name.packed in
    let both = and_parts (eqb (count k (packed_names ss)) 0) (distinct (packed_names ss)) d in
    let f = λ (y : ℕ). get_or (x ∷ xs) (position (key y) (a ∷ ss)) 0 in
    let g = λ (y : ℕ). get_or xs (position (key y) ss) 0 in
    let other : (y : ℕ) → (k ≡ y → ⊥) → f y ≡ g y = λ y ne. ap (λ b. get_or (x ∷ xs) (cond b 0 (suc (position (key y) ss))) 0) (ne_eqb k y ne) in
    let here : f k ≡ x = ap (λ b. get_or (x ∷ xs) (cond b 0 (suc (position (key k) ss))) 0) (eq-eqb k k refl) in
    let often : count k s ≡ cond a.twice 2 1 = sym (h a.name) ∙ cond-true (eqb k k) (cond a.twice 2 1) (times a.name ss) (eq-eqb k k refl) in
    let none = eqb-true (count k (packed_names ss)) 0 both.0 in
    let ih = weighs p ss xs (without k s) (omega arith) both.1 (rest_told a ss s none h) in
    tally_split p f g k s other ∙ ap₂ (λ z c. cond (p z) c 0 + tally p (map g (without k s))) here often
    ∙ ap (λ t. cond (p x) (cond a.twice 2 1) 0 + t) ih

-- ** the links that names get

abbrev pub newer : Option ℕ → List ℕ → (List ℕ → List ℕ) → List ℕ
newer (Some x) numbers others = others numbers
newer None numbers others = get_or numbers 0 0 ∷ others (drop 1 numbers)

-- the numbers that names of the text take
unfoldable pub news : List FreeLink → List ℕ → List Standing → List ℕ
news free numbers [] = []
news free numbers (s ∷ ss) = newer (closed free s) numbers (λ left. news free left ss)

abbrev closes : (ℕ → Bool) → Option ℕ → ℕ
closes p (Some x) = cond (p x) 1 0
closes p None = 0

-- how many free links the names close
unfoldable pub closing : (ℕ → Bool) → List FreeLink → List Standing → ℕ
closing p free [] = 0
closing p free (s ∷ ss) = closes p (closed free s) + closing p free ss

pub length_links : (free : List FreeLink) (numbers : List ℕ) (ss : List Standing) → length (links_from free numbers ss) ≡ length ss
unfolding links_from
length_links free numbers [] = refl
length_links free numbers (s ∷ ss) =
    elim (closed free s) as (λ o. length (linked o numbers (λ left. links_from free left ss)) ≡ suc (length ss)) [
      | Some x ↦ ap suc (length_links free numbers ss)
      | None ↦ ap suc (length_links free (drop 1 numbers) ss)
    ]

Weighed : (ℕ → Bool) → List FreeLink → List ℕ → List Standing → Type 0
Weighed p free numbers ss = weigh p ss (links_from free numbers ss) + tally p (free_links (opened free ss (links_from free numbers ss))) ≡ closing p free ss + (tally p (news free numbers ss) + tally p (news free numbers ss))

weigh_one : (p : ℕ → Bool) (free : List FreeLink) (numbers : List ℕ) (n : Name) (twice : Bool) (place : ℕ) (ss : List Standing) (o : Option ℕ) → open_link n free ≡ o → ((left : List ℕ) → Weighed p free left ss) → Weighed p free numbers (record { name = n; twice = twice; place = place } ∷ ss)
unfolding Weighed weigh links_from opened closing news tally
weigh_one p free numbers n true place ss o e ih = let i = ih (drop 1 numbers) in grind arith
weigh_one p free numbers n false place ss (Some x) e ih = let i = ih numbers in rw e (grind arith)
weigh_one p free numbers n false place ss None e ih = let i = ih (drop 1 numbers) in rw e (grind arith)

-- each name that takes a number stands for two of its ends, and each other for the end that it closes
pub weighed : (p : ℕ → Bool) (free : List FreeLink) (numbers : List ℕ) (ss : List Standing) → weigh p ss (links_from free numbers ss) + tally p (free_links (opened free ss (links_from free numbers ss))) ≡ closing p free ss + (tally p (news free numbers ss) + tally p (news free numbers ss))
unfolding Weighed weigh links_from opened closing news tally
weighed p free numbers [] = refl
weighed p free numbers (s ∷ ss) = weigh_one p free numbers s.name s.twice s.place ss (open_link s.name free) refl (λ left. weighed p free left ss)

newer_taken : (x : ℕ) (o : Option ℕ) (numbers : List ℕ) (others : List ℕ → List ℕ) → ((left : List ℕ) → length (others left) ≤ length left → count x (others left) ≤ count x left) → length (newer o numbers others) ≤ length numbers → count x (newer o numbers others) ≤ count x numbers
unfolding count
newer_taken x (Some y) numbers others ih l = ih numbers l
newer_taken x None [] others ih l = absurd (omega arith)
newer_taken x None (u ∷ us) others ih l = let i = ih us (omega arith) in grind (arith, nat_tests)

-- they take different numbers, of those that are there
pub news_taken : (x : ℕ) (free : List FreeLink) (numbers : List ℕ) (ss : List Standing) → length (news free numbers ss) ≤ length numbers → count x (news free numbers ss) ≤ count x numbers
unfolding news count
news_taken x free numbers [] l = omega arith
news_taken x free numbers (s ∷ ss) l = newer_taken x (closed free s) numbers (λ left. news free left ss) (λ left h. news_taken x free left ss h) l

-- ** free links that are closed

pub not_open : (n : Name) (free : List FreeLink) → count n.packed (free_names free) ≡ 0 → open_link n free ≡ None
unfolding open_link count
not_open n [] h = refl
not_open n (f ∷ fs) h = let ih = not_open n fs in grind (arith, nat_tests)

closing_none : (p : ℕ → Bool) (ss : List Standing) → closing p [] ss ≡ 0
unfolding closing open_link
closing_none p [] = refl
closing_none p (s ∷ ss) = let ih = closing_none p ss in elim s.twice as (λ v. closes p (cond v None None) + closing p [] ss ≡ 0) [ true ↦ omega arith | false ↦ omega arith ]

closing_more : (p : ℕ → Bool) (f : FreeLink) (fs : List FreeLink) (ss : List Standing) → count f.name.packed (free_names fs) ≡ 0 → distinct (packed_names ss) ≡ true → closing p (f ∷ fs) ss ≡ cond (eqb (times f.name ss) 1) (cond (p f.link) 1 0) 0 + closing p fs ss
unfolding closing open_link times distinct
closing_more p f fs [] none d = refl
closing_more p f fs (s ∷ ss) none d =
    let both = and_parts (eqb (count s.name.packed (packed_names ss)) 0) (distinct (packed_names ss)) d in
    let ih = closing_more p f fs ss none both.1 in
    let alone = eqb-true (count s.name.packed (packed_names ss)) 0 both.0 in
    let never : f.name.packed ≡ s.name.packed → times f.name ss ≡ 0 = λ e. times_none f.name ss (subst (λ x. count x (packed_names ss) ≡ 0) (sym e) alone) in
    let shut : f.name.packed ≡ s.name.packed → open_link s.name fs ≡ None = λ e. not_open s.name fs (subst (λ x. count x (free_names fs) ≡ 0) e none) in
    grind (arith, nat_tests)

-- a free link stays, or is closed by the one name that it has
pub free_closed : (p : ℕ → Bool) (names : List Standing) (free : List FreeLink) → distinct (packed_names names) ≡ true → distinct (free_names free) ≡ true → tally p (free_links free) ≡ tally p (free_links (filter (stays names) free)) + closing p free names
unfolding tally distinct
free_closed p names [] d e = let z = closing_none p names in omega arith
free_closed p names (f ∷ fs) d e =
    let both = and_parts (eqb (count f.name.packed (free_names fs)) 0) (distinct (free_names fs)) e in
    let none = eqb-true (count f.name.packed (free_names fs)) 0 both.0 in
    let ih = free_closed p names fs d both.1 in
    let more = closing_more p f fs names none d in
    grind (arith, nat_tests)

-- ** the names of free links after

pub opened_least : (x : ℕ) (free : List FreeLink) (ss : List Standing) (links : List ℕ) → count x (free_names (opened free ss links)) ≤ count x (packed_names ss)
unfolding opened count
opened_least x free [] links = omega arith
opened_least x free (s ∷ ss) [] = omega arith
opened_least x free (s ∷ ss) (y ∷ ys) = let ih = opened_least x free ss ys in grind (arith, nat_tests)

pub open_some : (n : Name) (free : List FreeLink) → 0 < count n.packed (free_names free) → is_some (open_link n free) ≡ true
unfolding open_link count
open_some n [] h = absurd (omega arith)
open_some n (f ∷ fs) h = let ih = open_some n fs in grind (arith, nat_tests)

-- an opened name was not open
pub opened_new : (x : ℕ) (free : List FreeLink) (ss : List Standing) (links : List ℕ) → 0 < count x (free_names free) → count x (free_names (opened free ss links)) ≡ 0
unfolding opened count
opened_new x free [] links h = refl
opened_new x free (s ∷ ss) [] h = refl
opened_new x free (s ∷ ss) (y ∷ ys) h =
    let ih = opened_new x free ss ys h in
    let some : x ≡ s.name.packed → is_some (open_link s.name free) ≡ true = λ e. open_some s.name free (subst (λ z. 0 < count z (free_names free)) e h) in
    grind (arith, nat_tests)

pub names_kept : (x : ℕ) (q : FreeLink → Bool) (free : List FreeLink) → count x (free_names (filter q free)) ≤ count x (free_names free)
unfolding count
names_kept x q [] = omega arith
names_kept x q (f ∷ fs) = let ih = names_kept x q fs in grind (arith, nat_tests)
