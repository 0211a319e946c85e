-- Which names are open after a text.
use Rattle.placing.proofs.KeepNames.{times_none}
use Rattle.std.proofs.Common.{◌≡◌, ℕ, suc, Bool, true, false, cond, not, ◌&&◌, ◌||◌, eqb, List, [], ◌∷◌, ◌++◌, map, length, drop, is_some, Some, None, filter, Option, sym, refl, ap, ◌∙◌, ap₂, arith}
use Rattle.std.proofs.lemmas.Bool.{and_parts, eqb-true}
use Rattle.text.specs.declared.packed.Name.{Name}
use Rattle.grammar.specs.declared.stand.Standing.{Standing}
use Rattle.grammar.specs.State.{times}
use Rattle.plan.specs.declared.tables.FreeLink.{FreeLink}
use Rattle.plan.specs.Sound.{count, distinct}
use Rattle.placing.specs.Links.{open_link, closed, linked, links_from, stays, opens, opened, free_after}
use Rattle.placing.specs.Placing.{refreed}
use Rattle.placing.specs.NamesOf.{packed_names}
use Rattle.placing.specs.Laws.{is_open}

some_cond : (v : Bool) (x : ℕ) (o : Option ℕ) → is_some (cond v (Some x) o) ≡ (v || is_some o)
some_cond true x o = refl
some_cond false x o = refl

open_cons : (n : Name) (f : FreeLink) (fs : List FreeLink) → is_open n (f ∷ fs) ≡ (eqb f.name.packed n.packed || is_open n fs)
unfolding open_link
open_cons n f fs = some_cond (eqb f.name.packed n.packed) f.link (open_link n fs)

or_assoc : (a b c : Bool) → ((a || b) || c) ≡ (a || (b || c))
or_assoc true b c = refl
or_assoc false b c = refl

open_append : (n : Name) (fs gs : List FreeLink) → is_open n (fs ++ gs) ≡ (is_open n fs || is_open n gs)
unfolding open_link
open_append n [] gs = refl
open_append n (f ∷ fs) gs =
    open_cons n f (fs ++ gs) ∙ ap (λ b. eqb f.name.packed n.packed || b) (open_append n fs gs)
    ∙ sym (or_assoc (eqb f.name.packed n.packed) (is_open n fs) (is_open n gs)) ∙ ap (λ b. b || is_open n gs) (sym (open_cons n f fs))

-- a filter by names keeps a name or not
kept_step : (v e a b : Bool) (g : Bool) → (e ≡ true → v ≡ g) → a ≡ (b && g) → cond v (e || a) a ≡ ((e || b) && g)
kept_step true true a b g h i = h refl
kept_step false true a b true h i = absurd (let z = h refl in let y : ◌≡◌ {A = ℕ} 0 1 = cc in omega arith)
kept_step false true a true false h i = i
kept_step false true a false false h i = i
kept_step true false a b g h i = i
kept_step false false a b g h i = i

cond_open : (n : Name) (v : Bool) (fs gs : List FreeLink) → is_open n (cond v fs gs) ≡ cond v (is_open n fs) (is_open n gs)
cond_open n true fs gs = refl
cond_open n false fs gs = refl

pub kept_open : (g : ℕ → Bool) (n : Name) (fs : List FreeLink) → is_open n (filter (λ f. g f.name.packed) fs) ≡ (is_open n fs && g n.packed)
unfolding open_link
kept_open g n [] = refl
kept_open g n (f ∷ fs) =
    let others = filter (λ x. g x.name.packed) fs in
    let e = eqb f.name.packed n.packed in
    cond_open n (g f.name.packed) (f ∷ others) others
    ∙ ap (λ b. cond (g f.name.packed) b (is_open n others)) (open_cons n f others)
    ∙ kept_step (g f.name.packed) e (is_open n others) (is_open n fs) (g n.packed) (λ t. ap g (eqb-true f.name.packed n.packed t)) (kept_open g n fs)
    ∙ ap (λ b. b && g n.packed) (sym (open_cons n f fs))

open_at : (free : List FreeLink) (n o : Name) → n.packed ≡ o.packed → is_open n free ≡ is_open o free
open_at free n o e = ap (λ x. is_open (record { packed = x }) free) e

-- of the first row
opened_step : (e t o on a : Bool) (n : ℕ) → (e ≡ true → o ≡ on) → (e ≡ true → n ≡ 0) → a ≡ (eqb n 1 && not on) → cond (not t && not o) (e || a) a ≡ (eqb (cond e (cond t 2 1) n) 1 && not on)
opened_step true true o on a n p q h = h ∙ ap (λ m. eqb m 1 && not on) (q refl)
opened_step true false true on a n p q h = h ∙ ap (λ m. eqb m 1 && not on) (q refl) ∙ ap not (p refl)
opened_step true false false on a n p q h = ap not (p refl)
opened_step false true o on a n p q h = h
opened_step false false true on a n p q h = h
opened_step false false false on a n p q h = h

apart_parts : (x : ℕ) (xs : List ℕ) → distinct (x ∷ xs) ≡ true → (count x xs ≡ 0) × (distinct xs ≡ true)
unfolding distinct
apart_parts x xs d = let h = and_parts (eqb (count x xs) 0) (distinct xs) d in (eqb-true (count x xs) 0 h.0, h.1)

pub opened_open : (free : List FreeLink) (n : Name) (ss : List Standing) (xs : List ℕ) → length xs ≡ length ss → distinct (packed_names ss) ≡ true → is_open n (opened free ss xs) ≡ (eqb (times n ss) 1 && not (is_open n free))
unfolding open_link opened times
opened_open free n [] xs l d = refl
opened_open free n (s ∷ ss) [] l d = absurd (omega arith)
opened_open free n (s ∷ ss) (x ∷ xs) l d =
    let parts = apart_parts s.name.packed (packed_names ss) d in
    let f : FreeLink = record { name = s.name; link = x } in
    let others = opened free ss xs in
    cond_open n (opens free s) (f ∷ others) others
    ∙ ap (λ b. cond (opens free s) b (is_open n others)) (open_cons n f others)
    ∙ opened_step (eqb s.name.packed n.packed) s.twice (is_open s.name free) (is_open n free) (is_open n others) (times n ss)
    (λ t. open_at free s.name n (eqb-true s.name.packed n.packed t))
    (λ t. times_none n ss (ap (λ y. count y (packed_names ss)) (sym (eqb-true s.name.packed n.packed t)) ∙ parts.0))
    (opened_open free n ss xs (omega arith) parts.1)

either : (a b : Bool) → ((a && not b) || (b && not a)) ≡ cond b (not a) a
either true true = refl
either true false = refl
either false true = refl
either false false = refl

-- a name is open after the text where it was and does not stand just once, or was not and does
pub after_open : (free : List FreeLink) (n : Name) (names : List Standing) (links : List ℕ) → length links ≡ length names → distinct (packed_names names) ≡ true → is_open n (free_after free names links) ≡ cond (eqb (times n names) 1) (not (is_open n free)) (is_open n free)
after_open free n names links l d =
    open_append n (filter (stays names) free) (opened free names links)
    ∙ ap₂ ◌||◌ (kept_open (λ x. not (eqb (times (record { packed = x }) names) 1)) n free) (opened_open free n names links l d)
    ∙ either (is_open n free) (eqb (times n names) 1)

pub refreed_open : (n : Name) (became : List ℕ) (fs : List FreeLink) → is_open n (map (refreed became) fs) ≡ is_open n fs
unfolding open_link
refreed_open n became [] = refl
refreed_open n became (f ∷ fs) =
    open_cons n (refreed became f) (map (refreed became) fs) ∙ ap (λ b. eqb f.name.packed n.packed || b) (refreed_open n became fs) ∙ sym (open_cons n f fs)

-- each name of a text has its link
linked_length : (o : Option ℕ) (numbers : List ℕ) (others : List ℕ → List ℕ) (n : ℕ) → ((xs : List ℕ) → length (others xs) ≡ n) → length (linked o numbers others) ≡ suc n
linked_length (Some x) numbers others n h = ap suc (h numbers)
linked_length None numbers others n h = ap suc (h (drop 1 numbers))

pub links_length : (free : List FreeLink) (ss : List Standing) (numbers : List ℕ) → length (links_from free numbers ss) ≡ length ss
unfolding links_from
links_length free [] numbers = refl
links_length free (s ∷ ss) numbers = linked_length (closed free s) numbers (λ left. links_from free left ss) (length ss) (links_length free ss)

-- The names of the free links, in their order.

names_append : (fs gs : List FreeLink) → map (λ f. f.name) (fs ++ gs) ≡ map (λ f. f.name) fs ++ map (λ f. f.name) gs
names_append [] gs = refl
names_append (f ∷ fs) gs = ap (λ ns. f.name ∷ ns) (names_append fs gs)

refreed_names : (became : List ℕ) (fs : List FreeLink) → map (λ f. f.name) (map (refreed became) fs) ≡ map (λ f. f.name) fs
refreed_names became [] = refl
refreed_names became (f ∷ fs) = ap (λ ns. f.name ∷ ns) (refreed_names became fs)

kept_names : (p q : Name → Bool) → ((n : Name) → p n ≡ q n) → (fs : List FreeLink) → map (λ f. f.name) (filter (λ f. p f.name) fs) ≡ filter q (map (λ f. f.name) fs)
kept_names p q h [] = refl
kept_names p q h (f ∷ fs) = by (p f.name) (q f.name) (h f.name) (filter (λ x. p x.name) fs) (filter q (map (λ x. x.name) fs)) (kept_names p q h fs)
  where
    by : (a b : Bool) → a ≡ b → (xs : List FreeLink) (ys : List Name) → map (λ x. x.name) xs ≡ ys → map (λ x. x.name) (cond a (f ∷ xs) xs) ≡ cond b (f.name ∷ ys) ys
    by true true e xs ys i = ap (λ ns. f.name ∷ ns) i
    by true false e xs ys i = absurd (let z : ◌≡◌ {A = ℕ} 0 1 = cc in omega arith)
    by false true e xs ys i = absurd (let z : ◌≡◌ {A = ℕ} 0 1 = cc in omega arith)
    by false false e xs ys i = i

opened_names : (free : List FreeLink) (ss : List Standing) (xs : List ℕ) → length xs ≡ length ss → map (λ f. f.name) (opened free ss xs) ≡ map (λ s. s.name) (filter (opens free) ss)
unfolding opened
opened_names free [] xs l = refl
opened_names free (s ∷ ss) [] l = absurd (omega arith)
opened_names free (s ∷ ss) (x ∷ xs) l = by (opens free s) (opened free ss xs) (filter (opens free) ss) (opened_names free ss xs (omega arith))
  where
    by : (a : Bool) (fs : List FreeLink) (rs : List Standing) → map (λ f. f.name) fs ≡ map (λ r. r.name) rs → map (λ f. f.name) (cond a (record { name = s.name; link = x } ∷ fs) fs) ≡ map (λ r. r.name) (cond a (s ∷ rs) rs)
    by true fs rs i = ap (λ ns. s.name ∷ ns) i
    by false fs rs i = i

pub after_names : (free : List FreeLink) (names : List Standing) (links became : List ℕ) (q : Name → Bool) → length links ≡ length names → ((n : Name) → not (eqb (times n names) 1) ≡ q n) → map (λ f. f.name) (map (refreed became) (free_after free names links)) ≡ filter q (map (λ f. f.name) free) ++ map (λ s. s.name) (filter (opens free) names)
after_names free names links became q l h =
    refreed_names became (free_after free names links) ∙ names_append (filter (stays names) free) (opened free names links)
    ∙ ap₂ ◌++◌ (kept_names (λ n. not (eqb (times n names) 1)) q h free) (opened_names free names links l)
