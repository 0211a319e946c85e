-- The free links after a text.
use Rattle.std.proofs.Common.{◌≡◌, ℕ, suc, Bool, true, false, cond, not, ◌&&◌, eqb, List, [], ◌∷◌, ◌++◌, map, length, get_or, is_some, Some, None, filter, Option, sym, refl, ap, ◌∙◌, ap₂, arith}
use Rattle.std.specs.Option.{option_map}
use Rattle.std.proofs.lemmas.Bool.{and_parts, eqb-true}
use Rattle.text.specs.declared.packed.Name.{Name}
use Rattle.grammar.specs.declared.stand.Standing.{Standing}
use Rattle.grammar.specs.Names.{position}
use Rattle.grammar.specs.State.{times}
use Rattle.plan.specs.declared.tables.FreeLink.{FreeLink}
use Rattle.plan.specs.Sound.{count, distinct}
use Rattle.placing.specs.Links.{free_after, link_at, open_link, opened, opens, stays}
use Rattle.placing.specs.NamesOf.{packed_names}
use Rattle.placing.specs.Placing.{become, refreed}
use Rattle.placing.proofs.KeepNames.{times_none}
use Rattle.forming.proofs.Assigned.{same_name}

pub open_refreed : (n : Name) (b : List ℕ) (fs : List FreeLink) → open_link n (map (refreed b) fs) ≡ option_map (become b) (open_link n fs)
unfolding open_link
open_refreed n b [] = refl
open_refreed n b (f ∷ fs) =
    let ih = open_refreed n b fs in
    elim (eqb f.name.packed n.packed) as (λ v. cond v (Some (become b f.link)) (open_link n (map (refreed b) fs)) ≡ option_map (become b) (cond v (Some f.link) (open_link n fs))) [ true ↦ refl | false ↦ ih ]

abbrev or_else : Option ℕ → Option ℕ → Option ℕ
or_else None o = o
or_else (Some x) o = Some x

open_append : (n : Name) (fs gs : List FreeLink) → open_link n (fs ++ gs) ≡ or_else (open_link n fs) (open_link n gs)
unfolding open_link
open_append n [] gs = refl
open_append n (f ∷ fs) gs =
    let ih = open_append n fs gs in
    elim (eqb f.name.packed n.packed) as (λ v. cond v (Some f.link) (open_link n (fs ++ gs)) ≡ or_else (cond v (Some f.link) (open_link n fs)) (open_link n gs)) [ true ↦ refl | false ↦ ih ]

kept_step : (v e g : Bool) (x : ℕ) (r o : Option ℕ) → (e ≡ true → v ≡ not g) → r ≡ cond g None o → cond v (cond e (Some x) r) r ≡ cond g None (cond e (Some x) o)
kept_step true true true x r o h i = let w = h refl in absurd (let z : ◌≡◌ {A = ℕ} 0 1 = cc in omega arith)
kept_step true true false x r o h i = refl
kept_step false true true x r o h i = i
kept_step false true false x r o h i = let w = h refl in absurd (let z : ◌≡◌ {A = ℕ} 0 1 = cc in omega arith)
kept_step true false true x r o h i = i
kept_step true false false x r o h i = i
kept_step false false true x r o h i = i
kept_step false false false x r o h i = i

cond_open : (n : Name) (v : Bool) (fs gs : List FreeLink) → open_link n (cond v fs gs) ≡ cond v (open_link n fs) (open_link n gs)
cond_open n true fs gs = refl
cond_open n false fs gs = refl

open_kept : (n : Name) (names : List Standing) (fs : List FreeLink) → open_link n (filter (stays names) fs) ≡ cond (eqb (times n names) 1) None (open_link n fs)
unfolding open_link
open_kept n names [] = elim (eqb (times n names) 1) as (λ v. ◌≡◌ {A = Option ℕ} None (cond v None None)) [ true ↦ refl | false ↦ refl ]
open_kept n names (f ∷ fs) =
    let rest = filter (stays names) fs in
    cond_open n (stays names f) (f ∷ rest) rest
    ∙ kept_step (stays names f) (eqb f.name.packed n.packed) (eqb (times n names) 1) f.link (open_link n rest) (open_link n fs)
    (λ e. ap (λ x. not (eqb (times x names) 1)) (same_name f.name n (eqb-true f.name.packed n.packed e))) (open_kept n names fs)

opened_step : (e t u v : Bool) (x y p : ℕ) (xs : List ℕ) (r : Option ℕ) (n : ℕ) → (e ≡ true → u ≡ v) → (e ≡ true → n ≡ 0) → r ≡ cond (eqb n 1) (cond v None (Some (get_or xs p 0))) None
    → cond (not t && not u) (cond e (Some x) r) r ≡ cond (eqb (cond e (cond t 2 1) n) 1) (cond v None (Some (get_or (x ∷ xs) (cond e 0 (suc p)) 0))) None
opened_step true true u v x y p xs r n a b h = h ∙ ap (λ m. cond (eqb m 1) (cond v None (Some (get_or xs p 0))) None) (b refl)
opened_step true false true v x y p xs r n a b h = h ∙ ap (λ m. cond (eqb m 1) (cond v None (Some (get_or xs p 0))) None) (b refl) ∙ ap (λ w. cond w None (Some x)) (a refl)
opened_step true false false v x y p xs r n a b h = ap (λ w. cond w None (Some x)) (a refl)
opened_step false true u v x y p xs r n a b h = h
opened_step false false true v x y p xs r n a b h = h
opened_step false false false v x y p xs r n a b h = h

open_opened : (free : List FreeLink) (n : Name) (ss : List Standing) (xs : List ℕ) → length xs ≡ length ss → distinct (packed_names ss) ≡ true → open_link n (opened free ss xs) ≡ cond (eqb (times n ss) 1) (cond (is_some (open_link n free)) None (Some (link_at ss xs n))) None
unfolding open_link opened times position distinct
open_opened free n [] xs l d = refl
open_opened free n (s ∷ ss) [] l d = absurd (omega arith)
open_opened free n (s ∷ ss) (x ∷ xs) l d =
    let parts = and_parts (eqb (count s.name.packed (packed_names ss)) 0) (distinct (packed_names ss)) d in
    let alone = eqb-true (count s.name.packed (packed_names ss)) 0 parts.0 in
    let f : FreeLink = record { name = s.name; link = x } in
    let rest = opened free ss xs in
    cond_open n (opens free s) (f ∷ rest) rest
    ∙ opened_step (eqb s.name.packed n.packed) s.twice (is_some (open_link s.name free)) (is_some (open_link n free)) x 0 (position n ss) xs (open_link n rest) (times n ss)
    (λ e. ap (λ z. is_some (open_link z free)) (same_name s.name n (eqb-true s.name.packed n.packed e)))
    (λ e. times_none n ss (ap (λ z. count z (packed_names ss)) (sym (eqb-true s.name.packed n.packed e)) ∙ alone))
    (open_opened free n ss xs (omega arith) parts.1)

-- the link of a name that is open after a text
pub open_after : (free : List FreeLink) (n : Name) (ss : List Standing) (xs : List ℕ) → length xs ≡ length ss → distinct (packed_names ss) ≡ true → open_link n (free_after free ss xs) ≡ cond (eqb (times n ss) 1) (cond (is_some (open_link n free)) None (Some (link_at ss xs n))) (open_link n free)
open_after free n ss xs l d =
    open_append n (filter (stays ss) free) (opened free ss xs)
    ∙ ap₂ or_else (open_kept n ss free) (open_opened free n ss xs l d)
    ∙ both (eqb (times n ss) 1) (open_link n free) (cond (is_some (open_link n free)) None (Some (link_at ss xs n)))
  where
    both : (v : Bool) (o r : Option ℕ) → or_else (cond v None o) (cond v r None) ≡ cond v r o
    both true o r = refl
    both false None r = refl
    both false (Some x) r = refl
