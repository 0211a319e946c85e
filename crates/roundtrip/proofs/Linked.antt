-- The links that the names of a text get on an empty plan, and the free links that they open.
use Rattle.std.proofs.Common.{◌≡◌, ℕ, zero, suc, ◌<◌, ◌≤◌, Bool, true, false, cond, not, ◌&&◌, eqb, List, [], ◌∷◌, map, length, get_or, None, filter, Option, sym, refl, ap, ◌∙◌, ap₂, ⊎_elim, arith}
use lib.ListN.{length-map}
use Rattle.std.specs.List.{AllByRecursion as All}
use Rattle.std.proofs.lemmas.Bool.Decides.{nat_tests}
use Rattle.std.proofs.lemmas.Bool.{and_parts, cases_Bool, cond-true, eqb-true, eq-eqb, ne_eqb}
use Rattle.text.specs.declared.packed.Name.{Name}
use Rattle.grammar.specs.declared.stand.Standing.{Standing}
use Rattle.grammar.specs.Names.{position}
use Rattle.plan.specs.declared.tables.FreeLink.{FreeLink}
use Rattle.plan.specs.Model.{struck}
use Rattle.std.specs.List.{list_all}
use Rattle.plan.specs.Sound.{count, ends, link_limit, port_links, rows}
use Rattle.placing.specs.Links.{closed, linked, link_at, links_from, open_link, opened, opens, unused}
use Rattle.placing.specs.NamesOf.{packed_names, says}
use Rattle.placing.specs.Placing.{links_in}
use Rattle.showing.specs.Shown.{place}
use Rattle.showing.proofs.Totals.{all_of}
use Rattle.roundtrip.proofs.Preorder.{getD_place, places}

pub kept_every : {A : Type 0} (p : A → Bool) (xs : List A) → All (λ x. p x ≡ true) xs → filter p xs ≡ xs
kept_every p [] h = refl
kept_every p (x ∷ xs) h = cond-true (p x) _ _ h.0 ∙ ap (λ t. x ∷ t) (kept_every p xs h.1)

unused_struck : (L : Type 0) → unused (struck {L = L}) ≡ rows 0 link_limit
unfolding unused count port_links
unused_struck L = kept_every (λ x. eqb (count x (ends (struck {L = L}))) 0) (rows 0 link_limit) (all_of (λ x. eqb (count x (ends (struck {L = L}))) 0 ≡ true) (rows 0 link_limit) (λ x. refl))

none_closed : (s : Standing) → closed [] s ≡ None
unfolding open_link
none_closed s = elim s.twice as (λ v. cond {A = Option ℕ} v None None ≡ None) [ true ↦ refl | false ↦ refl ]

links_new : (ns : List Standing) (j n : ℕ) → length ns ≤ n → links_from [] (rows j n) ns ≡ rows j (length ns)
unfolding links_from rows
links_new [] j n h = refl
links_new (s ∷ ns) j zero h = absurd (omega arith)
links_new (s ∷ ns) j (suc n) h =
    ap (λ o. linked o (j ∷ rows (suc j) n) (λ left. links_from [] left ns)) (none_closed s) ∙ ap (λ t. j ∷ t) (links_new ns (suc j) n (omega arith))

-- each name gets its place as link
pub links_are : (L : Type 0) (ns : List Standing) → length ns ≤ link_limit → ((x : ℕ) → count x (packed_names ns) ≤ 1) → links_in (struck {L = L}) ns ≡ map (λ p. place p (packed_names ns)) (packed_names ns)
links_are L ns h d =
    ap (λ us. links_from [] us ns) (unused_struck L)
    ∙ (links_new ns 0 link_limit h
    ∙ (ap (rows 0) (sym (length-map ns (λ s. s.name.packed))) ∙ sym (places (packed_names ns) d)))

position_place : (n : Name) (ns : List Standing) → position n ns ≡ place n.packed (packed_names ns)
unfolding position place
position_place n [] = refl
position_place n (s ∷ ns) = let ih = position_place n ns in grind (arith, nat_tests)

pub link_is : (L : Type 0) (ns : List Standing) → length ns ≤ link_limit → ((x : ℕ) → count x (packed_names ns) ≤ 1) → (n : Name) → 0 < count n.packed (packed_names ns) → link_at ns (links_in (struck {L = L}) ns) n ≡ place n.packed (packed_names ns)
link_is L ns h d n l =
    ap₂ (λ ls i. get_or ls i 0) (links_are L ns h d) (position_place n ns)
    ∙ getD_place (λ p. place p (packed_names ns)) 0 n.packed (packed_names ns) l

-- a name opens where it stands once
opens_once : (s : Standing) (c : ℕ) → eqb c (cond s.twice 2 1) ≡ true → opens [] s ≡ eqb c 1
unfolding open_link
opens_once s c h =
    let e = eqb-true c (cond s.twice 2 1) h in
    ⊎_elim
    (λ (t : s.twice ≡ true). let i : c ≡ 2 = e ∙ ap (λ v. cond v 2 1) t in ap (λ v. not v && true) t ∙ sym (ne_eqb c 1 (λ j. omega arith)))
    (λ (t : s.twice ≡ false). let i : c ≡ 1 = e ∙ ap (λ v. cond v 2 1) t in ap (λ v. not v && true) t ∙ sym (eq-eqb c 1 i))
    (cases_Bool s.twice)

pub opened_are : (g : ℕ → ℕ) (xs : List ℕ) (ns : List Standing) → list_all (says xs) ns ≡ true → opened [] ns (map g (packed_names ns)) ≡ map (λ p. record { name = record { packed = p }; link = g p }) (filter (λ p. eqb (count p xs) 1) (packed_names ns))
unfolding opened
opened_are g xs [] h = refl
opened_are g xs (s ∷ ns) h =
    let parts = and_parts (says xs s) (list_all (says xs) ns) h in
    let p = s.name.packed in
    let mk : ℕ → FreeLink = λ p. record { name = record { packed = p }; link = g p } in
    let ks = filter (λ p. eqb (count p xs) 1) (packed_names ns) in
    ap₂ (λ v t. cond v (mk p ∷ t) t) (opens_once s (count p xs) parts.0) (opened_are g xs ns parts.1)
    ∙ elim (eqb (count p xs) 1) as (λ v. cond v (mk p ∷ map mk ks) (map mk ks) ≡ map mk (cond v (p ∷ ks) ks)) [ true ↦ refl | false ↦ refl ]
