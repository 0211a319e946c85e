-- The links of a text's names are in the limit.
use Rattle.std.proofs.lemmas.List.Folds.{list_all-append}
use Rattle.std.proofs.Common.{◌≡◌, ℕ, ◌≤◌, Bool, true, false, cond, eqb, ltb, List, [], ◌∷◌, length, Some, None, Option, sym, refl, ◌∙◌, arith}
use Rattle.std.proofs.lemmas.Bool.{and_from, and_parts, lt-ltb}
use Rattle.label.specs.Kind.{Kind}
use Rattle.text.specs.declared.packed.Name.{Name}
use Rattle.grammar.specs.declared.stand.Standing.{Standing}
use Rattle.grammar.specs.Reading.{Events}
use Rattle.plan.specs.declared.tables.FreeLink.{FreeLink}
use Rattle.plan.specs.Model.{Model}
use Rattle.std.specs.List.{list_all}
use Rattle.plan.specs.Sound.{port_links}
use Rattle.placing.specs.Keeps.{AddingKeeps, OfText, SoundModel}
use Rattle.placing.specs.Links.{closed, linked, links_from, open_link, unused}
use Rattle.placing.specs.Placing.{hung, links_in}
use Rattle.placing.proofs.KeepEach.{standing_each}
use Rattle.placing.proofs.KeepNames.{free_links, newer, news}
use Rattle.placing.proofs.KeepSound.{numbers_enough, unused_below}

abbrev fits : ℕ → Option ℕ → Bool
fits n (Some x) = ltb x n
fits n None = true

open_fits : (n : ℕ) (name : Name) (free : List FreeLink) → list_all (λ x. ltb x n) (free_links free) ≡ true → fits n (open_link name free) ≡ true
unfolding open_link
open_fits n name [] h = refl
open_fits n name (f ∷ fs) h =
    let both = and_parts (ltb f.link n) (list_all (λ x. ltb x n) (free_links fs)) h in
    let here = both.0 in
    let ih = open_fits n name fs both.1 in
    elim (eqb f.name.packed name.packed) as (λ v. fits n (cond v (Some f.link) (open_link name fs)) ≡ true) [ true ↦ here | false ↦ ih ]

closed_fits : (n : ℕ) (free : List FreeLink) (s : Standing) → list_all (λ x. ltb x n) (free_links free) ≡ true → fits n (closed free s) ≡ true
closed_fits n free s h =
    let open' = open_fits n s.name free h in
    elim s.twice as (λ v. fits n (cond v None (open_link s.name free)) ≡ true) [ true ↦ refl | false ↦ open' ]

linked_fits : (n : ℕ) (o : Option ℕ) (numbers : List ℕ) (taken given : List ℕ → List ℕ) → fits n o ≡ true → list_all (λ x. ltb x n) numbers ≡ true → length (newer o numbers taken) ≤ length numbers → ((left : List ℕ) → list_all (λ x. ltb x n) left ≡ true → length (taken left) ≤ length left → list_all (λ x. ltb x n) (given left) ≡ true) → list_all (λ x. ltb x n) (linked o numbers given) ≡ true
linked_fits n (Some x) numbers taken given h e l ih = and_from (ltb x n) (list_all (λ x. ltb x n) (given numbers)) h (ih numbers e l)
linked_fits n None [] taken given h e l ih = absurd (omega arith)
linked_fits n None (u ∷ us) taken given h e l ih =
    let both = and_parts (ltb u n) (list_all (λ x. ltb x n) us) e in
    and_from (ltb u n) (list_all (λ x. ltb x n) (given us)) both.0 (ih us both.1 (omega arith))

from_fits : (n : ℕ) (free : List FreeLink) (numbers : List ℕ) (ss : List Standing) → list_all (λ x. ltb x n) (free_links free) ≡ true → list_all (λ x. ltb x n) numbers ≡ true → length (news free numbers ss) ≤ length numbers → list_all (λ x. ltb x n) (links_from free numbers ss) ≡ true
unfolding links_from news
from_fits n free numbers [] h e l = refl
from_fits n free numbers (s ∷ ss) h e l =
    linked_fits n (closed free s) numbers (λ left. news free left ss) (λ left. links_from free left ss) (closed_fits n free s h) e l
    (λ left w v. from_fits n free left ss h w v)

-- each name of the text has a link of the plan's limit
pub links_fit : {L : Type 0} (k : Kind L) → AddingKeeps k → (m : Model L) (names : List Standing) (es : Events L) → SoundModel k m → OfText k names es → length (hung k m names es).atoms ≤ 1024 → length (hung k m names es).free ≤ 64 → list_all (λ x. ltb x 8256) (links_in m names) ≡ true
links_fit k adding m names es s t few_atoms few_free =
    let free = (and_parts (list_all (λ x. ltb x 8256) (port_links m.atoms)) (list_all (λ x. ltb x 8256) (free_links m.free)) (sym (list_all-append (λ x. ltb x 8256) (port_links m.atoms) (free_links m.free)) ∙ s.links)).1 in
    from_fits 8256 m.free (unused m) names free
    (standing_each (λ x. ltb x 8256) (unused m) (λ x h. lt-ltb x 8256 (unused_below m x h)))
    (numbers_enough k adding m names es s t few_atoms few_free)
