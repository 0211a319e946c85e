-- Which link each name of a text gets on a plan, and what becomes of the plan's free links.
use Rattle.std.specs.Prelude.{ℕ, Bool, cond, not, ◌&&◌, List, [], ◌∷◌, ◌++◌, drop, is_some, Some, None, filter, Option, ◌==◌, nat_eq, slice_index}
use Rattle.text.specs.declared.packed.Name.{Name}
use Rattle.grammar.specs.declared.stand.Standing.{Standing}
use Rattle.grammar.specs.Names.{position}
use Rattle.grammar.specs.State.{times}
use Rattle.plan.specs.declared.tables.FreeLink.{FreeLink}
use Rattle.plan.specs.Model.{Model}
use Rattle.plan.specs.Sound.{count, ends, link_limit, rows}

-- the link of an open name
unfoldable pub open_link : Name → List FreeLink → Option ℕ
open_link n [] = None
open_link n (f ∷ fs) = cond (f.name.packed == n.packed) (Some f.link) (open_link n fs)

-- the numbers that are no link of the plan, ascending
unfoldable pub unused : {L : Type 0} → Model L → List ℕ
unused m = filter (λ x. nat_eq (count x (ends m)) 0) (rows 0 link_limit)

-- the link that a name of the text closes: it stands there once, and is open on the plan
abbrev pub closed : List FreeLink → Standing → Option ℕ
closed free s = cond s.twice None (open_link s.name free)

abbrev pub linked : Option ℕ → List ℕ → (List ℕ → List ℕ) → List ℕ
linked (Some x) numbers others = x ∷ others numbers
linked None numbers others = slice_index numbers 0 ∷ others (drop 1 numbers)

-- the links of a text's names, in the order of their first standing: each is the link that the name closes, or the next unused number
unfoldable pub links_from : List FreeLink → List ℕ → List Standing → List ℕ
links_from free numbers [] = []
links_from free numbers (s ∷ ss) = linked (closed free s) numbers (λ left. links_from free left ss)

-- the link of a name, by its row
abbrev pub link_at : List Standing → List ℕ → Name → ℕ
link_at names links n = slice_index links (position n names)

-- a free link stays where its name does not stand just once in the text
abbrev pub stays : List Standing → FreeLink → Bool
stays names f = not (times f.name names == 1)

-- a name opens: it stands once, and is not open on the plan
abbrev pub opens : List FreeLink → Standing → Bool
opens free s = not s.twice && not (is_some (open_link s.name free))

-- the free links that the names of the text open
unfoldable pub opened : List FreeLink → List Standing → List ℕ → List FreeLink
opened free [] links = []
opened free (s ∷ ss) [] = []
opened free (s ∷ ss) (x ∷ xs) = cond (opens free s) (record { name = s.name; link = x } ∷ opened free ss xs) (opened free ss xs)

abbrev pub free_after : List FreeLink → List Standing → List ℕ → List FreeLink
free_after free names links = filter (stays names) free ++ opened free names links
