-- The names of a text with their links.
use Rattle.std.specs.Prelude.{ℕ, List}
use Rattle.text.specs.declared.packed.Name.{Name}
use Rattle.grammar.specs.Names.{names_of}
use Rattle.plan.specs.declared.tables.FreeLink.{FreeLink}
use Rattle.placing.specs.Links.{free_after, link_at}
use Rattle.hang.specs.declared.linked.Linked.{Linked}

-- the link of a name of the text
abbrev pub link_in : Linked → Name → ℕ
link_in l = link_at (names_of l.names.now) l.links.items

-- the free links after the text
abbrev pub free_linked : List FreeLink → Linked → List FreeLink
free_linked free l = free_after free (names_of l.names.now) l.links.items
