-- What a scribe has written, and the names and numbers of links.
use Rattle.std.specs.Prelude.{ℕ, ◌+◌, ◌-◌, ◌^◌, min, List, ◌++◌, length, take, drop, fold, Option, slice_set}
use Rattle.label.specs.Kind.{Kind}
use Rattle.grammar.specs.declared.event.Event.{Event}
use Rattle.plan.specs.declared.tables.FreeLink.{FreeLink}
use Rattle.showing.specs.declared.last.Last.{Last}
use Rattle.showing.specs.Text.{at_end, lead, own, past}
use Rattle.show.specs.declared.scribe.Scribe.{Scribe}

-- a buffer with the name of its loan, and how many bytes it was given
pub record Ink : Type 0 where
  pub name : ℕ
  pub out : List ℕ
  pub len : ℕ

-- the number of each link that has one, and how many have one
pub record Numbers : Type 0 where
  pub table : List (Option ℕ)
  pub count : ℕ

-- `free` are the open names
pub record Page : Type 0 where
  pub ink : Ink
  pub last : Last
  pub free : List FreeLink
  pub numbers : Numbers

abbrev pub page_of : Scribe → Page
page_of s = record {
  ink = record { name = s.out.ghost_name; out = s.out.now; len = s.len };
  last = s.last;
  free = s.free.now;
  numbers = record { table = s.numbers; count = s.count };
}

-- one byte more: it goes to its place, or past the end; the count stops at the most that a word holds
unfoldable pub inked : Ink → ℕ → Ink
inked i b = record { name = i.name; out = slice_set i.out i.len b; len = min (i.len + 1) (2 ^ 64 - 1) }

-- bytes more
abbrev pub wrote : List ℕ → Page → Page
wrote bs p = record { ink = fold inked p.ink bs; last = p.last; free = p.free; numbers = p.numbers }

-- an event, with what goes before it
abbrev pub event_written : {L : Type 0} → Kind L → Page → Event L → Page
event_written k p e = record { ink = fold inked (fold inked p.ink (lead p.last e)) (own k e); last = past e; free = p.free; numbers = p.numbers }

-- the end of the text
abbrev pub ended : Page → Page
ended p = wrote (at_end p.last) p

-- bytes over what stood in a buffer, none past its end
abbrev pub pasted : List ℕ → List ℕ → List ℕ
pasted bs old = take (length old) bs ++ drop (length bs) old
