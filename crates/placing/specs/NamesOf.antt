-- The names that stand in a text, and how often each stands in its events.
use Rattle.std.specs.Prelude.{◌≡◌, ℕ, ◌<◌, ◌≤◌, Bool, true, cond, not, ◌||◌, List, map, length, None, ◌==◌}
use Rattle.label.specs.Kind.{Kind}
use Rattle.text.specs.declared.packed.Name.{Name}
use Rattle.grammar.specs.declared.stand.Standing.{Standing}
use Rattle.grammar.specs.Names.{position}
use Rattle.grammar.specs.State.{times}
use Rattle.text.specs.Packed.{underscored}
use Rattle.grammar.specs.Reading.{hang_events}
use Rattle.grammar.specs.Laws.{fault_of}
use Rattle.grammar.specs.Sheets.{text_names}
use Rattle.std.specs.List.{list_all}
use Rattle.plan.specs.Sound.{count, distinct}
use Rattle.grammar.specs.Events.{name_standings, proper_name}

-- the names of a table, packed
abbrev pub packed_names : List Standing → List ℕ
packed_names names = map (λ s. s.name.packed) names

-- a row says how often its name stands in a list
abbrev pub says : List ℕ → Standing → Bool
says xs s = count s.name.packed xs == cond s.twice 2 1

-- the table of a text's names is right
pub record NamesRight {L : Type 0} (k : Kind L) (bs : List ℕ) : Type 0 where
  -- each name stands in the events as often as the table says
  pub standings : (n : Name) → times n (text_names bs) ≡ count n.packed (name_standings (hang_events k 0 bs))
  -- at most twice
  pub few : (x : ℕ) → count x (name_standings (hang_events k 0 bs)) ≤ 2
  -- each name has one row
  pub apart : distinct (packed_names (text_names bs)) ≡ true
  pub proper : list_all (λ s. proper_name s.name) (text_names bs) ≡ true
  -- a name that stands once begins with a letter
  pub lettered : list_all (λ s. s.twice || not (underscored s.name)) (text_names bs) ≡ true
  pub rows_right : list_all (says (name_standings (hang_events k 0 bs))) (text_names bs) ≡ true
  -- a name that stands has a row
  pub rowed : (n : Name) → 0 < count n.packed (name_standings (hang_events k 0 bs)) → position n (text_names bs) < length (text_names bs)

-- of every text without fault
abbrev pub NamesLaw : {L : Type 0} → Kind L → Type 0
NamesLaw k = (bs : List ℕ) → fault_of (hang_events k 0 bs) ≡ None → NamesRight k bs
