-- Texts that say the same: with connectors turned, and with other names for those that stand twice.
use Rattle.std.specs.Prelude.{◌≡◌, ℕ, ◌≤◌, true, List, map, length, is_some, None}
use Rattle.label.specs.Kind.{Kind}
use Rattle.text.specs.declared.packed.Name.{Name}
use Rattle.grammar.specs.Reading.{hang_events}
use Rattle.grammar.specs.Laws.{fault_of, text_tokens}
use Rattle.grammar.specs.Form.{Items, Written, none, atom, cell, connector, set, item_tokens}
use Rattle.plan.specs.Model.{Model}
use Rattle.plan.specs.Sound.{atom_limit, free_limit}
use Rattle.placing.specs.Answer.{hung_text}
use Rattle.placing.specs.Keeps.{SoundModel}
use Rattle.placing.specs.Laws.{shape}
use Rattle.sameness.specs.Reordering.{Reordered}
use Rattle.forming.specs.Places.{once}
use Rattle.forming.specs.Joins.{End, end_link}

-- each name gets a name, one to one
pub record Naming : Type 0 where
  pub to : Name → Name
  pub back : Name → Name
  pub back_to : (n : Name) → back (to n) ≡ n
  pub to_back : (n : Name) → to (back n) ≡ n

-- the second form is the first with its names renamed, and with the two names of some connectors turned
pub data Rewritten (f : Naming) : Items → Items → Type 0 where
  as_none : Rewritten f none none
  as_atom : (w : Written) (ns : List Name) {h g : Items} → Rewritten f h g → Rewritten f (atom w ns h) (atom w (map f.to ns) g)
  as_cell : {i j h g : Items} → Rewritten f i j → Rewritten f h g → Rewritten f (cell i h) (cell j g)
  as_connector : (a b : Name) {h g : Items} → Rewritten f h g → Rewritten f (connector a b h) (connector (f.to a) (f.to b) g)
  turned : (a b : Name) {h g : Items} → Rewritten f h g → Rewritten f (connector a b h) (connector (f.to b) (f.to a) g)
  as_set : (w : List ℕ) {h g : Items} → Rewritten f h g → Rewritten f (set w h) (set w g)

-- a name that stands just once keeps its spelling
abbrev pub KeepsSingle : Naming → Items → Type 0
KeepsSingle f h = (n : Name) → once h n ≡ true → f.to n ≡ n

-- two plans are the same but for the numbers of their links: they have the same cells, the same atoms in the same rows, the same open names,
-- and two ends lie on one link in one of them exactly where they do in the other
pub record SameButLinks {L : Type 0} (p q : Model L) : Type 0 where
  pub cells : p.cells ≡ q.cells
  pub atoms : map shape p.atoms ≡ map shape q.atoms
  pub register : p.register ≡ q.register
  pub ends : (e : End) → is_some (end_link p e) ≡ is_some (end_link q e)
  pub links : (e d : End) → is_some (end_link p e) ≡ true → is_some (end_link p d) ≡ true → end_link p e ≡ end_link p d → end_link q e ≡ end_link q d
  pub links_back : (e d : End) → is_some (end_link p e) ≡ true → is_some (end_link p d) ≡ true → end_link q e ≡ end_link q d → end_link p e ≡ end_link p d

-- a sound plan and two texts without fault, the second a rewriting of the first, where atoms and free links are not too many
pub record Rewriting {L : Type 0} (k : Kind L) (m : Model L) (bs cs : List ℕ) (h g : Items) (f : Naming) : Type 0 where
  pub sound : SoundModel k m
  pub clean : fault_of (hang_events k 0 bs) ≡ None
  pub clean_too : fault_of (hang_events k 0 cs) ≡ None
  pub tokens : item_tokens h ≡ text_tokens k bs
  pub tokens_too : item_tokens g ≡ text_tokens k cs
  pub rewritten : Rewritten f h g
  pub keeps : KeepsSingle f h
  pub few_atoms : length (hung_text k m bs).atoms ≤ atom_limit
  pub few_free : length (hung_text k m bs).free ≤ free_limit

-- such texts leave the same plan but for links; a free link may stand in another row
abbrev pub RewritingLaw : {L : Type 0} → Kind L → Type 0
RewritingLaw {L} k =
    (m : Model L) (bs cs : List ℕ) (h g : Items) (f : Naming) → Rewriting k m bs cs h g f
    → SameButLinks (hung_text k m bs) (hung_text k m cs) × Reordered (hung_text k m bs) (hung_text k m cs)
