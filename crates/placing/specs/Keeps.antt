-- Hanging keeps a sound plan sound.
use Rattle.std.specs.Prelude.{◌≡◌, ℕ, suc, ◌/◌, ◌^◌, ◌≤◌, Bool, true, false, not, ◌&&◌, ◌||◌, List, [], ◌∷◌, ◌++◌, map, length, None, ◌==◌, nat_eq, nat_le, nat_lt}
use Rattle.label.specs.Kind.{Kind}
use Rattle.text.specs.declared.packed.Name.{Name}
use Rattle.grammar.specs.declared.event.Event.{Event}
use Rattle.grammar.specs.declared.event.Event.TheVariants as events
use Rattle.grammar.specs.declared.stand.Standing.{Standing}
use Rattle.grammar.specs.Laws.{fault_of}
use Rattle.grammar.specs.Reading.{Events, event, end, fault, hang_events}
use Rattle.grammar.specs.State.{times}
use Rattle.plan.specs.declared.tables.Census.{Census}
use Rattle.plan.specs.Model.{Model, Node}
use Rattle.std.specs.List.{list_all}
use Rattle.text.specs.Limits.{port_limit, set_limit}
use Rattle.plan.specs.Sound.{all_lead, atom_limit, count, distinct, ends, free_limit, is_root, link_limit, open_name}
use Rattle.plan.specs.Tests.{register_test}
use Rattle.register.specs.Rows.{added}
use Rattle.placing.specs.Answer.{hung_text}
use Rattle.grammar.specs.Events.{name_standings, proper_name}
use Rattle.placing.specs.Orderly.{orderly}
use Rattle.placing.specs.Placing.{hung}

-- a sound plan, but for its tables: a field for each sentence of the rule that speaks of what they stand for
pub record SoundModel {L : Type 0} (k : Kind L) (m : Model L) : Type 0 where
  pub root : is_root m.cells ≡ true
  pub depth : all_lead m.cells ≡ true
  pub sets : list_all (λ c. nat_le c.set set_limit) m.cells ≡ true
  pub labels : list_all (λ a. k.mine a.label) m.atoms ≡ true
  pub homes : list_all (λ a. nat_lt a.cell (length m.cells)) m.atoms ≡ true
  pub ports : list_all (λ a. nat_le (length a.links) port_limit) m.atoms ≡ true
  pub links : list_all (λ x. nat_lt x link_limit) (ends m) ≡ true
  pub pairs : list_all (λ x. nat_eq (count x (ends m)) 2) (ends m) ≡ true
  pub names : list_all (λ f. open_name f.name) m.free ≡ true
  pub apart : distinct (map (λ f. f.name.packed) m.free) ≡ true
  pub register : register_test k m.atoms m.register ≡ true

abbrev pub more_connectors : {L : Type 0} → Event L → ℕ → ℕ
more_connectors (events.Label l) c = c
more_connectors (events.Port n) c = c
more_connectors events.Enter c = c
more_connectors events.Leave c = c
more_connectors (events.Set j) c = c
more_connectors (events.First n) c = suc c
more_connectors (events.Second n) c = c

-- how many connectors begin in events
unfoldable pub connectors_of : {L : Type 0} → Events L → ℕ
connectors_of (event e rest) = more_connectors e (connectors_of rest)
connectors_of end = 0
connectors_of (fault f) = 0

-- a name of a text: it is one, and where it stands once it begins with a letter
abbrev pub fit_standing : Standing → Bool
fit_standing s = proper_name s.name && (s.twice || not (s.name.packed / 2 ^ 56 == 95))

-- names and events are those of one text without fault
pub record OfText {L : Type 0} (k : Kind L) (names : List Standing) (es : Events L) : Type 0 where
  pub ordered : orderly k 0 0 false es ≡ true
  pub faultless : fault_of es ≡ None
  -- each name stands as often as the table of names says
  pub told : (n : Name) → times n names ≡ count n.packed (name_standings es)
  pub different : distinct (map (λ s. s.name.packed) names) ≡ true
  pub fit : list_all fit_standing names ≡ true
  pub few : connectors_of es ≤ 64

-- one atom more keeps the register right
abbrev pub AddingKeeps : {L : Type 0} → Kind L → Type 0
AddingKeeps {L} k =
    (nodes : List (Node L)) (rows : List (Census L)) (a : Node L)
    → register_test k nodes rows ≡ true → list_all (λ b. k.mine b.label) nodes ≡ true → k.mine a.label ≡ true
    → register_test k (nodes ++ (a ∷ [])) (added k a.label rows) ≡ true

-- a text hung on a sound plan leaves a sound plan, where its atoms and free links are not too many
abbrev pub KeepsSound : {L : Type 0} → Kind L → Type 0
KeepsSound {L} k =
    (m : Model L) (names : List Standing) (es : Events L)
    → SoundModel k m → OfText k names es
    → length (hung k m names es).atoms ≤ atom_limit → length (hung k m names es).free ≤ free_limit
    → SoundModel k (hung k m names es)

-- so does a text without fault
abbrev pub HangSound : {L : Type 0} → Kind L → Type 0
HangSound {L} k =
    (m : Model L) (bs : List ℕ)
    → SoundModel k m → fault_of (hang_events k 0 bs) ≡ None
    → length (hung_text k m bs).atoms ≤ atom_limit → length (hung_text k m bs).free ≤ free_limit
    → SoundModel k (hung_text k m bs)
