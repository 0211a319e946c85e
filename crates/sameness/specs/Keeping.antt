-- What stays the same where the links of a plan are renamed.
use Rattle.std.specs.Prelude.{◌≡◌, ℕ, ◌≤◌, true, List, length, None, nat_lt}
use Rattle.label.specs.Kind.{Kind}
use Rattle.grammar.specs.declared.stand.Standing.{Standing}
use Rattle.grammar.specs.Laws.{fault_of}
use Rattle.grammar.specs.Reading.{Events, hang_events}
use Rattle.plan.specs.declared.tables.Plan.{Plan}
use Rattle.plan.specs.Model.{Model, model_of}
use Rattle.std.specs.List.{list_all}
use Rattle.plan.specs.Sound.{atom_limit, ends, free_limit, link_limit}
use Rattle.plan.specs.Tests.{sound_test}
use Rattle.placing.specs.Answer.{hang_answer, hung_text}
use Rattle.placing.specs.Keeps.{OfText, SoundModel}
use Rattle.placing.specs.Placing.{hung}
use Rattle.showing.specs.Shown.{show_answer, shown}
use Rattle.sameness.specs.Renaming.{Renamed}

-- a sound plan stays sound, where the new numbers are in the limit
abbrev pub RenamingSound : {L : Type 0} → Kind L → Type 0
RenamingSound k = (m n : Model _) → SoundModel k m → Renamed m n → list_all (λ x. nat_lt x link_limit) (ends n) ≡ true → SoundModel k n

pub record RenamingShown {L : Type 0} (k : Kind L) : Type 0 where
  -- its text stays the same
  pub text : (m n : Model L) → Renamed m n → shown k n ≡ shown k m
  -- and show's answer
  pub answer : (p q : Plan L) (room : ℕ) → sound_test k p ≡ true → sound_test k q ≡ true → Renamed (model_of p) (model_of q) → show_answer k q room ≡ show_answer k p room

-- the tables of two plans are as long
pub record SameRoom {L : Type 0} (p q : Plan L) : Type 0 where
  pub atoms : length q.atoms.now ≡ length p.atoms.now
  pub cells : length q.cells.now ≡ length p.cells.now
  pub free : length q.free.now ≡ length p.free.now
  pub register : length q.register.now ≡ length p.register.now

pub record RenamingHung {L : Type 0} (k : Kind L) : Type 0 where
  -- after the names and events of a text, within the limits, sound plans that were the same but for links are so still
  pub placed : (m n : Model L) (names : List Standing) (es : Events L) → SoundModel k m → SoundModel k n → Renamed m n → OfText k names es → length (hung k m names es).atoms ≤ atom_limit → length (hung k m names es).free ≤ free_limit → Renamed (hung k m names es) (hung k n names es)
  -- after a text without fault
  pub text : (m n : Model L) (text : List ℕ) → SoundModel k m → SoundModel k n → Renamed m n → fault_of (hang_events k 0 text) ≡ None → length (hung_text k m text).atoms ≤ atom_limit → length (hung_text k m text).free ≤ free_limit → Renamed (hung_text k m text) (hung_text k n text)
  -- and hang's answer is the same
  pub answer : (p q : Plan L) (text : List ℕ) → sound_test k p ≡ true → sound_test k q ≡ true → Renamed (model_of p) (model_of q) → SameRoom p q → hang_answer k q text ≡ hang_answer k p text
