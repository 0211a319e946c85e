-- The labels that a register lacks, one after another.
use Rattle.std.proofs.Common.{◌≡◌, ℕ, ◌+◌, Bool, true, ◌&&◌, ◌||◌, List, [], ◌∷◌, map, Some, None, Option, refl, ap₂, ◌∙◌}
use Rattle.std.specs.List.{list_any}
use Rattle.std.specs.Option.{option_eq, option_map}
use Rattle.std.specs.Str.{bytes_eq}
use Rattle.std.proofs.lemmas.Bool.{and_parts}
use denote.Enum.Bare.{sameb}
use Rattle.label.specs.contracts.form.Form.{the_type}
use Rattle.label.specs.Kind.{Kind}
use Rattle.label.specs.declared.form.Form.{Form}
use Rattle.label.specs.declared.form.Form.TheVariants.{Word, Number}
use Rattle.label.specs.declared.spelled.Spelled.{Spelled}
use Rattle.label.specs.Written.{told}
use Rattle.grammar.specs.declared.event.Event.{Event}
use Rattle.grammar.specs.Reading.{Events, event, end}
use Rattle.plan.specs.declared.tables.Census.{Census}
use Rattle.grammar.specs.Events.{summed}
use Rattle.placing.specs.Counts.{labels_at, labels_in}
use Rattle.hang.specs.Labels.{all_mine, is_mine, known, lacking, noted_label, same, same_form}

pub lacking_on : {L : Type 0} (k : Kind L) (register : List (Census L)) (ls : List (Option (Form × List ℕ))) (e : Event L) (rest : Events L) → lacking k register ls (event e rest) ≡ lacking k register (noted_label k register ls e) rest
unfolding lacking
lacking_on k register ls e rest = refl

pub lacking_end : {L : Type 0} (k : Kind L) (register : List (Census L)) (ls : List (Option (Form × List ℕ))) → lacking k register ls end ≡ ls
unfolding lacking
lacking_end k register ls = refl

pub mine_on : {L : Type 0} (k : Kind L) (e : Event L) (rest : Events L) → all_mine k (event e rest) ≡ true → (is_mine k e ≡ true) × (all_mine k rest ≡ true)
unfolding all_mine
mine_on k e rest h = and_parts (is_mine k e) (all_mine k rest) h

pub labels_on : {L : Type 0} (e : Event L) (rest : Events L) → labels_in (event e rest) ≡ labels_at e + labels_in rest
unfolding summed
labels_on e rest = refl

-- what the code compares of two classes
pub forms_told : (a b : Form) → sameb the_type a b ≡ same_form a b
forms_told Word Word = refl
forms_told Word Number = refl
forms_told Number Word = refl
forms_told Number Number = refl

-- a token is known where the list has one equal to it
module _ {r : Bool} (is : Spelled → Spelled → Bool) (t : Option Spelled) (ts : List (Option Spelled)) where
  pub known_is : r ≡ list_any (λ x. option_eq is x t) ts → ((a b : Spelled) → is a b ≡ (same_form a.form b.form && bytes_eq a.bytes.items b.bytes.items)) → r ≡ known (option_map told t) (map (option_map told) ts)
  known_is e h = e ∙ any_told ts
    where
      one : (x y : Option Spelled) → option_eq is x y ≡ same (option_map told x) (option_map told y)
      one None None = refl
      one None (Some b) = refl
      one (Some a) None = refl
      one (Some a) (Some b) = h a b

      any_told : (xs : List (Option Spelled)) → list_any (λ x. option_eq is x t) xs ≡ known (option_map told t) (map (option_map told) xs)
      any_told [] = refl
      any_told (x ∷ xs) = ap₂ (λ a b. a || b) (one x t) (any_told xs)
