-- A text without fault, hung on a sound plan, leaves a sound plan.
use Rattle.std.proofs.Common.{◌≡◌, ℕ, Bool, true, ◌&&◌, List, [], ◌∷◌, None, refl, arith}
use Rattle.std.proofs.lemmas.Bool.{and_from, and_parts}
use Rattle.label.specs.Kind.{Kind, Lawful}
use Rattle.grammar.specs.declared.event.Event.{Event}
use Rattle.grammar.specs.declared.event.Event.TheVariants as events
use Rattle.grammar.specs.Reading.{Events, event, end, fault, hang_events}
use Rattle.grammar.specs.Laws.{fault_of}
use Rattle.grammar.specs.Sheets.{text_names}
use Rattle.std.specs.List.{list_all}
use Rattle.register.proofs.Adding.{adding}
use Rattle.grammar.specs.Events.{connectors_in, summed}
use Rattle.placing.specs.Keeps.{AddingKeeps, HangSound, OfText, connectors_of, more_connectors}
use Rattle.placing.proofs.Counting.{connectors_text}
use Rattle.placing.proofs.KeepSound.{keeps_sound}
use Rattle.placing.proofs.NamesOf.{names_right}
use Rattle.placing.proofs.Ordering.{orderly_text}

each_and : {A : Type 0} (p q : A → Bool) (xs : List A) → list_all p xs ≡ true → list_all q xs ≡ true → list_all (λ x. p x && q x) xs ≡ true
each_and p q [] h g = refl
each_and p q (x ∷ xs) h g =
    let a = and_parts (p x) (list_all p xs) h in
    let b = and_parts (q x) (list_all q xs) g in
    and_from (p x && q x) (list_all (λ x. p x && q x) xs) (and_from (p x) (q x) a.0 b.0) (each_and p q xs a.1 b.1)

more_same : {L : Type 0} (e : Event L) (es : Events L) → connectors_of es ≡ connectors_in es → more_connectors e (connectors_of es) ≡ connectors_in (event e es)
unfolding summed
more_same (events.Label l) es h = omega arith
more_same (events.Port n) es h = omega arith
more_same events.Enter es h = omega arith
more_same events.Leave es h = omega arith
more_same (events.Set j) es h = omega arith
more_same (events.First n) es h = omega arith
more_same (events.Second n) es h = omega arith

pub connectors_same : {L : Type 0} (es : Events L) → connectors_of es ≡ connectors_in es
unfolding connectors_of summed
connectors_same (event e es) = more_same e es (connectors_same es)
connectors_same end = refl
connectors_same (fault f) = refl

-- the names and events of a text without fault
pub of_text : {L : Type 0} (k : Kind L) → Lawful k → (bs : List ℕ) → fault_of (hang_events k 0 bs) ≡ None → OfText k (text_names bs) (hang_events k 0 bs)
of_text k law bs clean =
    let right = names_right k bs clean in
    let same = connectors_same (hang_events k 0 bs) in
    let few = connectors_text k bs in
    record {
      ordered = orderly_text k law bs;
      faultless = clean;
      told = right.standings;
      different = right.apart;
      fit = each_and _ _ (text_names bs) right.proper right.lettered;
      few = omega arith;
    }

-- one atom more keeps the register right
pub adding_keeps : {L : Type 0} (k : Kind L) → Lawful k → AddingKeeps k
adding_keeps k law nodes rows a right mine one = adding k a.label law one rows nodes a refl mine right

pub hang_sound : {L : Type 0} (k : Kind L) → Lawful k → HangSound k
hang_sound k law m bs sound clean few_atoms few_free =
    keeps_sound k (adding_keeps k law) m (text_names bs) (hang_events k 0 bs) sound (of_text k law bs clean) few_atoms few_free
