-- Links renamed: plans stay the same but for links when a text is hung on them.
use Rattle.placing.proofs.HangSound.{adding_keeps}
use Rattle.placing.proofs.HangSound.{of_text}
use Rattle.std.proofs.Common.{ℕ, ◌≤◌, cond, List, length, Ok, Err, sym, ◌∙◌, subst, ap₂}
use Rattle.fault.specs.declared.Refusal.TheVariants.{UnsoundPlan, FullTables}
use Rattle.label.specs.Kind.{Kind, Lawful}
use Rattle.grammar.specs.declared.stand.Standing.{Standing}
use Rattle.grammar.specs.Laws.{fault_of}
use Rattle.grammar.specs.Reading.{Events, hang_events}
use Rattle.grammar.specs.Sheets.{text_names}
use Rattle.plan.specs.Model.{Model, model_of}
use Rattle.placing.specs.Answer.{hung_text, unless_fault}
use Rattle.placing.specs.Keeps.{OfText, SoundModel}
use Rattle.placing.specs.Links.{unused}
use Rattle.placing.specs.Placing.{hung}
use Rattle.placing.proofs.KeepSound.{numbers_enough}
use Rattle.sameness.specs.Renaming.{OneToOne, Renamed, renamed_by}
use Rattle.sameness.specs.Keeping.{RenamingHung}
use Rattle.sameness.proofs.Answering.{AsLong, as_long, takes_same}
use Rattle.sameness.proofs.Fresh.{along, same_along, unused_along, within}
use Rattle.sameness.proofs.Hanging.{hung_by, hung_with}

-- ** the names and events of a text

-- ** the plan after it

module _ {L : Type 0} (k : Kind L) (law : Lawful k) where
  renamed_hung : (m : Model L) (f : ℕ → ℕ) (names : List Standing) (es : Events L) → OneToOne f m → SoundModel k m → SoundModel k (renamed_by f m) → OfText k names es → length (hung k m names es).atoms ≤ 1024 → length (hung k m names es).free ≤ 64 → Renamed (hung k m names es) (hung k (renamed_by f m) names es)
  renamed_hung m f names es one s s' t few_atoms few_free =
      let g = along k m f one s s' in
      let w = within k m f one s s' in
      record {
        to = g;
        one_to_one = λ x y h i e. w.apart x y e;
        same =
            ap₂ (λ n numbers. hung_with k n numbers names es) (same_along k m f one s s') (unused_along k m f one s s')
            ∙ hung_by k g w m (unused m) names es t (numbers_enough k (adding_keeps k law) m names es s t few_atoms few_free);
      }

  placed : (m n : Model L) (names : List Standing) (es : Events L) → SoundModel k m → SoundModel k n → Renamed m n → OfText k names es → length (hung k m names es).atoms ≤ 1024 → length (hung k m names es).free ≤ 64 → Renamed (hung k m names es) (hung k n names es)
  placed m n names es s s' r t few_atoms few_free =
      subst (λ o. Renamed (hung k m names es) (hung k o names es)) (sym r.same)
      (renamed_hung m r.to names es r.one_to_one s (subst (SoundModel k) r.same s') t few_atoms few_free)

  pub renaming_hung : RenamingHung k
  renaming_hung =
      record {
        placed = placed;
        text = λ m n bs s s' r e few_atoms few_free. placed m n (text_names bs) (hang_events k 0 bs) s s' r (of_text k law bs e) few_atoms few_free;
        answer = λ p q bs s t r room.
            let after : AsLong (hung_text k (model_of p) bs) (hung_text k (model_of q) bs) = subst (λ o. AsLong (hung_text k (model_of p) bs) (hung_text k o bs)) (sym r.same) (as_long k r.to (model_of p) (text_names bs) (hang_events k 0 bs)) in
            ap₂ (λ b c. unless_fault (fault_of (hang_events k 0 bs)) (cond b (cond c (Ok tt) (Err (record { refusal = FullTables; place = 0 }))) (Err (record { refusal = UnsoundPlan; place = 0 }))))
            (t ∙ sym s) (takes_same p q (hung_text k (model_of p) bs) (hung_text k (model_of q) bs) room after);
      }
