-- What the verdict on a token means: its lowest fault, or none.
use Rattle.std.proofs.Common.{◌≡◌, ℕ, ◌≤◌, Bool, true, false, List, Ok, Err, Option, Result, refl, arith}
use Rattle.std.proofs.lemmas.Bool.{false≢true, both_ways, cond_both}
use Rattle.fault.specs.declared.Refusal.{Refusal}
use Rattle.fault.specs.declared.Refusal.TheVariants.{TextTooLong, NoToken, LongName, ForeignLabel, Unexpected, TooDeep, NinthPort, HangName, MisplacedSet, TooManyItems, TooManyRules, SetNumber, RuleName, EmptyLeft, LeftConnector, RestOrContext, DraftRow, Budget, TallyLength, ShortPage, UnsoundPlan, FullTables, FewRows, ShortBuffer}
use Rattle.fault.specs.Table.{number_of}
use Rattle.label.specs.Kind.{Kind}
use Rattle.grammar.specs.declared.event.Event.{Event}
use Rattle.grammar.specs.Seen.{Seen}
use Rattle.grammar.specs.State.{State}
use Rattle.grammar.specs.Tests.{foreign_label, unexpected, too_deep, ninth_port, third_standing, misplaced_set, crowded, wrong_set}
use Rattle.grammar.specs.Reading.{judged}
use Rattle.grammar.specs.Laws.{token_test}

module _ {L : Type 0} (k : Kind L) (bs : List ℕ) where
  -- what holds of the eight tests, and of those that never fail, holds of all
  pub by_test : (P : Refusal → Bool → Type 0) (st : State) (s : Seen) → P ForeignLabel (foreign_label k st s) → P Unexpected (unexpected st s) → P TooDeep (too_deep st s) → P NinthPort (ninth_port st s) → P HangName (third_standing st s) → P MisplacedSet (misplaced_set st s) → P TooManyItems (crowded st s) → P SetNumber (wrong_set st s) → ((r : Refusal) → P r false) → (r : Refusal) → P r (token_test k bs r st s)
  by_test P st s a b c d e f g h never TextTooLong = never TextTooLong
  by_test P st s a b c d e f g h never NoToken = never NoToken
  by_test P st s a b c d e f g h never LongName = never LongName
  by_test P st s a b c d e f g h never ForeignLabel = a
  by_test P st s a b c d e f g h never Unexpected = b
  by_test P st s a b c d e f g h never TooDeep = c
  by_test P st s a b c d e f g h never NinthPort = d
  by_test P st s a b c d e f g h never HangName = e
  by_test P st s a b c d e f g h never MisplacedSet = f
  by_test P st s a b c d e f g h never TooManyItems = g
  by_test P st s a b c d e f g h never TooManyRules = never TooManyRules
  by_test P st s a b c d e f g h never SetNumber = h
  by_test P st s a b c d e f g h never RuleName = never RuleName
  by_test P st s a b c d e f g h never EmptyLeft = never EmptyLeft
  by_test P st s a b c d e f g h never LeftConnector = never LeftConnector
  by_test P st s a b c d e f g h never RestOrContext = never RestOrContext
  by_test P st s a b c d e f g h never DraftRow = never DraftRow
  by_test P st s a b c d e f g h never Budget = never Budget
  by_test P st s a b c d e f g h never TallyLength = never TallyLength
  by_test P st s a b c d e f g h never ShortPage = never ShortPage
  by_test P st s a b c d e f g h never UnsoundPlan = never UnsoundPlan
  by_test P st s a b c d e f g h never FullTables = never FullTables
  by_test P st s a b c d e f g h never FewRows = never FewRows
  by_test P st s a b c d e f g h never ShortBuffer = never ShortBuffer

  abbrev pub Verdict : State → Seen → Result (Option (Event L)) Refusal → Type 0
  Verdict st s (Ok e) = (r : Refusal) → token_test k bs r st s ≡ false
  Verdict st s (Err x) = (token_test k bs x st s ≡ true) × ((r : Refusal) → token_test k bs r st s ≡ true → number_of x ≤ number_of r)

  -- a refusal that is wrong has at least this number
  abbrev Least : ℕ → Refusal → Bool → Type 0
  Least n r b = b ≡ true → n ≤ number_of r

  off : {b : Bool} {n m : ℕ} → b ≡ false → b ≡ true → n ≤ m
  off {b} e t = absurd (both_ways b e t)

  never : (n : ℕ) (r : Refusal) → Least n r false
  never n r t = absurd (false≢true t)

  pub verdict : (st : State) (s : Seen) → Verdict st s (judged k st s)
  verdict st s =
      cond_both (foreign_label k st s) _ _ (Verdict st s) (λ w. (w, by_test (Least 4) st s (λ _. omega arith) (λ _. omega arith) (λ _. omega arith) (λ _. omega arith) (λ _. omega arith) (λ _. omega arith) (λ _. omega arith) (λ _. omega arith) (never 4))) (λ a.
      cond_both (unexpected st s) _ _ (Verdict st s) (λ w. (w, by_test (Least 5) st s (off a) (λ _. omega arith) (λ _. omega arith) (λ _. omega arith) (λ _. omega arith) (λ _. omega arith) (λ _. omega arith) (λ _. omega arith) (never 5))) (λ b.
      cond_both (too_deep st s) _ _ (Verdict st s) (λ w. (w, by_test (Least 6) st s (off a) (off b) (λ _. omega arith) (λ _. omega arith) (λ _. omega arith) (λ _. omega arith) (λ _. omega arith) (λ _. omega arith) (never 6))) (λ c.
      cond_both (ninth_port st s) _ _ (Verdict st s) (λ w. (w, by_test (Least 7) st s (off a) (off b) (off c) (λ _. omega arith) (λ _. omega arith) (λ _. omega arith) (λ _. omega arith) (λ _. omega arith) (never 7))) (λ d.
      cond_both (third_standing st s) _ _ (Verdict st s) (λ w. (w, by_test (Least 8) st s (off a) (off b) (off c) (off d) (λ _. omega arith) (λ _. omega arith) (λ _. omega arith) (λ _. omega arith) (never 8))) (λ e.
      cond_both (misplaced_set st s) _ _ (Verdict st s) (λ w. (w, by_test (Least 11) st s (off a) (off b) (off c) (off d) (off e) (λ _. omega arith) (λ _. omega arith) (λ _. omega arith) (never 11))) (λ f.
      cond_both (crowded st s) _ _ (Verdict st s) (λ w. (w, by_test (Least 12) st s (off a) (off b) (off c) (off d) (off e) (off f) (λ _. omega arith) (λ _. omega arith) (never 12))) (λ g.
      cond_both (wrong_set st s) _ _ (Verdict st s) (λ w. (w, by_test (Least 14) st s (off a) (off b) (off c) (off d) (off e) (off f) (off g) (λ _. omega arith) (never 14))) (λ h.
      by_test (λ r b. b ≡ false) st s a b c d e f g h (λ r. refl)))))))))
