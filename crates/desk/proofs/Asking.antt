-- What a call answers, by what tables hold.
use Rattle.std.proofs.Common.{◌≡◌, ℕ, zero, suc, Bool, true, false, cond, ◌&&◌, eqb, List, [], ◌∷◌, length, take, Ok, Err, Result, refl, ap, ◌∙◌, arith, eqb-true}
use borrow.Author.Tests.{eqb-false}
use Rattle.std.proofs.lemmas.Bool.{cond-true, cond-false}
use Rattle.fault.specs.declared.Fault.{Fault}
use Rattle.label.specs.Kind.{Kind}
use Rattle.grammar.specs.Reading.{hang_events}
use Rattle.grammar.specs.Laws.{fault_of}
use Rattle.plan.specs.declared.tables.Cell.{Cell}
use Rattle.plan.specs.declared.tables.Plan.{Plan}
use Rattle.plan.specs.Model.{Model, model_of, tables_of}
use Rattle.plan.specs.Sound.{counts_fit}
use Rattle.plan.specs.Tests.{atoms_test, cells_test, links_test, names_test, register_test, sound_test}
use Rattle.placing.specs.Answer.{hang_answer, unless_fault}
use Rattle.showing.specs.Shown.{show_answer, show_buffer, shown}
use Rattle.desk.specs.Held.{Ready, held}
use Rattle.desk.specs.Calls.{hang_told, show_told, shown_over}
use Rattle.desk.proofs.Lending.{Told}

and_false : (b : Bool) → (b && false) ≡ false
and_false true = refl
and_false false = refl

no_root : (n : ℕ) (cs : List Cell) → length cs ≡ 0 → cells_test (take n cs) ≡ false
no_root zero cs e = refl
no_root (suc n) [] e = refl
no_root (suc n) (c ∷ cs) e = absurd (omega arith)

module _ {L : Type 0} (k : Kind L) (p : Plan L) where
  -- without a row for the root no plan is sound
  rootless : eqb (length p.cells.now) 0 ≡ true → sound_test k p ≡ false
  rootless z =
      let e = no_root p.cell_count p.cells.now (eqb-true (length p.cells.now) 0 z) in
      ap (λ b. counts_fit p && (b && (atoms_test k (length (take p.cell_count p.cells.now)) (take p.atom_count p.atoms.now) && (links_test (model_of p).atoms (model_of p).free && (names_test (model_of p).free && register_test k (model_of p).atoms (model_of p).register))))) e
      ∙ and_false (counts_fit p)

  rooted : Ready k (tables_of p) → eqb (length p.cells.now) 0 ≡ false → sound_test k p ≡ true
  rooted ready z = let d = eqb-false (length p.cells.now) 0 z in ready (omega arith)

  choice : {A : Type 0} (x y : A) (z : Bool) → Ready k (tables_of p) → eqb (length p.cells.now) 0 ≡ z → cond (sound_test k p) x y ≡ cond z y x
  choice x y true ready e = cond-false (sound_test k p) x y (rootless e)
  choice x y false ready e = cond-true (sound_test k p) x y (rooted ready e)

  hang_same : (text : List ℕ) → Ready k (tables_of p) → hang_answer k p text ≡ hang_told k (held (tables_of p)) text
  hang_same text ready = ap (unless_fault (fault_of (hang_events k 0 text))) (choice _ _ (eqb (length p.cells.now) 0) ready refl)

  pub show_same : (room : ℕ) → Ready k (tables_of p) → show_answer k p room ≡ show_told k (held (tables_of p)) room
  show_same room ready = choice _ _ (eqb (length p.cells.now) 0) ready refl

  pub buffer_same : (old : List ℕ) (r : Result ℕ Fault) → show_buffer k p old r ≡ shown_over r (shown k (model_of p)) old
  buffer_same old (Ok n) = refl
  buffer_same old (Err f) = refl

pub hang_by : {L : Type 0} {k : Kind L} {p q : Plan L} {r : Result (Unit {0}) Fault} {m : Model L} → Told k p q r m → (text : List ℕ) →
    r ≡ hang_answer k p text → Ready k (tables_of p) → r ≡ hang_told k (held (tables_of p)) text
hang_by {k = k} {p = p} told text e ready = e ∙ hang_same k p text ready
