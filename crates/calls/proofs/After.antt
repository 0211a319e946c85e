-- What holds after every list of calls.
use Rattle.std.proofs.Common.{◌≡◌, ℕ, ◌+◌, ◌%◌, ◌<◌, Bool, true, false, cond, not, eqb, leb, List, [], ◌∷◌, ◌++◌, length, Some, None, Ok, Err, Option, Result, sym, refl, ap, ◌∙◌, arith}
use Rattle.std.proofs.lemmas.Bool.{and_from, and_parts, le-leb, leb-true, ne_eqb}
use Rattle.std.proofs.lemmas.Bool.Decides.{nat_tests}
use Rattle.fault.specs.declared.Refusal.TheVariants.{UnsoundPlan}
use Rattle.fault.specs.declared.Fault.{Fault}
use Rattle.label.specs.Kind.{Kind, Lawful}
use Rattle.text.specs.declared.packed.Name.{Name}
use Rattle.grammar.specs.Reading.{hang_events}
use Rattle.grammar.specs.Laws.{fault_of}
use Rattle.plan.specs.Model.{Model, struck}
use Rattle.plan.specs.Sound.{ascending, atoms_of, count, distinct, leads, port_links, registered, rows}
use Rattle.placing.specs.Answer.{hung_text, unless_fault}
use Rattle.placing.specs.Counts.{cells_in, label_count, labels_in}
use Rattle.placing.specs.Keeps.{SoundModel}
use Rattle.placing.specs.Links.{open_link}
use Rattle.placing.proofs.HangLaws.{hang_laws}
use Rattle.placing.proofs.HangSound.{hang_sound}
use Rattle.calls.specs.Calls.{Call, strike, hang, show, Limits, accepts, after, answer, answers, made, next, next_texts, strike_on, texts_after, within}
use Rattle.calls.specs.CallLaws.{AfterLaw, FitLimits, PlanLaws, atoms_written, cells_written, has_once, once_texts, written}

-- ** the ways of a call

-- what holds of each refusal, and of acceptance where the text has no fault and a test passes, holds of the answer
pub by_answer : (o : Option Fault) (b : Bool) (x : Fault) (P : Result (Unit {0}) Fault → Type 0) → ((f : Fault) → P (Err f)) → (o ≡ None → b ≡ true → P (Ok tt)) → P (unless_fault o (cond b (Ok tt) (Err x)))
by_answer (Some f) b x P bad good = bad f
by_answer None true x P bad good = good refl refl
by_answer None false x P bad good = bad x

pub by_strike : (l : Limits) (P : Result (Unit {0}) Fault → Type 0) → ((f : Fault) → P (Err f)) → P (Ok tt) → P (strike_on l)
by_strike l P bad good =
    let x : Fault = record { refusal = UnsoundPlan; place = 0 } in
    elim (eqb l.cells 0) as (λ v. P (cond v (Err x) (Ok tt))) [ true ↦ bad x | false ↦ good ]

-- ** one more call

pub after_more : {L : Type 0} (k : Kind L) (l : Limits) (m : Model L) (calls : List Call) (c : Call) → after k l m (calls ++ (c ∷ [])) ≡ next k l (after k l m calls) c
unfolding after
after_more k l m [] c = refl
after_more k l m (d ∷ calls) c = after_more k l (next k l m d) calls c

answers_more : {L : Type 0} (k : Kind L) (l : Limits) (m : Model L) (calls : List Call) (c : Call) → answers k l m (calls ++ (c ∷ [])) ≡ answers k l m calls ++ (answer k l (after k l m calls) c ∷ [])
unfolding after answers
answers_more k l m [] c = refl
answers_more k l m (d ∷ calls) c = ap (λ xs. answer k l m d ∷ xs) (answers_more k l (next k l m d) calls c)

-- ** one more text

even_odd : (b : Bool) (n : ℕ) → eqb ((n + cond b 1 0) % 2) 1 ≡ cond b (not (eqb (n % 2) 1)) (eqb (n % 2) 1)
even_odd true n = grind (arith, nat_tests)
even_odd false n = grind (arith, nat_tests)

module _ {L : Type 0} (k : Kind L) where
  once_more : (n : Name) (t : List ℕ) (ts : List (List ℕ)) → once_texts k n (ts ++ (t ∷ [])) ≡ once_texts k n ts + cond (has_once k n t) 1 0
  unfolding once_texts
  once_more n t [] = grind (arith, nat_tests)
  once_more n t (u ∷ ts) = let ih = once_more n t ts in grind (arith, nat_tests)

  written_more : (x : L) (t : List ℕ) (ts : List (List ℕ)) → written k x (ts ++ (t ∷ [])) ≡ written k x ts + label_count k x (hang_events k 0 t)
  unfolding written
  written_more x t [] = omega arith
  written_more x t (u ∷ ts) = let ih = written_more x t ts in omega arith

  atoms_more : (t : List ℕ) (ts : List (List ℕ)) → atoms_written k (ts ++ (t ∷ [])) ≡ atoms_written k ts + labels_in (hang_events k 0 t)
  unfolding atoms_written
  atoms_more t [] = omega arith
  atoms_more t (u ∷ ts) = let ih = atoms_more t ts in omega arith

  cells_more : (t : List ℕ) (ts : List (List ℕ)) → cells_written k (ts ++ (t ∷ [])) ≡ cells_written k ts + cells_in (hang_events k 0 t)
  unfolding cells_written
  cells_more t [] = omega arith
  cells_more t (u ∷ ts) = let ih = cells_more t ts in omega arith

  pub struck_sound : SoundModel k struck
  unfolding ascending count distinct leads port_links registered rows
  struck_sound =
      record { root = refl; depth = refl; sets = refl; labels = refl; homes = refl; ports = refl; links = refl; pairs = refl; names = refl; apart = refl; register = refl }

  pub holds_struck : (l : Limits) → FitLimits l → PlanLaws k l struck []
  unfolding once_texts written atoms_written cells_written open_link atoms_of
  holds_struck l fit =
      let root = fit.root in
      record {
        sound = struck_sound;
        fits = and_from _ _ (le-leb 0 l.atoms (omega arith)) (and_from _ _ (le-leb 1 l.cells (omega arith)) (and_from _ _ (le-leb 0 l.free (omega arith)) (le-leb 0 l.labels (omega arith))));
        open_names = λ n. refl;
        labels = λ x. refl;
        atom_number = refl;
        cell_number = refl;
      }

  -- a strike is accepted where there is a row for the root
  pub strikes : (l : Limits) → 0 < l.cells → strike_on l ≡ Ok tt
  strikes l h = ap (λ v. cond v (Err (record { refusal = UnsoundPlan; place = 0 })) (Ok tt)) (ne_eqb l.cells 0 (λ e. omega arith))

  struck_anew : (l : Limits) (m : Model L) (calls : List Call) → FitLimits l → after k l m (strike ∷ calls) ≡ made k l calls
  unfolding after
  struck_anew l m calls fit = ap (λ r. after k l (accepts r struck m) calls) (strikes l fit.root)

  module _ (law : Lawful k) where
    pub holds_hung : (l : Limits) (m : Model L) (ts : List (List ℕ)) (text : List ℕ) → FitLimits l → PlanLaws k l m ts → fault_of (hang_events k 0 text) ≡ None → within l (hung_text k m text) ≡ true → PlanLaws k l (hung_text k m text) (ts ++ (text ∷ []))
    holds_hung l m ts text fit h clean fits =
        let laws = hang_laws k law m text clean in
        let new = hung_text k m text in
        let one = and_parts (leb (length new.atoms) l.atoms) _ fits in
        let two = and_parts (leb (length new.cells) l.cells) _ one.1 in
        let three = and_parts (leb (length new.free) l.free) _ two.1 in
        let a = leb-true (length new.atoms) l.atoms one.0 in
        let f = leb-true (length new.free) l.free three.0 in
        let few = fit.atoms in
        let few_free = fit.free in
        record {
          sound = hang_sound k law m text h.sound clean (omega arith) (omega arith);
          fits = fits;
          open_names = λ n.
              laws.open_names n ∙ ap (λ v. cond (has_once k n text) (not v) v) (h.open_names n)
              ∙ sym (even_odd (has_once k n text) (once_texts k n ts)) ∙ ap (λ c. eqb (c % 2) 1) (sym (once_more n text ts));
          labels = λ x. laws.labels x ∙ ap (λ c. c + label_count k x (hang_events k 0 text)) (h.labels x) ∙ sym (written_more x text ts);
          atom_number = laws.atom_number ∙ ap (λ c. c + labels_in (hang_events k 0 text)) h.atom_number ∙ sym (atoms_more text ts);
          cell_number = let x = laws.cell_number in let y = h.cell_number in let z = cells_more text ts in omega arith;
        }

    holds_next : (l : Limits) (m : Model L) (ts : List (List ℕ)) (c : Call) → FitLimits l → PlanLaws k l m ts → PlanLaws k l (next k l m c) (next_texts k l m ts c)
    holds_next l m ts strike fit h = by_strike l (λ r. PlanLaws k l (accepts r struck m) (accepts r [] ts)) (λ f. h) (holds_struck l fit)
    holds_next l m ts (hang text) fit h =
        by_answer (fault_of (hang_events k 0 text)) (within l (hung_text k m text)) _
        (λ r. PlanLaws k l (accepts r (hung_text k m text) m) (accepts r (ts ++ (text ∷ [])) ts)) (λ f. h) (holds_hung l m ts text fit h)
    holds_next l m ts (show room) fit h = h

    pub holds_after : (l : Limits) (m : Model L) (ts : List (List ℕ)) (calls : List Call) → FitLimits l → PlanLaws k l m ts → PlanLaws k l (after k l m calls) (texts_after k l m ts calls)
    unfolding after texts_after
    holds_after l m ts [] fit h = h
    holds_after l m ts (c ∷ calls) fit h = holds_after l (next k l m c) (next_texts k l m ts c) calls fit (holds_next l m ts c fit h)

    pub after_law : AfterLaw k
    after_law l calls fit =
        record { laws = holds_after l struck [] calls fit (holds_struck l fit); anew = λ m. struck_anew l m calls fit; plan_more = after_more k l struck calls; answer_more = answers_more k l struck calls }
