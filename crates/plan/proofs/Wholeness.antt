-- What soundness gives.
use Rattle.std.proofs.Common.{◌≡◌, ℕ, zero, suc, ◌+◌, ◌<◌, ◌≤◌, Bool, true, false, cond, eqb, List, [], ◌∷◌, length, get_or, Some, None, Option, refl, ap, ◌∙◌, ⊎_elim, arith}
use Rattle.std.proofs.lemmas.Bool.{and_parts, both_ways, cases_eq, cond-false, eqb-true, ne_eqb, or_cases}
use Rattle.label.specs.Kind.{Kind}
use Rattle.plan.specs.declared.tables.Cell.{Cell}
use Rattle.plan.specs.declared.tables.Plan.{Plan}
use Rattle.plan.specs.Model.{model_of}
use Rattle.std.specs.List.{list_all}
use Rattle.plan.specs.Sound.{Sound, count, ends, leads, no_cell, onward, rows}
use Rattle.plan.specs.Whole.{Whole, climbs}

-- what passes of every number passes of each that stands
each_standing : (p : ℕ → Bool) (s : List ℕ) (x : ℕ) → list_all p s ≡ true → 0 < count x s → p x ≡ true
unfolding count
each_standing p [] x h k = absurd (omega arith)
each_standing p (y ∷ s) x h k =
    let both = and_parts (p y) (list_all p s) h in
    ⊎_elim
    (λ (e : x ≡ y). ap p e ∙ both.0)
    (λ (e : x ≡ y → ⊥). let n : cond (eqb x y) (suc (count x s)) (count x s) ≡ count x s = cond-false (eqb x y) (suc (count x s)) (count x s) (ne_eqb x y e) in each_standing p s x both.1 (omega arith))
    (cases_eq x y)

each_row : (p : ℕ → Bool) (j n i : ℕ) → list_all p (rows j n) ≡ true → j ≤ i → i < j + n → p i ≡ true
unfolding rows
each_row p j zero i h a b = absurd (omega arith)
each_row p j (suc n) i h a b =
    let both = and_parts (p j) (list_all p (rows (suc j) n)) h in
    ⊎_elim
    (λ (e : i ≡ j). ap p e ∙ both.0)
    (λ (e : i ≡ j → ⊥). each_row p (suc j) n i both.1 (omega arith) (omega arith))
    (cases_eq i j)

onward_some : (f : ℕ → Bool) (o : Option ℕ) → onward f o ≡ true → (p : ℕ) × ((o ≡ Some p) × (f p ≡ true))
onward_some f None h = absurd (both_ways false refl h)
onward_some f (Some p) h = (p, (refl, h))

chain : (n : ℕ) (cs : List Cell) (i : ℕ) → leads n cs i ≡ true → (ps : List ℕ) × ((length ps ≤ n) × climbs cs i ps)
unfolding leads
chain zero cs i h = ([], (omega arith, eqb-true i 0 h))
chain (suc n) cs i h =
    ⊎_elim
    (λ e. ([], (omega arith, eqb-true i 0 e)))
    (λ e.
    let up = onward_some (λ p. leads n cs p) (get_or cs i no_cell).parent e in
    let rest = chain n cs up.0 up.1.1 in
    let short : length rest.0 ≤ n = rest.1.0 in
    (up.0 ∷ rest.0, (omega arith, (up.1.0, rest.1.1))))
    (or_cases (eqb i 0) (onward (λ p. leads n cs p) (get_or cs i no_cell).parent) h)

pub whole : {L : Type 0} (k : Kind L) (p : Plan L) → Sound k p → Whole (model_of p)
whole k p s =
    record {
      two_ended = λ x h. eqb-true _ 2 (each_standing (λ x. eqb (count x (ends (model_of p))) 2) (ends (model_of p)) x s.pairs h);
      led = λ row h. chain 16 (model_of p).cells row (each_row (leads 16 (model_of p).cells) 0 (length (model_of p).cells) row s.depth (omega arith) (omega arith));
    }
