-- The place of a label among the rows.
use Rattle.std.proofs.Common.{◌≡◌, ℕ, suc, ◌+◌, Bool, true, false, cond, List, ◌∷◌, Ok, Err, Result, refl, ◌∙◌, arith}
use Rattle.std.proofs.lemmas.Bool.{cond-true, cond-false}
use Rattle.label.specs.Kind.{Kind}
use Rattle.plan.specs.declared.tables.Census.{Census}
use Rattle.plan.specs.Sound.{registered}
use Rattle.register.specs.Rows.{below, sought}

-- what an answer says
ok_says : (b : Bool) (at n : ℕ) → ◌≡◌ {A = Result ℕ ℕ} (Ok at) (cond b (Ok n) (Err n)) → (b ≡ true) × (at ≡ n)
ok_says true at n h = (refl, cc)
ok_says false at n h = cc

err_says : (b : Bool) (at n : ℕ) → ◌≡◌ {A = Result ℕ ℕ} (Err at) (cond b (Ok n) (Err n)) → (b ≡ false) × (at ≡ n)
err_says true at n h = cc
err_says false at n h = (refl, cc)

module _ {L : Type 0} (k : Kind L) (l : L) where
  pub sought_ok : (s : List (Census L)) (at : ℕ) → Ok at ≡ sought k l s → (registered k l s ≡ true) × (at ≡ below k l s)
  sought_ok s at h = ok_says (registered k l s) at (below k l s) h

  pub sought_err : (s : List (Census L)) (at : ℕ) → Err at ≡ sought k l s → (registered k l s ≡ false) × (at ≡ below k l s)
  sought_err s at h = err_says (registered k l s) at (below k l s) h

  pub below_stop : (c : Census L) (cs : List (Census L)) → k.lower c.label l ≡ false → below k l (c ∷ cs) ≡ 0
  below_stop c cs e = cond-false (k.lower c.label l) _ _ e

  pub below_on : (c : Census L) (cs : List (Census L)) → k.lower c.label l ≡ true → below k l (c ∷ cs) ≡ suc (below k l cs)
  below_on c cs e = cond-true (k.lower c.label l) (1 + below k l cs) 0 e ∙ omega arith
