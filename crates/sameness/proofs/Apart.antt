-- A renaming that is one to one on what stands agrees there with one that is one to one everywhere.
use Rattle.std.proofs.Common.{◌≡◌, ℕ, suc, ◌+◌, ◌<◌, ◌≤◌, cond, eqb, ltb, List, [], ◌∷◌, map, sym, refl, ap, ◌∙◌, ap₂, ⊎_elim, arith}
use Rattle.std.proofs.lemmas.Bool.{cases_eq, cases_lt, cond-false, cond-true, eq-eqb, le-ltb, lt-ltb, ne_eqb}
use Rattle.std.proofs.lemmas.Bool.Decides.{nat_tests}
use Rattle.plan.specs.Model.{Model}
use Rattle.plan.specs.Sound.{count, ends}
use Rattle.sameness.specs.Renaming.{Renamed, renamed_by}
use Rattle.sameness.proofs.Renaming.{renamed_agree}

-- different numbers get different numbers
abbrev pub Apart : (ℕ → ℕ) → Type 0
Apart f = (x y : ℕ) → f x ≡ f y → x ≡ y

-- a number above all that f gives on a list
unfoldable above : (ℕ → ℕ) → List ℕ → ℕ
above f [] = 0
above f (x ∷ xs) = suc (f x) + above f xs

above_all : (f : ℕ → ℕ) (xs : List ℕ) (x : ℕ) → 0 < count x xs → f x < above f xs
unfolding above count
above_all f [] x h = absurd (omega arith)
above_all f (y ∷ ys) x h =
    let ih = above_all f ys x in
    let same : x ≡ y → f x ≡ f y = λ e. ap f e in
    grind (arith, nat_tests)

module _ (f : ℕ → ℕ) (xs : List ℕ) where
  spread : ℕ → ℕ
  spread x = cond (ltb 0 (count x xs)) (f x) (x + above f xs)

  spread_in : (x : ℕ) → 0 < count x xs → spread x ≡ f x
  unfolding spread
  spread_in x h = cond-true (ltb 0 (count x xs)) (f x) (x + above f xs) (lt-ltb 0 (count x xs) h)

  spread_out : (x : ℕ) → count x xs ≤ 0 → spread x ≡ x + above f xs
  unfolding spread
  spread_out x h = cond-false (ltb 0 (count x xs)) (f x) (x + above f xs) (le-ltb 0 (count x xs) h)

  spread_apart : ((x y : ℕ) → 0 < count x xs → 0 < count y xs → f x ≡ f y → x ≡ y) → Apart spread
  spread_apart one x y e =
      let in_x = spread_in x in
      let in_y = spread_in y in
      let out_x = spread_out x in
      let out_y = spread_out y in
      let top_x = above_all f xs x in
      let top_y = above_all f xs y in
      ⊎_elim
      (λ (a : 0 < count x xs).
      ⊎_elim
      (λ (b : 0 < count y xs). one x y a b (sym (in_x a) ∙ e ∙ in_y b))
      (λ (b : count y xs ≤ 0). absurd (omega (arith, in_x a, out_y b, top_x a)))
      (cases_lt 0 (count y xs)))
      (λ (a : count x xs ≤ 0).
      ⊎_elim
      (λ (b : 0 < count y xs). absurd (omega (arith, out_x a, in_y b, top_y b)))
      (λ (b : count y xs ≤ 0). omega (arith, out_x a, out_y b))
      (cases_lt 0 (count y xs)))
      (cases_lt 0 (count x xs))

pub record RenamedApart {L : Type 0} (m n : Model L) : Type 0 where
  pub to : ℕ → ℕ
  pub apart : Apart to
  pub same : n ≡ renamed_by to m

pub all_apart : {L : Type 0} (m n : Model L) → Renamed m n → RenamedApart m n
all_apart m n r =
    record {
      to = spread r.to (ends m);
      apart = spread_apart r.to (ends m) r.one_to_one;
      same = r.same ∙ renamed_agree r.to (spread r.to (ends m)) m (λ x h. sym (spread_in r.to (ends m) x h));
    }

-- ** tests of numbers

module _ (f : ℕ → ℕ) (apart : Apart f) where
  pub eqb_by : (x y : ℕ) → eqb (f x) (f y) ≡ eqb x y
  eqb_by x y =
      ⊎_elim
      (λ (e : x ≡ y). eq-eqb (f x) (f y) (ap f e) ∙ sym (eq-eqb x y e))
      (λ (e : x ≡ y → ⊥). ne_eqb (f x) (f y) (λ h. e (apart x y h)) ∙ sym (ne_eqb x y e))
      (cases_eq x y)

  pub count_by : (x : ℕ) (xs : List ℕ) → count (f x) (map f xs) ≡ count x xs
  unfolding count
  count_by x [] = refl
  count_by x (y ∷ ys) = ap₂ (λ b n. cond b (suc n) n) (eqb_by x y) (count_by x ys)
