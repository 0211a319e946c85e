-- The free links after a text, one after another.
use Rattle.std.proofs.Common.{◌≡◌, ℕ, suc, ◌+◌, ◌<◌, Bool, true, false, cond, leb, List, [], ◌∷◌, ◌++◌, length, get_or, drop, filter, refl, ap, ap₂, ◌∙◌, append_assoc, arith, length-append}
use Rattle.std.proofs.Math.Seq.{drop-cons}
use Rattle.std.proofs.lemmas.Bool.Decides.{nat_tests}
use Rattle.grammar.specs.declared.stand.Standing.{Standing}
use Rattle.plan.specs.declared.tables.FreeLink.{FreeLink}
use Rattle.placing.specs.Links.{opened, opens}

module _ {A : Type 0} where
  -- one more is listed
  pub listed : (items out rest w : List A) (x : A) → out ≡ items ++ (x ∷ []) → items ++ (x ∷ rest) ≡ w → out ++ rest ≡ w
  listed items out rest w x o e = ap (λ s. s ++ rest) o ∙ append_assoc items (x ∷ []) rest ∙ e

  -- one more does not fit
  pub too_many : (items rest w more : List A) (x : A) → length items ≡ 64 → items ++ (x ∷ rest) ≡ w → false ≡ leb (length (w ++ more)) 64
  too_many items rest w more x n e =
      let l : length (items ++ (x ∷ rest)) ≡ length w = ap length e in
      let a = length-append items (x ∷ rest) in
      let b = length-append w more in
      grind (arith, nat_tests)

  module _ (p : A → Bool) (xs : List A) (i : ℕ) (d : A) (here : i < length xs) where
    front : filter p (drop i xs) ≡ cond (p (get_or xs i d)) (get_or xs i d ∷ filter p (drop (i + 1) xs)) (filter p (drop (i + 1) xs))
    front = let m : suc i ≡ i + 1 = omega arith in ap (filter p) (drop-cons xs i d here) ∙ ap (λ j. cond (p (get_or xs i d)) (get_or xs i d ∷ filter p (drop j xs)) (filter p (drop j xs))) m

    pub kept_here : p (get_or xs i d) ≡ true → filter p (drop i xs) ≡ get_or xs i d ∷ filter p (drop (i + 1) xs)
    kept_here e = front ∙ ap (λ v. cond v (get_or xs i d ∷ filter p (drop (i + 1) xs)) (filter p (drop (i + 1) xs))) e

    pub left_here : p (get_or xs i d) ≡ false → filter p (drop i xs) ≡ filter p (drop (i + 1) xs)
    left_here e = front ∙ ap (λ v. cond v (get_or xs i d ∷ filter p (drop (i + 1) xs)) (filter p (drop (i + 1) xs))) e

-- two lists as long as each other, each without its first
pub shorter : {A B : Type 0} (a ss : List A) (b xs : List B) (s : A) (x : B) → a ≡ s ∷ ss → b ≡ x ∷ xs → length a ≡ length b → length ss ≡ length xs
shorter a ss b xs s x e f l =
    let i : length a ≡ suc (length ss) = ap length e in
    let j : length b ≡ suc (length xs) = ap length f in
    omega arith

module _ (free : List FreeLink) where
  pub opened_here : (a ss : List Standing) (b xs : List ℕ) (s : Standing) (x : ℕ) → a ≡ s ∷ ss → b ≡ x ∷ xs → opens free s ≡ true → opened free a b ≡ record { name = s.name; link = x } ∷ opened free ss xs
  unfolding opened
  opened_here a ss b xs s x e f h = ap₂ (opened free) e f ∙ ap (λ v. cond v (record { name = s.name; link = x } ∷ opened free ss xs) (opened free ss xs)) h

  pub opened_not : (a ss : List Standing) (b xs : List ℕ) (s : Standing) (x : ℕ) → a ≡ s ∷ ss → b ≡ x ∷ xs → opens free s ≡ false → opened free a b ≡ opened free ss xs
  unfolding opened
  opened_not a ss b xs s x e f h = ap₂ (opened free) e f ∙ ap (λ v. cond v (record { name = s.name; link = x } ∷ opened free ss xs) (opened free ss xs)) h

  pub opened_end : (a : List Standing) (b : List ℕ) → length a ≡ 0 → opened free a b ≡ []
  unfolding opened
  opened_end [] b h = refl
  opened_end (s ∷ ss) b h = absurd (omega arith)
