-- The places of a stream's tokens ascend, to its fault or its end.
use Rattle.std.proofs.Common.{◌≡◌, ℕ, zero, suc, ◌+◌, ◌<◌, ◌≤◌, true, false, cond, eqb, ltb, ◌⊎◌, List, [], ◌∷◌, ◌++◌, length, Some, None, Ok, Err, refl, inl, inr, arith}
use Rattle.fault.specs.declared.Refusal.{Refusal}
use Rattle.fault.specs.declared.Refusal.TheVariants.{NoToken, LongName}
use Rattle.fault.specs.declared.Fault.{Fault}
use Rattle.text.specs.declared.class.Class.{Class}
use Rattle.text.specs.declared.class.Class.TheVariants as classes
use Rattle.text.specs.declared.token.Sort.{Sort}
use Rattle.text.specs.declared.token.Sort.TheVariants as sorts
use Rattle.text.specs.declared.token.Mark.TheVariants.{Turn, Colon}
use Rattle.text.specs.Classes.{class_of, blank, digit, tail}
use Rattle.std.specs.List.{prefix_len}
use Rattle.text.specs.Tokens.{Stream, Front, token, end, fault, tokens, first, front, by_class, measured, negative, colon, single}
use Rattle.grammar.specs.Laws.{Spot, spots, text_fault}

-- the refusals of a front
abbrev pub Textual : Refusal → Type 0
Textual r = (r ≡ NoToken) ⊎ (r ≡ LongName)

abbrev FrontTextual : Front → Type 0
FrontTextual (Ok f) = Unit {0}
FrontTextual (Err r) = Textual r

measured_textual : (s : Sort) (n : ℕ) → FrontTextual (measured s n)
measured_textual s n = elim (ltb n 8) as (λ v. FrontTextual (cond v (Ok (s, n)) (Err LongName))) [ true ↦ tt | false ↦ inr refl ]

negative_textual : (n : ℕ) → FrontTextual (negative n)
negative_textual n = elim (eqb n 0) as (λ v. FrontTextual (cond v (Err NoToken) (Ok (sorts.Number, n)))) [ true ↦ inl refl | false ↦ tt ]

colon_textual : (bs : List ℕ) → FrontTextual (colon bs)
colon_textual [] = tt
colon_textual (b ∷ bs) = elim (eqb b 45) as (λ v. FrontTextual (cond v (Ok (sorts.Mark Turn, 1)) (Ok (sorts.Mark Colon, 0)))) [ true ↦ tt | false ↦ tt ]

class_textual : (k : Class) (b : ℕ) (bs : List ℕ) → FrontTextual (by_class k b bs)
class_textual classes.Blank b bs = inl refl
class_textual classes.Lower b bs = measured_textual sorts.Word (prefix_len tail bs)
class_textual classes.Upper b bs = measured_textual sorts.LineName (prefix_len tail bs)
class_textual classes.Digit b bs = tt
class_textual classes.Minus b bs = negative_textual (prefix_len digit bs)
class_textual classes.Mark b bs = elim (eqb b 58) as (λ v. FrontTextual (cond v (colon bs) (Ok (sorts.Mark (single b), 0)))) [ true ↦ colon_textual bs | false ↦ tt ]
class_textual classes.Other b bs = inl refl

-- a stream whose places ascend from n, and that ends at m or has its fault below
abbrev pub Placed : ℕ → ℕ → Stream → Type 0
Placed n m (token t p s) = (n ≤ p) × (p < m) × Placed (suc p) m s
Placed n m (end e) = e ≡ m
Placed n m (fault f) = (n ≤ f.place) × (f.place < m) × Textual f.refusal

placed_lower : (n k m : ℕ) (s : Stream) → k ≤ n → Placed n m s → Placed k m s
placed_lower n k m (token t p s) h x = let l = x.0 in (omega arith, x.1, x.2)
placed_lower n k m (end e) h x = x
placed_lower n k m (fault f) h x = let l = x.0 in (omega arith, x.1, x.2)

first_placed : (rest : ℕ → Stream) (at m b : ℕ) (bs : List ℕ) (f : Front) → FrontTextual f → at < m → ((n : ℕ) → Placed (suc at) m (rest n)) → Placed at m (first rest at b bs f)
first_placed rest at m b bs (Ok f) t l r = (omega arith, l, r f.1)
first_placed rest at m b bs (Err x) t l r = (omega arith, l, t)

pub tokens_placed : (k at m : ℕ) (bs : List ℕ) → m ≡ at + length bs → Placed at m (tokens k at bs)
unfolding tokens
tokens_placed k at m [] e = omega arith
tokens_placed (suc k) at m (b ∷ bs) e = placed_lower (suc at) at m (tokens k (suc at) bs) (omega arith) (tokens_placed k (suc at) m bs (omega arith))
tokens_placed zero at m (b ∷ bs) e =
    elim (blank b) as (λ v. Placed at m (cond v (tokens zero (suc at) bs) (first (λ n. tokens n (suc at) bs) at b bs (front b bs)))) [
      | true ↦ placed_lower (suc at) at m (tokens zero (suc at) bs) (omega arith) (tokens_placed zero (suc at) m bs (omega arith))
      | false ↦ first_placed (λ n. tokens n (suc at) bs) at m b bs (front b bs) (class_textual (class_of b) b bs) (omega arith) (λ n. tokens_placed n (suc at) m bs (omega arith))
    ]

-- tokens whose places ascend from n and stay below m
abbrev pub Between : ℕ → ℕ → List Spot → Type 0
Between n m [] = n ≤ m
Between n m (s ∷ ss) = (n ≤ s.1) × (s.1 < m) × Between (suc s.1) m ss

pub between_all : (n m : ℕ) (s : Stream) → n ≤ m → Placed n m s → Between n m (spots s)
between_all n m (token t p s) h x = let l = x.1 in (x.0, l, between_all (suc p) m s (omega arith) x.2)
between_all n m (end e) h x = h
between_all n m (fault f) h x = h

-- the place of a text's fault is past all tokens
pub between_fault : (n m : ℕ) (s : Stream) (f : Fault) → text_fault s ≡ Some f → Placed n m s → Between n f.place (spots s)
between_fault n m (token t p s) f e x = let ih = between_fault (suc p) m s f e x.2 in (x.0, from_le (suc p) f.place (spots s) ih, ih)
  where
    from_le : (a b : ℕ) (ss : List Spot) → Between a b ss → a ≤ b
    from_le a b [] y = y
    from_le a b (s ∷ ss) y = let l = y.0 in let k = y.1 in omega arith
between_fault n m (end k) f e x = let z : ◌≡◌ {A = ℕ} 0 1 = cc in absurd (omega arith)
between_fault n m (fault g) f e x = let z : g ≡ f = cc in let l = x.0 in rw z at l

-- one token among those
pub between_at : (n m : ℕ) (before after : List Spot) (s : Spot) → Between n m (before ++ (s ∷ after)) → (n ≤ s.1) × (s.1 < m)
between_at n m [] after s x = (x.0, x.1)
between_at n m (b ∷ before) after s x = let ih = between_at (suc b.1) m before after s x.2 in let l = x.0 in omega arith

-- a text's fault is the lexer's
pub fault_textual : (n m : ℕ) (s : Stream) (f : Fault) → text_fault s ≡ Some f → Placed n m s → Textual f.refusal
fault_textual n m (token t p s) f e x = fault_textual (suc p) m s f e x.2
fault_textual n m (end k) f e x = let z : ◌≡◌ {A = ℕ} 0 1 = cc in absurd (omega arith)
fault_textual n m (fault g) f e x = let z : g ≡ f = cc in let t = x.2 in rw z at t

-- where a stream ends
abbrev pub end_place : Stream → ℕ
end_place (token t p s) = end_place s
end_place (end n) = n
end_place (fault f) = 0

pub ends_there : (n m : ℕ) (s : Stream) → text_fault s ≡ None → Placed n m s → end_place s ≡ m
ends_there n m (token t p s) e x = ends_there (suc p) m s e x.2
ends_there n m (end k) e x = x
ends_there n m (fault f) e x = let z : ◌≡◌ {A = ℕ} 0 1 = cc in absurd (omega arith)
