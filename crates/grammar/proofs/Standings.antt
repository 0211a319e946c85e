-- The names that stood are in the order of their places.
use Rattle.std.proofs.Common.{◌≡◌, ℕ, suc, ◌<◌, ◌≤◌, true, false, cond, eqb, List, [], ◌∷◌, ◌++◌, Some, None, refl, ap, arith}
use Rattle.std.proofs.lemmas.Bool.{cond-true}
use Rattle.text.specs.declared.packed.Name.{Name}
use Rattle.grammar.specs.declared.stand.Standing.{Standing}
use Rattle.grammar.specs.Seen.{Seen, word, number, name, comma, open_paren, close_paren, open_brace, close_brace, equal, at_sign, other}
use Rattle.grammar.specs.State.{State, noted, next_names, next_state}
use Rattle.grammar.specs.Reading.{lone, first_lone}
use Rattle.grammar.specs.Laws.{Spot, state_after}
use Rattle.grammar.proofs.Places.{Between}

-- names whose places ascend from n and stay below m
abbrev pub Up : ℕ → ℕ → List Standing → Type 0
Up n m [] = n ≤ m
Up n m (s ∷ ss) = (n ≤ s.place) × (s.place < m) × Up (suc s.place) m ss

up_higher : (n m k : ℕ) (ss : List Standing) → m ≤ k → Up n m ss → Up n k ss
up_higher n m k [] h u = omega arith
up_higher n m k (s ∷ ss) h u = let l = u.1 in (u.0, omega arith, up_higher (suc s.place) m k ss h u.2)

noted_up : (x : Name) (p n m : ℕ) (ss : List Standing) → m ≤ p → Up n m ss → Up n (suc p) (noted x p ss)
unfolding noted
noted_up x p n m [] h u = (omega arith, omega arith, omega arith)
noted_up x p n m (s ∷ ss) h u =
    let l = u.1 in
    elim (eqb s.name.packed x.packed) as (λ v. Up n (suc p) (cond v (record { name = s.name; twice = true; place = s.place } ∷ ss) (s ∷ noted x p ss))) [
      | true ↦ (u.0, omega arith, up_higher (suc s.place) m (suc p) ss (omega arith) u.2)
      | false ↦ (u.0, omega arith, noted_up x p (suc s.place) m ss h u.2)
    ]

next_up : (t : Seen) (p n m : ℕ) (ss : List Standing) → m ≤ p → Up n m ss → Up n (suc p) (next_names ss t p)
next_up (word w) p n m ss h u = up_higher n m (suc p) ss (omega arith) u
next_up (number w) p n m ss h u = up_higher n m (suc p) ss (omega arith) u
next_up (name x) p n m ss h u = noted_up x p n m ss h u
next_up comma p n m ss h u = up_higher n m (suc p) ss (omega arith) u
next_up open_paren p n m ss h u = up_higher n m (suc p) ss (omega arith) u
next_up close_paren p n m ss h u = up_higher n m (suc p) ss (omega arith) u
next_up open_brace p n m ss h u = up_higher n m (suc p) ss (omega arith) u
next_up close_brace p n m ss h u = up_higher n m (suc p) ss (omega arith) u
next_up equal p n m ss h u = up_higher n m (suc p) ss (omega arith) u
next_up at_sign p n m ss h u = up_higher n m (suc p) ss (omega arith) u
next_up other p n m ss h u = up_higher n m (suc p) ss (omega arith) u

pub names_up : (ss : List Spot) (st : State) (m e : ℕ) → Between m e ss → Up 0 m st.names → Up 0 e (state_after st ss).names
names_up [] st m e h u = up_higher 0 m e st.names h u
names_up (s ∷ ss) st m e h u = names_up ss (next_state st s.0 s.1) (suc s.1) e h.2 (next_up s.0 s.1 0 m st.names h.0 u)

-- a `_` name that stood once, first at a place
pub record Lone (p : ℕ) (ss : List Standing) : Type 0 where
  pub before : List Standing
  pub standing : Standing
  pub after : List Standing
  pub split : ss ≡ before ++ (standing ∷ after)
  pub once : lone standing ≡ true
  pub here : standing.place ≡ p

pub lone_found : (ss : List Standing) (p : ℕ) → first_lone ss ≡ Some p → Lone p ss
unfolding first_lone
lone_found [] p e = let z : ◌≡◌ {A = ℕ} 0 1 = cc in absurd (omega arith)
lone_found (s ∷ ss) p e =
    elim (lone s) as (λ v. (lone s ≡ v) → (cond v (Some s.place) (first_lone ss) ≡ Some p) → Lone p (s ∷ ss)) [
      | true ↦ λ h g. record { before = []; standing = s; after = ss; split = refl; once = h; here = cc }
      | false ↦ λ h g. let x = lone_found ss p g in record { before = s ∷ x.before; standing = x.standing; after = x.after; split = ap (λ r. s ∷ r) x.split; once = x.once; here = x.here }
    ] refl e

up_at : (n m : ℕ) (before after : List Standing) (s : Standing) → Up n m (before ++ (s ∷ after)) → n ≤ s.place
up_at n m [] after s u = u.0
up_at n m (b ∷ before) after s u = let ih = up_at (suc b.place) m before after s u.2 in let l = u.0 in omega arith

pub lone_least : (before after : List Standing) (s : Standing) (n m p : ℕ) → first_lone (before ++ (s ∷ after)) ≡ Some p → lone s ≡ true → Up n m (before ++ (s ∷ after)) → p ≤ s.place
unfolding first_lone
lone_least [] after s n m p e o u = let c = cond-true (lone s) (Some s.place) (first_lone after) o in let z : p ≡ s.place = cc in omega arith
lone_least (b ∷ before) after s n m p e o u =
    elim (lone b) as (λ v. (cond v (Some b.place) (first_lone (before ++ (s ∷ after))) ≡ Some p) → p ≤ s.place) [
      | true ↦ λ g. let z : p ≡ b.place = cc in let l = up_at (suc b.place) m before after s u.2 in omega arith
      | false ↦ λ g. lone_least before after s (suc b.place) m p g o u.2
    ] e

pub lone_none : (before after : List Standing) (s : Standing) → first_lone (before ++ (s ∷ after)) ≡ None → lone s ≡ true → ⊥
unfolding first_lone
lone_none [] after s e o = let c = cond-true (lone s) (Some s.place) (first_lone after) o in let z : ◌≡◌ {A = ℕ} 0 1 = cc in absurd (omega arith)
lone_none (b ∷ before) after s e o =
    elim (lone b) as (λ v. (cond v (Some b.place) (first_lone (before ++ (s ∷ after))) ≡ None) → ⊥) [
      | true ↦ λ g. let z : ◌≡◌ {A = ℕ} 0 1 = cc in absurd (omega arith)
      | false ↦ λ g. lone_none before after s g o
    ] e
