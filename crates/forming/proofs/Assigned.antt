-- The links that the names of a text get: the free link that a name closes, or a number of its own.
use Rattle.std.proofs.Common.{◌≡◌, ℕ, suc, ◌<◌, ◌≤◌, Bool, true, false, cond, eqb, List, [], ◌∷◌, length, get_or, Some, None, Option, sym, refl, ap, ◌∙◌, subst, arith}
use Rattle.std.proofs.lemmas.Bool.{cond-true, eq-eqb, eqb-true}
use Rattle.std.proofs.lemmas.Bool.Decides.{nat_tests}
use Rattle.text.specs.declared.packed.Name.{Name}
use Rattle.grammar.specs.declared.stand.Standing.{Standing}
use Rattle.grammar.specs.Names.{position}
use Rattle.grammar.specs.State.{times}
use Rattle.plan.specs.declared.tables.FreeLink.{FreeLink}
use Rattle.plan.specs.Sound.{count}
use Rattle.placing.specs.Links.{link_at, linked, links_from, open_link}
use Rattle.placing.proofs.KeepNames.{newer, news}

pub same_name : (a b : Name) → a.packed ≡ b.packed → a ≡ b
same_name a b e = ap (λ x. record { packed = x }) e

first_counts : (u : ℕ) (us : List ℕ) → 0 < count u (u ∷ us)
unfolding count
first_counts u us = let e = cond-true (eqb u u) (suc (count u us)) (count u us) (eq-eqb u u refl) in omega arith

more_counts : (x u : ℕ) (us : List ℕ) → count x us ≤ count x (u ∷ us)
unfolding count
more_counts x u us = grind (arith, nat_tests)

-- the link that a name closes on a plan
abbrev pub shut : List FreeLink → List Standing → Name → Option ℕ
shut free ss n = cond (eqb (times n ss) 1) (open_link n free) None

-- a link is the one that is closed, or one of the numbers
abbrev pub Assigned : List ℕ → ℕ → Option ℕ → Type 0
Assigned numbers x (Some y) = x ≡ y
Assigned numbers x None = 0 < count x numbers

more_assigned : (u : ℕ) (us : List ℕ) (x : ℕ) (o : Option ℕ) → Assigned us x o → Assigned (u ∷ us) x o
more_assigned u us x (Some y) h = h
more_assigned u us x None h = let l = more_counts x u us in omega arith

assigned_one : (b t : Bool) (o here : Option ℕ) (numbers : List ℕ) (others taken : List ℕ → List ℕ) (p n : ℕ) → (b ≡ true → here ≡ o)
    → ((left : List ℕ) → 0 < n → length (taken left) ≤ length left → Assigned left (get_or (others left) p 0) (cond (eqb n 1) here None))
    → 0 < cond b (cond t 2 1) n → length (newer (cond t None o) numbers taken) ≤ length numbers
    → Assigned numbers (get_or (linked (cond t None o) numbers others) (cond b 0 (suc p)) 0) (cond (eqb (cond b (cond t 2 1) n) 1) here None)
assigned_one true true o here [] others taken p n e ih some l = absurd (omega arith)
assigned_one true true o here (u ∷ us) others taken p n e ih some l = first_counts u us
assigned_one true false (Some y) here numbers others taken p n e ih some l = subst (Assigned numbers y) (sym (e refl)) refl
assigned_one true false None here [] others taken p n e ih some l = absurd (omega arith)
assigned_one true false None here (u ∷ us) others taken p n e ih some l = subst (Assigned (u ∷ us) u) (sym (e refl)) (first_counts u us)
assigned_one false true o here [] others taken p n e ih some l = absurd (omega arith)
assigned_one false true o here (u ∷ us) others taken p n e ih some l = more_assigned u us (get_or (others us) p 0) (cond (eqb n 1) here None) (ih us some (omega arith))
assigned_one false false (Some y) here numbers others taken p n e ih some l = ih numbers some l
assigned_one false false None here [] others taken p n e ih some l = absurd (omega arith)
assigned_one false false None here (u ∷ us) others taken p n e ih some l = more_assigned u us (get_or (others us) p 0) (cond (eqb n 1) here None) (ih us some (omega arith))

module _ (free : List FreeLink) where
  pub assigned : (n : Name) (ss : List Standing) (numbers : List ℕ) → 0 < times n ss → length (news free numbers ss) ≤ length numbers → Assigned numbers (link_at ss (links_from free numbers ss) n) (shut free ss n)
  unfolding times position links_from news
  assigned n [] numbers some l = absurd (omega arith)
  assigned n (s ∷ ss) numbers some l =
      assigned_one (eqb s.name.packed n.packed) s.twice (open_link s.name free) (open_link n free) numbers (λ left. links_from free left ss) (λ left. news free left ss) (position n ss) (times n ss)
      (λ e. ap (λ x. open_link x free) (same_name n s.name (sym (eqb-true s.name.packed n.packed e))))
      (λ left. assigned n ss left) some l

  -- names that take numbers take different ones

  abbrev Once : List ℕ → Type 0
  Once xs = (x : ℕ) → count x xs ≤ 1

  once_later : (u : ℕ) (us : List ℕ) → Once (u ∷ us) → Once us
  once_later u us h x = let a = h x in let b = more_counts x u us in omega arith

  not_first : (u : ℕ) (us : List ℕ) (x : ℕ) → Once (u ∷ us) → 0 < count x us → u ≡ x → ⊥
  unfolding count
  not_first u us x h some e = let a = h x in let b = cond-true (eqb x u) (suc (count x us)) (count x us) (eq-eqb x u (sym e)) in omega arith

  -- the two names where the first standing is, and what is known of the later
  different_one : (a b t : Bool) (o : Option ℕ) (i j : Option ℕ) (numbers : List ℕ) (others taken : List ℕ → List ℕ) (p q n m : ℕ) (P : Type 0)
      → (a ≡ true → i ≡ o) → (b ≡ true → j ≡ o)
      → (a ≡ true → b ≡ true → P)
      → ((left : List ℕ) → 0 < n → length (taken left) ≤ length left → Assigned left (get_or (others left) p 0) (cond (eqb n 1) i None))
      → ((left : List ℕ) → 0 < m → length (taken left) ≤ length left → Assigned left (get_or (others left) q 0) (cond (eqb m 1) j None))
      → ((left : List ℕ) → Once left → 0 < n → 0 < m → length (taken left) ≤ length left → cond (eqb n 1) i None ≡ None → cond (eqb m 1) j None ≡ None → get_or (others left) p 0 ≡ get_or (others left) q 0 → P)
      → Once numbers → 0 < cond a (cond t 2 1) n → 0 < cond b (cond t 2 1) m → length (newer (cond t None o) numbers taken) ≤ length numbers
      → cond (eqb (cond a (cond t 2 1) n) 1) i None ≡ None → cond (eqb (cond b (cond t 2 1) m) 1) j None ≡ None
      → get_or (linked (cond t None o) numbers others) (cond a 0 (suc p)) 0 ≡ get_or (linked (cond t None o) numbers others) (cond b 0 (suc q)) 0 → P
  different_one true true t o i j numbers others taken p q n m P ea eb both one two ih un sa sb l na nb e = both refl refl
  different_one true false true o i j [] others taken p q n m P ea eb both one two ih un sa sb l na nb e = absurd (omega arith)
  different_one true false true o i j (u ∷ us) others taken p q n m P ea eb both one two ih un sa sb l na nb e =
      absurd (not_first u us (get_or (others us) q 0) un (subst (Assigned us (get_or (others us) q 0)) nb (two us sb (omega arith))) e)
  different_one true false false (Some y) i j numbers others taken p q n m P ea eb both one two ih un sa sb l na nb e =
      let c = ea refl in absurd (let z : ◌≡◌ {A = ℕ} 0 1 = cc in omega arith)
  different_one true false false None i j [] others taken p q n m P ea eb both one two ih un sa sb l na nb e = absurd (omega arith)
  different_one true false false None i j (u ∷ us) others taken p q n m P ea eb both one two ih un sa sb l na nb e =
      absurd (not_first u us (get_or (others us) q 0) un (subst (Assigned us (get_or (others us) q 0)) nb (two us sb (omega arith))) e)
  different_one false true true o i j [] others taken p q n m P ea eb both one two ih un sa sb l na nb e = absurd (omega arith)
  different_one false true true o i j (u ∷ us) others taken p q n m P ea eb both one two ih un sa sb l na nb e =
      absurd (not_first u us (get_or (others us) p 0) un (subst (Assigned us (get_or (others us) p 0)) na (one us sa (omega arith))) (sym e))
  different_one false true false (Some y) i j numbers others taken p q n m P ea eb both one two ih un sa sb l na nb e =
      let c = eb refl in absurd (let z : ◌≡◌ {A = ℕ} 0 1 = cc in omega arith)
  different_one false true false None i j [] others taken p q n m P ea eb both one two ih un sa sb l na nb e = absurd (omega arith)
  different_one false true false None i j (u ∷ us) others taken p q n m P ea eb both one two ih un sa sb l na nb e =
      absurd (not_first u us (get_or (others us) p 0) un (subst (Assigned us (get_or (others us) p 0)) na (one us sa (omega arith))) (sym e))
  different_one false false true o i j [] others taken p q n m P ea eb both one two ih un sa sb l na nb e = absurd (omega arith)
  different_one false false true o i j (u ∷ us) others taken p q n m P ea eb both one two ih un sa sb l na nb e = ih us (once_later u us un) sa sb (omega arith) na nb e
  different_one false false false (Some y) i j numbers others taken p q n m P ea eb both one two ih un sa sb l na nb e = ih numbers un sa sb l na nb e
  different_one false false false None i j [] others taken p q n m P ea eb both one two ih un sa sb l na nb e = absurd (omega arith)
  different_one false false false None i j (u ∷ us) others taken p q n m P ea eb both one two ih un sa sb l na nb e = ih us (once_later u us un) sa sb (omega arith) na nb e

  pub different : (a b : Name) (ss : List Standing) (numbers : List ℕ) → Once numbers → 0 < times a ss → 0 < times b ss → length (news free numbers ss) ≤ length numbers → shut free ss a ≡ None → shut free ss b ≡ None → link_at ss (links_from free numbers ss) a ≡ link_at ss (links_from free numbers ss) b → a ≡ b
  unfolding times position links_from news
  different a b [] numbers un sa sb l na nb e = absurd (omega arith)
  different a b (s ∷ ss) numbers un sa sb l na nb e =
      different_one (eqb s.name.packed a.packed) (eqb s.name.packed b.packed) s.twice (open_link s.name free) (open_link a free) (open_link b free) numbers (λ left. links_from free left ss) (λ left. news free left ss) (position a ss) (position b ss) (times a ss) (times b ss) (a ≡ b)
      (λ e. ap (λ x. open_link x free) (same_name a s.name (sym (eqb-true s.name.packed a.packed e))))
      (λ e. ap (λ x. open_link x free) (same_name b s.name (sym (eqb-true s.name.packed b.packed e))))
      (λ x y. same_name a b (sym (eqb-true s.name.packed a.packed x) ∙ eqb-true s.name.packed b.packed y))
      (λ left. assigned a ss left) (λ left. assigned b ss left) (λ left. different a b ss left) un sa sb l na nb e
