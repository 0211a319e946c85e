-- What links have become by connectors tells which points the connectors join.
use Rattle.placing.proofs.KeepAbsorb.{length_joined}
use Rattle.placing.proofs.KeepAbsorb.{become_joined}
use Rattle.std.proofs.Common.{◌≡◌, ℕ, ◌<◌, true, false, cond, eqb, List, [], ◌∷◌, length, sym, refl, ap, ◌∙◌, inl, inr, ⊎_elim, arith}
use Rattle.std.proofs.lemmas.Bool.{cases_eq, cond-true, cond-false, eq-eqb, ne_eqb}
use Rattle.text.specs.declared.packed.Name.{Name}
use Rattle.grammar.specs.Form.{Items}
use Rattle.plan.specs.Model.{Model}
use Rattle.placing.specs.Placing.{become, joined, put}
use Rattle.forming.specs.Places.{joined_by}
use Rattle.forming.specs.Joins.{Among, Joined, Point, back, named, old, through}

put_here : (x y z : ℕ) → z ≡ x → put x y z ≡ y
put_here x y z e = cond-true (eqb z x) y z (eq-eqb z x e)

put_other : (x y z : ℕ) → (z ≡ x → ⊥) → put x y z ≡ z
put_other x y z e = cond-false (eqb z x) y z (ne_eqb z x e)

put_second : (x y : ℕ) → put x y y ≡ y
put_second x y = elim (eqb y x) as (λ v. cond v y y ≡ y) [ true ↦ refl | false ↦ refl ]

module _ (link : Name → ℕ) where
  -- what has become one stays one
  stays_one : (cs : List (Name × Name)) (b : List ℕ) (x y : ℕ) → x < length b → y < length b → become b x ≡ become b y → become (joined_by link cs b) x ≡ become (joined_by link cs b) y
  stays_one [] b x y l k e = e
  stays_one (c ∷ cs) b x y l k e =
      let u = link c.0 in
      let v = link c.1 in
      let n : length (joined u v b) ≡ length b = length_joined u v b in
      stays_one cs (joined u v b) x y (omega arith) (omega arith) (become_joined u v b x l ∙ ap (put (become b u) (become b v)) e ∙ sym (become_joined u v b y k))

  -- the names of a connector have become one
  pub connected : (cs : List (Name × Name)) (b : List ℕ) (p q : Name) → ((x y : Name) → Among (x, y) cs → (link x < length b) × (link y < length b)) → Among (p, q) cs → become (joined_by link cs b) (link p) ≡ become (joined_by link cs b) (link q)
  connected [] b p q low i = absurd i
  connected (c ∷ cs) b p q low i =
      let u = link c.0 in
      let v = link c.1 in
      let n : length (joined u v b) ≡ length b = length_joined u v b in
      let here = low c.0 c.1 (inl refl) in
      ⊎_elim
      (λ (e : (p, q) ≡ c).
      ap (λ z. become (joined_by link cs (joined u v b)) (link z.0)) e
      ∙ stays_one cs (joined u v b) u v (omega (arith, here.0)) (omega (arith, here.1))
      (become_joined u v b u here.0 ∙ put_here (become b u) (become b v) (become b u) refl ∙ sym (become_joined u v b v here.1 ∙ put_second (become b u) (become b v)))
      ∙ sym (ap (λ z. become (joined_by link cs (joined u v b)) (link z.1)) e))
      (λ (j : Among (p, q) cs).
      connected cs (joined u v b) p q (λ x y i. let w = low x y (inr i) in let s = w.0 in let t = w.1 in (omega arith, omega arith)) j)
      i

  -- the number of a point before any connector
  abbrev pub base : Point → ℕ
  base (old x) = x
  base (named n) = link n

  -- points that have become one are joined, where this holds before the connectors
  module _ {L : Type 0} (m : Model L) (h : Items) (Held : Point → Type 0) where
    abbrev Telling : List ℕ → Type 0
    Telling b = (p q : Point) → Held p → Held q → become b (base p) ≡ become b (base q) → Joined m h p q

    one_more : (b : List ℕ) (x y : Name) → ((p : Point) → Held p → base p < length b) → Held (named x) → Held (named y) → Joined m h (named x) (named y) → Telling b → Telling (joined (link x) (link y) b)
    one_more b x y low hx hy j tell p q hp hq e =
        let u = become b (link x) in
        let v = become b (link y) in
        let f : put u v (become b (base p)) ≡ put u v (become b (base q)) = sym (become_joined (link x) (link y) b (base p) (low p hp)) ∙ e ∙ become_joined (link x) (link y) b (base q) (low q hq) in
        ⊎_elim
        (λ (s : become b (base p) ≡ u).
        ⊎_elim
        (λ (t : become b (base q) ≡ u). tell p q hp hq (s ∙ sym t))
        (λ (t : become b (base q) ≡ u → ⊥).
        through p (named x) q (tell p (named x) hp hx s)
        (through (named x) (named y) q j (tell (named y) q hy hq (sym (put_here u v (become b (base p)) s) ∙ f ∙ put_other u v (become b (base q)) t))))
        (cases_eq (become b (base q)) u))
        (λ (s : become b (base p) ≡ u → ⊥).
        ⊎_elim
        (λ (t : become b (base q) ≡ u).
        through p (named y) q (tell p (named y) hp hy (sym (put_other u v (become b (base p)) s) ∙ f ∙ put_here u v (become b (base q)) t))
        (through (named y) (named x) q (back (named x) (named y) j) (tell (named x) q hx hq (sym t))))
        (λ (t : become b (base q) ≡ u → ⊥). tell p q hp hq (sym (put_other u v (become b (base p)) s) ∙ f ∙ put_other u v (become b (base q)) t))
        (cases_eq (become b (base q)) u))
        (cases_eq (become b (base p)) u)

    pub tells : (cs : List (Name × Name)) (b : List ℕ) → ((p : Point) → Held p → base p < length b) → ((x y : Name) → Among (x, y) cs → Held (named x) × Held (named y) × Joined m h (named x) (named y)) → Telling b → Telling (joined_by link cs b)
    tells [] b low among tell = tell
    tells (c ∷ cs) b low among tell =
        let here = among c.0 c.1 (inl refl) in
        let n : length (joined (link c.0) (link c.1) b) ≡ length b = length_joined (link c.0) (link c.1) b in
        tells cs (joined (link c.0) (link c.1) b) (λ p hp. let l = low p hp in omega arith) (λ x y i. among x y (inr i)) (one_more b c.0 c.1 low here.0 here.1 here.2 tell)
