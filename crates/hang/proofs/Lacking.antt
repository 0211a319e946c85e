-- How much the register grows by the labels of a text.
use Rattle.std.proofs.Common.{◌≡◌, ℕ, suc, ◌+◌, Bool, true, false, cond, ◌||◌, List, [], ◌∷◌, ◌++◌, length, Some, None, Option, sym, refl, ap, ◌∙◌, subst, ap₂, ⊎_elim, arith, length-append}
use Rattle.std.specs.Str.{bytes_eq}
use Rattle.std.proofs.lemmas.Slice.Eq.{bytes_eq-Decides}
use Rattle.std.proofs.lemmas.List.Folds.{list_any-append}
use Rattle.std.proofs.lemmas.Bool.{and_from, and_parts, both_ways, cases_Bool}
use Rattle.label.specs.declared.form.Form.{Form}
use Rattle.label.specs.declared.form.Form.TheVariants.{Word, Number}
use Rattle.label.specs.Kind.{Kind, Lawful}
use Rattle.text.specs.declared.packed.Name.{Name}
use Rattle.grammar.specs.declared.event.Event.{Event}
use Rattle.grammar.specs.declared.event.Event.TheVariants as events
use Rattle.grammar.specs.Reading.{Events, event, end, fault}
use Rattle.plan.specs.declared.tables.Census.{Census}
use Rattle.plan.specs.Places.{Filed}
use Rattle.plan.specs.Sound.{alike, registered}
use Rattle.register.specs.Rows.{added}
use Rattle.register.proofs.Adding.{added_filed, added_length, added_registered}
use Rattle.register.proofs.Counting.{alike_itself, alike_same}
use Rattle.placing.specs.Placing.{Placing, place_all, place_one}
use Rattle.hang.specs.Labels.{all_mine, is_mine, known, lacking, noted_label, same, same_form}

form_same : (a b : Form) → same_form a b ≡ true → a ≡ b
form_same Word Word h = refl
form_same Word Number h = absurd (both_ways false refl h)
form_same Number Word h = absurd (both_ways false refl h)
form_same Number Number h = refl

form_itself : (a : Form) → same_form a a ≡ true
form_itself Word = refl
form_itself Number = refl

same_itself : (t : Option (Form × List ℕ)) → same t t ≡ true
same_itself None = refl
same_itself (Some t) = and_from (same_form t.0 t.0) (bytes_eq t.1 t.1) (form_itself t.0) ((bytes_eq-Decides t.1 t.1).1 refl)

some_same : {A : Type 0} (a b : A) → ◌≡◌ {A = Option A} (Some a) (Some b) → a ≡ b
some_same a b e = cc

or_twice : (a b c : Bool) → a ≡ true → (c || a) ≡ a
or_twice true b true h = refl
or_twice true b false h = refl
or_twice false b c h = absurd (both_ways false refl h)

or_moved : (a b c : Bool) → (c || (a || b)) ≡ (a || (b || c))
or_moved true true true = refl
or_moved true true false = refl
or_moved true false true = refl
or_moved true false false = refl
or_moved false true true = refl
or_moved false true false = refl
or_moved false false true = refl
or_moved false false false = refl

or_last : (a b : Bool) → (a || (b || false)) ≡ (a || b)
or_last true b = refl
or_last false true = refl
or_last false false = refl

known_more : (t x : Option (Form × List ℕ)) (ts : List (Option (Form × List ℕ))) → known t (ts ++ (x ∷ [])) ≡ (known t ts || same x t)
known_more t x ts = list_any-append (λ y. same y t) ts (x ∷ []) ∙ or_last (known t ts) (same x t)

module _ {L : Type 0} (k : Kind L) (law : Lawful k) where
  -- two labels have the same token exactly where they are the same
  same_alike : (x l : L) → k.mine x ≡ true → k.mine l ≡ true → same (k.token l) (k.token x) ≡ alike k x l
  same_alike x l mx ml =
      let sx = law.shown x mx in
      let sl = law.shown l ml in
      ⊎_elim
      (λ t. let e : x ≡ l = alike_same k law x l mx ml t in ap (λ y. same (k.token l) (k.token y)) e ∙ same_itself (k.token l) ∙ sym t)
      (λ f.
      ⊎_elim
      (λ s.
      let s' : same (Some (sl.form, sl.bytes)) (Some (sx.form, sx.bytes)) ≡ true = ap₂ same (sym sl.is) (sym sx.is) ∙ s in
      let parts = and_parts (same_form sl.form sx.form) _ s' in
      let bytes : sl.bytes ≡ sx.bytes = (bytes_eq-Decides sl.bytes sx.bytes).0 parts.1 in
      let e : x ≡ l = some_same x l (sym sx.back ∙ sym (ap₂ k.read (form_same sl.form sx.form parts.0) bytes) ∙ sl.back) in
      absurd (both_ways (alike k x l) f (ap (alike k x) (sym e) ∙ alike_itself k law x mx)))
      (λ s. s ∙ sym f)
      (cases_Bool (same (k.token l) (k.token x))))
      (cases_Bool (alike k x l))

  -- the register so far, and the tokens of the labels that it has beyond the first
  record Grown (first rows : List (Census L)) (ts : List (Option (Form × List ℕ))) : Type 0 where
    filed : Filed k rows
    has : (x : L) → k.mine x ≡ true → registered k x rows ≡ (registered k x first || known (k.token x) ts)
    long : length rows ≡ length first + length ts

  -- one label more
  noted : (first rows : List (Census L)) (ts : List (Option (Form × List ℕ))) (l : L) → k.mine l ≡ true → Grown first rows ts → Grown first (added k l rows) (cond (registered k l first || known (k.token l) ts) ts (ts ++ (k.token l ∷ [])))
  noted first rows ts l m g =
      let has = g.has l m in
      let grow = added_length k l law m rows g.filed in
      let l' = length-append ts (k.token l ∷ []) in
      let long = g.long in
      ⊎_elim
      (λ t.
      let here : registered k l rows ≡ true = has ∙ t in
      let n : length (added k l rows) ≡ length rows = grow ∙ ap (λ v. cond v (length rows) (suc (length rows))) here in
      subst (λ v. Grown first (added k l rows) (cond v ts (ts ++ (k.token l ∷ [])))) (sym t)
      (record {
        filed = added_filed k l rows m g.filed;
        has = λ x mx.
            added_registered k l law m x rows g.filed.known
            ∙ ⊎_elim
            (λ a. let e : x ≡ l = alike_same k law x l mx m a in or_twice (registered k x rows) true (alike k x l) (ap (λ y. registered k y rows) e ∙ here))
            (λ a. ap (λ v. v || registered k x rows) a)
            (cases_Bool (alike k x l))
            ∙ g.has x mx;
        long = n ∙ long;
      }))
      (λ f.
      let gone : registered k l rows ≡ false = has ∙ f in
      let n : length (added k l rows) ≡ suc (length rows) = grow ∙ ap (λ v. cond v (length rows) (suc (length rows))) gone in
      subst (λ v. Grown first (added k l rows) (cond v ts (ts ++ (k.token l ∷ [])))) (sym f)
      (record {
        filed = added_filed k l rows m g.filed;
        has = λ x mx.
            added_registered k l law m x rows g.filed.known
            ∙ ap (λ v. alike k x l || v) (g.has x mx)
            ∙ or_moved (registered k x first) (known (k.token x) ts) (alike k x l)
            ∙ ap (λ v. registered k x first || (known (k.token x) ts || v)) (sym (same_alike x l mx m))
            ∙ ap (λ v. registered k x first || v) (sym (known_more (k.token x) (k.token l) ts));
        long = omega arith;
      }))
      (cases_Bool (registered k l first || known (k.token l) ts))

  module _ (link : Name → ℕ) where
    noted_one : (first : List (Census L)) (q : Placing L) (ts : List (Option (Form × List ℕ))) (e : Event L) → is_mine k e ≡ true → Grown first q.register ts → Grown first (place_one k link q e).register (noted_label k first ts e)
    noted_one first q ts (events.Label l) m g = noted first q.register ts l m g
    noted_one first q ts (events.Port n) m g = g
    noted_one first q ts events.Enter m g = g
    noted_one first q ts events.Leave m g = g
    noted_one first q ts (events.Set j) m g = g
    noted_one first q ts (events.First n) m g = g
    noted_one first q ts (events.Second n) m g = g

    grown_all : (first : List (Census L)) (q : Placing L) (ts : List (Option (Form × List ℕ))) (es : Events L) → all_mine k es ≡ true → Grown first q.register ts → length (place_all k link q es).register ≡ length first + length (lacking k first ts es)
    unfolding place_all lacking all_mine
    grown_all first q ts (event e rest) m g =
        let both = and_parts (is_mine k e) (all_mine k rest) m in
        grown_all first (place_one k link q e) (noted_label k first ts e) rest both.1 (noted_one first q ts e both.0 g)
    grown_all first q ts end m g = g.long
    grown_all first q ts (fault f) m g = g.long

    -- the register grows by the labels that it lacks
    pub lacks : (q : Placing L) (es : Events L) → all_mine k es ≡ true → Filed k q.register → length (place_all k link q es).register ≡ length q.register + length (lacking k q.register [] es)
    lacks q es m f = grown_all q.register q [] es m (record { filed = f; has = λ x mx. sym (or_false (registered k x q.register)); long = omega arith })
      where
        or_false : (a : Bool) → (a || false) ≡ a
        or_false true = refl
        or_false false = refl
