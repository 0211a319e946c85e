-- One atom less of a label.
use Rattle.std.proofs.Common.{◌≡◌, ℕ, suc, ◌-◌, ◌<◌, ◌≤◌, Bool, true, false, cond, not, ◌&&◌, ◌||◌, eqb, ltb, leb, List, [], ◌∷◌, ◌++◌, length, get_or, take, set, Ok, Err, sym, refl, ap, ap₂, ◌∙◌, subst, ⊎_elim, arith}
use Rattle.std.specs.List.{remove}
use Rattle.std.proofs.Math.Seq.{take-set-lt}
use Rattle.std.proofs.lemmas.List.Edits.{length-remove}
use Rattle.std.proofs.lemmas.List.{get_or_default, get_or-take, length-set, length-take-le}
use Rattle.std.proofs.lemmas.Bool.{and_from, and_parts, both_ways, cases_Bool, cond-true, cond-false, eq-eqb, eqb-true, leb-false, leb-true, lt-leb, le-leb, lt-ltb, ltb-true, not_from_false, not-true, or_parts, or_cases, or_left, or_right}
use Rattle.label.specs.Kind.{Kind, Lawful}
use Rattle.plan.specs.declared.tables.Census.{Census}
use Rattle.plan.specs.Model.{Node}
use Rattle.plan.specs.Places.{Filed}
use Rattle.std.specs.List.{list_all}
use Rattle.plan.specs.Sound.{alike, ascending, atoms_of, first_above, registered, row_right}
use Rattle.plan.specs.Tests.{register_test}
use Rattle.plan.proofs.Placing.{alike_turn, unregistered}
use Rattle.plan.proofs.Tallying.{atoms_between}
use Rattle.register.specs.Laws.{TakingLaw}
use Rattle.register.specs.Rows.{below, sought, taken}
use Rattle.register.proofs.Counting.{alike_itself, alike_same, each_from_two, each_without, right_mine, right_still}
use Rattle.register.proofs.Seeking.{below_on, below_stop, sought_err, sought_ok}

cons_cond : {A : Type 0} (v : Bool) (c : A) (s t : List A) → (c ∷ cond v s t) ≡ cond v (c ∷ s) (c ∷ t)
cons_cond true c s t = refl
cons_cond false c s t = refl

module _ {L : Type 0} (k : Kind L) (l : L) where
  abbrev pub one_less : Census L → Census L
  one_less c = record { label = c.label; atoms = c.atoms - 1 }

  -- what becomes of the first row
  taken_by : (c : Census L) (cs : List (Census L)) (P : List (Census L) → Type 0) → (k.lower l c.label ≡ true → P (c ∷ cs)) → (k.lower l c.label ≡ false → k.lower c.label l ≡ true → P (c ∷ taken k l cs)) → (alike k l c.label ≡ true → c.atoms ≤ 1 → P cs) → (alike k l c.label ≡ true → 1 < c.atoms → P (one_less c ∷ cs)) → P (taken k l (c ∷ cs))
  unfolding taken
  taken_by c cs P higher on last less =
      ⊎_elim (λ (t : k.lower l c.label ≡ true). subst P (sym (cond-true (k.lower l c.label) _ _ t)) (higher t))
      (λ (f : k.lower l c.label ≡ false).
      subst P (sym (cond-false (k.lower l c.label) _ _ f))
      (⊎_elim (λ (t : k.lower c.label l ≡ true). subst P (sym (cond-true (k.lower c.label l) _ _ t)) (on f t))
      (λ (e : k.lower c.label l ≡ false).
      let same : alike k l c.label ≡ true = and_from _ _ (not_from_false _ f) (not_from_false _ e) in
      subst P (sym (cond-false (k.lower c.label l) _ _ e))
      (⊎_elim (λ (t : leb c.atoms 1 ≡ true). subst P (sym (cond-true (leb c.atoms 1) _ _ t)) (last same (leb-true _ _ t)))
      (λ (g : leb c.atoms 1 ≡ false). subst P (sym (cond-false (leb c.atoms 1) _ _ g)) (less same (leb-false _ _ g)))
      (cases_Bool (leb c.atoms 1))))
      (cases_Bool (k.lower c.label l))))
      (cases_Bool (k.lower l c.label))

  lower_apart : (a : L) → k.lower a l ≡ true → alike k l a ≡ false
  lower_apart a low = alike_turn k l a ∙ ap (λ v. not v && not (k.lower l a)) low

  module _ (law : Lawful k) where
    above_next : (x : L) (c : Census L) (cs : List (Census L)) → k.mine x ≡ true → list_all (λ c. k.mine c.label) (c ∷ cs) ≡ true → k.lower x c.label ≡ true → first_above k c.label cs ≡ true → first_above k x cs ≡ true
    above_next x c [] m ms a b = refl
    above_next x c (d ∷ cs) m ms a b =
        let both = and_parts (k.mine c.label) (list_all (λ c. k.mine c.label) (d ∷ cs)) ms in
        law.onward x c.label d.label m both.0 (and_parts (k.mine d.label) _ both.1).0 a b

    pub taken_above : (x : L) (rows : List (Census L)) → k.mine x ≡ true → list_all (λ c. k.mine c.label) rows ≡ true → ascending k rows ≡ true → first_above k x rows ≡ true → first_above k x (taken k l rows) ≡ true
    unfolding taken ascending
    taken_above x [] m ms h f = refl
    taken_above x (c ∷ cs) m ms h f =
        let up = and_parts (first_above k c.label cs) (ascending k cs) h in
        taken_by c cs (λ s. first_above k x s ≡ true) (λ _. f) (λ _ _. f) (λ _ _. above_next x c cs m ms f up.0) (λ _ _. f)

    pub taken_ascending : (rows : List (Census L)) → list_all (λ c. k.mine c.label) rows ≡ true → ascending k rows ≡ true → ascending k (taken k l rows) ≡ true
    unfolding taken ascending
    taken_ascending [] ms h = refl
    taken_ascending (c ∷ cs) ms h =
        let both = and_parts (k.mine c.label) (list_all (λ c. k.mine c.label) cs) ms in
        let up = and_parts (first_above k c.label cs) (ascending k cs) h in
        taken_by c cs (λ s. ascending k s ≡ true) (λ _. h)
        (λ _ _. and_from _ _ (taken_above c.label cs both.0 both.1 up.1 up.0) (taken_ascending cs both.1 up.1))
        (λ _ _. up.1) (λ _ _. h)

  pub taken_mine : (rows : List (Census L)) → list_all (λ c. k.mine c.label) rows ≡ true → list_all (λ c. k.mine c.label) (taken k l rows) ≡ true
  unfolding taken
  taken_mine [] ms = refl
  taken_mine (c ∷ cs) ms =
      let both = and_parts (k.mine c.label) (list_all (λ c. k.mine c.label) cs) ms in
      taken_by c cs (λ s. list_all (λ c. k.mine c.label) s ≡ true) (λ _. ms) (λ _ _. and_from _ _ both.0 (taken_mine cs both.1)) (λ _ _. both.1) (λ _ _. ms)

  pub taken_filed : (rows : List (Census L)) → Lawful k → Filed k rows → Filed k (taken k l rows)
  taken_filed rows law h =
      record { order = taken_ascending law rows h.known h.order; known = taken_mine rows h.known }

  pub taken_shorter : (rows : List (Census L)) → length (taken k l rows) ≤ length rows
  unfolding taken
  taken_shorter [] = omega arith
  taken_shorter (c ∷ cs) =
      let ih = taken_shorter cs in
      taken_by c cs (λ s. length s ≤ length (c ∷ cs)) (λ _. omega arith) (λ _ _. omega arith) (λ _ _. omega arith) (λ _ _. omega arith)

  -- an atom of a list counts there
  counted_one : (n : ℕ) (nodes : List (Node L)) → atoms_of k l nodes ≤ n → list_all (λ b. not (alike k l b.label) || ltb 0 n) nodes ≡ true
  unfolding atoms_of
  counted_one n [] h = refl
  counted_one n (b ∷ nodes) h =
      ⊎_elim
      (λ (t : alike k l b.label ≡ true).
      let e : atoms_of k l (b ∷ nodes) ≡ suc (atoms_of k l nodes) = cond-true (alike k l b.label) _ _ t in
      and_from _ _ (or_right (not (alike k l b.label)) (ltb 0 n) (lt-ltb 0 n (omega arith))) (counted_one n nodes (omega arith)))
      (λ (f : alike k l b.label ≡ false).
      let e : atoms_of k l (b ∷ nodes) ≡ atoms_of k l nodes = cond-false (alike k l b.label) _ _ f in
      and_from _ _ (or_left (not (alike k l b.label)) (ltb 0 n) (not_from_false _ f)) (counted_one n nodes (omega arith)))
      (cases_Bool (alike k l b.label))

  module _ (law : Lawful k) (m : k.mine l ≡ true) (before after : List (Node L)) (less : (x : L) → atoms_of k x before ≡ cond (alike k x l) (suc (atoms_of k x after)) (atoms_of k x after)) where
    less_apart : (x : L) → alike k x l ≡ false → atoms_of k x after ≡ atoms_of k x before
    less_apart x e = sym (less x ∙ cond-false (alike k x l) _ _ e)

    less_here : (c : Census L) → alike k l c.label ≡ true → row_right k before c ≡ true → c.atoms ≡ suc (atoms_of k c.label after)
    less_here c t h =
        let both = and_parts (k.mine c.label) (ltb 0 c.atoms && eqb c.atoms (atoms_of k c.label before)) h in
        let says = and_parts (ltb 0 c.atoms) (eqb c.atoms (atoms_of k c.label before)) both.1 in
        eqb-true c.atoms (atoms_of k c.label before) says.1
        ∙ less c.label ∙ cond-true (alike k c.label l) _ _ (alike_turn k c.label l ∙ t)

    less_right : (c : Census L) → alike k l c.label ≡ true → 1 < c.atoms → row_right k before c ≡ true → row_right k after (one_less c) ≡ true
    less_right c t n h =
        let e = less_here c t h in
        let mine = (and_parts (k.mine c.label) _ h).0 in
        and_from (k.mine c.label) _ mine (and_from (ltb 0 (c.atoms - 1)) _ (lt-ltb 0 (c.atoms - 1) (omega arith)) (eq-eqb (c.atoms - 1) _ (omega arith)))

    taken_right : (rows : List (Census L)) → ascending k rows ≡ true → list_all (row_right k before) rows ≡ true → list_all (row_right k after) (taken k l rows) ≡ true
    unfolding taken ascending
    taken_right [] h r = refl
    taken_right (c ∷ cs) h r =
        let right = and_parts (row_right k before c) (list_all (row_right k before) cs) r in
        let up = and_parts (first_above k c.label cs) (ascending k cs) h in
        let ms = right_mine k before (c ∷ cs) r in
        let both = and_parts (k.mine c.label) (list_all (λ c. k.mine c.label) cs) ms in
        let rest : alike k l c.label ≡ true → list_all (row_right k after) cs ≡ true =
        λ t.
        let e = alike_same k law l c.label m both.0 t in
        right_still k l before after cs less_apart (unregistered k law l cs m both.1 up.1 (ap (λ x. first_above k x cs) e ∙ up.0)) right.1 in
        taken_by c cs (λ s. list_all (row_right k after) s ≡ true)
        (λ t. right_still k l before after (c ∷ cs) less_apart (unregistered k law l (c ∷ cs) m ms h t) r)
        (λ _ t.
        let same = less_apart c.label (alike_turn k c.label l ∙ lower_apart c.label t) in
        and_from (row_right k after c) (list_all (row_right k after) (taken k l cs))
        (ap (λ n. k.mine c.label && (ltb 0 c.atoms && eqb c.atoms n)) same ∙ right.0) (taken_right cs up.1 right.1))
        (λ t _. rest t) (λ t n. and_from (row_right k after (one_less c)) (list_all (row_right k after) cs) (less_right c t n right.0) (rest t))

    -- a label that an atom still has keeps its row
    taken_registered : (x : L) (rows : List (Census L)) → k.mine x ≡ true → list_all (row_right k before) rows ≡ true → (alike k l x ≡ true → 0 < atoms_of k l after) → registered k x rows ≡ true → registered k x (taken k l rows) ≡ true
    unfolding taken registered
    taken_registered x [] mx r left h = h
    taken_registered x (c ∷ cs) mx r left h =
        let right = and_parts (row_right k before c) (list_all (row_right k before) cs) r in
        let mc = (and_parts (k.mine c.label) _ right.0).0 in
        taken_by c cs (λ s. registered k x s ≡ true) (λ _. h)
        (λ _ _.
        ⊎_elim (λ t. or_left (alike k x c.label) _ t) (λ t. or_right (alike k x c.label) _ (taken_registered x cs mx right.1 left t))
        (or_cases (alike k x c.label) (registered k x cs) h))
        (λ same few.
        ⊎_elim
        (λ (t : alike k x c.label ≡ true).
        let lc = alike_same k law l c.label m mc same in
        let xc = alike_same k law x c.label mx mc t in
        let some = left (ap (alike k l) (xc ∙ sym lc) ∙ alike_itself k law l m) in
        let e = less_here c same right.0 in
        let n : atoms_of k c.label after ≡ atoms_of k l after = ap (λ a. atoms_of k a after) (sym lc) in
        absurd (omega arith))
        (λ t. t) (or_cases (alike k x c.label) (registered k x cs) h))
        (λ _ _. h)

  pub taking : (law : Lawful k) → k.mine l ≡ true → (rows : List (Census L)) → TakingLaw k l rows (taken k l rows)
  taking law m rows xs ys a is ms h =
      let before = xs ++ (a ∷ ys) in
      let after = xs ++ ys in
      let up = and_parts (ascending k rows) _ h in
      let rest = and_parts (list_all (row_right k before) rows) (list_all (λ a. registered k a.label rows) before) up.1 in
      let known = right_mine k before rows rest.0 in
      let less : (x : L) → atoms_of k x before ≡ cond (alike k x l) (suc (atoms_of k x after)) (atoms_of k x after) =
      λ x. atoms_between k x xs ys a ∙ ap (λ b. cond (alike k x b) (suc (atoms_of k x after)) (atoms_of k x after)) is in
      let mine = (each_without (λ n. k.mine n.label) xs ys a ms).1 in
      let here = (each_without (λ a. registered k a.label rows) xs ys a rest.1).1 in
      let counts = counted_one (atoms_of k l after) after (omega arith) in
      let both = each_from_two (λ n. k.mine n.label) (λ b. not (alike k l b.label) || ltb 0 (atoms_of k l after)) (λ b. k.mine b.label && (not (alike k l b.label) || ltb 0 (atoms_of k l after))) after (λ b p q. and_from _ _ p q) mine counts in
      and_from (ascending k (taken k l rows)) _ (taken_ascending law rows known up.0)
      (and_from (list_all (row_right k after) (taken k l rows)) _ (taken_right law m before after less rows up.0 rest.0)
      (each_from_two (λ b. k.mine b.label && (not (alike k l b.label) || ltb 0 (atoms_of k l after))) (λ a. registered k a.label rows) (λ a. registered k a.label (taken k l rows)) after
      (λ b p q.
      let parts = and_parts (k.mine b.label) _ p in
      taken_registered law m before after less b.label rows parts.0 rest.0
      (λ t. ltb-true 0 _ (ap (λ v. not v || ltb 0 (atoms_of k l after)) (sym t) ∙ parts.1)) q) both here))

  pub taken_right_for : (law : Lawful k) → k.mine l ≡ true → (rows exit : List (Census L)) → exit ≡ taken k l rows → TakingLaw k l rows exit
  taken_right_for law m rows exit e xs ys a is ms h =
      ap (register_test k (xs ++ ys)) e ∙ taking law m rows xs ys a is ms h

  -- what becomes of the label's row
  module _ (law : Lawful k) (m : k.mine l ≡ true) where
    taken_met : (s : List (Census L)) (d : Census L) → Filed k s → registered k l s ≡ true → (i : ℕ) × ((below k l s ≡ i) × ((i < length s) × (taken k l s ≡ cond (leb (get_or s i d).atoms 1) (remove s i) (set s i (one_less (get_or s i d))))))
    unfolding taken registered ascending
    taken_met [] d f r = absurd (both_ways false refl r)
    taken_met (c ∷ cs) d f r =
        let both = and_parts (k.mine c.label) (list_all (λ c. k.mine c.label) cs) f.known in
        let up = and_parts (first_above k c.label cs) (ascending k cs) f.order in
        let first : alike k l c.label ≡ true → below k l (c ∷ cs) ≡ 0 = λ t. below_stop k l c cs (not-true _ (and_parts (not (k.lower l c.label)) (not (k.lower c.label l)) t).1) in
        taken_by c cs (λ s. (i : ℕ) × ((below k l (c ∷ cs) ≡ i) × ((i < length (c ∷ cs)) × (s ≡ cond (leb (get_or (c ∷ cs) i d).atoms 1) (remove (c ∷ cs) i) (set (c ∷ cs) i (one_less (get_or (c ∷ cs) i d)))))))
        (λ t. absurd (both_ways (registered k l (c ∷ cs)) (unregistered k law l (c ∷ cs) m f.known f.order t) r))
        (λ _ t.
        let rest = taken_met cs d (record { order = up.1; known = both.1 }) (ap (λ v. v || registered k l cs) (sym (lower_apart c.label t)) ∙ r) in
        let row = get_or cs rest.0 d in
        (suc rest.0, (below_on k l c cs t ∙ ap suc rest.1.0, (omega (arith, rest.1.1.0), ap (λ s. c ∷ s) rest.1.1.1 ∙ cons_cond (leb row.atoms 1) c (remove cs rest.0) (set cs rest.0 (one_less row))))))
        (λ t few. (0, (first t, (omega arith, sym (cond-true (leb c.atoms 1) cs (one_less c ∷ cs) (le-leb _ _ few))))))
        (λ t many. (0, (first t, (omega arith, sym (cond-false (leb c.atoms 1) cs (one_less c ∷ cs) (lt-leb _ _ many))))))

    -- a label that has no row changes nothing
    taken_none : (s : List (Census L)) → registered k l s ≡ false → taken k l s ≡ s
    unfolding taken registered
    taken_none [] r = refl
    taken_none (c ∷ cs) r =
        let no = or_parts (alike k l c.label) (registered k l cs) r in
        taken_by c cs (λ s. s ≡ c ∷ cs) (λ _. refl) (λ _ _. ap (λ s. c ∷ s) (taken_none cs no.1))
        (λ t _. absurd (both_ways (alike k l c.label) no.0 t)) (λ t _. absurd (both_ways (alike k l c.label) no.0 t))

    -- the same of the first rows of a table
    module _ (rows : List (Census L)) (count : ℕ) (h : count ≤ length rows) where
      pub none_taken : (at : ℕ) → Err at ≡ sought k l (take count rows) → (count ≡ length (taken k l (take count rows))) × (take count rows ≡ taken k l (take count rows))
      none_taken at is =
          let len : length (take count rows) ≡ count = length-take-le count rows h in
          let e = taken_none (take count rows) (sought_err k l (take count rows) at is).0 in
          (sym (ap length e ∙ len), sym e)

      row_taken : (at : ℕ) (y : Census L) → Filed k (take count rows) → Ok at ≡ sought k l (take count rows) → (at < count) × (taken k l (take count rows) ≡ cond (leb (get_or rows at y).atoms 1) (remove (take count rows) at) (set (take count rows) at (one_less (get_or rows at y))))
      row_taken at y f is =
          let s = take count rows in
          let len : length s ≡ count = length-take-le count rows h in
          let said = sought_ok k l s at is in
          let row = taken_met s y f said.0 in
          let here : row.0 ≡ at = sym row.1.0 ∙ sym said.1 in
          let w : at < count = omega (arith, row.1.1.0) in (
            w,
            row.1.1.1 ∙ ap (λ i. cond (leb (get_or s i y).atoms 1) (remove s i) (set s i (one_less (get_or s i y)))) here
                ∙ ap (λ c. cond (leb c.atoms 1) (remove s at) (set s at (one_less c))) (get_or-take count rows at y w),
          )

      pub last_taken : (exit : List (Census L)) (at : ℕ) (y : Census L) → Filed k (take count rows) → Ok at ≡ sought k l (take count rows) → (get_or rows at y).atoms ≤ 1 → take (count - 1) exit ≡ remove (take count rows) at → (count - 1 ≡ length (taken k l (take count rows))) × (take (count - 1) exit ≡ taken k l (take count rows))
      last_taken exit at y f is few gone =
          let len : length (take count rows) ≡ count = length-take-le count rows h in
          let row = row_taken at y f is in
          let e : taken k l (take count rows) ≡ remove (take count rows) at = row.1 ∙ cond-true (leb (get_or rows at y).atoms 1) _ _ (le-leb _ _ few) in
          let w : at < count = row.0 in
          let shorter = length-remove (take count rows) at (omega arith) in
          let n = ap length e in
          (omega arith, gone ∙ sym e)

      pub less_taken : (at : ℕ) (x y z : Census L) → Filed k (take count rows) → Ok at ≡ sought k l (take count rows) → 1 < (get_or rows at x).atoms → (count ≡ length (taken k l (take count rows))) × (take count (set rows at (record { label = (get_or rows at y).label; atoms = (get_or rows at z).atoms - 1 })) ≡ taken k l (take count rows))
      less_taken at x y z f is many =
          let s = take count rows in
          let len : length s ≡ count = length-take-le count rows h in
          let row = row_taken at x f is in
          let w : at < count = row.0 in
          let e : taken k l s ≡ set s at (one_less (get_or rows at x)) = row.1 ∙ cond-false (leb (get_or rows at x).atoms 1) _ _ (lt-leb _ _ many) in (
            sym (ap length e ∙ length-set s at _ ∙ len),
            take-set-lt count rows at _ w
                ∙ ap₂ (λ c d. set s at (record { label = c.label; atoms = d.atoms - 1 })) (get_or_default rows at y x (omega arith)) (get_or_default rows at z x (omega arith)) ∙ sym e,
          )
