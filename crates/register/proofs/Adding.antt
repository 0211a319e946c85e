-- One atom more of a label.
use Rattle.std.proofs.Common.{◌≡◌, ℕ, suc, ◌+◌, ◌<◌, ◌≤◌, Bool, true, false, cond, not, ◌&&◌, ◌||◌, eqb, ltb, List, [], ◌∷◌, ◌++◌, length, get_or, take, set, Ok, Err, sym, refl, ap, ◌∙◌, subst, ⊎_elim, arith}
use Rattle.std.specs.List.{insert}
use Rattle.std.proofs.Math.Seq.{take-set-lt}
use Rattle.std.proofs.lemmas.List.{get_or_default, get_or-take, length-set, length-take-le}
use Rattle.std.proofs.lemmas.List.Edits.{length-insert}
use Rattle.std.proofs.lemmas.List.Sums.{prefix_len-le-length}
use Rattle.std.proofs.lemmas.Bool.{and_from, and_parts, both_ways, not-true, or_parts, cases_Bool, cond-true, cond-false, eq-eqb, eqb-true, lt-ltb, not_from_false, or_left, or_right}
use Rattle.label.specs.Kind.{Kind, Lawful}
use Rattle.plan.specs.declared.tables.Census.{Census}
use Rattle.plan.specs.Model.{Node}
use Rattle.plan.specs.Places.{Filed}
use Rattle.std.specs.List.{list_all}
use Rattle.plan.specs.Sound.{alike, ascending, atoms_of, first_above, registered, row_right}
use Rattle.plan.specs.Tests.{register_test}
use Rattle.plan.proofs.Placing.{alike_turn, unregistered}
use Rattle.plan.proofs.Tallying.{atoms_push}
use Rattle.register.specs.Laws.{AddingLaw}
use Rattle.register.specs.Rows.{added, below, sought}
use Rattle.register.proofs.Counting.{alike_itself, alike_same, each_from, each_push, none_of, right_mine, right_still}
use Rattle.register.proofs.Seeking.{below_on, below_stop, sought_err, sought_ok}

or_turn : (x y z : Bool) → (x || (y || z)) ≡ (y || (x || z))
or_turn true true z = refl
or_turn true false z = refl
or_turn false true z = refl
or_turn false false z = refl

or_again : (x z : Bool) → (x || z) ≡ (x || (x || z))
or_again true z = refl
or_again false z = refl

suc_cond : (v : Bool) (n : ℕ) → suc (cond v n (suc n)) ≡ cond v (suc n) (suc (suc n))
suc_cond true n = refl
suc_cond false n = refl

module _ {L : Type 0} (k : Kind L) (l : L) where
  abbrev pub new_row : Census L
  new_row = record { label = l; atoms = 1 }

  abbrev pub one_more : Census L → Census L
  one_more c = record { label = c.label; atoms = c.atoms + 1 }

  -- what becomes of the first row
  added_by : (c : Census L) (cs : List (Census L)) (P : List (Census L) → Type 0) → (k.lower l c.label ≡ true → P (new_row ∷ (c ∷ cs))) → (k.lower l c.label ≡ false → k.lower c.label l ≡ true → P (c ∷ added k l cs)) → (alike k l c.label ≡ true → P (one_more c ∷ cs)) → P (added k l (c ∷ cs))
  unfolding added
  added_by c cs P new on same =
      ⊎_elim (λ (t : k.lower l c.label ≡ true). subst P (sym (cond-true (k.lower l c.label) _ _ t)) (new t))
      (λ (f : k.lower l c.label ≡ false).
      subst P (sym (cond-false (k.lower l c.label) _ _ f))
      (⊎_elim (λ (t : k.lower c.label l ≡ true). subst P (sym (cond-true (k.lower c.label l) _ _ t)) (on f t))
      (λ (e : k.lower c.label l ≡ false).
      subst P (sym (cond-false (k.lower c.label l) _ _ e)) (same (and_from _ _ (not_from_false _ f) (not_from_false _ e))))
      (cases_Bool (k.lower c.label l))))
      (cases_Bool (k.lower l c.label))

  lower_apart : (a : L) → k.lower a l ≡ true → alike k l a ≡ false
  lower_apart a low = alike_turn k l a ∙ ap (λ v. not v && not (k.lower l a)) low

  pub added_above : (x : L) (rows : List (Census L)) → k.lower x l ≡ true → first_above k x rows ≡ true → first_above k x (added k l rows) ≡ true
  unfolding added
  added_above x [] low h = low
  added_above x (c ∷ cs) low h =
      added_by c cs (λ s. first_above k x s ≡ true) (λ _. low) (λ _ _. h) (λ _. h)

  pub added_ascending : (rows : List (Census L)) → ascending k rows ≡ true → ascending k (added k l rows) ≡ true
  unfolding added ascending
  added_ascending [] h = refl
  added_ascending (c ∷ cs) h =
      let up = and_parts (first_above k c.label cs) (ascending k cs) h in
      added_by c cs (λ s. ascending k s ≡ true) (λ t. and_from _ _ t h)
      (λ _ t. and_from _ _ (added_above c.label cs t up.0) (added_ascending cs up.1)) (λ _. h)

  pub added_mine : (rows : List (Census L)) → k.mine l ≡ true → list_all (λ c. k.mine c.label) rows ≡ true → list_all (λ c. k.mine c.label) (added k l rows) ≡ true
  unfolding added
  added_mine [] m ms = and_from _ _ m refl
  added_mine (c ∷ cs) m ms =
      let both = and_parts (k.mine c.label) (list_all (λ c. k.mine c.label) cs) ms in
      added_by c cs (λ s. list_all (λ c. k.mine c.label) s ≡ true) (λ _. and_from _ _ m ms) (λ _ _. and_from _ _ both.0 (added_mine cs m both.1)) (λ _. ms)

  pub added_filed : (rows : List (Census L)) → k.mine l ≡ true → Filed k rows → Filed k (added k l rows)
  added_filed rows m h = record { order = added_ascending rows h.order; known = added_mine rows m h.known }

  pub added_longer : (rows : List (Census L)) → length rows ≤ length (added k l rows)
  unfolding added
  added_longer [] = omega arith
  added_longer (c ∷ cs) =
      let ih = added_longer cs in
      added_by c cs (λ s. length (c ∷ cs) ≤ length s) (λ _. omega arith) (λ _ _. omega arith) (λ _. omega arith)

  module _ (law : Lawful k) (m : k.mine l ≡ true) where
    pub added_registered : (x : L) (rows : List (Census L)) → list_all (λ c. k.mine c.label) rows ≡ true → registered k x (added k l rows) ≡ (alike k x l || registered k x rows)
    unfolding added registered
    added_registered x [] ms = refl
    added_registered x (c ∷ cs) ms =
        let both = and_parts (k.mine c.label) (list_all (λ c. k.mine c.label) cs) ms in
        added_by c cs (λ s. registered k x s ≡ (alike k x l || registered k x (c ∷ cs))) (λ _. refl)
        (λ _ _.
        ap (λ v. alike k x c.label || v) (added_registered x cs both.1)
        ∙ or_turn (alike k x c.label) (alike k x l) (registered k x cs))
        (λ t.
        or_again (alike k x c.label) (registered k x cs)
        ∙ ap (λ a. alike k x a || registered k x (c ∷ cs)) (sym (alike_same k law l c.label m both.0 t)))

    pub added_length : (rows : List (Census L)) → Filed k rows → length (added k l rows) ≡ cond (registered k l rows) (length rows) (suc (length rows))
    unfolding added registered ascending
    added_length [] h = refl
    added_length (c ∷ cs) h =
        let both = and_parts (k.mine c.label) (list_all (λ c. k.mine c.label) cs) h.known in
        let up = and_parts (first_above k c.label cs) (ascending k cs) h.order in
        let n = length cs in
        added_by c cs (λ s. length s ≡ cond (registered k l (c ∷ cs)) (suc n) (suc (suc n)))
        (λ t. sym (cond-false (registered k l (c ∷ cs)) (suc n) (suc (suc n)) (unregistered k law l (c ∷ cs) m h.known h.order t)))
        (λ _ t.
        ap suc (added_length cs (record { order = up.1; known = both.1 })) ∙ suc_cond (registered k l cs) n
        ∙ ap (λ v. cond (v || registered k l cs) (suc n) (suc (suc n))) (sym (lower_apart c.label t)))
        (λ t. ap (λ v. cond (v || registered k l cs) (suc n) (suc (suc n))) (sym t))

    -- a row that the label has counts one more
    added_met : (s : List (Census L)) (d : Census L) → Filed k s → registered k l s ≡ true → (i : ℕ) × ((below k l s ≡ i) × ((i < length s) × (added k l s ≡ set s i (one_more (get_or s i d)))))
    unfolding added registered ascending
    added_met [] d f r = absurd (both_ways false refl r)
    added_met (c ∷ cs) d f r =
        let both = and_parts (k.mine c.label) (list_all (λ c. k.mine c.label) cs) f.known in
        let up = and_parts (first_above k c.label cs) (ascending k cs) f.order in
        added_by c cs (λ s. (i : ℕ) × ((below k l (c ∷ cs) ≡ i) × ((i < length (c ∷ cs)) × (s ≡ set (c ∷ cs) i (one_more (get_or (c ∷ cs) i d))))))
        (λ t. absurd (both_ways (registered k l (c ∷ cs)) (unregistered k law l (c ∷ cs) m f.known f.order t) r))
        (λ _ t.
        let rest = added_met cs d (record { order = up.1; known = both.1 }) (ap (λ v. v || registered k l cs) (sym (lower_apart c.label t)) ∙ r) in
        (suc rest.0, (below_on k l c cs t ∙ ap suc rest.1.0, (omega (arith, rest.1.1.0), ap (λ s. c ∷ s) rest.1.1.1))))
        (λ t. (0, (below_stop k l c cs (not-true _ (and_parts (not (k.lower l c.label)) (not (k.lower c.label l)) t).1), (omega arith, refl))))

    -- where it has none, a new one goes after the lower ones
    added_new : (s : List (Census L)) → list_all (λ c. k.mine c.label) s ≡ true → registered k l s ≡ false → added k l s ≡ insert s (below k l s) new_row
    unfolding added registered
    added_new [] ms r = refl
    added_new (c ∷ cs) ms r =
        let both = and_parts (k.mine c.label) (list_all (λ c. k.mine c.label) cs) ms in
        let no = or_parts (alike k l c.label) (registered k l cs) r in
        added_by c cs (λ s. s ≡ insert (c ∷ cs) (below k l (c ∷ cs)) new_row)
        (λ t. sym (ap (λ i. insert (c ∷ cs) i new_row) (below_stop k l c cs (law.one_way l c.label m both.0 t))))
        (λ _ t. ap (λ s. c ∷ s) (added_new cs both.1 no.1) ∙ sym (ap (λ i. insert (c ∷ cs) i new_row) (below_on k l c cs t)))
        (λ t. absurd (both_ways (alike k l c.label) no.0 t))

    -- the same of the first rows of a table
    pub row_met : (rows : List (Census L)) (count at : ℕ) (y z : Census L) → count ≤ length rows → Filed k (take count rows) → Ok at ≡ sought k l (take count rows) → (count ≡ length (added k l (take count rows))) × (take count (set rows at (record { label = (get_or rows at y).label; atoms = (get_or rows at z).atoms + 1 })) ≡ added k l (take count rows))
    row_met rows count at y z h f is =
        let s = take count rows in
        let len : length s ≡ count = length-take-le count rows h in
        let said = sought_ok k l s at is in
        let row = added_met s y f said.0 in
        let here : row.0 ≡ at = sym row.1.0 ∙ sym said.1 in
        let w : at < count = omega (arith, row.1.1.0) in
        let e : added k l s ≡ set s at (one_more (get_or s at y)) = row.1.1.1 ∙ ap (λ i. set s i (one_more (get_or s i y))) here in (
          sym (ap length e ∙ length-set s at _ ∙ len),
          take-set-lt count rows at _ w
              ∙ ap (λ c. set s at (record { label = (get_or rows at y).label; atoms = c.atoms + 1 })) (get_or_default rows at z y (omega arith))
              ∙ ap (λ c. set s at (one_more c)) (sym (get_or-take count rows at y w)) ∙ sym e,
        )

    pub row_new : (rows : List (Census L)) (count at : ℕ) → count ≤ length rows → Filed k (take count rows) → Err at ≡ sought k l (take count rows) → (count + 1 ≡ length (added k l (take count rows))) × (added k l (take count rows) ≡ insert (take count rows) at new_row)
    row_new rows count at h f is =
        let s = take count rows in
        let len : length s ≡ count = length-take-le count rows h in
        let said = sought_err k l s at is in
        let e : added k l s ≡ insert s (below k l s) new_row = added_new s f.known said.0 in
        (sym (ap length e ∙ length-insert s (below k l s) new_row (prefix_len-le-length (λ c. k.lower c.label l) s) ∙ ap (λ n. n + 1) len), e ∙ ap (λ i. insert s i new_row) (sym said.1))

    module _ (nodes : List (Node L)) (a : Node L) (is : a.label ≡ l) where
      more : (x : L) → atoms_of k x (nodes ++ (a ∷ [])) ≡ cond (alike k x l) (suc (atoms_of k x nodes)) (atoms_of k x nodes)
      more x = atoms_push k x nodes a ∙ ap (λ b. cond (alike k x b) (suc (atoms_of k x nodes)) (atoms_of k x nodes)) is

      more_apart : (x : L) → alike k x l ≡ false → atoms_of k x (nodes ++ (a ∷ [])) ≡ atoms_of k x nodes
      more_apart x e = more x ∙ cond-false (alike k x l) _ _ e

      new_right : atoms_of k l nodes ≡ 0 → row_right k (nodes ++ (a ∷ [])) (new_row) ≡ true
      new_right none =
          let one : 1 ≡ atoms_of k l (nodes ++ (a ∷ [])) = sym (more l ∙ cond-true (alike k l l) _ _ (alike_itself k law l m) ∙ ap suc none) in
          and_from (k.mine l) _ m (and_from (ltb 0 1) _ (lt-ltb 0 1 (omega arith)) (eq-eqb 1 _ one))

      more_right : (c : Census L) → alike k l c.label ≡ true → row_right k nodes c ≡ true → row_right k (nodes ++ (a ∷ [])) (one_more c) ≡ true
      more_right c t h =
          let both = and_parts (k.mine c.label) (ltb 0 c.atoms && eqb c.atoms (atoms_of k c.label nodes)) h in
          let says = and_parts (ltb 0 c.atoms) (eqb c.atoms (atoms_of k c.label nodes)) both.1 in
          let n = eqb-true c.atoms (atoms_of k c.label nodes) says.1 in
          let e : atoms_of k c.label (nodes ++ (a ∷ [])) ≡ suc (atoms_of k c.label nodes) = more c.label ∙ cond-true (alike k c.label l) _ _ (alike_turn k c.label l ∙ t) in
          and_from (k.mine c.label) _ both.0 (and_from (ltb 0 (c.atoms + 1)) _ (lt-ltb 0 (c.atoms + 1) (omega arith)) (eq-eqb (c.atoms + 1) _ (omega arith)))

      added_right : (rows : List (Census L)) → ascending k rows ≡ true → list_all (row_right k nodes) rows ≡ true → (registered k l rows ≡ false → atoms_of k l nodes ≡ 0) → list_all (row_right k (nodes ++ (a ∷ []))) (added k l rows) ≡ true
      unfolding added registered ascending
      added_right [] h r none = and_from _ _ (new_right (none refl)) refl
      added_right (c ∷ cs) h r none =
          let all = nodes ++ (a ∷ []) in
          let right = and_parts (row_right k nodes c) (list_all (row_right k nodes) cs) r in
          let up = and_parts (first_above k c.label cs) (ascending k cs) h in
          let ms = right_mine k nodes (c ∷ cs) r in
          let both = and_parts (k.mine c.label) (list_all (λ c. k.mine c.label) cs) ms in
          added_by c cs (λ s. list_all (row_right k all) s ≡ true)
          (λ t.
          let absent = unregistered k law l (c ∷ cs) m ms h t in
          and_from (row_right k all (new_row)) (list_all (row_right k all) (c ∷ cs)) (new_right (none absent)) (right_still k l nodes all (c ∷ cs) more_apart absent r))
          (λ _ t.
          let apart = lower_apart c.label t in
          let same = more_apart c.label (alike_turn k c.label l ∙ apart) in
          and_from (row_right k all c) (list_all (row_right k all) (added k l cs))
          (ap (λ n. k.mine c.label && (ltb 0 c.atoms && eqb c.atoms n)) same ∙ right.0)
          (added_right cs up.1 right.1 (λ f. none (ap (λ v. v || registered k l cs) apart ∙ f))))
          (λ t.
          let e = alike_same k law l c.label m both.0 t in
          let absent = unregistered k law l cs m both.1 up.1 (ap (λ x. first_above k x cs) e ∙ up.0) in
          and_from (row_right k all (one_more c)) (list_all (row_right k all) cs) (more_right c t right.0) (right_still k l nodes all cs more_apart absent right.1))

  -- the register stays right
  pub adding : (law : Lawful k) → k.mine l ≡ true → (rows : List (Census L)) → AddingLaw k l rows (added k l rows)
  adding law m rows nodes a is ms h =
      let up = and_parts (ascending k rows) _ h in
      let rest = and_parts (list_all (row_right k nodes) rows) (list_all (λ a. registered k a.label rows) nodes) up.1 in
      let known = right_mine k nodes rows rest.0 in
      let here : (x : L) → registered k x (added k l rows) ≡ (alike k x l || registered k x rows) = λ x. added_registered law m x rows known in
      and_from (ascending k (added k l rows)) _ (added_ascending rows up.0)
      (and_from (list_all (row_right k (nodes ++ (a ∷ []))) (added k l rows)) _
      (added_right law m nodes a is rows up.0 rest.0 (none_of k law l rows nodes m ms rest.1))
      (each_push (λ a. registered k a.label (added k l rows)) nodes a
      (each_from (λ a. registered k a.label rows) (λ a. registered k a.label (added k l rows)) nodes
      (λ b t. here b.label ∙ or_right (alike k b.label l) _ t) rest.1)
      (here a.label ∙ or_left (alike k a.label l) _ (ap (λ x. alike k x l) is ∙ alike_itself k law l m))))

  pub added_right_for : (law : Lawful k) → k.mine l ≡ true → (rows after : List (Census L)) → after ≡ added k l rows → AddingLaw k l rows after
  added_right_for law m rows after e nodes a is ms h =
      ap (register_test k (nodes ++ (a ∷ []))) e ∙ adding law m rows nodes a is ms h
