-- The table of a text's names has them in the order of the form.
use Rattle.placing.proofs.NamesOf.{noted_apart}
use Rattle.std.proofs.lemmas.Bool.{and_right}
use Rattle.std.proofs.Common.{◌≡◌, ℕ, suc, ◌+◌, ◌<◌, ◌≤◌, Bool, true, false, cond, not, ◌&&◌, eqb, List, [], ◌∷◌, ◌++◌, map, filter, sym, refl, ap, ◌∙◌, subst, ap₂, ⊎_elim, append_assoc, append-nil, arith}
use Rattle.std.proofs.lemmas.List.Elements.{filter-append}
use Rattle.std.proofs.lemmas.List.{map-append}
use Rattle.std.proofs.lemmas.Bool.{and_parts, cases_eq, cond-true, cond-false, eq-eqb, ne_eqb, eqb-true}
use Rattle.std.proofs.lemmas.Bool.Decides.{nat_tests}
use Rattle.text.specs.declared.packed.Name.{Name}
use Rattle.grammar.specs.declared.stand.Standing.{Standing}
use Rattle.grammar.specs.Seen.{Seen, word, number, name, comma, open_paren, close_paren, open_brace, close_brace, equal, at_sign, other}
use Rattle.grammar.specs.State.{State, next_names, next_state, noted, times}
use Rattle.grammar.specs.Laws.{Spot, state_after}
use Rattle.grammar.specs.Form.{by_word, by_number, Items, none, atom, cell, connector, set, more_ports, port_tokens, joined, item_tokens}
use Rattle.plan.specs.Sound.{count, distinct}
use Rattle.placing.specs.NamesOf.{packed_names}
use Rattle.placing.proofs.KeepEach.{count_append}
use Rattle.placing.proofs.NamesOf.{noted_times}
use Rattle.forming.specs.Places.{written_names}
use Rattle.forming.proofs.Names.{packed_of}

-- ** the names among tokens

abbrev pub token_names : List Seen → List Name
token_names [] = []
token_names (word w ∷ ts) = token_names ts
token_names (number w ∷ ts) = token_names ts
token_names (name n ∷ ts) = n ∷ token_names ts
token_names (comma ∷ ts) = token_names ts
token_names (open_paren ∷ ts) = token_names ts
token_names (close_paren ∷ ts) = token_names ts
token_names (open_brace ∷ ts) = token_names ts
token_names (close_brace ∷ ts) = token_names ts
token_names (equal ∷ ts) = token_names ts
token_names (at_sign ∷ ts) = token_names ts
token_names (other ∷ ts) = token_names ts

joined_names : (h : Items) (ts s : List Seen) → token_names (joined h ts ++ s) ≡ token_names (ts ++ s)
joined_names none ts s = refl
joined_names (atom w ns h) ts s = refl
joined_names (cell i h) ts s = refl
joined_names (connector a b h) ts s = refl
joined_names (set w h) ts s = refl

more_names : (ns : List Name) (j s : List Seen) → token_names ((more_ports ns ++ j) ++ s) ≡ ns ++ token_names (j ++ s)
more_names [] j s = refl
more_names (n ∷ ns) j s = ap (λ xs. n ∷ xs) (more_names ns j s)

port_names : (ns : List Name) (j s : List Seen) → token_names ((port_tokens ns ++ j) ++ s) ≡ ns ++ token_names (j ++ s)
port_names [] j s = refl
port_names (n ∷ ns) j s = ap (λ xs. n ∷ xs) (more_names ns j s)

pub names_told : (h : Items) (s : List Seen) → token_names (item_tokens h ++ s) ≡ written_names h ++ token_names s
names_told none s = refl
names_told (atom (by_word w) ns h) s =
    port_names ns (joined h (item_tokens h)) s ∙ ap (λ xs. ns ++ xs) (joined_names h (item_tokens h) s ∙ names_told h s) ∙ sym (append_assoc ns (written_names h) (token_names s))
names_told (atom (by_number w) ns h) s =
    port_names ns (joined h (item_tokens h)) s ∙ ap (λ xs. ns ++ xs) (joined_names h (item_tokens h) s ∙ names_told h s) ∙ sym (append_assoc ns (written_names h) (token_names s))
names_told (cell i h) s =
    ap token_names (append_assoc (item_tokens i) (close_brace ∷ joined h (item_tokens h)) s)
    ∙ names_told i (close_brace ∷ (joined h (item_tokens h) ++ s))
    ∙ ap (λ xs. written_names i ++ xs) (joined_names h (item_tokens h) s ∙ names_told h s)
    ∙ sym (append_assoc (written_names i) (written_names h) (token_names s))
names_told (connector a b h) s = ap (λ xs. a ∷ (b ∷ xs)) (joined_names h (item_tokens h) s ∙ names_told h s)
names_told (set w h) s = joined_names h (item_tokens h) s ∙ names_told h s

-- ** rows kept

kept_members : (p q : Name → Bool) (xs : List Name) → ((x : Name) → 0 < count x.packed (packed_of xs) → p x ≡ q x) → filter p xs ≡ filter q xs
unfolding count
kept_members p q [] h = refl
kept_members p q (x ∷ xs) h =
    ap₂ (λ v zs. cond v (x ∷ zs) zs) (h x (let c = cond-true (eqb x.packed x.packed) (suc (count x.packed (packed_of xs))) (count x.packed (packed_of xs)) (eq-eqb x.packed x.packed refl) in omega arith))
    (kept_members p q xs (λ y l. h y (grind (arith, nat_tests))))

kept_kept : (p q : Name → Bool) (xs : List Name) → filter p (filter q xs) ≡ filter (λ x. q x && p x) xs
kept_kept p q [] = refl
kept_kept p q (x ∷ xs) =
    let ih = kept_kept p q xs in
    elim (q x) as (λ v. filter p (cond v (x ∷ filter q xs) (filter q xs)) ≡ cond (v && p x) (x ∷ filter (λ y. q y && p y) xs) (filter (λ y. q y && p y) xs)) [ true ↦ ap (λ zs. cond (p x) (x ∷ zs) zs) ih | false ↦ ih ]

-- ** one standing more

stood : (v : Bool) → ◌≡◌ {A = ℕ} (cond v 2 1) 0 → ⊥
stood true e = omega arith
stood false e = omega arith

one_here : (x : ℕ) → ◌≡◌ {A = ℕ} (cond (eqb x x) 1 0) 1
one_here x = ap (λ v. cond {A = ℕ} v 1 0) (eq-eqb x x refl)

none_here : (x y : ℕ) → (x ≡ y → ⊥) → ◌≡◌ {A = ℕ} (cond (eqb x y) 1 0) 0
none_here x y d = ap (λ v. cond {A = ℕ} v 1 0) (ne_eqb x y d)

head_counts : (x : ℕ) (xs : List ℕ) → count x (x ∷ xs) ≡ suc (count x xs)
unfolding count
head_counts x xs = cond-true (eqb x x) (suc (count x xs)) (count x xs) (eq-eqb x x refl)

module _ (P : Name → Bool) where
  -- a row of a name that stood once
  abbrev single : Standing → Bool
  single s = not s.twice && P s.name

  abbrev singles : List Standing → List Name
  singles ss = map (λ s. s.name) (filter single ss)

  abbrev pub alone : List Name → List Name
  alone ns = filter (λ n. eqb (count n.packed (packed_of ns)) 1 && P n) ns

  cons_singles : (s : Standing) (v : Bool) (rs : List Standing) → map (λ r. r.name) (cond v (s ∷ rs) rs) ≡ cond v (s.name ∷ map (λ r. r.name) rs) (map (λ r. r.name) rs)
  cons_singles s true rs = refl
  cons_singles s false rs = refl

  abbrev differs : Name → Name → Bool
  differs n x = not (eqb x.packed n.packed)

  new_kept : (n : Name) (p : ℕ) (ss : List Standing) → times n ss ≡ 0 → singles (noted n p ss) ≡ singles ss ++ filter P (n ∷ [])
  unfolding times noted
  new_kept n p [] h = cons_singles (record { name = n; twice = false; place = p }) (P n) []
  new_kept n p (s ∷ ss) h =
      ⊎_elim
      (λ (e : s.name.packed ≡ n.packed).
      let c = cond-true (eqb s.name.packed n.packed) (cond s.twice 2 1) (times n ss) (eq-eqb s.name.packed n.packed e) in
      absurd (stood s.twice (sym c ∙ h)))
      (λ (d : s.name.packed ≡ n.packed → ⊥).
      let f = ne_eqb s.name.packed n.packed d in
      let c = cond-false (eqb s.name.packed n.packed) (cond s.twice 2 1) (times n ss) f in
      let ih = new_kept n p ss (sym c ∙ h) in
      ap singles (cond-false (eqb s.name.packed n.packed) (record { name = s.name; twice = true; place = s.place } ∷ ss) (s ∷ noted n p ss) f)
      ∙ cons_singles s (single s) (filter single (noted n p ss))
      ∙ ap (λ xs. cond (single s) (s.name ∷ xs) xs) ih
      ∙ pull (single s) s.name (singles ss) (filter P (n ∷ []))
      ∙ ap (λ xs. xs ++ filter P (n ∷ [])) (sym (cons_singles s (single s) (filter single ss))))
      (cases_eq s.name.packed n.packed)
    where
      pull : (v : Bool) (x : Name) (xs ys : List Name) → cond v (x ∷ (xs ++ ys)) (xs ++ ys) ≡ cond v (x ∷ xs) xs ++ ys
      pull true x xs ys = refl
      pull false x xs ys = refl

  -- a name that has no row is none of the rows' names
  absent : (n : Name) (ss : List Standing) → count n.packed (packed_names ss) ≡ 0 → filter (differs n) (singles ss) ≡ singles ss
  unfolding count
  absent n [] h = refl
  absent n (s ∷ ss) h =
      let d : s.name.packed ≡ n.packed → ⊥ = λ e. let c = cond-true (eqb n.packed s.name.packed) (suc (count n.packed (packed_names ss))) (count n.packed (packed_names ss)) (eq-eqb n.packed s.name.packed (sym e)) in omega arith in
      let c = cond-false (eqb n.packed s.name.packed) (suc (count n.packed (packed_names ss))) (count n.packed (packed_names ss)) (ne_eqb n.packed s.name.packed (λ e. d (sym e))) in
      let ih = absent n ss (sym c ∙ h) in
      ap (filter (differs n)) (cons_singles s (single s) (filter single ss))
      ∙ pass (single s) (eqb s.name.packed n.packed) (ne_eqb s.name.packed n.packed d) s.name (singles ss) (singles ss) refl ih
      ∙ sym (cons_singles s (single s) (filter single ss))
    where
      pass : (v w : Bool) → w ≡ false → (x : Name) (xs ys : List Name) → not (eqb x.packed n.packed) ≡ not w → filter (differs n) xs ≡ ys → filter (differs n) (cond v (x ∷ xs) xs) ≡ cond v (x ∷ ys) ys
      pass true w e x xs ys i ih = ap (λ u. cond u (x ∷ filter (differs n) xs) (filter (differs n) xs)) (i ∙ ap not e) ∙ ap (λ zs. x ∷ zs) ih
      pass false w e x xs ys i ih = ih

  second_kept : (n : Name) (p : ℕ) (ss : List Standing) → distinct (packed_names ss) ≡ true → times n ss ≡ 1 → singles (noted n p ss) ≡ filter (differs n) (singles ss)
  unfolding times noted distinct
  second_kept n p [] d h = absurd (omega arith)
  second_kept n p (s ∷ ss) d h =
      let parts = and_parts (eqb (count s.name.packed (packed_names ss)) 0) (distinct (packed_names ss)) d in
      ⊎_elim
      (λ (e : s.name.packed ≡ n.packed).
      let t = eq-eqb s.name.packed n.packed e in
      let none : count n.packed (packed_names ss) ≡ 0 = ap (λ x. count x (packed_names ss)) (sym e) ∙ eqb-true (count s.name.packed (packed_names ss)) 0 parts.0 in
      ap singles (cond-true (eqb s.name.packed n.packed) (record { name = s.name; twice = true; place = s.place } ∷ ss) (s ∷ noted n p ss) t)
      ∙ sym (ap (filter (differs n)) (cons_singles s (single s) (filter single ss)) ∙ drops (single s) s.name (singles ss) (ap not t) ∙ absent n ss none))
      (λ (f : s.name.packed ≡ n.packed → ⊥).
      let t = ne_eqb s.name.packed n.packed f in
      let c = cond-false (eqb s.name.packed n.packed) (cond s.twice 2 1) (times n ss) t in
      let ih = second_kept n p ss parts.1 (sym c ∙ h) in
      ap singles (cond-false (eqb s.name.packed n.packed) (record { name = s.name; twice = true; place = s.place } ∷ ss) (s ∷ noted n p ss) t)
      ∙ cons_singles s (single s) (filter single (noted n p ss))
      ∙ sym (ap (filter (differs n)) (cons_singles s (single s) (filter single ss)) ∙ passes (single s) s.name (singles ss) (singles (noted n p ss)) (ap not t) (sym ih)))
      (cases_eq s.name.packed n.packed)
    where
      drops : (v : Bool) (x : Name) (xs : List Name) → differs n x ≡ false → filter (differs n) (cond v (x ∷ xs) xs) ≡ filter (differs n) xs
      drops true x xs i = cond-false (differs n x) (x ∷ filter (differs n) xs) (filter (differs n) xs) i
      drops false x xs i = refl

      passes : (v : Bool) (x : Name) (xs ys : List Name) → differs n x ≡ true → filter (differs n) xs ≡ ys → filter (differs n) (cond v (x ∷ xs) xs) ≡ cond v (x ∷ ys) ys
      passes true x xs ys i ih = cond-true (differs n x) (x ∷ filter (differs n) xs) (filter (differs n) xs) i ∙ ap (λ zs. x ∷ zs) ih
      passes false x xs ys i ih = ih

  -- how often a name stands after one standing more
  more_count : (x n : ℕ) (xs : List ℕ) → count x (xs ++ (n ∷ [])) ≡ count x xs + cond (eqb x n) 1 0
  unfolding count
  more_count x n xs = let c = count_append x xs (n ∷ []) in c

  packed_more : (ns : List Name) (n : Name) → packed_of (ns ++ (n ∷ [])) ≡ packed_of ns ++ (n.packed ∷ [])
  packed_more ns n = map-append (λ x. x.packed) ns (n ∷ [])

  alone_new : (ns : List Name) (n : Name) → count n.packed (packed_of ns) ≡ 0 → alone (ns ++ (n ∷ [])) ≡ alone ns ++ filter P (n ∷ [])
  alone_new ns n h =
      let q = λ (x : Name). eqb (count x.packed (packed_of (ns ++ (n ∷ [])))) 1 && P x in
      let now : (x : Name) → count x.packed (packed_of (ns ++ (n ∷ []))) ≡ count x.packed (packed_of ns) + cond (eqb x.packed n.packed) 1 0 = λ x. ap (count x.packed) (packed_more ns n) ∙ more_count x.packed n.packed (packed_of ns) in
      let last : eqb (count n.packed (packed_of (ns ++ (n ∷ [])))) 1 ≡ true = eq-eqb (count n.packed (packed_of (ns ++ (n ∷ [])))) 1 (let e = now n in let c = one_here n.packed in omega arith) in
      filter-append q ns (n ∷ [])
      ∙ ap₂ ◌++◌
      (kept_members q (λ x. eqb (count x.packed (packed_of ns)) 1 && P x) ns (λ x l.
      ap (λ c. eqb c 1 && P x)
      (let e = now x in
      let d : x.packed ≡ n.packed → ⊥ = λ s. let z : count x.packed (packed_of ns) ≡ 0 = ap (λ y. count y (packed_of ns)) s ∙ h in omega arith in
      let c = none_here x.packed n.packed d in
      let r : count x.packed (packed_of (ns ++ (n ∷ []))) ≡ count x.packed (packed_of ns) = omega arith in
      r)))
      (ap (λ v. cond (v && P n) (n ∷ []) []) last)

  alone_second : (ns : List Name) (n : Name) → count n.packed (packed_of ns) ≡ 1 → alone (ns ++ (n ∷ [])) ≡ filter (differs n) (alone ns)
  alone_second ns n h =
      let q = λ (x : Name). eqb (count x.packed (packed_of (ns ++ (n ∷ [])))) 1 && P x in
      let r = λ (x : Name). eqb (count x.packed (packed_of ns)) 1 && P x in
      let now : (x : Name) → count x.packed (packed_of (ns ++ (n ∷ []))) ≡ count x.packed (packed_of ns) + cond (eqb x.packed n.packed) 1 0 = λ x. ap (count x.packed) (packed_more ns n) ∙ more_count x.packed n.packed (packed_of ns) in
      let two : count n.packed (packed_of (ns ++ (n ∷ []))) ≡ 2 = let e = now n in let c = one_here n.packed in omega arith in
      let list_all : (x : Name) → q x ≡ (r x && differs n x) = λ x.
      ⊎_elim
      (λ (s : x.packed ≡ n.packed).
      ap (λ c. eqb c 1 && P x) (ap (λ y. count y (packed_of (ns ++ (n ∷ [])))) s ∙ two) ∙ sym (and_right (r x) (differs n x) (ap not (eq-eqb x.packed n.packed s))))
      (λ (d : x.packed ≡ n.packed → ⊥).
      let e = now x in
      let c = none_here x.packed n.packed d in
      let k : count x.packed (packed_of (ns ++ (n ∷ []))) ≡ count x.packed (packed_of ns) = omega arith in
      ap (λ c. eqb c 1 && P x) k ∙ sym (ends_true (r x) (differs n x) (ap not (ne_eqb x.packed n.packed d))))
      (cases_eq x.packed n.packed) in
      filter-append q ns (n ∷ [])
      ∙ ap₂ ◌++◌ (kept_members q (λ x. r x && differs n x) ns (λ x l. list_all x) ∙ sym (kept_kept (differs n) r ns)) (ap (λ c. cond (eqb c 1 && P n) (n ∷ []) []) two)
      ∙ append-nil (filter (differs n) (alone ns))
    where
      ends_true : (v w : Bool) → w ≡ true → (v && w) ≡ v
      ends_true true w e = e
      ends_true false w e = refl

  -- a table says of names what their list does
  pub record Says (ss : List Standing) (ns : List Name) : Type 0 where
    pub apart : distinct (packed_names ss) ≡ true
    pub often : (n : Name) → times n ss ≡ count n.packed (packed_of ns)
    pub singly : singles ss ≡ alone ns

  says_more : (ss : List Standing) (ns : List Name) (n : Name) (p : ℕ) → Says ss ns → times n ss < 2 → Says (noted n p ss) (ns ++ (n ∷ []))
  says_more ss ns n p s l =
      let o = s.often n in
      record {
        apart = noted_apart n p ss s.apart;
        often = λ x. noted_times x n p ss l ∙ ap (λ c. c + cond (eqb x.packed n.packed) 1 0) (s.often x) ∙ sym (ap (count x.packed) (packed_more ns n) ∙ more_count x.packed n.packed (packed_of ns));
        singly =
            ⊎_elim
            (λ (z : times n ss ≡ 0). new_kept n p ss z ∙ ap (λ xs. xs ++ filter P (n ∷ [])) s.singly ∙ sym (alone_new ns n (sym o ∙ z)))
            (λ (z : times n ss ≡ 0 → ⊥).
            let one : times n ss ≡ 1 = omega arith in
            second_kept n p ss s.apart one ∙ ap (filter (differs n)) s.singly ∙ sym (alone_second ns n (sym o ∙ one)))
            (cases_eq (times n ss) 0);
      }

  says_token : (t : Seen) (p : ℕ) (ts : List Seen) (ss : List Standing) (ns : List Name) → Says ss ns → ((x : ℕ) → count x (packed_of (ns ++ token_names (t ∷ ts))) ≤ 2)
      → (ms : List Name) × Says (next_names ss t p) ms × (ms ++ token_names ts ≡ ns ++ token_names (t ∷ ts))
  says_token (word w) p ts ss ns s few = (ns, s, refl)
  says_token (number w) p ts ss ns s few = (ns, s, refl)
  says_token (name n) p ts ss ns s few =
      let o = s.often n in
      let f = few n.packed in
      let a = ap (count n.packed) (map-append (λ x. x.packed) ns (n ∷ token_names ts)) ∙ count_append n.packed (packed_of ns) (n.packed ∷ packed_of (token_names ts)) in
      let c = head_counts n.packed (packed_of (token_names ts)) in
      (ns ++ (n ∷ []), says_more ss ns n p s (omega arith), append_assoc ns (n ∷ []) (token_names ts))
  says_token comma p ts ss ns s few = (ns, s, refl)
  says_token open_paren p ts ss ns s few = (ns, s, refl)
  says_token close_paren p ts ss ns s few = (ns, s, refl)
  says_token open_brace p ts ss ns s few = (ns, s, refl)
  says_token close_brace p ts ss ns s few = (ns, s, refl)
  says_token equal p ts ss ns s few = (ns, s, refl)
  says_token at_sign p ts ss ns s few = (ns, s, refl)
  says_token other p ts ss ns s few = (ns, s, refl)

  pub says_all : (ss : List Spot) (st : State) (ns : List Name) → Says st.names ns → ((x : ℕ) → count x (packed_of (ns ++ token_names (map (λ s. s.0) ss))) ≤ 2) → Says (state_after st ss).names (ns ++ token_names (map (λ s. s.0) ss))
  says_all [] st ns s few = subst (Says st.names) (sym (append-nil ns)) s
  says_all (t ∷ ss) st ns s few =
      let ts = map (λ x. x.0) ss in
      let one = says_token t.0 t.1 ts st.names ns s few in
      subst (Says (state_after (next_state st t.0 t.1) ss).names) one.2
      (says_all ss (next_state st t.0 t.1) one.0 one.1 (λ x. let f = few x in let e : count x (packed_of (one.0 ++ token_names ts)) ≡ count x (packed_of (ns ++ token_names (t.0 ∷ ts))) = ap (λ ms. count x (packed_of ms)) one.2 in omega arith))

  pub says_none : Says [] []
  unfolding times count distinct
  says_none = record { apart = refl; often = λ n. refl; singly = refl }
