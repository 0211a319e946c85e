-- How often names stood, and how often they still stand.
use Rattle.std.proofs.Common.{◌≡◌, ℕ, suc, ◌+◌, ◌≤◌, true, false, cond, not, eqb, leb, List, [], ◌∷◌, None, sym, refl, ◌∙◌, ⊎_elim, arith}
use Rattle.std.proofs.lemmas.Bool.Decides.{nat_tests}
use Rattle.std.proofs.lemmas.Bool.{cond-false, and_parts, cases_Bool}
use Rattle.text.specs.declared.packed.Name.{Name}
use Rattle.grammar.specs.declared.stand.Standing.{Standing}
use Rattle.grammar.specs.State.{times, noted}
use Rattle.text.specs.Packed.{underscored}
use Rattle.grammar.specs.Reading.{lone, first_lone}
use Rattle.plan.specs.Sound.{count}

-- how many rows a name has
unfoldable pub rows_of : ℕ → List Standing → ℕ
rows_of m [] = 0
rows_of m (s ∷ ss) = cond (eqb s.name.packed m) (suc (rows_of m ss)) (rows_of m ss)

-- one standing more of a name that did not stand twice
times_noted : (n m : Name) (p : ℕ) (ss : List Standing) → times n ss ≤ 1 → times m (noted n p ss) ≡ times m ss + cond (eqb m.packed n.packed) 1 0
unfolding times noted
times_noted n m p [] h = grind (arith, nat_tests)
times_noted n m p (s ∷ ss) h = let ih = times_noted n m p ss in grind (arith, nat_tests)

rows_noted : (n : Name) (m p : ℕ) (ss : List Standing) → rows_of m (noted n p ss) ≡ rows_of m ss + cond (eqb m n.packed) (cond (eqb (rows_of m ss) 0) 1 0) 0
unfolding rows_of noted
rows_noted n m p [] = grind (arith, nat_tests)
rows_noted n m p (s ∷ ss) = let ih = rows_noted n m p ss in grind (arith, nat_tests)

-- what is known of the names that stood, with those that still stand: a row for each, none stands a third time, and none that begins with _ just once
pub record Stands (ns : List Standing) (later : List ℕ) : Type 0 where
  pub single : (m : ℕ) → rows_of m ns ≤ 1
  pub twice : (n : Name) → times n ns + count n.packed later ≤ 2
  pub not_alone : (n : Name) → underscored n ≡ true → times n ns + count n.packed later ≡ 1 → ⊥

pub none_yet : (later : List ℕ) → ((n : Name) → count n.packed later ≤ 2) → ((n : Name) → underscored n ≡ true → count n.packed later ≡ 1 → ⊥) → Stands [] later
unfolding times rows_of
none_yet later t a = record { single = λ m. omega arith; twice = λ n. omega (arith, t n); not_alone = λ n u e. a n u (omega arith) }

-- a name that is to stand stood once at most
pub stood_once : (n : Name) (ns : List Standing) (later : List ℕ) → Stands ns (n.packed ∷ later) → times n ns ≤ 1
unfolding count
stood_once n ns later h = let t = h.twice n in grind (arith, nat_tests)

pub not_third : (n : Name) (ns : List Standing) (later : List ℕ) → Stands ns (n.packed ∷ later) → leb 2 (times n ns) ≡ false
not_third n ns later h = let t = stood_once n ns later h in grind (arith, nat_tests)

shifted : (n m : Name) (p : ℕ) (ns : List Standing) (later : List ℕ) → times n ns ≤ 1 → times m (noted n p ns) + count m.packed later ≡ times m ns + count m.packed (n.packed ∷ later)
unfolding count
shifted n m p ns later h = let e = times_noted n m p ns h in grind (arith, nat_tests)

pub stands_on : (n : Name) (p : ℕ) (ns : List Standing) (later : List ℕ) → Stands ns (n.packed ∷ later) → Stands (noted n p ns) later
stands_on n p ns later h =
    let once = stood_once n ns later h in
    record {
      single = λ m. (let r = rows_noted n m p ns in let s = h.single m in grind (arith, nat_tests));
      twice = λ m. (let e = shifted n m p ns later once in let t = h.twice m in omega arith);
      not_alone = λ m u o. h.not_alone m u (sym (shifted n m p ns later once) ∙ o);
    }

-- a name that has no row did not stand
rows_none : (n : Name) (ss : List Standing) → rows_of n.packed ss ≡ 0 → times n ss ≡ 0
unfolding rows_of times
rows_none n [] h = refl
rows_none n (s ∷ ss) h = let ih = rows_none n ss in grind (arith, nat_tests)

lone_times : (s : Standing) (ss : List Standing) → lone s ≡ true → times s.name (s ∷ ss) ≡ 1
unfolding times
lone_times s ss h = grind (arith, nat_tests)

later_times : (n : Name) (s : Standing) (ss : List Standing) → rows_of n.packed (s ∷ ss) ≤ 1 → (times n (s ∷ ss) ≡ 1 → ⊥) → times n ss ≡ 1 → ⊥
unfolding times rows_of
later_times n s ss r h e = let z = rows_none n ss in grind (arith, nat_tests)

fewer_rows : (m : ℕ) (s : Standing) (ss : List Standing) → rows_of m ss ≤ rows_of m (s ∷ ss)
unfolding rows_of
fewer_rows m s ss = grind (arith, nat_tests)

none_lone : (ns : List Standing) → ((m : ℕ) → rows_of m ns ≤ 1) → ((n : Name) → underscored n ≡ true → times n ns ≡ 1 → ⊥) → first_lone ns ≡ None
unfolding first_lone
none_lone [] r h = refl
none_lone (s ∷ ss) r h =
    ⊎_elim
    (λ t. absurd (h s.name (and_parts (underscored s.name) (not s.twice) t).0 (lone_times s ss t)))
    (λ f. cond-false (lone s) _ _ f ∙ none_lone ss (λ m. let a = fewer_rows m s ss in let b = r m in omega arith) (λ n u. later_times n s ss (r n.packed) (h n u)))
    (cases_Bool (lone s))

pub not_lone : (ns : List Standing) → Stands ns [] → first_lone ns ≡ None
unfolding count
not_lone ns h = none_lone ns h.single (λ n u e. h.not_alone n u (omega arith))
