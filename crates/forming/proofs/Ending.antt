-- Lists of lists, one row after another.
use Rattle.std.proofs.lemmas.Option.{slice_get-map}
use Rattle.std.proofs.Common.{◌≡◌, ℕ, zero, suc, ◌<◌, List, [], ◌∷◌, ◌++◌, map, Some, sym, refl, ◌∙◌, subst, ap₂, arith}
use Rattle.std.specs.Option.{option_map}
use Rattle.std.specs.List.{slice_get}
use Rattle.std.proofs.lemmas.Simd.{map-map}
use Rattle.std.proofs.lemmas.List.{map-append}
use Rattle.std.proofs.lemmas.Bool.Decides.{nat_tests}
use Rattle.text.specs.declared.packed.Name.{Name}
use Rattle.plan.specs.Model.{Node}
use Rattle.plan.specs.Sound.{count, port_links}
use Rattle.placing.specs.Placing.{become, relinked}
use Rattle.placing.proofs.KeepEach.{count_append}
use Rattle.forming.specs.Places.{AtomText, node}
use Rattle.forming.specs.Joins.{Point, at_row, named, old}
use Rattle.forming.proofs.Names.{packed_of}
use Rattle.forming.proofs.Quotient.{base}

pub at_row_map : {A B : Type 0} (f : A → B) (xss : List (List A)) (i j : ℕ) → at_row j (slice_get (map (map f) xss) i) ≡ option_map f (at_row j (slice_get xss i))
at_row_map f [] i j = refl
at_row_map f (xs ∷ xss) zero j = slice_get-map f xs j
at_row_map f (xs ∷ xss) (suc i) j = at_row_map f xss i j

-- what holds of each
abbrev All : {A : Type 0} → (A → Type 0) → List A → Type 0
All P [] = Unit {0}
All P (x ∷ xs) = P x × All P xs

abbrev pub AllRows : {A : Type 0} → (A → Type 0) → List (List A) → Type 0
AllRows P [] = Unit {0}
AllRows P (xs ∷ xss) = All P xs × AllRows P xss

nth_holds : {A : Type 0} (P : A → Type 0) (xs : List A) (i : ℕ) (x : A) → All P xs → slice_get xs i ≡ Some x → P x
nth_holds P [] i x h e = absurd (let z : ◌≡◌ {A = ℕ} 0 1 = cc in omega arith)
nth_holds P (y ∷ xs) zero x h e = let same : y ≡ x = cc in subst P same h.0
nth_holds P (y ∷ xs) (suc i) x h e = nth_holds P xs i x h.1 e

pub row_holds : {A : Type 0} (P : A → Type 0) (xss : List (List A)) (i j : ℕ) (x : A) → AllRows P xss → at_row j (slice_get xss i) ≡ Some x → P x
row_holds P [] i j x h e = absurd (let z : ◌≡◌ {A = ℕ} 0 1 = cc in omega arith)
row_holds P (xs ∷ xss) zero j x h e = nth_holds P xs j x h.0 e
row_holds P (xs ∷ xss) (suc i) j x h e = row_holds P xss i j x h.1 e

pub rows_append : {A : Type 0} (P : A → Type 0) (xss yss : List (List A)) → AllRows P xss → AllRows P yss → AllRows P (xss ++ yss)
rows_append P [] yss h g = g
rows_append P (xs ∷ xss) yss h g = (h.0, rows_append P xss yss h.1 g)

-- The points of ports.

head_stands : (x : ℕ) (xs : List ℕ) → 0 < count x (x ∷ xs)
unfolding count
head_stands x xs = grind (arith, nat_tests)

tail_stands : (y x : ℕ) (xs : List ℕ) → 0 < count y xs → 0 < count y (x ∷ xs)
unfolding count
tail_stands y x xs h = grind (arith, nat_tests)

module _ (P : Point → Type 0) where
  old_each : (xs : List ℕ) → ((x : ℕ) → 0 < count x xs → P (old x)) → All P (map old xs)
  old_each [] h = tt
  old_each (x ∷ xs) h = (h x (head_stands x xs), old_each xs (λ y l. h y (tail_stands y x xs l)))

  pub old_rows : {L : Type 0} (atoms : List (Node L)) → ((x : ℕ) → 0 < count x (port_links atoms) → P (old x)) → AllRows P (map (λ a. map old a.links) atoms)
  unfolding port_links
  old_rows [] h = tt
  old_rows (a ∷ atoms) h = (
    old_each a.links (λ x l. let e = count_append x a.links (port_links atoms) in h x (omega arith)),
    old_rows atoms (λ x l. let e = count_append x a.links (port_links atoms) in h x (omega arith)),
  )

  named_each : (ns : List Name) → ((n : Name) → 0 < count n.packed (packed_of ns) → P (named n)) → All P (map named ns)
  named_each [] h = tt
  named_each (n ∷ ns) h = (h n (head_stands n.packed (packed_of ns)), named_each ns (λ o l. h o (tail_stands o.packed n.packed (packed_of ns) l)))

  abbrev pub all_names : {L : Type 0} → List (AtomText L) → List ℕ
  all_names [] = []
  all_names (a ∷ xs) = packed_of a.names ++ all_names xs

  pub named_rows : {L : Type 0} (xs : List (AtomText L)) → ((n : Name) → 0 < count n.packed (all_names xs) → P (named n)) → AllRows P (map (λ a. map named a.names) xs)
  named_rows [] h = tt
  named_rows (a ∷ xs) h = (
    named_each a.names (λ n l. let e = count_append n.packed (packed_of a.names) (all_names xs) in h n (omega arith)),
    named_rows xs (λ n l. let e = count_append n.packed (packed_of a.names) (all_names xs) in h n (omega arith)),
  )

-- the links of ports are those of their points

module _ (link : Name → ℕ) (b : List ℕ) where
  abbrev pub lies : Point → ℕ
  lies p = become b (base link p)

  old_lie : {L : Type 0} (atoms : List (Node L)) → map (λ a. a.links) (map (relinked b) atoms) ≡ map (map lies) (map (λ a. map old a.links) atoms)
  old_lie [] = refl
  old_lie (a ∷ atoms) = ap₂ (λ x xs. x ∷ xs) (sym (map-map lies old a.links)) (old_lie atoms)

  named_lie : {L : Type 0} (xs : List (AtomText L)) → map (λ a. a.links) (map (node (λ n. become b (link n))) xs) ≡ map (map lies) (map (λ a. map named a.names) xs)
  named_lie [] = refl
  named_lie (a ∷ xs) = ap₂ (λ y ys. y ∷ ys) (sym (map-map lies named a.names)) (named_lie xs)

  pub all_lie : {L : Type 0} (atoms : List (Node L)) (xs : List (AtomText L)) → map (λ a. a.links) (map (relinked b) atoms ++ map (node (λ n. become b (link n))) xs) ≡ map (map lies) (map (λ a. map old a.links) atoms ++ map (λ a. map named a.names) xs)
  all_lie atoms xs =
      map-append (λ a. a.links) (map (relinked b) atoms) (map (node (λ n. become b (link n))) xs)
      ∙ ap₂ ◌++◌ (old_lie atoms) (named_lie xs)
      ∙ sym (map-append (map lies) (map (λ a. map old a.links) atoms) (map (λ a. map named a.names) xs))
