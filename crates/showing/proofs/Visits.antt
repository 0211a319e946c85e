-- A walk through a plan meets each atom once.
use Rattle.std.proofs.lemmas.Bool.{or_right}
use Rattle.std.proofs.Common.{◌≡◌, ℕ, zero, suc, ◌+◌, ◌<◌, ◌≤◌, true, cond, ◌&&◌, ◌||◌, eqb, ltb, leb, List, [], ◌∷◌, ◌++◌, map, length, get_or, Some, None, Option, sym, refl, ap, ◌∙◌, ap₂, ⊎_elim, arith}
use Rattle.std.specs.List.{AllByRecursion as All}
use Rattle.std.proofs.lemmas.Bool.Decides.{nat_tests}
use Rattle.std.proofs.lemmas.Bool.{cond-true, cases_Bool, cases_lt, eqb-true, false≢true, or_cases, le-leb, lt-ltb, and_from}
use Rattle.plan.specs.declared.tables.Cell.{Cell}
use Rattle.plan.specs.Model.{Model, Node}
use Rattle.plan.specs.Sound.{count, rows, leads, onward, no_cell}
use Rattle.plan.proofs.Leads.{past_cells}
use Rattle.std.specs.List.{flat_map}
use Rattle.showing.specs.Walk.{Step, atom, enter, leave, has_parent, atoms_in, cells_in, walk}
use Rattle.showing.proofs.Totals.{total, total_append, total_plus, total_alike, total_none, total_flat, total_map, total_swap, count_total, count_kept, count_rows, total_all, total_once, length_total, length_rows, all_flat, all_kept, all_weaker, all_rows}

module _ (cells : List Cell) where
  abbrev pub parent : ℕ → Option ℕ
  parent i = (get_or cells i no_cell).parent

  -- a number of the parent, if there is one
  abbrev up : (ℕ → ℕ) → Option ℕ → ℕ
  up f None = 0
  up f (Some q) = f q

  -- how often a cell is passed on the way up from another, in so many steps
  unfoldable passed : ℕ → ℕ → ℕ → ℕ
  passed zero i c = 0
  passed (suc n) i c = cond (eqb i c) 1 0 + up (λ q. passed n q c) (parent i)

  -- the cells that a walk visits, so many levels down
  unfoldable pub visits : ℕ → ℕ → List ℕ
  visits zero c = []
  visits (suc n) c = c ∷ flat_map (visits n) (cells_in c cells)

  -- a cell is once among those of its parent
  child_once : (i c : ℕ) → count i (cells_in c cells) ≡ cond (has_parent c (parent i)) 1 0
  child_once i c =
      let e = count_kept i (λ r. has_parent c (parent r)) (rows 0 (length cells)) in
      let r = count_rows i 0 (length cells) in
      ⊎_elim
      (λ (l : i < length cells). e ∙ ap (λ n. cond (has_parent c (parent i)) n 0) (r ∙ cond-true (leb 0 i && ltb i (0 + length cells)) 1 0 (and_from (leb 0 i) (ltb i (0 + length cells)) (le-leb 0 i (omega arith)) (lt-ltb i (0 + length cells) (omega arith)))))
      (λ (l : length cells ≤ i). let p = past_cells cells i l in e ∙ rw p)
      (cases_lt i (length cells))

  nowhere : (o : Option ℕ) → 0 ≡ up (λ q. 0) o
  nowhere None = refl
  nowhere (Some q) = refl

  by_parent : (n c : ℕ) (o : Option ℕ) → ((q : ℕ) → total (passed n q) (cells_in c cells) ≡ up (λ p. passed n p c) (parent q)) → cond (has_parent c o) 1 0 + total (λ r. up (λ q. passed n q r) o) (cells_in c cells) ≡ up (λ q. cond (eqb q c) 1 0 + up (λ p. passed n p c) (parent q)) o
  by_parent n c None h = let z = total_none (cells_in c cells) in omega arith
  by_parent n c (Some q) h = ap (λ m. cond (eqb q c) 1 0 + m) (h q)

  -- from the cells in a cell, or from its parent
  passed_children : (n i c : ℕ) → total (passed n i) (cells_in c cells) ≡ up (λ q. passed n q c) (parent i)
  unfolding passed
  passed_children zero i c = total_none (cells_in c cells) ∙ nowhere (parent i)
  passed_children (suc n) i c =
      total_plus (λ r. cond (eqb i r) 1 0) (λ r. up (λ q. passed n q r) (parent i)) (cells_in c cells)
      ∙ ap₂ (λ a b. a + b) (sym (count_total i (cells_in c cells)) ∙ child_once i c) refl
      ∙ by_parent n c (parent i) (λ q. passed_children n q c)

  visited : (n i c : ℕ) → count i (visits n c) ≡ passed n i c
  unfolding visits passed count
  visited zero i c = refl
  visited (suc n) i c =
      let cs = cells_in c cells in
      let a : count i (flat_map (visits n) cs) ≡ up (λ q. passed n q c) (parent i) =
      count_total i (flat_map (visits n) cs) ∙ total_flat (λ x. cond (eqb i x) 1 0) (visits n) cs
      ∙ total_alike (λ r. total (λ x. cond (eqb i x) 1 0) (visits n r)) (passed n i) cs (λ r. sym (count_total i (visits n r)) ∙ visited n i r)
      ∙ passed_children n i c in
      grind (arith, nat_tests)

  root_by : (n : ℕ) (o : Option ℕ) → onward (λ p. leads n cells p) o ≡ true → ((q : ℕ) → leads n cells q ≡ true → passed (suc n) q 0 ≡ 1) → up (λ q. passed (suc n) q 0) o ≡ 1
  root_by n None h f = absurd (false≢true h)
  root_by n (Some q) h f = f q h

  -- the root is passed once from each cell that leads to it
  root_once : (n i : ℕ) → parent 0 ≡ None → leads n cells i ≡ true → passed (suc n) i 0 ≡ 1
  unfolding leads passed
  root_once zero i top h = let e = eqb-true i 0 h in rw (e, top)
  root_once (suc n) i top h =
      ⊎_elim
      (λ t. let e = eqb-true i 0 t in rw (e, top))
      (λ f. let o : onward (λ p. leads n cells p) (parent i) ≡ true = ap (λ v. v || onward (λ p. leads n cells p) (parent i)) (sym f) ∙ h in rw f (let g = root_by n (parent i) o (λ q. root_once n q top) in omega arith))
      (cases_Bool (eqb i 0))

  leads_more : (n i : ℕ) → leads n cells i ≡ true → leads (suc n) cells i ≡ true
  unfolding leads
  leads_more zero i h = ap (λ v. v || onward (λ p. eqb p 0) (parent i)) h
  leads_more (suc n) i h =
      ⊎_elim
      (λ t. ap (λ v. v || onward (λ p. leads (suc n) cells p) (parent i)) t)
      (λ o. or_right (eqb i 0) _ (by (parent i) (λ q. leads_more n q) o))
      (or_cases (eqb i 0) (onward (λ p. leads n cells p) (parent i)) h)
    where
      by : (o : Option ℕ) → ((q : ℕ) → leads n cells q ≡ true → leads (suc n) cells q ≡ true) → onward (λ p. leads n cells p) o ≡ true → onward (λ p. leads (suc n) cells p) o ≡ true
      by None f h = h
      by (Some q) f h = f q h

  pub visits_within : (n c : ℕ) → c < length cells → All (λ r. r < length cells) (visits n c)
  unfolding visits
  visits_within zero c h = tt
  visits_within (suc n) c h =
      let inner = all_kept (λ r. r < 0 + length cells) (λ r. has_parent c (parent r)) (rows 0 (length cells)) (all_rows 0 (length cells)) in
      (h, all_flat (λ r. r < length cells) (λ r. (r < 0 + length cells) × (has_parent c (parent r) ≡ true)) (visits n) (cells_in c cells) (λ r k. let l = k.0 in visits_within n r (omega arith)) inner)

  module _ (top : parent 0 ≡ None) (some : 0 < length cells) (lead_of : (i : ℕ) → i < length cells → leads 16 cells i ≡ true) where
    pub visited_once : (i : ℕ) → i < length cells → count i (visits 17 0) ≡ 1
    visited_once i h = visited 17 i 0 ∙ root_once 16 i top (lead_of i h)

    visited_once_more : (i : ℕ) → i < length cells → count i (visits 18 0) ≡ 1
    visited_once_more i h = visited 18 i 0 ∙ root_once 17 i top (leads_more 16 i (lead_of i h))

    -- as many visits as cells
    pub visits_length : length (visits 18 0) ≡ length cells
    visits_length =
        let vs = visits 18 0 in
        let rs = rows 0 (length cells) in
        length_total vs
        ∙ total_all (λ r. 1) (λ r. total (λ i. cond (eqb r i) 1 0) rs) vs (all_weaker (λ r. r < length cells) (λ r. 1 ≡ total (λ i. cond (eqb r i) 1 0) rs) vs (λ r h. sym (sym (count_total r rs) ∙ count_rows r 0 (length cells) ∙ (grind (arith, nat_tests)))) (visits_within 18 0 some))
        ∙ total_swap (λ r i. cond (eqb r i) 1 0) vs rs
        ∙ total_all (λ i. total (λ r. cond (eqb r i) 1 0) vs) (λ i. 1) rs (all_weaker (λ r. r < 0 + length cells) (λ i. total (λ r. cond (eqb r i) 1 0) vs ≡ 1) rs (λ i h. total_alike (λ r. cond (eqb r i) 1 0) (λ r. cond (eqb i r) 1 0) vs (λ r. grind (arith, nat_tests)) ∙ total_once i 1 vs (visited_once_more i (omega arith))) (all_rows 0 (length cells)))
        ∙ sym (length_total rs) ∙ length_rows 0 (length cells)

-- the weight of a step: an atom has its own, a cell that is entered and one that is left have a fixed one
abbrev pub weigh : {L : Type 0} → (Node L → ℕ) → ℕ → ℕ → Step L → ℕ
weigh w u v (atom a) = w a
weigh w u v (enter s) = u
weigh w u v leave = v

module _ {L : Type 0} (m : Model L) (w : Node L → ℕ) (u v : ℕ) where
  abbrev pub atoms_weight : ℕ → ℕ
  atoms_weight r = total w (atoms_in r m.atoms)

  abbrev around : ℕ → ℕ → List (Step L)
  around n r = enter (get_or m.cells r no_cell).set ∷ (walk n m r ++ (leave ∷ []))

  pub weighed : (n c : ℕ) → total (weigh w u v) (walk n m c) + (u + v) ≡ total atoms_weight (visits m.cells n c) + total (λ r. u + v) (visits m.cells (suc n) c)
  unfolding walk visits total
  weighed zero c =
      let e = total_flat (λ r. u + v) (visits m.cells 0) (cells_in c m.cells) ∙ total_none (cells_in c m.cells) in omega arith
  weighed (suc n) c =
      let cs = cells_in c m.cells in
      let g = weigh w u v in
      let a = total_append g (map atom (atoms_in c m.atoms)) (flat_map (around n) cs) in
      let b = total_map g atom (atoms_in c m.atoms) in
      let d = total_flat g (around n) cs in
      let e = total_alike (λ r. total g (around n r)) (λ r. total atoms_weight (visits m.cells n r) + total (λ r. u + v) (visits m.cells (suc n) r)) cs (λ r. let x = total_append g (walk n m r) (leave ∷ []) in let ih = weighed n r in omega arith) in
      let f = total_plus (λ r. total atoms_weight (visits m.cells n r)) (λ r. total (λ r. u + v) (visits m.cells (suc n) r)) cs in
      let i = total_flat atoms_weight (visits m.cells n) cs in
      let j = total_flat (λ r. u + v) (visits m.cells (suc n)) cs in
      omega arith
