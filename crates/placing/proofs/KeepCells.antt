-- The cells and the atoms of a plan while a text is placed on it.
use Rattle.std.proofs.Common.{◌≡◌, ℕ, zero, suc, ◌+◌, ◌-◌, ◌<◌, ◌≤◌, Bool, true, false, ◌&&◌, eqb, ltb, List, [], ◌∷◌, ◌++◌, length, get_or, set, Some, None, Option, sym, refl, ap, ◌∙◌, ⊎_elim, arith, length-append, length-set, get_or-set_other, get_or-set_same}
use Rattle.std.proofs.lemmas.List.{get_or_append_left, get_or_past, get_or_push, set_past}
use Rattle.std.proofs.lemmas.Bool.{and_from, and_parts, both_ways, cases_eq, cases_lt, eqb-true, lt-ltb, ltb-true, or_cases, or_left, or_right}
use Rattle.plan.specs.declared.tables.Cell.{Cell}
use Rattle.plan.specs.Sound.{all_lead, is_root, leads, no_cell, onward}
use Rattle.placing.specs.Placing.{or_root, parent_of, with_set}
use Rattle.placing.proofs.KeepEach.{each_row, row_each}

-- up from a cell, so many parents and no fewer
unfoldable pub climb : ℕ → List Cell → ℕ → Bool
climb zero cs i = eqb i 0
climb (suc d) cs i = ltb 0 i && onward (λ p. climb d cs p) (get_or cs i no_cell).parent

-- ** one step up

pub onward_same : (f g : ℕ → Bool) (o : Option ℕ) → ((p : ℕ) → f p ≡ true → g p ≡ true) → onward f o ≡ true → onward g o ≡ true
onward_same f g None w h = h
onward_same f g (Some p) w h = w p h

onward_root : (f : ℕ → Bool) (o : Option ℕ) → onward f o ≡ true → f (or_root o) ≡ true
onward_root f None h = absurd (both_ways false refl h)
onward_root f (Some p) h = h

-- what has a parent is a cell
has_parent : (f : ℕ → Bool) (cs : List Cell) (i : ℕ) → onward f (get_or cs i no_cell).parent ≡ true → i < length cs
has_parent f cs i h =
    ⊎_elim
    (λ (l : i < length cs). l)
    (λ (l : length cs ≤ i). absurd (both_ways false refl (sym (ap (λ c. onward f c.parent) (get_or_past cs i no_cell l)) ∙ h)))
    (cases_lt i (length cs))

onward_more : (f : ℕ → Bool) (cs ds : List Cell) (i : ℕ) → onward f (get_or cs i no_cell).parent ≡ true → onward f (get_or (cs ++ ds) i no_cell).parent ≡ true
onward_more f cs ds i h = ap (λ c. onward f c.parent) (get_or_append_left cs ds no_cell i (has_parent f cs i h)) ∙ h

-- ** more cells

pub climb_more : (d : ℕ) (cs ds : List Cell) (i : ℕ) → climb d cs i ≡ true → climb d (cs ++ ds) i ≡ true
unfolding climb
climb_more zero cs ds i h = h
climb_more (suc d) cs ds i h =
    let both = and_parts (ltb 0 i) (onward (λ p. climb d cs p) (get_or cs i no_cell).parent) h in
    and_from (ltb 0 i) _ both.0
    (onward_same (λ p. climb d cs p) (λ p. climb d (cs ++ ds) p) _ (λ p e. climb_more d cs ds p e) (onward_more (λ p. climb d cs p) cs ds i both.1))

pub leads_more : (n : ℕ) (cs ds : List Cell) (i : ℕ) → leads n cs i ≡ true → leads n (cs ++ ds) i ≡ true
unfolding leads
leads_more zero cs ds i h = h
leads_more (suc n) cs ds i h =
    ⊎_elim
    (λ e. or_left (eqb i 0) _ e)
    (λ e.
    or_right (eqb i 0) _
    (onward_same (λ p. leads n cs p) (λ p. leads n (cs ++ ds) p) _ (λ p e. leads_more n cs ds p e) (onward_more (λ p. leads n cs p) cs ds i e)))
    (or_cases (eqb i 0) (onward (λ p. leads n cs p) (get_or cs i no_cell).parent) h)

-- a way up of few parents leads to the root
pub climb_leads : (d n : ℕ) (cs : List Cell) (i : ℕ) → d ≤ n → climb d cs i ≡ true → leads n cs i ≡ true
unfolding climb leads
climb_leads zero zero cs i l h = h
climb_leads zero (suc n) cs i l h = or_left (eqb i 0) _ h
climb_leads (suc d) zero cs i l h = absurd (omega arith)
climb_leads (suc d) (suc n) cs i l h =
    let both = and_parts (ltb 0 i) (onward (λ p. climb d cs p) (get_or cs i no_cell).parent) h in
    or_right (eqb i 0) _
    (onward_same (λ p. climb d cs p) (λ p. leads n cs p) _ (λ p e. climb_leads d n cs p (omega arith) e) both.1)

-- ** the set of a cell

pub parent_kept : (cs : List Cell) (c j i : ℕ) → (get_or (with_set cs c j) i no_cell).parent ≡ (get_or cs i no_cell).parent
parent_kept cs c j i =
    ⊎_elim
    (λ (l : c < length cs).
    ⊎_elim
    (λ (e : i ≡ c). ap (λ r. (get_or (with_set cs c j) r no_cell).parent) e ∙ ap (λ r. r.parent) (get_or-set_same cs c (record { parent = (get_or cs c no_cell).parent; set = j }) no_cell l) ∙ ap (λ r. (get_or cs r no_cell).parent) (sym e))
    (λ (e : i ≡ c → ⊥). ap (λ r. r.parent) (get_or-set_other cs c i (record { parent = (get_or cs c no_cell).parent; set = j }) no_cell e))
    (cases_eq i c))
    (λ (l : length cs ≤ c). ap (λ s. (get_or s i no_cell).parent) (set_past cs c (record { parent = (get_or cs c no_cell).parent; set = j }) l))
    (cases_lt c (length cs))

pub climb_set : (d : ℕ) (cs : List Cell) (c j i : ℕ) → climb d cs i ≡ true → climb d (with_set cs c j) i ≡ true
unfolding climb
climb_set zero cs c j i h = h
climb_set (suc d) cs c j i h =
    let both = and_parts (ltb 0 i) (onward (λ p. climb d cs p) (get_or cs i no_cell).parent) h in
    and_from (ltb 0 i) _ both.0
    (onward_same (λ p. climb d cs p) (λ p. climb d (with_set cs c j) p) _ (λ p e. climb_set d cs c j p e)
    (ap (onward (λ p. climb d cs p)) (parent_kept cs c j i) ∙ both.1))

pub leads_set : (n : ℕ) (cs : List Cell) (c j i : ℕ) → leads n cs i ≡ true → leads n (with_set cs c j) i ≡ true
unfolding leads
leads_set zero cs c j i h = h
leads_set (suc n) cs c j i h =
    ⊎_elim
    (λ e. or_left (eqb i 0) _ e)
    (λ e.
    or_right (eqb i 0) _
    (onward_same (λ p. leads n cs p) (λ p. leads n (with_set cs c j) p) _ (λ p e. leads_set n cs c j p e)
    (ap (onward (λ p. leads n cs p)) (parent_kept cs c j i) ∙ e)))
    (or_cases (eqb i 0) (onward (λ p. leads n cs p) (get_or cs i no_cell).parent) h)

-- ** the root

pub root_more : (cs ds : List Cell) → is_root cs ≡ true → is_root (cs ++ ds) ≡ true
root_more [] ds h = absurd (both_ways false refl h)
root_more (c ∷ cs) ds h = h

pub root_set : (cs : List Cell) (i : ℕ) (c : Cell) → 0 < i → is_root cs ≡ true → is_root (set cs i c) ≡ true
root_set [] i c l h = absurd (both_ways false refl h)
root_set (x ∷ cs) zero c l h = absurd (omega arith)
root_set (x ∷ cs) (suc i) c l h = h

pub root_some : (cs : List Cell) → is_root cs ≡ true → 0 < length cs
root_some [] h = absurd (both_ways false refl h)
root_some (c ∷ cs) h = omega arith

-- ** where a text is placed

-- the cell at the end of a way up is one of the plan
pub climb_in : (d : ℕ) (cs : List Cell) (i : ℕ) → is_root cs ≡ true → climb d cs i ≡ true → i < length cs
unfolding climb
climb_in zero cs i r h = let s = root_some cs r in let z = eqb-true i 0 h in omega arith
climb_in (suc d) cs i r h =
    has_parent (λ p. climb d cs p) cs i (and_parts (ltb 0 i) (onward (λ p. climb d cs p) (get_or cs i no_cell).parent) h).1

pub climb_inner : (d : ℕ) (cs : List Cell) (i : ℕ) → 0 < d → climb d cs i ≡ true → 0 < i
unfolding climb
climb_inner zero cs i l h = absurd (omega arith)
climb_inner (suc d) cs i l h = ltb-true 0 i (and_parts (ltb 0 i) (onward (λ p. climb d cs p) (get_or cs i no_cell).parent) h).0

pub climb_leave : (d : ℕ) (cs : List Cell) (i : ℕ) → 0 < d → climb d cs i ≡ true → climb (d - 1) cs (parent_of cs i) ≡ true
unfolding climb
climb_leave zero cs i l h = absurd (omega arith)
climb_leave (suc d) cs i l h =
    let e : suc d - 1 ≡ d = omega arith in
    ap (λ n. climb n cs (parent_of cs i)) e
    ∙ onward_root (λ p. climb d cs p) (get_or cs i no_cell).parent (and_parts (ltb 0 i) (onward (λ p. climb d cs p) (get_or cs i no_cell).parent) h).1

pub climb_enter : (d : ℕ) (cs : List Cell) (i : ℕ) → is_root cs ≡ true → climb d cs i ≡ true → climb (d + 1) (cs ++ (record { parent = Some i; set = 0 } ∷ [])) (length cs) ≡ true
unfolding climb
climb_enter d cs i r h =
    let ds : List Cell = record { parent = Some i; set = 0 } ∷ [] in
    let e : d + 1 ≡ suc d = omega arith in
    ap (λ n. climb n (cs ++ ds) (length cs)) e
    ∙ and_from (ltb 0 (length cs)) _ (lt-ltb 0 (length cs) (root_some cs r))
    (ap (λ c. onward (λ p. climb d (cs ++ ds) p) c.parent) (get_or_push cs (record { parent = Some i; set = 0 }) no_cell (length cs) refl) ∙ climb_more d cs ds i h)

-- every cell leads to the root
pub led : (cs : List Cell) (i : ℕ) → all_lead cs ≡ true → i < length cs → leads 16 cs i ≡ true
led cs i h l = each_row (leads 16 cs) 0 (length cs) i h (omega arith) (omega arith)

pub all_enter : (d : ℕ) (cs : List Cell) (i : ℕ) → d < 16 → is_root cs ≡ true → climb d cs i ≡ true → all_lead cs ≡ true → all_lead (cs ++ (record { parent = Some i; set = 0 } ∷ [])) ≡ true
all_enter d cs i l r h a =
    let ds : List Cell = record { parent = Some i; set = 0 } ∷ [] in
    let n : length (cs ++ ds) ≡ length cs + 1 = length-append cs ds in
    row_each (leads 16 (cs ++ ds)) 0 (length (cs ++ ds)) (λ j w.
    ⊎_elim
    (λ (u : j < length cs). leads_more 16 cs ds j (led cs j a u))
    (λ (u : length cs ≤ j).
    let e : j ≡ length cs = omega arith in
    ap (leads 16 (cs ++ ds)) e ∙ climb_leads (d + 1) 16 (cs ++ ds) (length cs) (omega arith) (climb_enter d cs i r h))
    (cases_lt j (length cs)))

pub all_set : (cs : List Cell) (c j : ℕ) → all_lead cs ≡ true → all_lead (with_set cs c j) ≡ true
all_set cs c j a =
    let n = length-set cs c (record { parent = (get_or cs c no_cell).parent; set = j }) in
    row_each (leads 16 (with_set cs c j)) 0 (length (with_set cs c j)) (λ i w. leads_set 16 cs c j i (led cs i a (omega arith)))
