-- Tables that are lent and come back.
use Rattle.std.proofs.Common.{◌≡◌, true, false, eqb, List, length, is_ok, Ok, Err, Result, Vec, sym, refl, ap, ◌∙◌, subst, arith, ne_eqb, MatchResult}
use Rattle.std.proofs.lemmas.List.{with_items_is}
use Rattle.std.proofs.lemmas.Bool.{cond-false, true≢false}
use Rattle.std.specs.Vec.{with_items}
use Rattle.fault.specs.declared.Fault.{Fault}
use Rattle.label.specs.Kind.{Kind}
use Rattle.plan.specs.declared.tables.Plan.{Plan}
use Rattle.plan.specs.Sound.{Sound}
use Rattle.plan.proofs.Deciding.{decided}
use Rattle.plan.specs.declared.tables.Atom.{Atom}
use Rattle.plan.specs.declared.tables.Cell.{Cell}
use Rattle.plan.specs.declared.tables.FreeLink.{FreeLink}
use Rattle.plan.specs.declared.tables.Census.{Census}
use Rattle.plan.specs.Model.{Model, SameTables, Tables, model_of, strike_answer, tables_of}
use Rattle.desk.specs.declared.desk.Desk.{Desk}
use Rattle.desk.specs.declared.desk.Rows.{Rows}
use Rattle.desk.specs.Held.{Ready, after_call, held, on_desk, tabled}

-- tables by their parts
pub same_tables : {L : Type 0} (a a' : List (Atom L)) (c c' : List Cell) (f f' : List FreeLink) (r r' : List (Census L)) (n n' : Rows) →
    a ≡ a' → c ≡ c' → f ≡ f' → r ≡ r' → n ≡ n' → tabled a c f r n ≡ tabled a' c' f' r' n'
same_tables a a' c c' f f' r r' n n' ea ec ef er en = rw (ea, ec, ef, er, en) refl

-- a Vec that was lent as a slice and has come back
came_back : {X Z : Type 0} (v : Vec X Z) (lent ws : List X) → lent ≡ v.items → length ws ≡ length lent → (with_items v ws).items ≡ ws
came_back v lent ws e l = with_items_is v ws (l ∙ ap length e ∙ sym v.ok.0)

-- a desk whose tables were lent as slices
module _ {L : Type 0} (d : Desk L) (a : List (Atom L)) (c : List Cell) (f : List FreeLink) (r : List (Census L))
    (ea : a ≡ d.atoms.items) (ec : c ≡ d.cells.items) (ef : f ≡ d.free.items) (er : r ≡ d.register.items) where
  pub lent : on_desk d ≡ tabled a c f r d.counts
  lent = sym (same_tables a _ c _ f _ r _ d.counts _ ea ec ef er refl)

  -- and have come back
  pub back : (a' : List (Atom L)) (c' : List Cell) (f' : List FreeLink) (r' : List (Census L)) (n : Rows) →
      length a' ≡ length a → length c' ≡ length c → length f' ≡ length f → length r' ≡ length r →
      on_desk (record { atoms = with_items d.atoms a'; cells = with_items d.cells c'; free = with_items d.free f'; register = with_items d.register r'; counts = n }) ≡ tabled a' c' f' r' n
  back a' c' f' r' n la lc lf lr =
      same_tables _ a' _ c' _ f' _ r' n n (came_back d.atoms a a' ea la) (came_back d.cells c c' ec lc) (came_back d.free f f' ef lf) (came_back d.register r r' er lr) refl

same_rows : {L : Type 0} (p q : Plan L) → SameTables p q → (held (tables_of q)).rows ≡ (held (tables_of p)).rows
same_rows p q s = rw (s.atom_rows, s.cell_rows, s.free_rows, s.label_rows) refl

held_after : {L : Type 0} (p q : Plan L) (r : Result (Unit {0}) Fault) (m : Model L) → MatchResult r (λ _. model_of q ≡ m) (λ _. tables_of q ≡ tables_of p) → SameTables p q →
    held (tables_of q) ≡ after_call r m (held (tables_of p))
held_after p q (Ok x) m e s = ap (λ rows. record { rows = rows; model = model_of q }) (same_rows p q s) ∙ ap (λ n. record { rows = (held (tables_of p)).rows; model = n }) e
held_after p q (Err f) m e s = ap held e

ready_after : {L : Type 0} (k : Kind L) (p q : Plan L) (r : Result (Unit {0}) Fault) (m : Model L) → MatchResult r (λ _. model_of q ≡ m) (λ _. tables_of q ≡ tables_of p) →
    (is_ok r ≡ true → Sound k q) → (is_ok r ≡ false → Ready k (tables_of p)) → Ready k (tables_of q)
ready_after k p q (Ok x) m e s w = λ _. (decided k q).1 (s refl)
ready_after {L} k p q (Err f) m e s w = let P : Tables L → Type 0 = λ t. Ready k t in subst P (sym e) (w refl)

-- a refused strike: there is no row for the root
unstruck : {L : Type 0} (k : Kind L) (p : Plan L) (r : Result (Unit {0}) Fault) → r ≡ strike_answer p → is_ok r ≡ false → Ready k (tables_of p)
unstruck k p r e f some =
    let z : eqb (length p.cells.now) 0 ≡ false = ne_eqb (length p.cells.now) 0 (omega arith) in
    let g : is_ok r ≡ true = ap is_ok (e ∙ cond-false (eqb (length p.cells.now) 0) _ _ z) in
    let no : true ≡ false = sym g ∙ f in
    absurd (true≢false no)

-- what the contract of a call tells of the plan before and after it, its answer, and the plan that it makes
pub record Told {L : Type 0} (k : Kind L) (p q : Plan L) (r : Result (Unit {0}) Fault) (m : Model L) : Type 0 where
  pub after : MatchResult r (λ _. model_of q ≡ m) (λ _. tables_of q ≡ tables_of p)
  pub same : SameTables p q
  pub sound : is_ok r ≡ true → Sound k q

-- the same of the tables, which have come back
module _ {L : Type 0} {k : Kind L} {p q : Plan L} {r : Result (Unit {0}) Fault} {m : Model L} (told : Told k p q r m) (t : Tables L) (e : t ≡ tables_of q) where
  pub call_held : (s : Result (Unit {0}) Fault) → r ≡ s → held t ≡ after_call s m (held (tables_of p))
  call_held s w = ap held e ∙ held_after p q r m told.after told.same ∙ ap (λ x. after_call x m (held (tables_of p))) w

  pub call_ready : (is_ok r ≡ false → Ready k (tables_of p)) → Ready k t
  call_ready w = let P : Tables L → Type 0 = λ x. Ready k x in subst P (sym e) (ready_after k p q r m told.after told.sound w)

  pub strike_ready : r ≡ strike_answer p → Ready k t
  strike_ready w = call_ready (unstruck k p r w)

-- a call that leaves a plan as it was leaves its tables
pub unmoved : {L : Type 0} (p q : Plan L) → q ≡ p → SameTables p q
unmoved {L} p q e =
    let Is : Plan L → Type 0 = λ x. SameTables p x in
    subst Is (sym e) (record { atoms = refl; atom_rows = refl; cells = refl; cell_rows = refl; free = refl; free_rows = refl; register = refl; label_rows = refl })

-- tables in place of equal ones
pub ready_in : {L : Type 0} (k : Kind L) (t t' : Tables L) → t ≡ t' → Ready k t' → Ready k t
ready_in {L} k t t' e h = let P : Tables L → Type 0 = λ x. Ready k x in subst P (sym e) h
