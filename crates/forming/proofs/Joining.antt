-- Two ends lie on one link after a text exactly where their points are joined.
use Rattle.std.proofs.Common.{◌≡◌, ℕ, zero, suc, ◌<◌, ◌≤◌, Bool, true, false, cond, eqb, ltb, List, [], ◌∷◌, map, length, get_or, is_some, Some, None, Option, sym, refl, ap, ◌∙◌, subst, ap₂, arith}
use Rattle.std.specs.Option.{option_map}
use Rattle.std.specs.List.{slice_get}
use Rattle.std.proofs.lemmas.Bool.{and_parts, eqb-true, ltb-true}
use Rattle.std.proofs.lemmas.Bool.Decides.{nat_tests}
use Rattle.label.specs.Kind.{Kind, Lawful}
use Rattle.text.specs.declared.packed.Name.{Name}
use Rattle.grammar.specs.Names.{position}
use Rattle.grammar.specs.State.{times}
use Rattle.grammar.specs.Reading.{hang_events}
use Rattle.grammar.specs.Laws.{fault_of, text_tokens}
use Rattle.grammar.specs.Sheets.{text_names}
use Rattle.grammar.specs.Form.{Items, item_tokens}
use Rattle.plan.specs.declared.tables.Cell.{Cell}
use Rattle.plan.specs.declared.tables.FreeLink.{FreeLink}
use Rattle.plan.specs.Model.{Model}
use Rattle.std.specs.List.{list_all}
use Rattle.plan.specs.Sound.{count, ends, is_root, port_links, rows}
use Rattle.placing.specs.Answer.{hung_text}
use Rattle.placing.specs.Keeps.{OfText, SoundModel}
use Rattle.placing.specs.Links.{free_after, open_link, unused}
use Rattle.placing.specs.Placing.{become, links_in, refreed}
use Rattle.placing.proofs.HangSound.{adding_keeps, of_text}
use Rattle.placing.proofs.KeepAbsorb.{become_rows, length_rows}
use Rattle.placing.proofs.KeepEach.{count_append, each_standing}
use Rattle.placing.proofs.KeepFit.{links_fit}
use Rattle.placing.proofs.KeepNames.{free_links, news}
use Rattle.placing.proofs.KeepSound.{numbers_enough, unused_new, unused_once}
use Rattle.placing.proofs.NamesOf.{has_row}
use Rattle.placing.proofs.OpenNames.{links_length}
use Rattle.forming.specs.Places.{became, connectors, name_link, once, written_atoms}
use Rattle.forming.specs.Joins.{End, JoinLaw, Joined, LinksJoined, Point, at_row, back, by_connector, by_name, end_link, end_point, named, old, open_at, port, port_points, same, through}
use Rattle.forming.proofs.Assigned.{Assigned, assigned, different, shut}
use Rattle.forming.proofs.Ending.{all_lie, at_row_map, lies, named_rows, old_rows, row_holds, rows_append}
use Rattle.forming.proofs.Names.{connectors_stand, form_names, times_form, written_least}
use Rattle.forming.proofs.Opening.{open_after, open_refreed}
use Rattle.forming.proofs.Placed.{form_is, placed, placed_is}
use Rattle.forming.proofs.Quotient.{base, connected, tells as joined_tells}

open_counts : (n : Name) (free : List FreeLink) (x : ℕ) → open_link n free ≡ Some x → 0 < count x (free_links free)
unfolding open_link count
open_counts n [] x e = absurd (let z : ◌≡◌ {A = ℕ} 0 1 = cc in omega arith)
open_counts n (f ∷ fs) x e = let ih = open_counts n fs x in grind (arith, nat_tests)

getD_below : (m : ℕ) (xs : List ℕ) (i d : ℕ) → list_all (λ x. ltb x m) xs ≡ true → i < length xs → get_or xs i d < m
getD_below m [] i d h l = absurd (omega arith)
getD_below m (x ∷ xs) zero d h l = ltb-true x m (and_parts (ltb x m) (list_all (λ y. ltb y m) xs) h).0
getD_below m (x ∷ xs) (suc i) d h l = getD_below m xs i d (and_parts (ltb x m) (list_all (λ y. ltb y m) xs) h).1 (omega arith)

pub rooted : (cs : List Cell) → is_root cs ≡ true → 0 < length cs
rooted [] h = absurd (let z : ◌≡◌ {A = ℕ} 0 1 = cc in omega arith)
rooted (c ∷ cs) h = omega arith

module _ {L : Type 0} (k : Kind L) (law : Lawful k) (m : Model L) (bs : List ℕ) (h : Items) (sound : SoundModel k m) (clean : fault_of (hang_events k 0 bs) ≡ None) (tokens : item_tokens h ≡ text_tokens k bs)
    (few_atoms : length (hung_text k m bs).atoms ≤ 1024) (few_free : length (hung_text k m bs).free ≤ 64) where
  some : 0 < length m.cells
  some = rooted m.cells sound.root

  of : OfText k (text_names bs) (hang_events k 0 bs)
  of = of_text k law bs clean

  stand : (n : Name) → times n (text_names bs) ≡ count n.packed (form_names h)
  stand = times_form k bs h clean (form_is k law m bs h some clean tokens)

  enough : length (news m.free (unused m) (text_names bs)) ≤ length (unused m)
  enough = numbers_enough k (adding_keeps k law) m (text_names bs) (hang_events k 0 bs) sound of few_atoms few_free

  -- a point that the plan or the text has
  Held : Point → Type 0
  Held (old x) = 0 < count x (ends m)
  Held (named n) = 0 < count n.packed (form_names h)

  low : (p : Point) → Held p → base (name_link m bs) p < length (rows 0 8256)
  unfolding Held
  low (old x) l =
      let n : length (rows 0 8256) ≡ 8256 = length_rows 0 8256 in
      let w = ltb-true x 8256 (each_standing (λ y. ltb y 8256) (ends m) x sound.links l) in
      omega arith
  low (named n) l =
      let e : length (rows 0 8256) ≡ 8256 = length_rows 0 8256 in
      let t = stand n in
      let r = has_row n (text_names bs) (omega arith) in
      let ll : length (links_in m (text_names bs)) ≡ length (text_names bs) = links_length m.free (text_names bs) (unused m) in
      let w = getD_below 8256 (links_in m (text_names bs)) (position n (text_names bs)) 0 (links_fit k (adding_keeps k law) m (text_names bs) (hang_events k 0 bs) sound of few_atoms few_free) (omega arith) in
      omega arith

  -- ** before the connectors

  gets : (n : Name) → 0 < count n.packed (form_names h) → Assigned (unused m) (name_link m bs n) (shut m.free (text_names bs) n)
  gets n l = let t = stand n in assigned m.free n (text_names bs) (unused m) (omega arith) enough

  shut_once : (v : Bool) (o : Option ℕ) (x : ℕ) → cond v o None ≡ Some x → (v ≡ true) × (o ≡ Some x)
  shut_once true o x e = (refl, e)
  shut_once false o x e = absurd (let z : ◌≡◌ {A = ℕ} 0 1 = cc in omega arith)

  closes : (n : Name) (x : ℕ) → shut m.free (text_names bs) n ≡ Some x → Joined m h (named n) (old x)
  closes n x e =
      let s = shut_once (eqb (times n (text_names bs)) 1) (open_link n m.free) x e in
      by_name n x (ap (λ t. eqb t 1) (sym (stand n)) ∙ s.0) s.1

  closed_old : (n : Name) (x : ℕ) → shut m.free (text_names bs) n ≡ Some x → 0 < count x (ends m)
  closed_old n x e =
      let s = shut_once (eqb (times n (text_names bs)) 1) (open_link n m.free) x e in
      let c = open_counts n m.free x s.1 in
      let d = count_append x (port_links m.atoms) (free_links m.free) in
      omega arith

  new_is_new : (n : Name) (x : ℕ) → 0 < count n.packed (form_names h) → shut m.free (text_names bs) n ≡ None → name_link m bs n ≡ x → 0 < count x (ends m) → ⊥
  new_is_new n x l e i j =
      let g : 0 < count (name_link m bs n) (unused m) = subst (Assigned (unused m) (name_link m bs n)) e (gets n l) in
      let z = unused_new m (name_link m bs n) g in
      let y : 0 < count (name_link m bs n) (ends m) = subst (λ w. 0 < count w (ends m)) (sym i) j in
      omega arith

  -- a name and an old link with one number
  name_old : (n : Name) (x : ℕ) (o : Option ℕ) → shut m.free (text_names bs) n ≡ o → 0 < count n.packed (form_names h) → 0 < count x (ends m) → name_link m bs n ≡ x → Joined m h (named n) (old x)
  name_old n x (Some y) e l j i =
      let g : name_link m bs n ≡ y = subst (Assigned (unused m) (name_link m bs n)) e (gets n l) in
      subst (λ w. Joined m h (named n) (old w)) (sym g ∙ i) (closes n y e)
  name_old n x None e l j i = absurd (new_is_new n x l e i j)

  name_name : (n o : Name) (a b : Option ℕ) → shut m.free (text_names bs) n ≡ a → shut m.free (text_names bs) o ≡ b → 0 < count n.packed (form_names h) → 0 < count o.packed (form_names h) → name_link m bs n ≡ name_link m bs o → Joined m h (named n) (named o)
  name_name n o (Some x) b e f l j i =
      let g : name_link m bs n ≡ x = subst (Assigned (unused m) (name_link m bs n)) e (gets n l) in
      through (named n) (old x) (named o) (closes n x e) (back (named o) (old x) (name_old o x b f j (closed_old n x e) (sym i ∙ g)))
  name_name n o None (Some y) e f l j i =
      let g : name_link m bs o ≡ y = subst (Assigned (unused m) (name_link m bs o)) f (gets o j) in
      absurd (new_is_new n y l e (i ∙ g) (closed_old o y f))
  name_name n o None None e f l j i =
      let s = stand n in
      let t = stand o in
      let one : n ≡ o = different m.free n o (text_names bs) (unused m) (unused_once m) (omega arith) (omega arith) enough e f i in
      subst (λ w. Joined m h (named n) (named w)) one (same (named n))

  first_tells : (p q : Point) → Held p → Held q → base (name_link m bs) p ≡ base (name_link m bs) q → Joined m h p q
  unfolding Held
  first_tells (old x) (old y) l j i = subst (λ w. Joined m h (old x) (old w)) i (same (old x))
  first_tells (old x) (named n) l j i = back (named n) (old x) (name_old n x (shut m.free (text_names bs) n) refl j l (sym i))
  first_tells (named n) (old x) l j i = name_old n x (shut m.free (text_names bs) n) refl l j i
  first_tells (named n) (named o) l j i = name_name n o (shut m.free (text_names bs) n) (shut m.free (text_names bs) o) refl refl l j i

  -- ** after them

  abbrev on : Point → ℕ
  on p = lies (name_link m bs) (became m bs h) p

  told : (p q : Point) → Held p → Held q → on p ≡ on q → Joined m h p q
  unfolding Held
  told =
      joined_tells (name_link m bs) m h Held (connectors h) (rows 0 8256) low
      (λ x y i. let b = connectors_stand h x y i in (b.0, b.1, by_connector x y i))
      (λ p q hp hq e. first_tells p q hp hq (sym (become_rows 8256 (base (name_link m bs) p)) ∙ e ∙ become_rows 8256 (base (name_link m bs) q)))

  shut_is : (n : Name) (x : ℕ) → once h n ≡ true → open_link n m.free ≡ Some x → shut m.free (text_names bs) n ≡ Some x
  shut_is n x o e = ap₂ (λ t r. cond (eqb t 1) r None) (stand n) e ∙ ap (λ v. cond v (Some x) None) o

  holds : {p q : Point} → Joined m h p q → on p ≡ on q
  unfolding Held
  holds (by_connector a b i) =
      connected (name_link m bs) (connectors h) (rows 0 8256) a b (λ x y j. let s = connectors_stand h x y j in (low (named x) s.0, low (named y) s.1)) i
  holds (by_name n x o e) =
      let c = eqb-true (count n.packed (form_names h)) 1 o in
      ap (become (became m bs h)) (subst (Assigned (unused m) (name_link m bs n)) (shut_is n x o e) (gets n (omega arith)))
  holds (same p) = refl
  holds (back p q j) = sym (holds j)
  holds (through p q r i j) = holds i ∙ holds j

  -- ** ends

  port_lies : (i j : ℕ) → end_link (hung_text k m bs) (port i j) ≡ option_map on (end_point k m h (port i j))
  port_lies i j =
      ap (λ atoms. at_row j (slice_get (map (λ a. a.links) atoms) i)) (placed k law m bs h some clean tokens).atoms
      ∙ ap (λ ls. at_row j (slice_get ls i)) (all_lie (name_link m bs) (became m bs h) m.atoms (written_atoms k 0 (length m.cells) h))
      ∙ at_row_map (lies (name_link m bs) (became m bs h)) (port_points k m h) i j

  free_lies : (n : Name) → end_link (hung_text k m bs) (open_at n) ≡ option_map on (end_point k m h (open_at n))
  free_lies n =
      let free = free_after m.free (text_names bs) (links_in m (text_names bs)) in
      ap (λ p. open_link n (map (refreed p.became) free)) (placed_is k law m bs h some clean tokens)
      ∙ open_refreed n (became m bs h) free
      ∙ ap (option_map (become (became m bs h))) (open_after m.free n (text_names bs) (links_in m (text_names bs)) (links_length m.free (text_names bs) (unused m)) of.different)
      ∙ ap (λ t. option_map (become (became m bs h)) (cond (eqb t 1) (cond (is_some (open_link n m.free)) None (Some (name_link m bs n))) (open_link n m.free))) (stand n)
      ∙ either (once h n) (open_link n m.free)
    where
      either : (v : Bool) (o : Option ℕ) → option_map (become (became m bs h)) (cond v (cond (is_some o) None (Some (name_link m bs n))) o) ≡ option_map (lies (name_link m bs) (became m bs h)) (cond v (cond (is_some o) None (Some (named n))) (option_map old o))
      either true None = refl
      either true (Some x) = refl
      either false None = refl
      either false (Some x) = refl

  end_lies : (e : End) → end_link (hung_text k m bs) e ≡ option_map on (end_point k m h e)
  end_lies (port i j) = port_lies i j
  end_lies (open_at n) = free_lies n

  free_held : (n : Name) (o : Option ℕ) (v : Bool) (p : Point) → open_link n m.free ≡ o → once h n ≡ v → cond v (cond (is_some o) None (Some (named n))) (option_map old o) ≡ Some p → Held p
  unfolding Held
  free_held n None true p e f i =
      let c = eqb-true (count n.packed (form_names h)) 1 f in
      let s : named n ≡ p = cc in
      subst Held s (omega arith)
  free_held n (Some x) true p e f i = absurd (let z : ◌≡◌ {A = ℕ} 0 1 = cc in omega arith)
  free_held n None false p e f i = absurd (let z : ◌≡◌ {A = ℕ} 0 1 = cc in omega arith)
  free_held n (Some x) false p e f i =
      let c = open_counts n m.free x e in
      let d = count_append x (port_links m.atoms) (free_links m.free) in
      let s : old x ≡ p = cc in
      subst Held s (omega arith)

  end_held : (e : End) (p : Point) → end_point k m h e ≡ Some p → Held p
  unfolding Held
  end_held (port i j) p e =
      row_holds Held (port_points k m h) i j p
      (rows_append Held (map (λ a. map old a.links) m.atoms) (map (λ a. map named a.names) (written_atoms k 0 (length m.cells) h))
      (old_rows Held m.atoms (λ x l. let d = count_append x (port_links m.atoms) (free_links m.free) in omega arith))
      (named_rows Held (written_atoms k 0 (length m.cells) h) (λ n l. let w = written_least k n.packed 0 (length m.cells) h in omega arith)))
      e
  end_held (open_at n) p e = free_held n (open_link n m.free) (once h n) p refl refl e

  some_mapped : (o : Option Point) → is_some (option_map on o) ≡ is_some o
  some_mapped None = refl
  some_mapped (Some p) = refl

  pub links_joined : LinksJoined k m bs h
  links_joined =
      record {
        ends = λ e. ap is_some (end_lies e) ∙ some_mapped (end_point k m h e);
        joined = λ e d p q ep dq i.
            let a : end_link (hung_text k m bs) e ≡ Some (on p) = end_lies e ∙ ap (option_map on) ep in
            let b : end_link (hung_text k m bs) d ≡ Some (on q) = end_lies d ∙ ap (option_map on) dq in
            let s : on p ≡ on q = cc in
            told p q (end_held e p ep) (end_held d q dq) s;
        joins = λ e d p q ep dq j. end_lies e ∙ ap (option_map on) ep ∙ ap Some (holds j) ∙ sym (end_lies d ∙ ap (option_map on) dq);
      }

pub join_law : {L : Type 0} (k : Kind L) → Lawful k → JoinLaw k
join_law k law m bs h sound clean tokens few_atoms few_free = links_joined k law m bs h sound clean tokens few_atoms few_free
