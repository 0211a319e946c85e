-- A rewritten text gives the same plan but for the numbers of links.
use Rattle.std.proofs.lemmas.List.Elements.{filter_agree}
use Rattle.std.proofs.Common.{◌≡◌, ℕ, ◌+◌, ◌<◌, ◌≤◌, Bool, true, false, cond, not, ◌&&◌, List, [], ◌∷◌, ◌++◌, map, length, is_some, Some, None, filter, Option, sym, refl, ap, ◌∙◌, ap₂, arith, length-append}
use Rattle.std.specs.Option.{option_map}
use Rattle.std.proofs.lemmas.List.Elements.{filter-append}
use Rattle.std.proofs.lemmas.List.{length-map, map-append}
use Rattle.label.specs.Kind.{Kind, Lawful}
use Rattle.text.specs.declared.packed.Name.{Name}
use Rattle.grammar.specs.Reading.{hang_events}
use Rattle.grammar.specs.Laws.{fault_of, text_tokens}
use Rattle.grammar.specs.Form.{Items, item_tokens}
use Rattle.plan.specs.Model.{Model}
use Rattle.placing.specs.Answer.{hung_text}
use Rattle.placing.specs.Keeps.{SoundModel}
use Rattle.placing.specs.Laws.{Shape, is_open, shape}
use Rattle.placing.specs.Placing.{become, relinked}
use Rattle.placing.proofs.HangSound.{hang_sound}
use Rattle.placing.proofs.Staying.{shape_relinked}
use Rattle.forming.specs.Places.{AtomText, Placed, became, name_link, node, once, written_atoms, written_names}
use Rattle.forming.specs.Joins.{End, LinksJoined, Point, end_link, end_point}
use Rattle.forming.specs.Rewriting.{KeepsSingle, Naming, RewritingLaw, Rewritten, SameButLinks, as_atom, as_cell, as_connector, as_none, as_set, turned}
use Rattle.forming.proofs.Joining.{links_joined, rooted}
use Rattle.forming.proofs.Placed.{placed, placed_is}
use Rattle.forming.proofs.Same.{reordered}
use Rattle.forming.proofs.Renaming.{atom_renamed, moved, moves, moves_back, once_same, once_to, points_moved, same_atoms, same_cells, same_register}

some_is : {A : Type 0} (o : Option A) → is_some o ≡ true → (x : A) × (o ≡ Some x)
some_is None h = absurd (let z : ◌≡◌ {A = ℕ} 0 1 = cc in omega arith)
some_is (Some x) h = (x, refl)

some_mapped : {A B : Type 0} (f : A → B) (o : Option A) → is_some (option_map f o) ≡ is_some o
some_mapped f None = refl
some_mapped f (Some x) = refl

module _ {L : Type 0} where
  abbrev text_shape : AtomText L → Shape L
  text_shape a = record { label = a.label; cell = a.cell; ports = length a.names }

  node_shapes : (link : Name → ℕ) (xs : List (AtomText L)) → map shape (map (node link) xs) ≡ map text_shape xs
  node_shapes link [] = refl
  node_shapes link (a ∷ xs) = ap₂ (λ n rest. record { label = a.label; cell = a.cell; ports = n } ∷ rest) (length-map a.names link) (node_shapes link xs)

  renamed_shapes : (f : Naming) (k : Kind L) (xs : List (AtomText L)) → map text_shape (map (atom_renamed f k) xs) ≡ map text_shape xs
  renamed_shapes f k [] = refl
  renamed_shapes f k (a ∷ xs) = ap₂ (λ n rest. record { label = a.label; cell = a.cell; ports = n } ∷ rest) (length-map a.names f.to) (renamed_shapes f k xs)

  shapes : (k : Kind L) (m : Model L) (bs : List ℕ) (h : Items) → Placed k m bs h → map shape (hung_text k m bs).atoms ≡ map shape m.atoms ++ map text_shape (written_atoms k 0 (length m.cells) h)
  shapes k m bs h p =
      let link = λ (n : Name). become (became m bs h) (name_link m bs n) in
      let xs = written_atoms k 0 (length m.cells) h in
      ap (map shape) p.atoms ∙ map-append shape (map (relinked (became m bs h)) m.atoms) (map (node link) xs)
      ∙ ap₂ ◌++◌ (shape_relinked (became m bs h) m.atoms) (node_shapes link xs)

-- ** how many names are kept

one_kept : (q : Name → Bool) (x : Name) (xs : List Name) → length (filter q (x ∷ xs)) ≡ cond (q x) 1 0 + length (filter q xs)
one_kept q x xs = elim (q x) as (λ v. length (cond v (x ∷ filter q xs) (filter q xs)) ≡ cond v 1 0 + length (filter q xs)) [ true ↦ omega arith | false ↦ omega arith ]

more_kept : (q : Name → Bool) (xs ys : List Name) → length (filter q (xs ++ ys)) ≡ length (filter q xs) + length (filter q ys)
more_kept q xs ys = ap length (filter-append q xs ys) ∙ length-append (filter q xs) (filter q ys)

module _ (f : Naming) (p q : Name → Bool) (alike : (n : Name) → q (f.to n) ≡ p n) where
  step : (n : Name) (xs ys : List Name) → length (filter q ys) ≡ length (filter p xs) → length (filter q (f.to n ∷ ys)) ≡ length (filter p (n ∷ xs))
  step n xs ys e = one_kept q (f.to n) ys ∙ ap₂ (λ v m. cond v 1 0 + m) (alike n) e ∙ sym (one_kept p n xs)

  ports_kept : (ns xs ys : List Name) → length (filter q ys) ≡ length (filter p xs) → length (filter q (map f.to ns ++ ys)) ≡ length (filter p (ns ++ xs))
  ports_kept [] xs ys e = e
  ports_kept (n ∷ ns) xs ys e = step n (ns ++ xs) (map f.to ns ++ ys) (ports_kept ns xs ys e)

  turn : (a b : Name) (ys : List Name) → length (filter q (b ∷ (a ∷ ys))) ≡ length (filter q (a ∷ (b ∷ ys)))
  turn a b ys =
      let r = one_kept q b (a ∷ ys) in
      let s = one_kept q a ys in
      let t = one_kept q a (b ∷ ys) in
      let u = one_kept q b ys in
      omega arith

  -- a rewriting keeps as many of its names
  kept_alike : {h g : Items} → Rewritten f h g → length (filter q (written_names g)) ≡ length (filter p (written_names h))
  kept_alike as_none = refl
  kept_alike (as_atom w ns {h = h} {g = g} r) = ports_kept ns (written_names h) (written_names g) (kept_alike r)
  kept_alike (as_cell {i = i} {j = j} {h = h} {g = g} s r) =
      more_kept q (written_names j) (written_names g) ∙ ap₂ ◌+◌ (kept_alike s) (kept_alike r) ∙ sym (more_kept p (written_names i) (written_names h))
  kept_alike (as_connector a b {h = h} {g = g} r) = step a (b ∷ written_names h) (f.to b ∷ written_names g) (step b (written_names h) (written_names g) (kept_alike r))
  kept_alike (turned a b {h = h} {g = g} r) =
      turn (f.to a) (f.to b) (written_names g) ∙ step a (b ∷ written_names h) (f.to b ∷ written_names g) (step b (written_names h) (written_names g) (kept_alike r))
  kept_alike (as_set w r) = kept_alike r

-- the rows of two plans after such texts are as many
module _ {L : Type 0} (k : Kind L) (m : Model L) (bs cs : List ℕ) (h g : Items) (f : Naming) (r : Rewritten f h g) (keeps : KeepsSingle f h) (first : Placed k m bs h) (second : Placed k m cs g) where
  as_many_atoms : length (hung_text k m cs).atoms ≡ length (hung_text k m bs).atoms
  as_many_atoms =
      let e : map shape (hung_text k m cs).atoms ≡ map shape (hung_text k m bs).atoms
      = shapes k m cs g second ∙ ap (λ xs. map shape m.atoms ++ xs) (ap (map text_shape) (same_atoms f k r 0 (length m.cells)) ∙ renamed_shapes f k (written_atoms k 0 (length m.cells) h)) ∙ sym (shapes k m bs h first) in
      sym (length-map (hung_text k m cs).atoms shape) ∙ ap length e ∙ length-map (hung_text k m bs).atoms shape

  opens_alike : (n : Name) (v : Bool) → once h n ≡ v → (once g (f.to n) && not (is_open (f.to n) m.free)) ≡ (once h n && not (is_open n m.free))
  opens_alike n true e = ap₂ (λ a b. a && not (is_open b m.free)) (once_to f m r keeps n) (keeps n e)
  opens_alike n false e = ap (λ a. a && not (is_open (f.to n) m.free)) (once_to f m r keeps n ∙ e) ∙ sym (ap (λ a. a && not (is_open n m.free)) e)

  as_many_free : length (hung_text k m cs).free ≡ length (hung_text k m bs).free
  as_many_free =
      let old = map (λ x. x.name) m.free in
      let p = λ (n : Name). once h n && not (is_open n m.free) in
      let q = λ (n : Name). once g n && not (is_open n m.free) in
      sym (length-map (hung_text k m cs).free (λ x. x.name)) ∙ ap length second.free
      ∙ length-append (filter (λ n. not (once g n)) old) (filter q (written_names g))
      ∙ ap₂ ◌+◌ (ap length (filter_agree (λ n. not (once g n)) (λ n. not (once h n)) (λ n. ap not (sym (once_same f m r keeps n (once h n) (once g n) refl refl))) old)) (kept_alike f p q (λ n. opens_alike n (once h n) refl) r)
      ∙ sym (length-append (filter (λ n. not (once h n)) old) (filter p (written_names h)))
      ∙ sym (ap length first.free) ∙ length-map (hung_text k m bs).free (λ x. x.name)

module _ {L : Type 0} (k : Kind L) (law : Lawful k) (m : Model L) (bs cs : List ℕ) (h g : Items) (f : Naming) (sound : SoundModel k m)
    (clean : fault_of (hang_events k 0 bs) ≡ None) (clean_too : fault_of (hang_events k 0 cs) ≡ None) (tokens : item_tokens h ≡ text_tokens k bs) (tokens_too : item_tokens g ≡ text_tokens k cs)
    (r : Rewritten f h g) (keeps : KeepsSingle f h) (one : LinksJoined k m bs h) (two : LinksJoined k m cs g) where
  some : 0 < length m.cells
  some = rooted m.cells sound.root

  first : Placed k m bs h
  first = placed k law m bs h some clean tokens

  second : Placed k m cs g
  second = placed k law m cs g some clean_too tokens_too

  point : (e : End) → is_some (end_link (hung_text k m bs) e) ≡ true → (p : Point) × (end_point k m h e ≡ Some p)
  point e i = some_is (end_point k m h e) (sym (one.ends e) ∙ i)

  point_too : (e : End) (p : Point) → end_point k m h e ≡ Some p → end_point k m g e ≡ Some (moved f p)
  point_too e p i = points_moved f m r keeps k e ∙ ap (option_map (moved f)) i

  pub same_but_links : SameButLinks (hung_text k m bs) (hung_text k m cs)
  same_but_links =
      record {
        cells = first.cells ∙ sym (second.cells ∙ ap (λ c. m.cells ++ c) (same_cells f r 0 (length m.cells)));
        atoms =
            shapes k m bs h first
            ∙ sym (shapes k m cs g second ∙ ap (λ xs. map shape m.atoms ++ xs) (ap (map text_shape) (same_atoms f k r 0 (length m.cells)) ∙ renamed_shapes f k (written_atoms k 0 (length m.cells) h)));
        register =
            ap (λ p. p.register) (placed_is k law m bs h some clean tokens)
            ∙ sym (ap (λ p. p.register) (placed_is k law m cs g some clean_too tokens_too) ∙ same_register f k (name_link m cs) (name_link m bs) r m.register);
        ends = λ e. one.ends e ∙ sym (two.ends e ∙ ap is_some (points_moved f m r keeps k e) ∙ some_mapped (moved f) (end_point k m h e));
        links = λ e d i j s.
            let p = point e i in
            let q = point d j in
            two.joins e d (moved f p.0) (moved f q.0) (point_too e p.0 p.1) (point_too d q.0 q.1)
            (moves f m r keeps (one.joined e d p.0 q.0 p.1 q.1 s));
        links_back = λ e d i j s.
            let p = point e i in
            let q = point d j in
            one.joins e d p.0 q.0 p.1 q.1
            (moves_back f m r keeps p.0 q.0 (two.joined e d (moved f p.0) (moved f q.0) (point_too e p.0 p.1) (point_too d q.0 q.1) s));
      }

pub rewriting_law : {L : Type 0} (k : Kind L) → Lawful k → RewritingLaw k
rewriting_law k law m bs cs h g f r =
    let some = rooted m.cells r.sound.root in
    let first = placed k law m bs h some r.clean r.tokens in
    let second = placed k law m cs g some r.clean_too r.tokens_too in
    let few_atoms : length (hung_text k m bs).atoms ≤ 1024 = r.few_atoms in
    let few_free : length (hung_text k m bs).free ≤ 64 = r.few_free in
    let many_atoms = as_many_atoms k m bs cs h g f r.rewritten r.keeps first second in
    let many_free = as_many_free k m bs cs h g f r.rewritten r.keeps first second in
    let few_atoms_too : length (hung_text k m cs).atoms ≤ 1024 = omega arith in
    let few_free_too : length (hung_text k m cs).free ≤ 64 = omega arith in
    let same =
    same_but_links k law m bs cs h g f r.sound r.clean r.clean_too r.tokens r.tokens_too r.rewritten r.keeps
    (links_joined k law m bs h r.sound r.clean r.tokens few_atoms few_free) (links_joined k law m cs g r.sound r.clean_too r.tokens_too few_atoms_too few_free_too) in (
      same,
      reordered (hung_text k m bs) (hung_text k m cs) same (hang_sound k law m bs r.sound r.clean few_atoms few_free).apart (hang_sound k law m cs r.sound r.clean_too few_atoms_too few_free_too).apart,
    )
