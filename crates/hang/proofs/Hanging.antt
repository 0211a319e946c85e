-- A text without fault on a sound plan.
use Rattle.std.proofs.Common.{◌≡◌, ℕ, ◌+◌, ◌<◌, ◌≤◌, min, Bool, true, false, ◌&&◌, ltb, leb, List, [], map, length, take, None, Ok, sym, refl, ap, ◌∙◌, subst, ap₂, ⊎_elim, arith, length-take}
use Rattle.std.proofs.lemmas.List.{length-map}
use Rattle.std.proofs.lemmas.Bool.{and_from, and_parts, both_ways, cases_lt, cond-false, cond-true, le-leb, le-ltb, leb-true, lt-ltb}
use Rattle.label.specs.Kind.{Kind, Lawful}
use Rattle.text.specs.declared.packed.Name.{Name}
use Rattle.text.specs.Tokens as tokens
use Rattle.grammar.specs.declared.reader.Reader.{Reader}
use Rattle.grammar.specs.declared.stand.Standing.{Standing}
use Rattle.grammar.specs.declared.sheet.Sheet.{Sheet}
use Rattle.grammar.specs.Laws.{fault_of}
use Rattle.grammar.specs.Pull.{Begun, left}
use Rattle.grammar.specs.Reading.{Events, event, end, fault, at_place, events_from, hang_events}
use Rattle.grammar.specs.Sheets.{text_names}
use Rattle.grammar.specs.State.{start}
use Rattle.plan.specs.declared.tables.Plan.{Plan}
use Rattle.plan.specs.Model.{Model, model_of, node_of}
use Rattle.plan.specs.Places.{Filed}
use Rattle.plan.specs.Sound.{Sound, counts_fit, room}
use Rattle.placing.specs.Answer.{hung_text, takes}
use Rattle.placing.specs.Counts.{SheetCounts, cells_in, labels_in}
use Rattle.placing.specs.Keeps.{SoundModel}
use Rattle.placing.specs.Laws.{HangLaws}
use Rattle.placing.specs.Links.{link_at}
use Rattle.grammar.specs.Events.{depth_after}
use Rattle.placing.specs.Orderly.{may_come, orderly, halfway, ports_after}
use Rattle.placing.specs.Placing.{begun, links_in}
use Rattle.placing.proofs.Counting.{events_right}
use Rattle.placing.proofs.HangLaws.{hang_laws}
use Rattle.placing.proofs.HangSound.{hang_sound}
use Rattle.placing.proofs.KeepGoing.{goes_from}
use Rattle.placing.proofs.KeepPlan.{model_sound, plan_sound}
use Rattle.hang.specs.Hand.{Placeable, Placed, fresh_hand}
use Rattle.hang.specs.Labels.{all_mine, is_mine, lacking}
use Rattle.hang.specs.Text.{Hangable, atoms_fit, cells_fit, free_fit, has_room, if_room, labels_fit}
use Rattle.hang.proofs.Lacking.{lacks}
use Rattle.hang.proofs.Registering.{register_filed}
use Rattle.hang.proofs.Stepping.{adding_keeps, mine_comes}

pub begun_left : {L : Type 0} (k : Kind L) (text : List ℕ) (rd : Reader) → length text ≤ 65535 → Begun 0 text rd → left k rd ≡ hang_events k 0 text
begun_left k text rd h b =
    ap₂ (λ st s. events_from k st s) b.2 (ap₂ (tokens.tokens 0) b.1 b.0)
    ∙ sym (cond-false (ltb 65535 (length text)) (at_place _ 0) (events_from k start (tokens.tokens 0 0 text)) (le-ltb 65535 (length text) h))

orderly_mine : {L : Type 0} (k : Kind L) (d p : ℕ) (c : Bool) (es : Events L) → orderly k d p c es ≡ true → all_mine k es ≡ true
unfolding orderly all_mine
orderly_mine k d p c (event e rest) h =
    let both = and_parts (may_come k d p c e) _ h in
    and_from (is_mine k e) (all_mine k rest) (mine_comes k d p c e both.0) (orderly_mine k (depth_after d e) (ports_after p e) (halfway e) rest both.1)
orderly_mine k d p c end h = refl
orderly_mine k d p c (fault f) h = refl

pub record Counts {L : Type 0} (p : Plan L) : Type 0 where
  pub atoms : p.atom_count ≤ min (length p.atoms.now) 1024
  pub cells : p.cell_count ≤ min (length p.cells.now) 128
  pub free : p.free_count ≤ min (length p.free.now) 64
  pub labels : p.label_count ≤ min (length p.register.now) 1024

pub counts : {L : Type 0} (k : Kind L) (p : Plan L) → Sound k p → Counts p
counts k p s =
    let a = and_parts (leb p.atom_count (room 1024 p.atoms.now)) _ s.counts in
    let b = and_parts (leb p.cell_count (room 128 p.cells.now)) _ a.1 in
    let c = and_parts (leb p.free_count (room 64 p.free.now)) _ b.1 in
    record { atoms = leb-true _ _ a.0; cells = leb-true _ _ b.0; free = leb-true _ _ c.0; labels = leb-true _ _ c.1 }

counted_map : {A B : Type 0} (f : A → B) (n : ℕ) (s : List A) → n ≤ length s → length (map f (take n s)) ≡ n
counted_map f n s h = let a = length-map (take n s) f in let b = length-take n s in omega arith

counted : {A : Type 0} (n : ℕ) (s : List A) → n ≤ length s → length (take n s) ≡ n
counted n s h = let b = length-take n s in omega arith

fails : (a b c : Bool) → (a && b) ≡ false → (a && (b && c)) ≡ false
fails true true c h = absurd (both_ways true h refl)
fails true false c h = refl
fails false b c h = refl

last_fails : (a b c d : Bool) → d ≡ false → (a && (b && (c && d))) ≡ false
last_fails false b c d h = refl
last_fails true false c d h = refl
last_fails true true false d h = refl
last_fails true true true d h = h

third : (a b c d : Bool) → a ≡ true → b ≡ true → d ≡ true → c ≡ (a && (b && (c && d)))
third true true true true p q r = refl
third true true false true p q r = refl
third true true c false p q r = absurd (both_ways false refl r)
third true false c d p q r = absurd (both_ways false refl q)
third false b c d p q r = absurd (both_ways false refl p)

module _ {L : Type 0} (k : Kind L) (law : Lawful k) (p : Plan L) (text : List ℕ) (h : Hangable k p text) where
  abbrev es : Events L
  es = hang_events k 0 text

  abbrev m : Model L
  m = model_of p

  abbrev link : Name → ℕ
  link = link_at (text_names text) (links_in m (text_names text))

  laws : HangLaws k m text
  laws = hang_laws k law m text h.clean

  c : Counts p
  c = counts k p h.sound

  pub atoms_after : length (hung_text k m text).atoms ≡ p.atom_count + labels_in (hang_events k 0 text)
  atoms_after = let a = laws.atom_number in let x = c.atoms in let n = counted_map node_of p.atom_count p.atoms.now (omega arith) in omega arith

  pub cells_after : length (hung_text k m text).cells ≡ p.cell_count + cells_in (hang_events k 0 text)
  cells_after = let a = laws.cell_number in let x = c.cells in let n = counted p.cell_count p.cells.now (omega arith) in omega arith

  pub all_known : all_mine k (hang_events k 0 text) ≡ true
  all_known = orderly_mine k 0 0 false es ((events_right k law).order text)

  pub filed : Filed k (model_of p).register
  filed = register_filed k m.atoms m.register (model_sound k p h.sound).register

  pub labels_after : length (hung_text k m text).register ≡ p.label_count + length (lacking k (model_of p).register [] (hang_events k 0 text))
  labels_after =
      let x = c.labels in
      let n : length m.register ≡ p.label_count = counted p.label_count p.register.now (omega arith) in
      let l : length (hung_text k m text).register ≡ length m.register + length (lacking k m.register [] es) = lacks k law link (begun m) es all_known filed in
      omega arith

  pub placeable : atoms_fit k p text ≡ true → cells_fit k p text ≡ true → labels_fit k p text ≡ true → Placeable k (link_at (text_names text) (links_in (model_of p) (text_names text))) p fresh_hand (hang_events k 0 text)
  placeable fa fc fl =
      let a = leb-true (length (hung_text k m text).atoms) (min (length p.atoms.now) 1024) fa in
      let b = leb-true (length (hung_text k m text).cells) (min (length p.cells.now) 128) fc in
      let d = leb-true (length (hung_text k m text).register) (min (length p.register.now) 1024) fl in
      let x = atoms_after in
      let y = cells_after in
      let n = c.labels in
      record {
        depth = 0;
        ports = 0;
        half = false;
        order = (events_right k law).order text;
        going = goes_from k link (adding_keeps k law) m (model_sound k p h.sound);
        atoms = omega arith;
        cells = omega arith;
        counted = omega arith;
        rows = omega arith;
        arities = h.sound.ports;
      }

  -- the tests of the code
  pub room_test : (s : Sheet) → SheetCounts k text s → has_room p s.atoms s.cells ≡ (atoms_fit k p text && cells_fit k p text)
  room_test s sc =
      ap₂ (λ a b. leb a (room 1024 p.atoms.now) && leb b (room 128 p.cells.now))
      (ap (λ j. p.atom_count + j) sc.atoms ∙ sym atoms_after) (ap (λ j. p.cell_count + j) sc.cells ∙ sym cells_after)

  pub no_room : (s : Sheet) → SheetCounts k text s → has_room p s.atoms s.cells ≡ false → takes p (hung_text k (model_of p) text) ≡ false
  no_room s sc f = fails (atoms_fit k p text) (cells_fit k p text) (free_fit k p text && labels_fit k p text) (sym (room_test s sc) ∙ f)

  pub room_both : (s : Sheet) → SheetCounts k text s → has_room p s.atoms s.cells ≡ true → (atoms_fit k p text ≡ true) × (cells_fit k p text ≡ true)
  room_both s sc t = and_parts (atoms_fit k p text) (cells_fit k p text) (sym (room_test s sc) ∙ t)

  pub label_test : (n : ℕ) → n ≡ length (lacking k (model_of p).register [] (hang_events k 0 text)) → leb (p.label_count + n) (min (length p.register.now) 1024) ≡ labels_fit k p text
  label_test n e = ap (λ j. leb j (min (length p.register.now) 1024)) (ap (λ j. p.label_count + j) e ∙ sym labels_after)

  pub read_labels : (rd : Reader) (n : ℕ) → Begun 0 text rd → n ≡ length (lacking k (model_of p).register [] (left k rd)) → leb (p.label_count + n) (min (length p.register.now) 1024) ≡ labels_fit k p text
  read_labels rd n b e = label_test n (e ∙ ap (λ es. length (lacking k (model_of p).register [] es)) (begun_left k text rd h.short b))

  pub no_labels : labels_fit k p text ≡ false → takes p (hung_text k (model_of p) text) ≡ false
  no_labels f = last_fails (atoms_fit k p text) (cells_fit k p text) (free_fit k p text) (labels_fit k p text) f

  pub all_but_free : atoms_fit k p text ≡ true → cells_fit k p text ≡ true → labels_fit k p text ≡ true → free_fit k p text ≡ takes p (hung_text k (model_of p) text)
  all_but_free a b l = third (atoms_fit k p text) (cells_fit k p text) (free_fit k p text) (labels_fit k p text) a b l

  -- the plan after the text is sound
  pub sound_after : (q : Plan L) → takes p (hung_text k (model_of p) text) ≡ true → model_of q ≡ hung_text k (model_of p) text → Placed p q → Sound k q
  sound_after q t e g =
      let ta = and_parts (leb (length (hung_text k m text).atoms) (room 1024 p.atoms.now)) _ t in
      let tc = and_parts (leb (length (hung_text k m text).cells) (room 128 p.cells.now)) _ ta.1 in
      let tf = and_parts (leb (length (hung_text k m text).free) (room 64 p.free.now)) _ tc.1 in
      let a = leb-true (length (hung_text k m text).atoms) (min (length p.atoms.now) 1024) ta.0 in
      let b = leb-true (length (hung_text k m text).cells) (min (length p.cells.now) 128) tc.0 in
      let f = leb-true (length (hung_text k m text).free) (min (length p.free.now) 64) tf.0 in
      let r = leb-true (length (hung_text k m text).register) (min (length p.register.now) 1024) tf.1 in
      let na : length (hung_text k m text).atoms ≡ q.atom_count = ap (λ (z : Model L). length z.atoms) (sym e) ∙ counted_map node_of q.atom_count q.atoms.now g.atoms_within in
      let nc : length (hung_text k m text).cells ≡ q.cell_count = ap (λ (z : Model L). length z.cells) (sym e) ∙ counted q.cell_count q.cells.now g.cells_within in
      let nf : length (hung_text k m text).free ≡ q.free_count = ap (λ (z : Model L). length z.free) (sym e) ∙ counted q.free_count q.free.now g.free_within in
      let nr : length (hung_text k m text).register ≡ q.label_count = ap (λ (z : Model L). length z.register) (sym e) ∙ counted q.label_count q.register.now g.rows_within in
      let la = g.tables.atom_rows in
      let lc = g.tables.cell_rows in
      let lf = g.tables.free_rows in
      let lr = g.tables.label_rows in
      let fit : counts_fit q ≡ true =
      and_from (leb q.atom_count (room 1024 q.atoms.now)) _ (le-leb q.atom_count (min (length q.atoms.now) 1024) (omega arith))
      (and_from (leb q.cell_count (room 128 q.cells.now)) _ (le-leb q.cell_count (min (length q.cells.now) 128) (omega arith))
      (and_from (leb q.free_count (room 64 q.free.now)) _ (le-leb q.free_count (min (length q.free.now) 64) (omega arith))
      (le-leb q.label_count (min (length q.register.now) 1024) (omega arith)))) in
      plan_sound k q fit g.arities (subst (SoundModel k) (sym e) (hang_sound k law m text (model_sound k p h.sound) h.clean (omega arith) (omega arith)))

-- what the code hands on: the names of the text, and their links
module _ {L : Type 0} (m : Model L) (text : List ℕ) (ns : List Standing) (links : List ℕ) (e : ns ≡ text_names text) (l : links ≡ links_in m ns) where
  handed : links ≡ links_in m (text_names text)
  handed = l ∙ ap (links_in m) e

  pub handed_link : link_at ns links ≡ link_at (text_names text) (links_in m (text_names text))
  handed_link = ap₂ link_at e handed

pub clean_short : {L : Type 0} (k : Kind L) (text : List ℕ) → fault_of (hang_events k 0 text) ≡ None → length text ≤ 65535
clean_short {L} k text e =
    ⊎_elim
    (λ (h : 65535 < length text).
    let long : hang_events k 0 text ≡ at_place _ 0 = cond-true (ltb 65535 (length text)) (at_place _ 0) (events_from k start (tokens.tokens 0 0 text)) (lt-ltb 65535 (length text) h) in
    let f = sym (ap fault_of long) ∙ e in
    let z : ◌≡◌ {A = ℕ} 0 1 = cc in
    absurd (omega arith))
    (λ (h : length text ≤ 65535). h)
    (cases_lt 65535 (length text))

pub hangable : {L : Type 0} (k : Kind L) (p : Plan L) (text : List ℕ) (s : Sheet) → Sound k p → SheetCounts k text s → Hangable k p text
hangable k p text s sound sc = record { sound = sound; clean = sc.clean; short = clean_short k text sc.clean }

pub room_there : (b : Bool) → Ok tt ≡ if_room b → b ≡ true
room_there true e = refl
room_there false e = let z : ◌≡◌ {A = ℕ} 0 1 = cc in absurd (omega arith)
