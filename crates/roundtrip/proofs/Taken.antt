-- The text of a sound plan hangs on an empty plan, and takes as much room.
use Rattle.placing.proofs.HangSound.{adding_keeps}
use Rattle.std.proofs.Common.{◌≡◌, ℕ, ◌<◌, ◌≤◌, true, false, eqb, List, [], ◌∷◌, map, length, is_some, Some, None, sym, refl, ap, ◌∙◌, ⊎_elim, zero-add, arith}
use lib.ListN.{length-map}
use Rattle.std.proofs.lemmas.Bool.{cases_eq, cases_lt, cond-true, cond-false, eq-eqb, ne_eqb, both_ways}
use Rattle.label.specs.Kind.{Kind, Lawful}
use Rattle.text.specs.declared.packed.Name.{Name}
use Rattle.grammar.specs.Reading.{hang_events}
use Rattle.grammar.specs.Laws.{fault_of}
use Rattle.grammar.specs.Sheets.{text_names}
use Rattle.plan.specs.declared.tables.FreeLink.{FreeLink}
use Rattle.plan.specs.declared.tables.Plan.{Plan}
use Rattle.plan.specs.Model.{Model, model_of, struck}
use Rattle.plan.specs.Sound.{Sound, ascending, atoms_of, count, leads, registered, rows}
use Rattle.placing.specs.Counts as counts
use Rattle.placing.specs.Laws.{HangLaws, is_open}
use Rattle.placing.specs.Links.{open_link, opened, link_at}
use Rattle.grammar.specs.Events.{name_standings, summed}
use Rattle.placing.specs.Placing.{Placing, begun, links_in, place_all, refreed}
use Rattle.placing.specs.NamesOf.{packed_names}
use Rattle.placing.proofs.HangLaws.{hang_laws}
use Rattle.placing.proofs.KeepAtoms.{last_fits}
use Rattle.placing.proofs.KeepCells.{climb}
use Rattle.placing.proofs.KeepEach.{distinct_once}
use Rattle.placing.proofs.KeepGoing.{Going, goes_all}
use Rattle.placing.proofs.KeepNames.{opened_least}
use Rattle.placing.proofs.KeepPlan.{model_sound}
use Rattle.placing.proofs.NamesOf.{names_right}
use Rattle.placing.proofs.Ordering.{orderly_text}
use Rattle.placing.proofs.Staying.{all_labels}
use Rattle.showing.specs.Shown.{plan_events, shown}
use Rattle.showing.specs.Reading.{stream}
use Rattle.showing.proofs.Freed.{names, count_here, count_later}
use Rattle.showing.proofs.Meeting.{Facts, facts}
use Rattle.showing.proofs.Readable.{shown_readable}
use Rattle.roundtrip.specs.Roundtrip.{rehung, Taken, TakenAgain}
use Rattle.roundtrip.proofs.Sizes.{stream_clean, atoms_counted, cells_counted, labels_counted}
use Rattle.roundtrip.proofs.Registers.{same_register}
use Rattle.roundtrip.proofs.Once.{standings, open_once, other_twice}
use Rattle.roundtrip.proofs.Tallies.{same_length}

-- a name is open where a row has it
open_counted : (n : Name) (fs : List FreeLink) → (0 < count n.packed (names fs) → is_open n fs ≡ true) × (count n.packed (names fs) ≡ 0 → is_open n fs ≡ false)
unfolding open_link count
open_counted n [] = (λ l. absurd (omega arith), λ e. refl)
open_counted n (f ∷ fs) =
    let ih = open_counted n fs in
    ⊎_elim
    (λ (e : n.packed ≡ f.name.packed).
    let c = count_here n.packed f.name.packed (names fs) e in
    (λ l. ap is_some (cond-true (eqb f.name.packed n.packed) (Some f.link) (open_link n fs) (eq-eqb f.name.packed n.packed (sym e))), λ z. absurd (omega arith)))
    (λ (e : n.packed ≡ f.name.packed → ⊥).
    let c = count_later n.packed f.name.packed (names fs) e in
    let i : is_open n (f ∷ fs) ≡ is_open n fs = ap is_some (cond-false (eqb f.name.packed n.packed) (Some f.link) (open_link n fs) (ne_eqb f.name.packed n.packed (λ g. e (sym g)))) in
    (λ l. i ∙ ih.0 (omega arith), λ z. i ∙ ih.1 (omega arith)))
    (cases_eq n.packed f.name.packed)

refreed_names : (b : List ℕ) (fs : List FreeLink) → names (map (refreed b) fs) ≡ names fs
refreed_names b [] = refl
refreed_names b (f ∷ fs) = ap (λ ns. f.name.packed ∷ ns) (refreed_names b fs)

begun_goes : {L : Type 0} (k : Kind L) → Going k 0 0 (begun struck)
unfolding leads rows climb ascending registered last_fits
begun_goes k = record { root = refl; depth = refl; sets = refl; labels = refl; homes = refl; ports = refl; room = refl; up = refl; register = refl }

module _ {L : Type 0} (k : Kind L) (law : Lawful k) (p : Plan L) (s : Sound k p) where
  abbrev pub m : Model L
  m = model_of p

  abbrev pub text : List ℕ
  text = shown k m

  pub f : Facts k m
  f = facts k p s

  pub back : hang_events k 0 text ≡ stream (plan_events m)
  back = (shown_readable k law p s).back

  pub clean : fault_of (hang_events k 0 text) ≡ None
  clean = ap fault_of back ∙ stream_clean (plan_events m)

  laws : HangLaws k struck text
  laws = hang_laws k law struck text clean

  -- how often a name stands in the events
  pub events_standings : (n : ℕ) → count n (name_standings (hang_events k 0 text)) ≡ standings k m f n
  events_standings n = ap (count n) (ap name_standings back)

  free_few : (n : ℕ) → count n (names (rehung k m).free) ≤ 1
  free_few n =
      let links : List ℕ = links_in (struck {L = L}) (text_names text) in
      let last : Placing L = place_all k (link_at (text_names text) links) (begun struck) (hang_events k 0 text) in
      let a = ap (count n) (refreed_names last.became (opened [] (text_names text) links)) in
      let b = opened_least n [] (text_names text) links in
      let c = distinct_once (packed_names (text_names text)) n (names_right k text clean).apart in
      omega arith

  free_counts : (n : ℕ) → count n (names (rehung k m).free) ≡ count n (names m.free)
  unfolding open_link
  free_counts n =
      let o = open_counted (record { packed = n }) (rehung k m).free in
      let l = laws.open_names (record { packed = n }) in
      let e = events_standings n in
      let w = free_few n in
      let d = distinct_once (names m.free) n f.apart in
      ⊎_elim
      (λ (h : 0 < count n (names m.free)).
      let one = (open_once k m f n h).1 in
      let t = cond-true (eqb (count n (name_standings (hang_events k 0 text))) 1) true false (eq-eqb _ 1 (e ∙ one)) in
      ⊎_elim
      (λ (g : 0 < count n (names (rehung k m).free)). omega arith)
      (λ (g : count n (names (rehung k m).free) ≤ 0). absurd (both_ways (is_open (record { packed = n }) (rehung k m).free) (o.1 (omega arith)) (l ∙ t)))
      (cases_lt 0 (count n (names (rehung k m).free))))
      (λ (h : count n (names m.free) ≤ 0).
      let not_one : (standings k m f n ≡ 1 → ⊥) = λ i. (let x = other_twice k m f n (omega arith) (omega arith) in omega arith) in
      let t = cond-false (eqb (count n (name_standings (hang_events k 0 text))) 1) true false (ne_eqb _ 1 (λ i. not_one (sym e ∙ i))) in
      ⊎_elim
      (λ (g : 0 < count n (names (rehung k m).free)). absurd (both_ways (is_open (record { packed = n }) (rehung k m).free) (l ∙ t) (o.0 g)))
      (λ (g : count n (names (rehung k m).free) ≤ 0). omega arith)
      (cases_lt 0 (count n (names (rehung k m).free))))
      (cases_lt 0 (count n (names m.free)))

  pub same_register_again : (rehung k m).register ≡ m.register
  unfolding atoms_of
  same_register_again =
      let links : List ℕ = links_in (struck {L = L}) (text_names text) in
      let link = link_at (text_names text) links in
      let last = place_all k link (begun struck) (hang_events k 0 text) in
      let going = goes_all k link (adding_keeps k law) 0 0 false (begun struck) (hang_events k 0 text) (orderly_text k law text) clean (begun_goes k) in
      same_register k law last.atoms m.atoms last.register m.register
      (λ l. all_labels k link l (begun struck) (hang_events k 0 text) ∙ (zero-add _ ∙ (ap (summed (counts.label_at k l)) back ∙ labels_counted k m f l)))
      going.labels s.labels going.register (model_sound k p s).register

  pub taken : Taken k m
  taken =
      let a = atoms_counted k m f in
      let b = cells_counted k m f in
      let c = ap (summed counts.labels_at) back in
      let d = ap (summed counts.cells_at) back in
      let e = laws.atom_number in
      let g = laws.cell_number in
      record {
        clean = clean;
        atoms = omega arith;
        cells = omega arith;
        free = sym (length-map (rehung k m).free (λ f. f.name.packed)) ∙ (same_length (names (rehung k m).free) (names m.free) free_few free_counts ∙ length-map m.free (λ f. f.name.packed));
        labels = ap length same_register_again;
      }

pub taken_again : {L : Type 0} (k : Kind L) → Lawful k → TakenAgain k
taken_again k law p s = taken k law p s
