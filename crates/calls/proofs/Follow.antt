-- A call on a plan that calls made leaves the plan that these make with it.
use Rattle.sameness.proofs.Sounding.{atoms_by}
use Rattle.std.proofs.Common.{◌≡◌, ℕ, zero, suc, ◌<◌, ◌≤◌, min, Bool, true, false, cond, ◌&&◌, eqb, leb, List, [], ◌∷◌, ◌++◌, map, length, take, is_some, is_ok, Some, None, Ok, Err, Option, Result, sym, refl, ap, ◌∙◌, subst, arith, MatchResult}
use mathlib.Core.Bool.{false≢true}
use lib.ListN.{length-map}
use Rattle.std.proofs.lemmas.Bool.{and_parts, leb-true, ne_eqb}
use Rattle.fault.specs.declared.Refusal.TheVariants.{FullTables, ShortBuffer, UnsoundPlan}
use Rattle.fault.specs.declared.Fault.{Fault}
use Rattle.label.specs.Kind.{Kind, Lawful}
use Rattle.text.specs.declared.packed.Name.{Name}
use Rattle.grammar.specs.Reading.{hang_events}
use Rattle.grammar.specs.Laws.{fault_of}
use Rattle.plan.specs.declared.tables.Cell.{Cell}
use Rattle.plan.specs.declared.tables.FreeLink.{FreeLink}
use Rattle.plan.specs.declared.tables.Plan.{Plan}
use Rattle.plan.specs.Model.{Model, SameTables, Tables, model_of, node_of, strike_answer, struck, tables_of}
use Rattle.plan.specs.Sound.{Sound, atom_limit, atoms_of, cell_limit, free_limit, is_root, label_limit, room}
use Rattle.plan.specs.Tests.{tables_test}
use Rattle.plan.proofs.Deciding.{decided}
use Rattle.placing.specs.Answer.{hang_answer, hung_text, unless_fault}
use Rattle.placing.specs.Keeps.{SoundModel}
use Rattle.placing.specs.Laws.{is_open}
use Rattle.placing.specs.Links.{open_link}
use Rattle.placing.proofs.KeepPlan.{model_sound}
use Rattle.showing.specs.Shown.{show_answer, show_buffer, shown}
use Rattle.sameness.specs.Renaming.{Renamed, free_by, node_by, renamed_by}
use Rattle.sameness.proofs.Renaming.{renamed_equivalence}
use Rattle.sameness.proofs.Showing.{renaming_shown}
use Rattle.sameness.proofs.Texts.{renaming_hung}
use Rattle.calls.specs.Calls.{Call, strike, hang, show, Limits, accepts, after, hang_on, limits_of, made, next, strike_on, within}
use Rattle.calls.specs.CallLaws.{FitLimits, PlanLaws}
use Rattle.calls.specs.Made.{GoesOn, HangFollows, MadeBy, MadeLaw, ShowFollows, StrikeFollows, begins, buffer_after}
use Rattle.calls.proofs.After.{after_law, after_more, by_answer, by_strike}

-- ** the tables and what they stand for

abbrev model_in : {L : Type 0} → Tables L → Model L
model_in t = record {
  atoms = map node_of (take t.atom_count t.atoms);
  cells = take t.cell_count t.cells;
  free = take t.free_count t.free;
  register = take t.label_count t.register;
}

abbrev test_in : {L : Type 0} → Kind L → Tables L → Bool
test_in k t =
    (leb t.atom_count (room atom_limit t.atoms) && (leb t.cell_count (room cell_limit t.cells)
    && (leb t.free_count (room free_limit t.free) && leb t.label_count (room label_limit t.register))))
    && tables_test k (take t.cell_count t.cells) (take t.atom_count t.atoms) (take t.free_count t.free) (take t.label_count t.register)

model_kept : {L : Type 0} (p q : Plan L) → tables_of q ≡ tables_of p → model_of q ≡ model_of p
model_kept p q e = ap model_in e

sound_kept : {L : Type 0} (k : Kind L) (p q : Plan L) → tables_of q ≡ tables_of p → Sound k p → Sound k q
sound_kept k p q e s = (decided k q).0 (ap (test_in k) e ∙ (decided k p).1 s)

limits_kept : {L : Type 0} (p q : Plan L) → SameTables p q → limits_of q ≡ limits_of p
limits_kept p q s =
    ap (λ n. record { atoms = min n 1024; cells = min (length q.cells.now) 128; free = min (length q.free.now) 64; labels = min (length q.register.now) 1024 }) s.atom_rows
    ∙ ap (λ n. record { atoms = min (length p.atoms.now) 1024; cells = min n 128; free = min (length q.free.now) 64; labels = min (length q.register.now) 1024 }) s.cell_rows
    ∙ ap (λ n. record { atoms = min (length p.atoms.now) 1024; cells = min (length p.cells.now) 128; free = min n 64; labels = min (length q.register.now) 1024 }) s.free_rows
    ∙ ap (λ n. record { atoms = min (length p.atoms.now) 1024; cells = min (length p.cells.now) 128; free = min (length p.free.now) 64; labels = min n 1024 }) s.label_rows

some_root : (n : ℕ) (cells : List Cell) → is_root (take n cells) ≡ true → 0 < n
some_root zero cells h = absurd (let z : ◌≡◌ {A = ℕ} 0 1 = cc in omega arith)
some_root (suc n) cells h = omega arith

-- a sound plan has fit limits
pub fit_limits : {L : Type 0} (k : Kind L) (p : Plan L) → Sound k p → FitLimits (limits_of p)
fit_limits k p s =
    let atoms = and_parts (leb p.atom_count (room atom_limit p.atoms.now)) _ s.counts in
    let cells = and_parts (leb p.cell_count (room cell_limit p.cells.now)) _ atoms.1 in
    let few = leb-true p.cell_count (room cell_limit p.cells.now) cells.0 in
    let some = some_root p.cell_count p.cells.now s.root in
    record { root = omega arith; atoms = omega arith; cells = omega arith; free = omega arith; labels = omega arith }

row_same : (n : ℕ) → eqb n 0 ≡ eqb (min n 128) 0
row_same zero = refl
row_same (suc n) = ne_eqb (suc n) 0 (λ e. omega arith) ∙ sym (ne_eqb (min (suc n) 128) 0 (λ e. omega arith))

-- ** one call more

begins_more : (calls more : List Call) → begins calls ≡ true → begins (calls ++ more) ≡ true
begins_more [] more h = absurd (let z : ◌≡◌ {A = ℕ} 0 1 = cc in omega arith)
begins_more (strike ∷ calls) more h = refl
begins_more (hang text ∷ calls) more h = absurd (let z : ◌≡◌ {A = ℕ} 0 1 = cc in omega arith)
begins_more (show n ∷ calls) more h = absurd (let z : ◌≡◌ {A = ℕ} 0 1 = cc in omega arith)

-- ** links renamed

open_renamed : (f : ℕ → ℕ) (n : Name) (free : List FreeLink) → is_open n (map (free_by f) free) ≡ is_open n free
unfolding open_link
open_renamed f n [] = refl
open_renamed f n (x ∷ free) =
    let ih = open_renamed f n free in
    elim (eqb x.name.packed n.packed) as (λ v. is_some (cond v (Some (f x.link)) (open_link n (map (free_by f) free))) ≡ is_some (cond v (Some x.link) (open_link n free))) [ true ↦ refl | false ↦ ih ]

within_renamed : {L : Type 0} (l : Limits) (f : ℕ → ℕ) (m : Model L) → within l (renamed_by f m) ≡ within l m
within_renamed l f m =
    ap (λ n. leb n l.atoms && (leb (length m.cells) l.cells && (leb (length (map (free_by f) m.free)) l.free && leb (length m.register) l.labels))) (length-map m.atoms (node_by f))
    ∙ ap (λ n. leb (length m.atoms) l.atoms && (leb (length m.cells) l.cells && (leb n l.free && leb (length m.register) l.labels))) (length-map m.free (free_by f))

pub within_same : {L : Type 0} (l : Limits) (m n : Model L) → Renamed m n → within l n ≡ within l m
within_same l m n r = ap (within l) r.same ∙ within_renamed l r.to m

-- what the laws say of a plan they say of it with its links renamed
laws_renamed : {L : Type 0} (k : Kind L) (l : Limits) (m n : Model L) (ts : List (List ℕ)) → Renamed m n → SoundModel k n → PlanLaws k l m ts → PlanLaws k l n ts
laws_renamed {L} k l m n ts r s h =
    let f = r.to in
    record {
      sound = s;
      fits = within_same l m n r ∙ h.fits;
      open_names = λ x. ap (λ (o : Model L). is_open x o.free) r.same ∙ open_renamed f x m.free ∙ h.open_names x;
      labels = λ x. ap (λ (o : Model L). atoms_of k x o.atoms) r.same ∙ atoms_by k f x m.atoms ∙ h.labels x;
      atom_number = ap (λ (o : Model L). length o.atoms) r.same ∙ length-map m.atoms (node_by f) ∙ h.atom_number;
      cell_number = ap (λ (o : Model L). length o.cells) r.same ∙ h.cell_number;
    }

-- ** what a call leaves

same_as : {L : Type 0} (m n m' n' : Model L) → m' ≡ m → n' ≡ n → Renamed m n → Renamed m' n'
same_as m n m' n' e d r = subst (λ a. Renamed a n') (sym e) (subst (λ b. Renamed m b) (sym d) r)

itself : {L : Type 0} (m : Model L) → Renamed m m
itself {L} m = (renamed_equivalence L).reflexive m

made_kept : {L : Type 0} (k : Kind L) (p q : Plan L) → SameTables p q → (calls : List Call) (c : Call) → made k (limits_of q) (calls ++ (c ∷ [])) ≡ next k (limits_of p) (made k (limits_of p) calls) c
made_kept k p q s calls c = ap (λ l. made k l (calls ++ (c ∷ []))) (limits_kept p q s) ∙ after_more k (limits_of p) struck calls c

sound_left : {L : Type 0} (k : Kind L) (p q : Plan L) (r : Result (Unit {0}) Fault) (new : Model L) → MatchResult r (λ _. model_of q ≡ new) (λ _. tables_of q ≡ tables_of p) → (is_ok r ≡ true → Sound k q) → Sound k p → Sound k q
sound_left k p q (Ok x) new c s h = s refl
sound_left k p q (Err f) new c s h = sound_kept k p q c h

unless_same : (o : Option Fault) (a b : Bool) (x : Fault) → (o ≡ None → a ≡ b) → unless_fault o (cond a (Ok tt) (Err x)) ≡ unless_fault o (cond b (Ok tt) (Err x))
unless_same (Some f) a b x h = refl
unless_same None a b x h = ap (λ v. cond v (Ok tt) (Err x)) (h refl)

both_ways : (a b : Bool) → (a ≡ true → b ≡ true) → (b ≡ true → a ≡ true) → a ≡ b
both_ways true b h g = sym (h refl)
both_ways false true h g = g refl
both_ways false false h g = refl

few : {L : Type 0} (l : Limits) (m : Model L) → FitLimits l → within l m ≡ true → (length m.atoms ≤ 1024) × (length m.free ≤ 64)
few l m fit fits =
    let one = and_parts (leb (length m.atoms) l.atoms) _ fits in
    let two = and_parts (leb (length m.cells) l.cells) _ one.1 in
    let three = and_parts (leb (length m.free) l.free) _ two.1 in
    let a = leb-true (length m.atoms) l.atoms one.0 in
    let f = leb-true (length m.free) l.free three.0 in
    let few_atoms = fit.atoms in
    let few_free = fit.free in
    (omega arith, omega arith)

buffer_same : {L : Type 0} (k : Kind L) (p : Plan L) (old : List ℕ) (r : Result ℕ Fault) → show_buffer k p old r ≡ buffer_after (shown k (model_of p)) old r
buffer_same k p old (Ok n) = refl
buffer_same k p old (Err f) = refl

module _ {L : Type 0} (k : Kind L) where
  module _ (law : Lawful k) where
    pub made_law : MadeLaw k
    made_law p calls h =
        laws_renamed k (limits_of p) (made k (limits_of p) calls) (model_of p) _ h.same (model_sound k p h.sound) (after_law k law (limits_of p) calls (fit_limits k p h.sound)).laws

    goes_on : (p : Plan L) (calls : List Call) → MadeBy k p calls → GoesOn k p calls
    goes_on p calls h = record { made_by = h; laws = made_law p calls h }

    -- ** strike

    strike_same : (p : Plan L) → strike_answer p ≡ strike_on (limits_of p)
    strike_same p = ap (λ v. cond v (Err (record { refusal = UnsoundPlan; place = 0 })) (Ok tt)) (row_same (length p.cells.now))

    struck_once : (l : Limits) → made k l (strike ∷ []) ≡ struck
    unfolding after
    struck_once l = by_strike l (λ r. accepts r (struck {L = L}) struck ≡ struck) (λ f. refl) refl

    strike_anew : (p q : Plan L) (r : Result (Unit {0}) Fault) → MatchResult r (λ _. model_of q ≡ struck) (λ _. tables_of q ≡ tables_of p) → (is_ok r ≡ true → Sound k q) → is_ok r ≡ true → MadeBy k q (strike ∷ [])
    strike_anew p q (Ok x) c s h = record { begun = refl; sound = s refl; same = same_as struck struck (made k (limits_of q) (strike ∷ [])) (model_of q) (struck_once (limits_of q)) c (itself struck) }
    strike_anew p q (Err f) c s h = absurd (false≢true h)

    strike_left : (p q : Plan L) (m : Model L) (r : Result (Unit {0}) Fault) → MatchResult r (λ _. model_of q ≡ struck) (λ _. tables_of q ≡ tables_of p) → Renamed m (model_of p) → Renamed (accepts r struck m) (model_of q)
    strike_left p q m (Ok x) c h = same_as struck struck struck (model_of q) refl c (itself struck)
    strike_left p q m (Err f) c h = same_as m (model_of p) m (model_of q) refl (model_kept p q c) h

    pub strike_follows : (p q : Plan L) (r : Result (Unit {0}) Fault) → r ≡ strike_answer p → MatchResult r (λ _. model_of q ≡ struck) (λ _. tables_of q ≡ tables_of p) → SameTables p q → (is_ok r ≡ true → Sound k q) → StrikeFollows k p q r
    strike_follows p q r is left tables sound =
        let answer = is ∙ strike_same p in
        record {
          anew = λ ok. goes_on q (strike ∷ []) (strike_anew p q r left sound ok);
          answer = answer;
          more = λ calls h.
              let m = made k (limits_of p) calls in
              goes_on q (calls ++ (strike ∷ [])) (record {
                begun = begins_more calls (strike ∷ []) h.begun;
                sound = sound_left k p q r struck left sound h.sound;
                same = same_as (accepts r struck m) (model_of q) (made k (limits_of q) (calls ++ (strike ∷ []))) (model_of q)
                    (made_kept k p q tables calls strike ∙ ap (λ a. accepts a struck m) (sym answer)) refl (strike_left p q m r left h.same);
              });
        }

    -- ** hang

    hung_same : (l : Limits) (m n : Model L) (text : List ℕ) → FitLimits l → SoundModel k m → SoundModel k n → Renamed m n → fault_of (hang_events k 0 text) ≡ None → within l (hung_text k m text) ≡ true → Renamed (hung_text k m text) (hung_text k n text)
    hung_same l m n text fit s t r clean fits =
        let both = few l (hung_text k m text) fit fits in
        (renaming_hung k law).text m n text s t r clean both.0 both.1

    takes_same : (l : Limits) (m n : Model L) (text : List ℕ) → FitLimits l → SoundModel k m → SoundModel k n → Renamed m n → fault_of (hang_events k 0 text) ≡ None → within l (hung_text k n text) ≡ within l (hung_text k m text)
    takes_same l m n text fit s t r clean =
        both_ways (within l (hung_text k n text)) (within l (hung_text k m text))
        (λ h. within_same l (hung_text k n text) (hung_text k m text) (hung_same l n m text fit t s ((renamed_equivalence L).symmetric m n r) clean h) ∙ h)
        (λ h. within_same l (hung_text k m text) (hung_text k n text) (hung_same l m n text fit s t r clean h) ∙ h)

    pub hang_follows : (p q : Plan L) (text : List ℕ) (r : Result (Unit {0}) Fault) → r ≡ hang_answer k p text → MatchResult r (λ _. model_of q ≡ hung_text k (model_of p) text) (λ _. tables_of q ≡ tables_of p) → SameTables p q → (is_ok r ≡ true → Sound k q) → HangFollows k p q text r
    hang_follows p q text r is left tables sound calls h =
        let l = limits_of p in
        let m = made k l calls in
        let n = model_of p in
        let fit = fit_limits k p h.sound in
        let s = (after_law k law l calls fit).laws.sound in
        let t = model_sound k p h.sound in
        let full : Fault = record { refusal = FullTables; place = 0 } in
        let answer : r ≡ hang_on k l m text =
        is ∙ ap (λ v. unless_fault (fault_of (hang_events k 0 text)) (cond v (cond (within l (hung_text k n text)) (Ok tt) (Err full)) (Err (record { refusal = UnsoundPlan; place = 0 })))) ((decided k p).1 h.sound)
        ∙ unless_same (fault_of (hang_events k 0 text)) (within l (hung_text k n text)) (within l (hung_text k m text)) full (takes_same l m n text fit s t h.same) in
        let made_same : r ≡ hang_on k l m text → Renamed (accepts (hang_on k l m text) (hung_text k m text) m) (model_of q) =
        by_answer (fault_of (hang_events k 0 text)) (within l (hung_text k m text)) full (λ a. r ≡ a → Renamed (accepts a (hung_text k m text) m) (model_of q))
        (λ f e. same_as m n m (model_of q) refl (model_kept p q (subst (λ a. MatchResult a (λ _. model_of q ≡ hung_text k n text) (λ _. tables_of q ≡ tables_of p)) e left)) h.same)
        (λ clean fits e.
        same_as (hung_text k m text) (hung_text k n text) (hung_text k m text) (model_of q) refl
        (subst (λ a. MatchResult a (λ _. model_of q ≡ hung_text k n text) (λ _. tables_of q ≡ tables_of p)) e left) (hung_same l m n text fit s t h.same clean fits)) in
        record {
          answer = answer;
          more = goes_on q (calls ++ (hang text ∷ [])) (record {
            begun = begins_more calls (hang text ∷ []) h.begun;
            sound = sound_left k p q r (hung_text k n text) left sound h.sound;
            same = same_as (accepts (hang_on k l m text) (hung_text k m text) m) (model_of q) (made k (limits_of q) (calls ++ (hang text ∷ []))) (model_of q) (made_kept k p q tables calls (hang text)) refl (made_same answer);
          });
        }

    -- ** show

    pub show_follows : (p : Plan L) (old new : List ℕ) (r : Result ℕ Fault) → r ≡ show_answer k p (length old) → new ≡ show_buffer k p old r → ShowFollows k p old new r
    show_follows p old new r is bytes calls h =
        let l = limits_of p in
        let m = made k l calls in
        let n = model_of p in
        let e = (renaming_shown k).text m n h.same in
        let short : Fault = record { refusal = ShortBuffer; place = 0 } in
        record {
          answer =
              is ∙ ap (λ v. cond v (cond (leb (length (shown k n)) (length old)) (Ok (length (shown k n))) (Err short)) (Err (record { refusal = UnsoundPlan; place = 0 }))) ((decided k p).1 h.sound)
              ∙ ap (λ t. cond (leb (length t) (length old)) (Ok (length t)) (Err short)) e;
          bytes = bytes ∙ buffer_same k p old r ∙ ap (λ t. buffer_after t old r) e;
          more = goes_on p (calls ++ (show (length old) ∷ [])) (record {
            begun = begins_more calls (show (length old) ∷ []) h.begun;
            sound = h.sound;
            same = same_as m n (made k l (calls ++ (show (length old) ∷ []))) n (after_more k l struck calls (show (length old))) refl h.same;
          });
        }
