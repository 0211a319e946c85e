-- A text hung on a sound plan leaves a sound plan.
use Rattle.std.proofs.Common.{◌≡◌, ℕ, ◌+◌, ◌<◌, ◌≤◌, Bool, true, false, ◌&&◌, eqb, ltb, leb, List, [], ◌∷◌, ◌++◌, map, length, get_or, filter, sym, refl, ap, ◌∙◌, subst, ap₂, ⊎_elim, arith, length-append}
use Rattle.std.proofs.lemmas.List.{length-map, map-append}
use Rattle.std.proofs.lemmas.Bool.{and_parts, cases_lt, eq-eqb, eqb-true, lt-ltb, ltb-true}
use Rattle.label.specs.Kind.{Kind}
use Rattle.text.specs.declared.packed.Name.{Name}
use Rattle.grammar.specs.declared.stand.Standing.{Standing}
use Rattle.grammar.specs.Names.{position}
use Rattle.grammar.specs.Reading.{Events}
use Rattle.plan.specs.declared.tables.FreeLink.{FreeLink}
use Rattle.plan.specs.Model.{Model, Node}
use Rattle.std.specs.List.{list_all}
use Rattle.plan.specs.Sound.{count, distinct, ends, open_name, port_links, rows}
use Rattle.plan.proofs.Each.{each_map}
use Rattle.placing.specs.Keeps.{AddingKeeps, KeepsSound, OfText, SoundModel, connectors_of, fit_standing}
use Rattle.placing.specs.Links.{free_after, link_at, opened, stays, unused}
use Rattle.grammar.specs.Events.{name_standings}
use Rattle.placing.specs.Placing.{Placing, become, begun, hung, links_in, place_all, refreed, relinked}
use Rattle.placing.proofs.KeepEach.{count_append, distinct_once, each_join, each_kept, each_standing, once_distinct, standing_each}
use Rattle.placing.proofs.KeepAbsorb.{Twice, absorbs, absorbs_below, ends_absorbed, flat, joined_all, length_rows, map_rows, rows_below}
use Rattle.placing.proofs.KeepAtoms.{few_links, register_relinked}
use Rattle.placing.proofs.KeepGoing.{Going, goes_all, goes_from}
use Rattle.placing.proofs.KeepNames.{free_closed, free_links, free_names, key, length_links, names_kept, news, news_taken, opened_least, opened_new, packed_names, weighed, weighs}
use Rattle.placing.proofs.KeepStands.{all_stand, became_all, few_pairs, paired, ports_all, stood, stood_names}
use Rattle.placing.proofs.KeepTally.{kept_least, kept_passes, many_left, rows_once, tally, tally_append, tally_count, tally_length}

-- ** the unused numbers

module _ {L : Type 0} (m : Model L) where
  pub unused_once : (x : ℕ) → count x (unused m) ≤ 1
  unfolding unused
  unused_once x = omega (arith, kept_least (λ y. eqb (count y (ends m)) 0) x (rows 0 8256), rows_once 0 8256 x)

  pub unused_new : (x : ℕ) → 0 < count x (unused m) → count x (ends m) ≡ 0
  unfolding unused
  unused_new x h = eqb-true (count x (ends m)) 0 (kept_passes (λ y. eqb (count y (ends m)) 0) x (rows 0 8256) h)

  pub unused_below : (x : ℕ) → 0 < count x (unused m) → x < 8256
  unfolding unused
  unused_below x h =
      let l = kept_least (λ y. eqb (count y (ends m)) 0) x (rows 0 8256) in
      ltb-true x 8256 (each_standing (λ y. ltb y 8256) (rows 0 8256) x (rows_below 0 8256 8256 (omega arith)) (omega arith))

  pub unused_many : Twice (ends m) → 16512 ≤ length (ends m) + (length (unused m) + length (unused m))
  unfolding unused
  unused_many two = let n = length_rows 0 8256 in omega (arith, many_left (rows 0 8256) (ends m) (rows_once 0 8256) two)

-- ** the names of free links

opens_fit : (free : List FreeLink) (ss : List Standing) (links : List ℕ) → list_all fit_standing ss ≡ true → list_all (λ f. open_name f.name) (opened free ss links) ≡ true
unfolding opened
opens_fit free [] links h = refl
opens_fit free (s ∷ ss) [] h = refl
opens_fit free (s ∷ ss) (x ∷ xs) h =
    let both = and_parts (fit_standing s) (list_all fit_standing ss) h in
    let ih = opens_fit free ss xs both.1 in
    let fit = both.0 in
    grind arith

names_same : (b : List ℕ) (free : List FreeLink) → free_names (map (refreed b) free) ≡ free_names free
names_same b [] = refl
names_same b (f ∷ fs) = ap (λ ts. f.name.packed ∷ ts) (names_same b fs)

ports_same : {L : Type 0} (b : List ℕ) (atoms : List (Node L)) → list_all (λ a. leb (length a.links) 8) (map (relinked b) atoms) ≡ list_all (λ a. leb (length a.links) 8) atoms
ports_same b [] = refl
ports_same b (a ∷ atoms) = ap₂ (λ n v. leb n 8 && v) (length-map a.links (become b)) (ports_same b atoms)

length_flat : (cs : List (ℕ × ℕ)) → length (flat cs) ≡ length cs + length cs
unfolding flat
length_flat [] = refl
length_flat (c ∷ cs) = let ih = length_flat cs in omega arith

module _ {L : Type 0} (k : Kind L) (adding : AddingKeeps k) (m : Model L) (names : List Standing) (es : Events L) (s : SoundModel k m) (t : OfText k names es) where
  links : List ℕ
  links = links_in m names

  link : Name → ℕ
  link = link_at names links

  placed : Placing L
  placed = place_all k link (begun m) es

  free : List FreeLink
  free = free_after m.free names links

  pairs : List ℕ
  pairs = flat (paired link 0 es)

  new_links : List ℕ
  new_links = news m.free (unused m) names

  all_ends : List ℕ
  all_ends = port_links placed.atoms ++ free_links free

  going : Going k 0 0 placed
  unfolding placed
  going = goes_all k link adding 0 0 false (begun m) es t.ordered t.faultless (goes_from k link adding m s)

  two_before : Twice (ends m)
  two_before x h = eqb-true (count x (ends m)) 2 (each_standing (λ y. eqb (count y (ends m)) 2) (ends m) x s.pairs h)

  -- every end, old or new
  total : (p : ℕ → Bool) → tally p (pairs ++ all_ends) ≡ tally p (ends m) + (tally p new_links + tally p new_links)
  unfolding links link placed free pairs new_links all_ends
  total p =
      let kept = filter (stays names) m.free in
      let fresh = opened m.free names links in
      let ports = ports_all k link adding p 0 0 false (begun m) es t.ordered (goes_from k link adding m s) in
      let stand = all_stand k link p 0 0 false 0 es t.ordered t.faultless in
      let named : stood link es ≡ map (λ x. get_or links (position (key x) names) 0) (name_standings es) = stood_names (λ x. get_or links (position (key x) names) 0) es in
      let weight = ap (tally p) named ∙ weighs p names links (name_standings es) (length_links m.free (unused m) names) t.different t.told in
      let sums = weighed p m.free (unused m) names in
      let shut = free_closed p names m.free t.different s.apart in
      let parts : tally p (free_links free) ≡ tally p (free_links kept) + tally p (free_links fresh) = ap (tally p) (map-append (λ f. f.link) kept fresh) ∙ tally_append p (free_links kept) (free_links fresh) in
      let a = tally_append p (flat (paired link 0 es)) all_ends in
      let b = tally_append p (port_links placed.atoms) (free_links free) in
      let c = tally_append p (port_links m.atoms) (free_links m.free) in
      omega arith

  total_count : (x : ℕ) → count x (pairs ++ all_ends) ≡ count x (ends m) + (count x new_links + count x new_links)
  total_count x =
      let e = total (eqb x) in
      let a = tally_count x (pairs ++ all_ends) in
      let b = tally_count x (ends m) in
      let c = tally_count x new_links in
      omega arith

  total_length : length (pairs ++ all_ends) ≡ length (ends m) + (length new_links + length new_links)
  total_length =
      let e = total (λ x. true) in
      let a = tally_length (pairs ++ all_ends) in
      let b = tally_length (ends m) in
      let c = tally_length new_links in
      omega arith

  module _ (few_atoms : length (hung k m names es).atoms ≤ 1024) (few_free : length (hung k m names es).free ≤ 64) where
    -- there are numbers for all names
    numbers_suffice : length new_links ≤ length (unused m)
    unfolding links link placed free pairs all_ends
    numbers_suffice =
        let many = unused_many m two_before in
        let ports = few_links placed.atoms going.ports in
        let atoms = length-map placed.atoms (relinked placed.became) in
        let rows = length-map free (refreed placed.became) in
        let ends_free = length-map free (λ f. f.link) in
        let few = few_pairs k link 0 0 false 0 es t.ordered in
        let flat_length = length_flat (paired link 0 es) in
        let a = length-append (flat (paired link 0 es)) all_ends in
        let b = length-append (port_links placed.atoms) (free_links free) in
        let sum = total_length in
        let c : length placed.atoms ≤ 1024 = omega (arith, few_atoms) in
        let d : length free ≤ 64 = omega (arith, few_free) in
        let e : connectors_of es ≤ 64 = t.few in
        omega arith

    new_once : (x : ℕ) → count x new_links ≤ count x (unused m)
    unfolding new_links
    new_once x = news_taken x m.free (unused m) names numbers_suffice

    twice_all : Twice (pairs ++ all_ends)
    twice_all x h =
        let sum = total_count x in
        let new = new_once x in
        let once = unused_once m x in
        let old = unused_new m x in
        let two = two_before x in
        grind arith

    below_all : list_all (λ x. ltb x 8256) (pairs ++ all_ends) ≡ true
    below_all =
        standing_each (λ x. ltb x 8256) (pairs ++ all_ends) (λ x h.
        let sum = total_count x in
        let new = new_once x in
        ⊎_elim
        (λ (l : 0 < count x (ends m)). each_standing (λ y. ltb y 8256) (ends m) x s.links l)
        (λ (l : count x (ends m) ≤ 0). lt-ltb x 8256 (unused_below m x (omega arith)))
        (cases_lt 0 (count x (ends m))))

    became_is : placed.became ≡ joined_all (paired link 0 es) (rows 0 8256)
    unfolding placed
    became_is = became_all k link (begun m) es

    ends_are : ends (hung k m names es) ≡ map (become (joined_all (paired link 0 es) (rows 0 8256))) all_ends
    unfolding links link placed free all_ends
    ends_are =
        ends_absorbed placed.became placed.atoms free
        ∙ ap (λ b. map (become b) (port_links placed.atoms ++ free_links free)) became_is

    below_rows : list_all (λ z. ltb z (length (rows 0 8256))) (pairs ++ all_ends) ≡ true
    below_rows = ap (λ n. list_all (λ z. ltb z n) (pairs ++ all_ends)) (length_rows 0 8256) ∙ below_all

    twice_after : Twice (ends (hung k m names es))
    unfolding pairs
    twice_after =
        subst Twice (sym ends_are)
        (absorbs (paired link 0 es) all_ends (rows 0 8256) below_rows (subst Twice (sym (map_rows 8256 (pairs ++ all_ends))) twice_all))

    below_after : list_all (λ z. ltb z 8256) (ends (hung k m names es)) ≡ true
    unfolding pairs
    below_after =
        ap (list_all (λ z. ltb z 8256)) ends_are
        ∙ absorbs_below 8256 (paired link 0 es) all_ends (rows 0 8256) (rows_below 0 8256 8256 (omega arith)) below_rows

    names_after : list_all (λ f. open_name f.name) free ≡ true
    unfolding links free
    names_after =
        each_join (λ f. open_name f.name) (filter (stays names) m.free) (opened m.free names links)
        (each_kept (λ f. open_name f.name) (stays names) m.free s.names) (opens_fit m.free names links t.fit)

    apart_after : distinct (free_names free) ≡ true
    unfolding links free
    apart_after =
        let kept = filter (stays names) m.free in
        let fresh = opened m.free names links in
        once_distinct (free_names free) (λ x.
        let parts : count x (free_names free) ≡ count x (free_names kept) + count x (free_names fresh) = ap (count x) (map-append (λ f. f.name.packed) kept fresh) ∙ count_append x (free_names kept) (free_names fresh) in
        let a = names_kept x (stays names) m.free in
        let b = opened_least x m.free names links in
        let c = distinct_once (free_names m.free) x s.apart in
        let d = distinct_once (packed_names names) x t.different in
        let e = opened_new x m.free names links in
        grind arith)

    keeps : SoundModel k (hung k m names es)
    unfolding links link placed free
    keeps =
        record {
          root = going.root;
          depth = going.depth;
          sets = going.sets;
          labels = each_map (λ a. k.mine a.label) (relinked placed.became) placed.atoms ∙ going.labels;
          homes = each_map (λ a. ltb a.cell (length placed.cells)) (relinked placed.became) placed.atoms ∙ going.homes;
          ports = ports_same placed.became placed.atoms ∙ going.ports;
          links = below_after;
          pairs = standing_each (λ x. eqb (count x (ends (hung k m names es))) 2) (ends (hung k m names es)) (λ x h. eq-eqb (count x (ends (hung k m names es))) 2 (twice_after x h));
          names = each_map (λ f. open_name f.name) (refreed placed.became) free ∙ names_after;
          apart = ap distinct (names_same placed.became free) ∙ apart_after;
          register = register_relinked k placed.became placed.atoms placed.register ∙ going.register;
        }

-- hanging keeps a sound plan sound
pub keeps_sound : {L : Type 0} (k : Kind L) → AddingKeeps k → KeepsSound k
keeps_sound k adding m names es s t few_atoms few_free = keeps k adding m names es s t few_atoms few_free

-- there is an unused number for each name that takes one
pub numbers_enough : {L : Type 0} (k : Kind L) → AddingKeeps k → (m : Model L) (names : List Standing) (es : Events L) → SoundModel k m → OfText k names es → length (hung k m names es).atoms ≤ 1024 → length (hung k m names es).free ≤ 64 → length (news m.free (unused m) names) ≤ length (unused m)
unfolding new_links
numbers_enough k adding m names es s t few_atoms few_free = numbers_suffice k adding m names es s t few_atoms few_free
