-- A shown plan that is hung again shows the same.
use Rattle.std.proofs.lemmas.List.Elements.{filter-append}
use Rattle.showing.proofs.Lists.{kept_map, map_flat}
use Rattle.std.proofs.lemmas.Simd.{map-map}
use Rattle.std.proofs.Common.{◌≡◌, ℕ, ◌+◌, ◌<◌, ◌≤◌, Bool, true, not, eqb, List, [], ◌∷◌, ◌++◌, map, length, get_or, is_some, Some, None, filter, Option, sym, refl, ap, ◌∙◌, subst, ap₂, ⊎_elim, append-nil, arith, length-append}
use lib.ListN.{length-map}
use Rattle.std.specs.List.{AllByRecursion as All}
use Rattle.std.proofs.lemmas.Bool.{and_parts, cases_lt, cond-true, eq-eqb, eqb-true, false≢true}
use Rattle.label.specs.Kind.{Kind, Lawful}
use Rattle.text.specs.declared.packed.Name.{Name}
use Rattle.grammar.specs.declared.event.Event.{Event}
use Rattle.grammar.specs.declared.stand.Standing.{Standing}
use Rattle.grammar.specs.Reading.{hang_events}
use Rattle.grammar.specs.Sheets.{text_names}
use Rattle.plan.specs.declared.tables.Cell.{Cell}
use Rattle.plan.specs.declared.tables.FreeLink.{FreeLink}
use Rattle.plan.specs.declared.tables.Plan.{Plan}
use Rattle.plan.specs.Model.{Model, Node, model_of, struck}
use Rattle.std.specs.List.{list_all}
use Rattle.plan.specs.Sound.{Sound, count, is_root, link_limit, no_cell, parentless, rows}
use Rattle.placing.specs.Links.{link_at, opened}
use Rattle.placing.specs.NamesOf.{packed_names, says}
use Rattle.placing.specs.Placing.{Placing, become, begun, links_in, place_all, refreed, relinked}
use Rattle.placing.proofs.KeepAbsorb.{become_rows, length_rows}
use Rattle.placing.proofs.KeepEach.{distinct_once}
use Rattle.placing.proofs.KeepTally.{kept_least, kept_passes}
use Rattle.placing.proofs.NamesOf.{names_right}
use Rattle.std.specs.List.{flat_map}
use Rattle.showing.specs.Walk.{whole_walk, walk, atoms_in}
use Rattle.showing.specs.Shown.{open_name, or_number, place, firsts, numbered, shown_name, step_links, step_events, ties, plan_events, shown}
use Rattle.showing.specs.Text.{text_of}
use Rattle.grammar.specs.Events.{name_standings}
use Rattle.showing.specs.Reading.{names_in}
use Rattle.showing.specs.declared.last.Last.TheVariants as last_word
use Rattle.showing.proofs.Totals.{all_kept, all_weaker, all_of, count_append, count_kept}
use Rattle.showing.proofs.Meeting.{Facts, facts, met_links, met_length}
use Rattle.showing.proofs.Freed.{names, open_found, standings_append, tied, tied_never}
use Rattle.showing.proofs.Named.{firsts_has, firsts_length, place_same}
use Rattle.showing.proofs.Twice.{apart, shown_packed, steps_names}
use Rattle.roundtrip.specs.Roundtrip.{rehung}
use Rattle.roundtrip.proofs.Once.{at_link, closed_twice, open_once, shown_open}
use Rattle.roundtrip.proofs.Tallies.{all_standing, not_longer}
use Rattle.roundtrip.proofs.Taken.{back, clean}
use Rattle.roundtrip.proofs.Order.{names_ordered}
use Rattle.roundtrip.proofs.Preorder.{count_none, kept_alike, place_in}
use Rattle.roundtrip.proofs.Whole.{order, order_covers, order_enough, order_first, order_inner, order_once}
use Rattle.roundtrip.proofs.Placed as placed
use Rattle.roundtrip.proofs.Walked as walked
use Rattle.roundtrip.proofs.Joined.{becomes, stays, stays_back, Tied, tied_all}
use Rattle.roundtrip.proofs.Freely.{firsts_append, firsts_new, firsts_none, freed, open_absent, open_present, place_count, ties_same, ties_skip}
use Rattle.roundtrip.proofs.Linked.{kept_every, link_is, links_are, opened_are}
use Rattle.roundtrip.proofs.Numbered.{firsts_all, firsts_map, map_alike, place_map, steps_alike}

root_one : (cs : List Cell) → is_root cs ≡ true → (get_or cs 0 no_cell).set ≡ 1
root_one [] h = absurd (false≢true h)
root_one (c ∷ cs) h = eqb-true c.set 1 (and_parts (parentless c.parent) (eqb c.set 1) h).1

module _ {L : Type 0} (k : Kind L) (law : Lawful k) (p : Plan L) (sound : Sound k p) where
  abbrev m : Model L
  m = model_of p

  abbrev text : List ℕ
  text = shown k m

  abbrev ns : List Standing
  ns = text_names text

  abbrev ps : List ℕ
  ps = packed_names ns

  fa : Facts k m
  fa = facts k p sound

  abbrev free : List FreeLink
  free = m.free

  abbrev met : List ℕ
  met = met_links k m fa

  abbrev Met : ℕ → Type 0
  Met x = 0 < count x met

  abbrev sp : ℕ → ℕ
  sp = shown_packed k m fa

  -- the standings of names at ports, and in connectors
  abbrev s1 : List ℕ
  s1 = map sp met

  abbrev s2 : List ℕ
  s2 = names_in (ties {L = L} free)

  all_standings : names_in (plan_events m) ≡ s1 ++ s2
  all_standings = standings_append (flat_map (step_events (shown_name m)) (whole_walk m)) (ties free) ∙ ap (λ t. t ++ s2) (steps_names (shown_name m) (whole_walk m))

  text_standings : name_standings (hang_events k 0 text) ≡ s1 ++ s2
  text_standings = ap name_standings (back k law p sound) ∙ all_standings

  -- ** the names of the text

  ps_is : ps ≡ firsts [] (s1 ++ s2)
  ps_is = names_ordered k text (clean k law p sound) ∙ ap (firsts []) text_standings

  ps_once : (c : ℕ) → count c ps ≤ 1
  ps_once c = distinct_once ps c (names_right k text (clean k law p sound)).apart

  tied_one : (c : ℕ) → tied L c free ≤ 1
  tied_one c =
      ⊎_elim
      (λ (l : 0 < count c (names free)). let e = (open_once k m fa c l).0 in omega arith)
      (λ (l : count c (names free) ≤ 0). let e = tied_never L c free (omega arith) in omega arith)
      (cases_lt 0 (count c (names free)))

  -- what stands in a connector is an open name that stands at no port
  tied_open : (c : ℕ) → 0 < tied L c free → (count c s1 ≡ 0) × (0 < count c (names free))
  tied_open c h =
      ⊎_elim
      (λ (l : 0 < count c (names free)). let e = (open_once k m fa c l).0 in (omega arith, l))
      (λ (l : count c (names free) ≤ 0). let e = tied_never L c free (omega arith) in absurd (omega arith))
      (cases_lt 0 (count c (names free)))

  abbrev f1 : List ℕ
  f1 = firsts [] s1

  ps_parts : ps ≡ f1 ++ s2
  ps_parts =
      ps_is
      ∙ (firsts_append [] s1 s2
      ∙ firsts_new f1 s2 (λ c l. let z = (tied_open c l).0 in let n = firsts_none c [] s1 (count_none c) z in let o = tied_one c in omega arith))

  stands_in : (c : ℕ) → 0 < count c (s1 ++ s2) → 0 < count c ps
  stands_in c l = subst (λ xs. 0 < count c xs) (sym ps_is) (place_count c (firsts [] (s1 ++ s2)) (firsts_has c [] (s1 ++ s2) l))

  tied_in : (c : ℕ) → 0 < tied L c free → 0 < count c ps
  tied_in c l = let a = count_append c s1 s2 in stands_in c (omega arith)

  ps_room : length ps ≤ link_limit
  ps_room =
      let a = ap length ps_parts ∙ length-append f1 s2 in
      let b = firsts_length [] s1 in
      let c = length-map met sp in
      let d = met_length k m fa in
      let e = not_longer s2 (names free) tied_one (λ c l. (tied_open c l).1) (λ c. distinct_once (names free) c fa.apart) in
      let g = length-map free (λ f. f.name.packed) in
      let i = fa.few_free in
      omega arith

  ns_room : length ns ≤ link_limit
  ns_room = let a = length-map ns (λ s. s.name.packed) in let b = ps_room in omega arith

  abbrev link : Name → ℕ
  link = link_at ns (links_in (struck {L = L}) ns)

  link_name : (n : Name) → 0 < count n.packed ps → link n ≡ place n.packed ps
  link_name n l = link_is L ns ns_room ps_once n l

  -- ** the plan after the text

  abbrev cells_order : List ℕ
  cells_order = order m.cells fa.top fa.some fa.lead

  once : (r : ℕ) → count r cells_order ≤ 1
  once = order_once m.cells fa.top fa.some fa.lead

  abbrev new_cell : ℕ → Cell
  new_cell = placed.new_cell k link (shown_name m) m cells_order once

  abbrev new_atoms : ℕ → List (Node L)
  new_atoms = placed.new_atoms k link (shown_name m) m cells_order once

  abbrev shown_steps : List (Event L)
  shown_steps = flat_map (step_events (shown_name m)) (whole_walk m)

  start : placed.At k link (begun struck) [] (map new_cell ([] ++ (0 ∷ []))) (place 0 cells_order) (rows 0 link_limit)
  start =
      record {
        atoms = refl;
        cells = ap₂ (λ o j. record { parent = o; set = j } ∷ []) (sym (ap (placed.lifted k link (shown_name m) m cells_order once) fa.top)) (sym (root_one m.cells sound.root));
        inside = sym (order_first m.cells fa.top fa.some fa.lead);
        became = refl;
      }

  abbrev after_walk : Placing L
  after_walk = placed.run k link (begun struck) shown_steps

  at_walk : placed.At k link after_walk (flat_map new_atoms cells_order) (map new_cell cells_order) (place 0 cells_order) (rows 0 link_limit)
  at_walk =
      placed.placed k link (shown_name m) m cells_order once 17 0 (order_enough m.cells fa.top fa.some fa.lead) [] [] (begun struck) [] (rows 0 link_limit)
      (sym (append-nil cells_order)) start

  abbrev last : Placing L
  last = place_all k link (begun struck) (hang_events k 0 text)

  abbrev after_ties : Placing L
  after_ties = placed.run k link after_walk (ties free)

  last_is : last ≡ after_ties
  last_is = ap (place_all k link (begun struck)) (back k law p sound) ∙ placed.run_append k link (begun struck) shown_steps (ties free)

  tied_is : Tied k link ps link_limit ps_room link_name after_walk after_ties (becomes free)
  tied_is =
      tied_all k link ps link_limit ps_room link_name free after_walk (λ c. c) tied_one tied_in (λ c l. refl)
      (record { long = ap length at_walk.became ∙ length_rows 0 link_limit; is = λ q l. ap (λ b. become b (place q ps)) at_walk.became ∙ become_rows link_limit (place q ps) })

  abbrev became : List ℕ
  became = last.became

  became_is : (q : ℕ) → 0 < count q ps → become became (place q ps) ≡ place (becomes free q) ps
  became_is q l = ap (λ (z : Placing L). become z.became (place q ps)) last_is ∙ tied_is.became.is q l

  -- the link of a link after it
  abbrev h : ℕ → ℕ
  h x = become became (link (shown_name m x))

  abbrev again : Model L
  again = rehung k m

  again_cells : again.cells ≡ map new_cell cells_order
  again_cells = ap (λ (z : Placing L). z.cells) last_is ∙ (tied_is.cells ∙ at_walk.cells)

  relink_moved : (i : ℕ) (nodes : List (Node L)) → map (relinked became) (map (placed.moved k link (shown_name m) i) nodes) ≡ map (walked.again m again cells_order h i) nodes
  relink_moved i [] = refl
  relink_moved i (a ∷ nodes) = ap₂ (λ ls t. record { label = a.label; cell = i; links = ls } ∷ t) (map-map (become became) (λ x. link (shown_name m x)) a.links) (relink_moved i nodes)

  again_atoms : again.atoms ≡ flat_map (walked.new_atoms m again cells_order h) cells_order
  again_atoms =
      ap (λ (z : Placing L). map (relinked became) z.atoms) last_is
      ∙ (ap (map (relinked became)) (tied_is.atoms ∙ at_walk.atoms)
      ∙ (map_flat (relinked became) new_atoms cells_order
      ∙ walked.flat_alike (λ r. map (relinked became) (new_atoms r)) (walked.new_atoms m again cells_order h) cells_order
      (all_of (λ r. map (relinked became) (new_atoms r) ≡ walked.new_atoms m again cells_order h r) cells_order (λ r. relink_moved (place r cells_order) (atoms_in r m.atoms)))))

  rowed : walked.Rowed m again cells_order h
  rowed =
      record {
        once = once;
        covers = λ r l. let e = order_covers m.cells fa.top fa.some fa.lead r l in omega arith;
        inner_order = order_inner m.cells fa.top fa.some fa.lead;
        cells = again_cells;
        atoms = again_atoms;
      }

  walk_again : map (walked.bare (λ x. x)) (whole_walk again) ≡ map (walked.bare h) (whole_walk m)
  walk_again =
      ap (λ c. map (walked.bare (λ x. x)) (walk 17 again c)) (sym (order_first m.cells fa.top fa.some fa.lead))
      ∙ walked.walked m again cells_order h rowed 17 0 fa.some

  -- ** its free links

  abbrev lone : ℕ → Bool
  lone q = eqb (count q (s1 ++ s2)) 1

  abbrev opened_names : List ℕ
  opened_names = filter lone ps

  again_free : again.free ≡ map (freed L ps free) opened_names
  again_free =
      let mk : ℕ → FreeLink = λ q. record { name = record { packed = q }; link = place q ps } in
      ap (λ ls. map (refreed became) (opened [] ns ls)) (links_are L ns ns_room ps_once)
      ∙ (ap (map (refreed became)) (opened_are (λ q. place q ps) (s1 ++ s2) ns (subst (λ xs. list_all (says xs) ns ≡ true) text_standings (names_right k text (clean k law p sound)).rows_right))
      ∙ (map-map (refreed became) mk opened_names
      ∙ map_alike (λ q. refreed became (mk q)) (freed L ps free) opened_names
      (all_standing (λ q. refreed became (mk q) ≡ freed L ps free q) opened_names (λ q l.
      let n = kept_least lone q ps in
      ap (λ y. record { name = record { packed = q }; link = y }) (became_is q (omega arith))))))

  -- ** names of links at ports

  met_in : (x : ℕ) → Met x → 0 < count (sp x) ps
  met_in x l = let a = at_link k m fa x l in let b = count_append (sp x) s1 s2 in stands_in (sp x) (omega arith)

  sp_tied : (x : ℕ) → Met x → tied L (sp x) free ≡ 0
  sp_tied x l = by (open_name x free) refl
    where
      by : (o : Option Name) → open_name x free ≡ o → tied L (sp x) free ≡ 0
      by None e = (closed_twice k m fa x l e).1
      by (Some a) e =
          let i = shown_open k m fa x a e in
          let c = (open_found x free a e).0 in
          let d : count (sp x) (names free) ≡ count a.packed (names free) = ap (λ q. count q (names free)) i in
          let o = (open_once k m fa (sp x) (omega arith)).0 in
          let t = at_link k m fa x l in
          omega arith

  h_is : (x : ℕ) → Met x → h x ≡ place (sp x) ps
  h_is x l = ap (become became) (link_name (shown_name m x) (met_in x l)) ∙ (became_is (sp x) (met_in x l) ∙ ap (λ q. place q ps) (stays L (sp x) free (sp_tied x l)))

  h_apart : (x y : ℕ) → Met x → Met y → h x ≡ h y → x ≡ y
  h_apart x y a b e = apart k m fa x y a (place_same (sp x) (sp y) ps (sym (h_is x a) ∙ (e ∙ h_is y b)) (place_in (sp x) ps (met_in x a)))

  open_again : (x : ℕ) → Met x → open_name (h x) again.free ≡ open_name x free
  open_again x l = ap₂ open_name (h_is x l) again_free ∙ by (open_name x free) refl
    where
      lone_of : (q : ℕ) → 0 < count q opened_names → count q (s1 ++ s2) ≡ 1
      lone_of q i = eqb-true (count q (s1 ++ s2)) 1 (kept_passes lone q ps i)

      by : (o : Option Name) → open_name x free ≡ o → open_name (place (sp x) ps) (map (freed L ps free) opened_names) ≡ open_name x free
      by None e =
          open_absent L ps free (sp x) opened_names (met_in x l) (λ q i g.
          let j = stays_back L (sp x) q free (sp_tied x l) g in
          let one : count (sp x) (s1 ++ s2) ≡ 1 = ap (λ q. count q (s1 ++ s2)) (sym j) ∙ lone_of q i in
          let two = closed_twice k m fa x l e in
          let a = two.0 in
          let c = count_append (sp x) s1 s2 in
          omega arith)
          ∙ sym e
      by (Some a) e =
          let i = shown_open k m fa x a e in
          let c = (open_found x free a e).0 in
          let d : count (sp x) (names free) ≡ count a.packed (names free) = ap (λ q. count q (names free)) i in
          let o = (open_once k m fa (sp x) (omega arith)).0 in
          let b = count_append (sp x) s1 s2 in
          let kept = count_kept (sp x) lone ps ∙ cond-true (lone (sp x)) (count (sp x) ps) 0 (eq-eqb (count (sp x) (s1 ++ s2)) 1 (omega arith)) in
          let inside = met_in x l in
          open_present L ps free (sp x) opened_names inside (stays L (sp x) free (sp_tied x l)) (λ q g. stays_back L (sp x) q free (sp_tied x l) g) (omega arith)
          ∙ (ap (λ q. Some (record { packed = q })) i ∙ sym e)

  links_again : flat_map step_links (whole_walk again) ≡ map h met
  links_again =
      sym (walked.map_self (flat_map step_links (whole_walk again)))
      ∙ (sym (walked.bare_links (λ x. x) (whole_walk again))
      ∙ (ap (flat_map step_links) walk_again ∙ walked.bare_links h (whole_walk m)))

  all_met : All Met met
  all_met = all_standing Met met (λ x l. l)

  abbrev unnamed : ℕ → Bool
  unnamed x = not (is_some (open_name x free))

  kept_met : All Met (filter unnamed met)
  kept_met = all_weaker (λ x. Met x × (unnamed x ≡ true)) Met (filter unnamed met) (λ x w. w.0) (all_kept Met unnamed met all_met)

  numbered_met : All Met (numbered m)
  unfolding numbered
  numbered_met = firsts_all Met h h_apart [] (filter unnamed met) tt kept_met

  numbered_again : numbered again ≡ map h (numbered m)
  unfolding numbered
  numbered_again =
      let test : ℕ → Bool = λ x. not (is_some (open_name x again.free)) in
      ap (firsts [])
      (ap (filter test) links_again
      ∙ (kept_map test h met
      ∙ ap (map h) (kept_alike (λ x. test (h x)) unnamed met (all_standing (λ x. test (h x) ≡ unnamed x) met (λ x l. ap (λ o. not (is_some o)) (open_again x l))))))
      ∙ firsts_map Met h h_apart [] (filter unnamed met) tt kept_met

  name_again : (x : ℕ) → Met x → shown_name again (h x) ≡ shown_name m x
  name_again x l = ap₂ or_number (open_again x l) (ap (place (h x)) numbered_again ∙ place_map Met h h_apart x (numbered m) l numbered_met)

  steps_again : flat_map (step_events (shown_name again)) (whole_walk again) ≡ shown_steps
  steps_again =
      sym (walked.bare_shown (shown_name again) (λ x. x) (whole_walk again))
      ∙ (ap (flat_map (step_events (shown_name again))) walk_again
      ∙ (walked.bare_shown (shown_name again) h (whole_walk m)
      ∙ steps_alike (λ x. shown_name again (h x)) (shown_name m) (whole_walk m) (all_standing (λ x. shown_name again (h x) ≡ shown_name m x) met name_again)))

  -- ** its connectors

  abbrev alone : List ℕ
  alone = filter lone f1

  names_parts : opened_names ≡ alone ++ s2
  names_parts =
      ap (filter lone) ps_parts
      ∙ (filter-append lone f1 s2
      ∙ ap (λ t. alone ++ t) (kept_every lone s2 (all_standing (λ c. lone c ≡ true) s2 (λ c l.
      let z = (tied_open c l).0 in
      let o = tied_one c in
      let a = count_append c s1 s2 in
      eq-eqb (count c (s1 ++ s2)) 1 (omega arith)))))

  alone_right : All (λ u. (tied L u free ≡ 0) × (0 < count u ps)) alone
  alone_right =
      all_standing (λ u. (tied L u free ≡ 0) × (0 < count u ps)) alone (λ u l.
      let n = kept_least lone u f1 in
      let one = eqb-true (count u (s1 ++ s2)) 1 (kept_passes lone u f1 l) in
      let a = count_append u s1 s2 in
      let b : count u ps ≡ count u f1 + count u s2 = ap (count u) ps_parts ∙ count_append u f1 s2 in
      let some : 0 < count u s1 =
      ⊎_elim
      (λ (w : 0 < count u s1). w)
      (λ (w : count u s1 ≤ 0). let z = firsts_none u [] s1 (count_none u) (omega arith) in absurd (omega arith))
      (cases_lt 0 (count u s1)) in
      (omega arith, omega arith))

  ties_again : ties {L = L} again.free ≡ ties free
  ties_again =
      ap (ties {L = L}) again_free
      ∙ (ap (λ xs. ties {L = L} (map (freed L ps free) xs)) names_parts
      ∙ (ties_skip L ps free alone s2 alone_right (λ c. let a : count c (alone ++ s2) ≡ count c opened_names = ap (count c) (sym names_parts) in let b = kept_least lone c ps in let o = ps_once c in omega arith)
      ∙ ties_same L ps free free tied_one (λ c l. refl) tied_in))

  pub events_again : plan_events again ≡ plan_events m
  events_again = ap₂ (λ a b. a ++ b) steps_again ties_again

  pub shown_again : shown k again ≡ shown k m
  shown_again = ap (text_of k last_word.Nothing) events_again
