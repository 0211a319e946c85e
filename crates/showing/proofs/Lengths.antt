-- What a sound plan shows is not too long.
use Rattle.std.proofs.Common.{◌≡◌, ℕ, zero, suc, ◌+◌, ◌*◌, ◌<◌, ◌≤◌, true, cond, eqb, leb, List, [], ◌∷◌, ◌++◌, map, length, get_or, Some, None, Option, sym, refl, ◌∙◌, subst, ⊎_elim, arith, length-append}
use lib.ListN.{length-map}
use Rattle.std.specs.List.{AllByRecursion as All}
use Rattle.std.proofs.lemmas.Bool.Decides.{nat_tests}
use Rattle.std.proofs.lemmas.Fmt.{length-decimal-le}
use Rattle.std.proofs.lemmas.Bool.{and_parts, cases_Bool, cases_lt, cond_both, leb-true}
use Rattle.label.specs.Kind.{Kind, Lawful}
use Rattle.text.specs.declared.packed.Name.{Name}
use Rattle.text.specs.Packed.{pack, spelling}
use Rattle.text.specs.Shapes.{is_name, begins}
use Rattle.text.specs.Classes.{upper, tail}
use Rattle.grammar.specs.declared.event.Event.{Event}
use Rattle.grammar.specs.declared.event.Event.TheVariants as events
use Rattle.plan.specs.declared.tables.FreeLink.{FreeLink}
use Rattle.plan.specs.Model.{Model, Node}
use Rattle.plan.specs.Sound.{count, ends, no_cell, port_links}
use Rattle.plan.specs.Sound as sound
use Rattle.showing.specs.declared.last.Last.{Last}
use Rattle.showing.specs.declared.last.Last.TheVariants as last
use Rattle.showing.specs.Text.{before_item, before_port, at_end, lead, token_bytes, own, past, text_of}
use Rattle.std.specs.List.{flat_map}
use Rattle.showing.specs.Walk.{Step, atom, enter, leave, atoms_in, cells_in, walk, whole_walk}
use Rattle.showing.specs.Shown.{open_name, shown_name, place, numbered, or_number, step_events, tie, ties, plan_events, shown}
use Rattle.grammar.specs.Events.{proper_name}
use Rattle.showing.proofs.Totals.{total, total_append, total_alike, total_plus, total_same, total_most, total_less, total_flat, total_map, total_swap, count_total, count_append, length_total, all_append, all_of, all_weaker}
use Rattle.showing.proofs.Visits.{weigh}
use Rattle.showing.proofs.Meeting.{Facts, walk_weight, met_length, met_total, met_links, total_ports}
use Rattle.showing.proofs.Named.{number_short}
use Rattle.showing.proofs.Freed.{links, open_found, open_good}
use Rattle.showing.proofs.Twice.{open_proper, place_low}
use Rattle.showing.proofs.Runs.{set_low}

-- the most that stands before an event
abbrev lead_most : {L : Type 0} → Event L → ℕ
lead_most (events.Label l) = 2
lead_most (events.Port n) = 1
lead_most events.Enter = 2
lead_most events.Leave = 1
lead_most (events.Set j) = 2
lead_most (events.First n) = 2
lead_most (events.Second n) = 1

item_short : (b : Last) → length (before_item b) ≤ 2
item_short last.Nothing = omega arith
item_short last.Label = omega arith
item_short last.Port = omega arith
item_short last.Item = omega arith

port_short : (b : Last) → length (before_port b) ≤ 1
port_short last.Nothing = omega arith
port_short last.Label = omega arith
port_short last.Port = omega arith
port_short last.Item = omega arith

end_short : (b : Last) → length (at_end b) ≤ 1
end_short last.Nothing = omega arith
end_short last.Label = omega arith
end_short last.Port = omega arith
end_short last.Item = omega arith

lead_short : {L : Type 0} (b : Last) (e : Event L) → length (lead b e) ≤ lead_most e
lead_short b (events.Label l) = item_short b
lead_short b (events.Port n) = port_short b
lead_short b events.Enter = item_short b
lead_short b events.Leave = end_short b
lead_short b (events.Set j) = item_short b
lead_short b (events.First n) = item_short b
lead_short b (events.Second n) = omega arith

module _ {L : Type 0} (k : Kind L) where
  -- the most that an event takes
  abbrev cost : Event L → ℕ
  cost e = lead_most e + length (own k e)

  text_short : (b : Last) (es : List (Event L)) → length (text_of k b es) ≤ total cost es + 1
  unfolding text_of total
  text_short b [] = end_short b
  text_short b (e ∷ es) =
      let a = length-append (lead b e) (own k e ++ text_of k (past e) es) in
      let c = length-append (own k e) (text_of k (past e) es) in
      let l = lead_short b e in
      let ih = text_short (past e) es in
      omega arith

  token_short : Lawful k → (l : L) → length (token_bytes (k.token l)) ≤ 11
  token_short law l =
      ⊎_elim
      (λ t. let s = law.shown l t in subst (λ o. length (token_bytes o) ≤ 11) (sym s.is) s.short)
      (λ f. subst (λ o. length (token_bytes o) ≤ 11) (sym (law.unshown l f)) (omega arith))
      (cases_Bool (k.mine l))

proper_short : (n : Name) → proper_name n ≡ true → length (spelling n.packed) ≤ 8
proper_short n h =
    let w = spelling n.packed in
    let p = and_parts (is_name w) (eqb (pack w) n.packed) h in
    let q = and_parts (begins upper tail w) (leb (length w) 8) p.0 in
    leb-true (length w) 8 q.1

-- a step whose set is written by at most two digits
abbrev Small : {L : Type 0} → Step L → Type 0
Small (atom a) = Unit {0}
Small (enter s) = s ≤ 15
Small leave = Unit {0}

module _ {L : Type 0} (k : Kind L) (law : Lawful k) (m : Model L) (f : Facts k m) where
  all_atoms : (nodes : List (Node L)) → All Small (map atom nodes)
  all_atoms [] = tt
  all_atoms (a ∷ nodes) = (tt, all_atoms nodes)

  around_small : (n : ℕ) (rs : List ℕ) → ((c : ℕ) → All Small (walk n m c)) → All Small (flat_map (λ r. enter (get_or m.cells r no_cell).set ∷ (walk n m r ++ (leave ∷ []))) rs)
  around_small n [] ih = tt
  around_small n (r ∷ rs) ih = (set_low m.cells r f.sets, all_append Small (walk n m r ++ (leave ∷ [])) _ (all_append Small (walk n m r) (leave ∷ []) (ih r) (tt, tt)) (around_small n rs ih))

  walk_small : (n c : ℕ) → All Small (walk n m c)
  unfolding walk
  walk_small zero c = tt
  walk_small (suc n) c = all_append Small (map atom (atoms_in c m.atoms)) _ (all_atoms (atoms_in c m.atoms)) (around_small n (cells_in c m.cells) (walk_small n))

  -- what a link's name takes
  abbrev name_length : ℕ → ℕ
  name_length x = length (spelling (shown_name m x).packed)

  -- at most five bytes, or eight where the name is an open one
  name_short : (x : ℕ) → name_length x ≤ 5 + (count x (links m.free) + (count x (links m.free) + count x (links m.free)))
  name_short x = by (open_name x m.free) refl
    where
      by : (o : Option Name) → open_name x m.free ≡ o → length (spelling (or_number o (place x (numbered m))).packed) ≤ 5 + (count x (links m.free) + (count x (links m.free) + count x (links m.free)))
      by None e = let s = number_short (place x (numbered m)) (place_low k m f x) in omega arith
      by (Some a) e =
          let s = proper_short a (open_proper a (open_good (λ a. sound.open_name a ≡ true) x m.free a f.names e)).0 in
          let o = (open_found x m.free a e).1 in
          omega arith

  -- what an atom takes with its ports
  abbrev atom_cost : Node L → ℕ
  atom_cost a = 13 + total (λ x. 1 + name_length x) a.links

  step_cost : (s : Step L) → Small s → total (cost k) (step_events (shown_name m) s) ≤ weigh atom_cost 8 2 s
  unfolding total
  step_cost (atom a) h =
      let port : ℕ → Event L = λ x. events.Port (shown_name m x) in
      let e = total_map (cost k) port a.links in
      let l = token_short k law a.label in
      omega arith
  step_cost (enter s) h =
      cond_both (eqb s 0) [] (events.Set s ∷ []) (λ es. 3 + total (cost k) es ≤ 8) (λ _. omega arith)
      (λ _. let d = length-decimal-le 2 s (omega arith) (omega arith) (omega arith) in omega arith)
  step_cost leave h = omega arith

  walk_cost : total (cost k) (flat_map (step_events (shown_name m)) (whole_walk m)) ≤ total (weigh atom_cost 8 2) (whole_walk m)
  walk_cost =
      let e = total_flat (cost k) (step_events (shown_name m)) (whole_walk m) in
      let l = total_less (λ s. total (cost k) (step_events (shown_name m) s)) (weigh atom_cost 8 2) (whole_walk m) (all_weaker Small (λ s. total (cost k) (step_events (shown_name m) s) ≤ weigh atom_cost 8 2 s) (whole_walk m) step_cost (walk_small 17 0)) in
      omega arith

  abbrev ports_of : List ℕ
  ports_of = port_links m.atoms

  at_most_two : (y : ℕ) → count y ports_of ≤ 2
  at_most_two y =
      let a = count_append y ports_of (links m.free) in
      ⊎_elim
      (λ (h : 0 < count y (ends m)). let t = f.two y h in omega arith)
      (λ (h : count y (ends m) ≤ 0). omega arith)
      (cases_lt 0 (count y (ends m)))

  -- how many ports have open names
  open_ports : total (λ x. count x (links m.free)) ports_of ≤ 128
  open_ports =
      let fs = links m.free in
      let a = total_alike (λ x. count x fs) (λ x. total (λ y. cond (eqb x y) 1 0) fs) ports_of (λ x. count_total x fs) ∙ total_swap (λ x y. cond (eqb x y) 1 0) ports_of fs in
      let list_all : (y : ℕ) → total (λ x. cond (eqb x y) 1 0) ports_of ≤ 2 = λ y. (let s = total_alike (λ x. cond (eqb x y) 1 0) (λ x. cond (eqb y x) 1 0) ports_of (λ x. grind (arith, nat_tests)) in let c = count_total y ports_of in let t = at_most_two y in omega arith) in
      let b = total_most (λ y. total (λ x. cond (eqb x y) 1 0) ports_of) 2 fs (all_of (λ y. total (λ x. cond (eqb x y) 1 0) ports_of ≤ 2) fs list_all) in
      let l = length-map m.free (λ f. f.link) in
      let n = f.few_free in
      omega arith

  ports_cost : total (λ x. 1 + name_length x) ports_of ≤ 49536
  ports_cost =
      let c = λ (x : ℕ). count x (links m.free) in
      let a = total_less (λ x. 1 + name_length x) (λ x. 6 + (c x + (c x + c x))) ports_of (all_of (λ x. 1 + name_length x ≤ 6 + (c x + (c x + c x))) ports_of (λ x. let s = name_short x in omega arith)) in
      let b = total_plus (λ x. 6) (λ x. c x + (c x + c x)) ports_of in
      let d = total_plus c (λ x. c x + c x) ports_of in
      let e = total_plus c c ports_of in
      let g = total_same 6 ports_of in
      let h = length_total ports_of in
      let i = met_total k m f (λ x. 1) in
      let j = length_total (met_links k m f) in
      let l = met_length k m f in
      let o = open_ports in
      omega arith

  atoms_cost : total atom_cost m.atoms ≤ 62848
  atoms_cost =
      let a = total_plus (λ a. 13) (λ a. total (λ x. 1 + name_length x) a.links) m.atoms in
      let b = total_same 13 m.atoms in
      let c = total_ports k m f (λ x. 1 + name_length x) m.atoms in
      let p = ports_cost in
      let n = f.few_atoms in
      omega arith

  tie_cost : (n : Name) (o : Option Name) → proper_name n ≡ true → ((a : Name) → o ≡ Some a → proper_name a ≡ true) → total (cost k) (tie n o) ≤ 19
  unfolding total
  tie_cost n None h g = omega arith
  tie_cost n (Some a) h g = let s = proper_short n h in let t = proper_short a (g a refl) in omega arith

  ties_cost : (fs : List FreeLink) → All (λ f. sound.open_name f.name ≡ true) fs → total (cost k) (ties fs) ≤ length fs * 19
  unfolding ties total
  ties_cost [] h = omega arith
  ties_cost (g ∷ fs) h =
      let a = total_append (cost k) (tie g.name (open_name g.link fs)) (ties fs) in
      let b = tie_cost g.name (open_name g.link fs) (open_proper g.name h.0).0 (λ a e. (open_proper a (open_good (λ a. sound.open_name a ≡ true) g.link fs a h.1 e)).0) in
      let ih = ties_cost fs h.1 in
      omega arith

  pub shown_short : length (shown k m) ≤ 65535
  shown_short =
      let a = text_short k last.Nothing (plan_events m) in
      let b = total_append (cost k) (flat_map (step_events (shown_name m)) (whole_walk m)) (ties m.free) in
      let c = walk_cost in
      let d = walk_weight k m f atom_cost 8 2 in
      let e = atoms_cost in
      let g = ties_cost m.free f.names in
      let h = f.few_cells in
      let i = f.few_free in
      omega arith
