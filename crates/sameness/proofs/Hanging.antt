-- A text hung on a plan with its links renamed.
use Rattle.placing.proofs.NamesOf.{has_row}
use Rattle.std.specs.Prelude.{option_map}
use Rattle.std.proofs.Common.{◌≡◌, ℕ, ◌+◌, ◌-◌, ◌<◌, ◌≤◌, true, false, cond, not, ◌&&◌, eqb, List, [], ◌∷◌, ◌++◌, map, length, is_some, Some, None, filter, Option, sym, refl, ap, ◌∙◌, subst, ap₂, ⊎_elim, arith}
use Rattle.std.proofs.lemmas.List.{get_or-map, get_or_past, length-map, map-append}
use Rattle.std.proofs.lemmas.Bool.{and_parts, both_ways, cases_lt}
use Rattle.label.specs.Kind.{Kind}
use Rattle.text.specs.declared.packed.Name.{Name}
use Rattle.grammar.specs.declared.event.Event.{Event}
use Rattle.grammar.specs.declared.event.Event.TheVariants as events
use Rattle.grammar.specs.declared.stand.Standing.{Standing}
use Rattle.grammar.specs.Names.{position}
use Rattle.grammar.specs.Reading.{Events, event, end, fault}
use Rattle.plan.specs.declared.tables.FreeLink.{FreeLink}
use Rattle.plan.specs.Model.{Model, Node}
use Rattle.plan.specs.Sound.{count}
use Rattle.placing.specs.Keeps.{OfText}
use Rattle.placing.specs.Links.{closed, free_after, link_at, linked, links_from, open_link, opened, opens, stays}
use Rattle.grammar.specs.Events.{name_standings}
use Rattle.placing.specs.Orderly.{may_come, orderly}
use Rattle.placing.specs.Placing.{Placing, absorbed, become, begun, joined, parent_of, place_all, place_one, put, refreed, relinked, with_port, with_set}
use Rattle.register.specs.Rows.{added}
use Rattle.placing.proofs.KeepAbsorb.{become_rows, length_rows}
use Rattle.placing.proofs.KeepNames.{length_links, newer, news}
use Rattle.sameness.specs.Renaming.{free_by, node_by, renamed_by}
use Rattle.sameness.proofs.Renaming.{count_first, count_later}
use Rattle.showing.proofs.Lists.{kept_map}
use Rattle.sameness.proofs.Apart.{Apart, eqb_by}

-- ** names that have rows

module _ {L : Type 0} (k : Kind L) where
  -- links that agree on the names of the events place them alike
  place_agree : (link other : Name → ℕ) (q : Placing L) (es : Events L) → ((n : Name) → 0 < count n.packed (name_standings es) → link n ≡ other n) → place_all k link q es ≡ place_all k other q es
  unfolding place_all name_standings
  place_agree link other q (event (events.Label l) rest) h = place_agree link other (place_one k link q (events.Label l)) rest h
  place_agree link other q (event (events.Port n) rest) h =
      ap (λ x. place_all k link (record { atoms = with_port x q.atoms; cells = q.cells; register = q.register; inside = q.inside; first = q.first; became = q.became }) rest) (h n (count_first n.packed (name_standings rest)))
      ∙ place_agree link other (place_one k other q (events.Port n)) rest (λ i s. h i (count_later i.packed n.packed (name_standings rest) s))
  place_agree link other q (event events.Enter rest) h = place_agree link other (place_one k link q events.Enter) rest h
  place_agree link other q (event events.Leave rest) h = place_agree link other (place_one k link q events.Leave) rest h
  place_agree link other q (event (events.Set j) rest) h = place_agree link other (place_one k link q (events.Set j)) rest h
  place_agree link other q (event (events.First n) rest) h =
      ap (λ x. place_all k link (record { atoms = q.atoms; cells = q.cells; register = q.register; inside = q.inside; first = x; became = q.became }) rest) (h n (count_first n.packed (name_standings rest)))
      ∙ place_agree link other (place_one k other q (events.First n)) rest (λ i s. h i (count_later i.packed n.packed (name_standings rest) s))
  place_agree link other q (event (events.Second n) rest) h =
      ap (λ x. place_all k link (record { atoms = q.atoms; cells = q.cells; register = q.register; inside = q.inside; first = q.first; became = joined q.first x q.became }) rest) (h n (count_first n.packed (name_standings rest)))
      ∙ place_agree link other (place_one k other q (events.Second n)) rest (λ i s. h i (count_later i.packed n.packed (name_standings rest) s))
  place_agree link other q end h = refl
  place_agree link other q (fault y) h = refl

  -- the first name of no connector yet
  abbrev refirst : ℕ → Placing L → Placing L
  refirst y q = record { atoms = q.atoms; cells = q.cells; register = q.register; inside = q.inside; first = y; became = q.became }

  -- it does not matter where none lacks its second name
  any_first : (link : Name → ℕ) (free : List FreeLink) (y d r : ℕ) (q : Placing L) (es : Events L) → orderly k d r false es ≡ true → absorbed (place_all k link (refirst y q) es) free ≡ absorbed (place_all k link q es) free
  unfolding place_all orderly
  any_first link free y d r q (event (events.Label l) rest) h =
      any_first link free y d 8 (place_one k link q (events.Label l)) rest (and_parts (may_come k d r false (events.Label l)) (orderly k d 8 false rest) h).1
  any_first link free y d r q (event (events.Port n) rest) h =
      any_first link free y d (r - 1) (place_one k link q (events.Port n)) rest (and_parts (may_come k d r false (events.Port n)) (orderly k d (r - 1) false rest) h).1
  any_first link free y d r q (event events.Enter rest) h =
      any_first link free y (d + 1) 0 (place_one k link q events.Enter) rest (and_parts (may_come k d r false events.Enter) (orderly k (d + 1) 0 false rest) h).1
  any_first link free y d r q (event events.Leave rest) h =
      any_first link free y (d - 1) 0 (place_one k link q events.Leave) rest (and_parts (may_come k d r false events.Leave) (orderly k (d - 1) 0 false rest) h).1
  any_first link free y d r q (event (events.Set j) rest) h =
      any_first link free y d 0 (place_one k link q (events.Set j)) rest (and_parts (may_come k d r false (events.Set j)) (orderly k d 0 false rest) h).1
  any_first link free y d r q (event (events.First n) rest) h = refl
  any_first link free y d r q (event (events.Second n) rest) h = absurd (both_ways false refl h)
  any_first link free y d r q end h = refl
  any_first link free y d r q (fault x) h = refl

module _ (f : ℕ → ℕ) where
  -- ** links of names

  open_by : (n : Name) (fs : List FreeLink) → open_link n (map (free_by f) fs) ≡ option_map f (open_link n fs)
  unfolding open_link
  open_by n [] = refl
  open_by n (r ∷ fs) =
      let ih = open_by n fs in
      elim (eqb r.name.packed n.packed) as (λ b. cond b (Some (f r.link)) (open_link n (map (free_by f) fs)) ≡ option_map f (cond b (Some r.link) (open_link n fs))) [ true ↦ refl | false ↦ ih ]

  closed_by : (fs : List FreeLink) (s : Standing) → closed (map (free_by f) fs) s ≡ option_map f (closed fs s)
  closed_by fs s =
      let ih = open_by s.name fs in
      elim s.twice as (λ b. cond b None (open_link s.name (map (free_by f) fs)) ≡ option_map f (cond b None (open_link s.name fs))) [ true ↦ refl | false ↦ ih ]

  linked_by : (o : Option ℕ) (numbers : List ℕ) (others others' taken : List ℕ → List ℕ) → ((left : List ℕ) → length (taken left) ≤ length left → others' (map f left) ≡ map f (others left)) → length (newer o numbers taken) ≤ length numbers → linked (option_map f o) (map f numbers) others' ≡ map f (linked o numbers others)
  linked_by (Some x) numbers others others' taken ih l = ap (λ t. f x ∷ t) (ih numbers l)
  linked_by None [] others others' taken ih l = absurd (omega arith)
  linked_by None (u ∷ us) others others' taken ih l = ap (λ t. f u ∷ t) (ih us (omega arith))

  links_by : (fs : List FreeLink) (numbers : List ℕ) (ss : List Standing) → length (news fs numbers ss) ≤ length numbers → links_from (map (free_by f) fs) (map f numbers) ss ≡ map f (links_from fs numbers ss)
  unfolding links_from news
  links_by fs numbers [] l = refl
  links_by fs numbers (s ∷ ss) l =
      ap (λ o. linked o (map f numbers) (λ left. links_from (map (free_by f) fs) left ss)) (closed_by fs s)
      ∙ linked_by (closed fs s) numbers (λ left. links_from fs left ss) (λ left. links_from (map (free_by f) fs) left ss) (λ left. news fs left ss) (λ left h. links_by fs left ss h) l

  -- ** free links

  some_over : (o : Option ℕ) → is_some (option_map f o) ≡ is_some o
  some_over None = refl
  some_over (Some x) = refl

  pub opens_by : (fs : List FreeLink) (s : Standing) → opens (map (free_by f) fs) s ≡ opens fs s
  opens_by fs s = ap (λ b. not s.twice && not b) (ap is_some (open_by s.name fs) ∙ some_over (open_link s.name fs))

  opened_by : (fs : List FreeLink) (ss : List Standing) (links : List ℕ) → opened (map (free_by f) fs) ss (map f links) ≡ map (free_by f) (opened fs ss links)
  unfolding opened
  opened_by fs [] links = refl
  opened_by fs (s ∷ ss) [] = refl
  opened_by fs (s ∷ ss) (x ∷ xs) =
      let new = opened fs ss xs in
      ap₂ (λ b t. cond b (record { name = s.name; link = f x } ∷ t) t) (opens_by fs s) (opened_by fs ss xs)
      ∙ elim (opens fs s) as (λ b. cond b (free_by f (record { name = s.name; link = x }) ∷ map (free_by f) new) (map (free_by f) new) ≡ map (free_by f) (cond b (record { name = s.name; link = x } ∷ new) new)) [ true ↦ refl | false ↦ refl ]

  free_after_by : (fs : List FreeLink) (ss : List Standing) (links : List ℕ) → free_after (map (free_by f) fs) ss (map f links) ≡ map (free_by f) (free_after fs ss links)
  free_after_by fs ss links =
      ap₂ ◌++◌ (kept_map (stays ss) (free_by f) fs) (opened_by fs ss links)
      ∙ sym (map-append (free_by f) (filter (stays ss) fs) (opened fs ss links))

  -- ** ports

  port_by : {L : Type 0} (x : ℕ) (atoms : List (Node L)) → with_port (f x) (map (node_by f) atoms) ≡ map (node_by f) (with_port x atoms)
  unfolding with_port
  port_by x [] = refl
  port_by x (a ∷ []) = ap (λ (t : List ℕ). record { label = a.label; cell = a.cell; links = t } ∷ []) (sym (map-append f a.links (x ∷ [])))
  port_by x (a ∷ (b ∷ atoms)) = ap (λ t. node_by f a ∷ t) (port_by x (b ∷ atoms))

  -- ** what links become

  module _ (apart : Apart f) where
    put_by : (x y z : ℕ) → put (f x) (f y) (f z) ≡ f (put x y z)
    put_by x y z =
        ap (λ b. cond b (f y) (f z)) (eqb_by f apart z x)
        ∙ elim (eqb z x) as (λ b. cond b (f y) (f z) ≡ f (cond b y z)) [ true ↦ refl | false ↦ refl ]

  -- f goes from numbers in the limit to such, and leaves others
  pub record Within (limit : ℕ) : Type 0 where
    pub apart : Apart f
    pub low : (x : ℕ) → x < limit → f x < limit
    pub high : (x : ℕ) → limit ≤ x → f x ≡ x

  record Becomes (limit : ℕ) (b b' : List ℕ) : Type 0 where
    rows : length b ≡ limit
    rows' : length b' ≡ limit
    each_link : (z : ℕ) → become b' (f z) ≡ f (become b z)

  joined_by : (limit : ℕ) → Within limit → (x y : ℕ) (b b' : List ℕ) → Becomes limit b b' → Becomes limit (joined x y b) (joined (f x) (f y) b')
  joined_by limit w x y b b' h =
      let n = length-map b (put (become b x) (become b y)) in
      let n' = length-map b' (put (become b' (f x)) (become b' (f y))) in
      let r = h.rows in
      let r' = h.rows' in
      record {
        rows = n ∙ r;
        rows' = n' ∙ r';
        each_link = λ z.
            ⊎_elim
            (λ (l : z < limit).
            let up = w.low z l in
            get_or-map (put (become b' (f x)) (become b' (f y))) b' (f z) (f z) (f z) (omega arith)
            ∙ ap₂ (λ u v. put u v (become b' (f z))) (h.each_link x) (h.each_link y)
            ∙ ap (put (f (become b x)) (f (become b y))) (h.each_link z)
            ∙ put_by w.apart (become b x) (become b y) (become b z)
            ∙ ap f (sym (get_or-map (put (become b x) (become b y)) b z z z (omega arith))))
            (λ (l : limit ≤ z).
            let up = w.high z l in
            get_or_past (joined (f x) (f y) b') (f z) (f z) (omega arith) ∙ ap f (sym (get_or_past (joined x y b) z z (omega arith))))
            (cases_lt z limit);
      }

  map_become : (limit : ℕ) (b b' xs : List ℕ) → Becomes limit b b' → map (become b') (map f xs) ≡ map f (map (become b) xs)
  map_become limit b b' [] h = refl
  map_become limit b b' (x ∷ xs) h = ap₂ (λ t ts. t ∷ ts) (h.each_link x) (map_become limit b b' xs h)

  free_become : (limit : ℕ) (b b' : List ℕ) (fs : List FreeLink) → Becomes limit b b' → map (refreed b') (map (free_by f) fs) ≡ map (free_by f) (map (refreed b) fs)
  free_become limit b b' [] h = refl
  free_become limit b b' (r ∷ fs) h =
      ap₂ (λ x rest. record { name = r.name; link = x } ∷ rest) (h.each_link r.link) (free_become limit b b' fs h)

  -- ** events placed

  module _ {L : Type 0} where
    record Follows (limit : ℕ) (p q : Placing L) : Type 0 where
      atoms : q.atoms ≡ map (node_by f) p.atoms
      cells : q.cells ≡ p.cells
      register : q.register ≡ p.register
      inside : q.inside ≡ p.inside
      first : q.first ≡ f p.first
      became : Becomes limit p.became q.became

    module _ (k : Kind L) (limit : ℕ) (w : Within limit) (link : Name → ℕ) where
      one_follows : (p q : Placing L) (e : Event L) → Follows limit p q → Follows limit (place_one k link p e) (place_one k (λ n. f (link n)) q e)
      one_follows p q (events.Label l) h =
          record {
            atoms =
                ap₂ (λ t c. t ++ (record { label = l; cell = c; links = [] } ∷ [])) h.atoms h.inside
                ∙ sym (map-append (node_by f) p.atoms (record { label = l; cell = p.inside; links = [] } ∷ []));
            cells = h.cells;
            register = ap (added k l) h.register;
            inside = h.inside;
            first = h.first;
            became = h.became;
          }
      one_follows p q (events.Port n) h =
          record {
            atoms = ap (with_port (f (link n))) h.atoms ∙ port_by (link n) p.atoms;
            cells = h.cells;
            register = h.register;
            inside = h.inside;
            first = h.first;
            became = h.became;
          }
      one_follows p q events.Enter h =
          record {
            atoms = h.atoms;
            cells = ap₂ (λ t c. t ++ (record { parent = Some c; set = 0 } ∷ [])) h.cells h.inside;
            register = h.register;
            inside = ap length h.cells;
            first = h.first;
            became = h.became;
          }
      one_follows p q events.Leave h =
          record {
            atoms = h.atoms;
            cells = h.cells;
            register = h.register;
            inside = ap₂ parent_of h.cells h.inside;
            first = h.first;
            became = h.became;
          }
      one_follows p q (events.Set j) h =
          record {
            atoms = h.atoms;
            cells = ap₂ (λ t c. with_set t c j) h.cells h.inside;
            register = h.register;
            inside = h.inside;
            first = h.first;
            became = h.became;
          }
      one_follows p q (events.First n) h =
          record {
            atoms = h.atoms;
            cells = h.cells;
            register = h.register;
            inside = h.inside;
            first = refl;
            became = h.became;
          }
      one_follows p q (events.Second n) h =
          record {
            atoms = h.atoms;
            cells = h.cells;
            register = h.register;
            inside = h.inside;
            first = h.first;
            became =
                subst (λ x. Becomes limit (joined p.first (link n) p.became) (joined x (f (link n)) q.became)) (sym h.first)
                (joined_by limit w p.first (link n) p.became q.became h.became);
          }

      all_follow : (p q : Placing L) (es : Events L) → Follows limit p q → Follows limit (place_all k link p es) (place_all k (λ n. f (link n)) q es)
      unfolding place_all
      all_follow p q (event e rest) h = all_follow (place_one k link p e) (place_one k (λ n. f (link n)) q e) rest (one_follows p q e h)
      all_follow p q end h = h
      all_follow p q (fault x) h = h

    nodes_become : (limit : ℕ) (b b' : List ℕ) (atoms : List (Node L)) → Becomes limit b b' → map (relinked b') (map (node_by f) atoms) ≡ map (node_by f) (map (relinked b) atoms)
    nodes_become limit b b' [] h = refl
    nodes_become limit b b' (a ∷ atoms) h =
        ap₂ (λ ls rest. record { label = a.label; cell = a.cell; links = ls } ∷ rest) (map_become limit b b' a.links h) (nodes_become limit b b' atoms h)

    absorbed_by : (limit : ℕ) (p q : Placing L) (fs : List FreeLink) → Follows limit p q → absorbed q (map (free_by f) fs) ≡ renamed_by f (absorbed p fs)
    absorbed_by limit p q fs h =
        let a = ap (map (relinked q.became)) h.atoms ∙ nodes_become limit p.became q.became p.atoms h.became in
        let r = free_become limit p.became q.became fs h.became in
        ap₂ (λ atoms free. record { atoms = atoms; cells = q.cells; free = free; register = q.register }) a r
        ∙ ap₂ (λ cells register. record { atoms = map (node_by f) (map (relinked p.became) p.atoms); cells = cells; free = map (free_by f) (map (refreed p.became) fs); register = register }) h.cells h.register

-- ** a text hung

module _ {L : Type 0} (k : Kind L) where
  -- the plan after a text whose names take these numbers
  abbrev pub hung_with : Model L → List ℕ → List Standing → Events L → Model L
  hung_with m numbers names es =
      let links = links_from m.free numbers names in
      absorbed (place_all k (link_at names links) (begun m) es) (free_after m.free names links)

  module _ (f : ℕ → ℕ) (w : Within f 8256) (m : Model L) (numbers : List ℕ) (names : List Standing) (es : Events L) (t : OfText k names es) (enough : length (news m.free numbers names) ≤ length numbers) where
    links : List ℕ
    links = links_from m.free numbers names

    named : (n : Name) → 0 < count n.packed (name_standings es) → link_at names (map f links) n ≡ f (link_at names links n)
    unfolding links
    named n h =
        let told = t.told n in
        let row = has_row n names (omega arith) in
        let long = length_links m.free numbers names in
        get_or-map f links (position n names) 0 0 (omega arith)

    start : Follows f 8256 (begun m) (refirst k (f 0) (begun (renamed_by f m)))
    start =
        record {
          atoms = refl;
          cells = refl;
          register = refl;
          inside = refl;
          first = refl;
          became = record { rows = length_rows 0 8256; rows' = length_rows 0 8256; each_link = λ z. become_rows 8256 (f z) ∙ ap f (sym (become_rows 8256 z)) };
        }

    pub hung_by : hung_with (renamed_by f m) (map f numbers) names es ≡ renamed_by f (hung_with m numbers names es)
    unfolding links
    hung_by =
        let after = free_after m.free names links in
        let link = link_at names links in
        let q = begun (renamed_by f m) in
        ap (λ ls. absorbed (place_all k (link_at names ls) q es) (free_after (map (free_by f) m.free) names ls)) (links_by f m.free numbers names enough)
        ∙ ap₂ absorbed (place_agree k (link_at names (map f links)) (λ n. f (link n)) q es named) (free_after_by f m.free names links)
        ∙ sym (any_first k (λ n. f (link n)) (map (free_by f) after) (f 0) 0 0 q es t.ordered)
        ∙ absorbed_by f 8256 (place_all k link (begun m) es) (place_all k (λ n. f (link n)) (refirst k (f 0) q) es) after
        (all_follow f k 8256 w link (begun m) (refirst k (f 0) q) es start)
