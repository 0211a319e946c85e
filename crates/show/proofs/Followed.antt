-- What is written while links are numbered is what the fixed names give.
use Rattle.std.proofs.lemmas.List.Folds.{list_all-append}
use Rattle.std.proofs.Common.{◌≡◌, ℕ, ◌<◌, Bool, true, not, ltb, List, [], ◌∷◌, ◌++◌, map, is_some, Some, None, fold, filter, Option, sym, refl, ap, ◌∙◌, subst}
use Rattle.std.proofs.lemmas.Bool.{and_parts, cond-true, cond-false, ltb-true}
use Rattle.text.specs.declared.packed.Name.{Name}
use Rattle.label.specs.Kind.{Kind}
use Rattle.grammar.specs.declared.event.Event.{Event}
use Rattle.grammar.specs.declared.event.Event.TheVariants as events
use Rattle.plan.specs.declared.tables.FreeLink.{FreeLink}
use Rattle.std.specs.List.{list_all}
use Rattle.std.specs.List.{flat_map}
use Rattle.showing.specs.Walk.{Step, atom, enter, leave}
use Rattle.showing.specs.Shown.{open_name, step_links, place, joins, firsts, number_name, or_number, step_events, set_events}
use Rattle.show.specs.Page.{Page, Numbers, event_written}
use Rattle.show.specs.Steps.{next_to, number_in, named_by, either_name, with_number, port_by, port_written, step_written}
use Rattle.std.proofs.lemmas.List.Sums.{fold-append}
use Rattle.show.proofs.Told.{Told, told_more, told_place, firsts_next}

abbrev pub with_numbers : Numbers → Page → Page
with_numbers n p = record { ink = p.ink; last = p.last; free = p.free; numbers = n }

-- the links that go by a number
abbrev pub unnamed : List FreeLink → List ℕ → List ℕ
unnamed free xs = filter (λ x. not (is_some (open_name x free))) xs

abbrev pub below : ℕ → Bool
below x = ltb x 8256

-- two pages are alike but for the numbers, which are right so far: `rest` are the links still to come
pub record Follows (free : List FreeLink) (all rest : List ℕ) (p q : Page) : Type 0 where
  pub page : p ≡ with_numbers p.numbers q
  pub named : p.free ≡ free
  pub seen : List ℕ
  pub told : Told p.numbers seen
  pub onward : firsts seen (unnamed free rest) ≡ all

abbrev pub name_by : List FreeLink → List ℕ → ℕ → Name
name_by free all x = or_number (open_name x free) (place x all)

module _ {L : Type 0} (k : Kind L) (free : List FreeLink) (all : List ℕ) where
  pub event_followed : (rest : List ℕ) (p q : Page) (e : Event L) → Follows free all rest p q → Follows free all rest (event_written k p e) (event_written k q e)
  event_followed rest p q e f = record { page = ap (λ (x : Page). event_written k x e) f.page; named = f.named; seen = f.seen; told = f.told; onward = f.onward }

  pub events_followed : (es : List (Event L)) (rest : List ℕ) (p q : Page) → Follows free all rest p q → Follows free all rest (fold (event_written k) p es) (fold (event_written k) q es)
  events_followed [] rest p q f = f
  events_followed (e ∷ es) rest p q f = events_followed es rest (event_written k p e) (event_written k q e) (event_followed rest p q e f)

  -- a port whose link has an open name, or none
  port_by_name : (x : ℕ) (o : Option Name) (rest : List ℕ) (p q : Page) → x < 8256 → o ≡ open_name x free → Follows free all (x ∷ rest) p q → Follows free all rest (port_by k (named_by p x o) (either_name o (number_in (named_by p x o) x))) (event_written k q (events.Port (or_number o (place x all))))
  port_by_name x (Some n) rest p q h e f =
      let skip : unnamed free (x ∷ rest) ≡ unnamed free rest = cond-false (not (is_some (open_name x free))) _ _ (ap (λ (o : Option Name). not (is_some o)) (sym e)) in
      event_followed rest p q (events.Port n) (record { page = f.page; named = f.named; seen = f.seen; told = f.told; onward = ap (firsts f.seen) (sym skip) ∙ f.onward })
  port_by_name x None rest p q h e f =
      let keep : unnamed free (x ∷ rest) ≡ x ∷ unnamed free rest = cond-true (not (is_some (open_name x free))) _ _ (ap (λ (o : Option Name). not (is_some o)) (sym e)) in
      let on : firsts (joins f.seen x) (unnamed free rest) ≡ all = sym (firsts_next f.seen (unnamed free rest) x) ∙ ap (firsts f.seen) (sym keep) ∙ f.onward in
      let at : Some (place x all) ≡ number_in (with_number p x) x = sym (told_place p.numbers f.seen (unnamed free rest) x f.told h ∙ ap (λ xs. Some (place x xs)) on) in
      let g : Follows free all rest (with_number p x) q =
      record {
        page = ap (λ (y : Page). with_numbers (next_to p.numbers x) y) f.page;
        named = f.named;
        seen = joins f.seen x;
        told = told_more p.numbers f.seen x f.told h;
        onward = on;
      } in
      let Is : Option ℕ → Type 0 = λ i. Follows free all rest (port_by k (with_number p x) (either_name None i)) (event_written k q (events.Port (number_name (place x all)))) in
      subst Is at (event_followed rest (with_number p x) q (events.Port (number_name (place x all))) g)

  port_followed : (x : ℕ) (rest : List ℕ) (p q : Page) → x < 8256 → Follows free all (x ∷ rest) p q → Follows free all rest (port_written k p x) (event_written k q (events.Port (name_by free all x)))
  port_followed x rest p q h f =
      let Is : Option Name → Type 0 = λ o. Follows free all rest (port_by k (named_by p x o) (either_name o (number_in (named_by p x o) x))) (event_written k q (events.Port (name_by free all x))) in
      subst Is (sym (ap (open_name x) f.named)) (port_by_name x (open_name x free) rest p q h refl f)

  ports_followed : (xs rest : List ℕ) (p q : Page) → list_all below xs ≡ true → Follows free all (xs ++ rest) p q → Follows free all rest (fold (port_written k) p xs) (fold (event_written k) q (map (λ x. events.Port (name_by free all x)) xs))
  ports_followed [] rest p q h f = f
  ports_followed (x ∷ xs) rest p q h f =
      let parts = and_parts (below x) (list_all below xs) h in
      ports_followed xs rest (port_written k p x) (event_written k q (events.Port (name_by free all x))) parts.1
      (port_followed x (xs ++ rest) p q (ltb-true x 8256 parts.0) f)

  step_followed : (w : Step L) (rest : List ℕ) (p q : Page) → list_all below (step_links w) ≡ true → Follows free all (step_links w ++ rest) p q → Follows free all rest (step_written k p w) (fold (event_written k) q (step_events (name_by free all) w))
  step_followed (atom a) rest p q h f =
      ports_followed a.links rest (event_written k p (events.Label a.label)) (event_written k q (events.Label a.label)) h
      (event_followed (a.links ++ rest) p q (events.Label a.label) f)
  step_followed (enter s) rest p q h f = events_followed (events.Enter ∷ set_events s) rest p q f
  step_followed leave rest p q h f = event_followed rest p q events.Leave f

  pub walk_followed : (ws : List (Step L)) (p q : Page) → list_all below (flat_map step_links ws) ≡ true → Follows free all (flat_map step_links ws) p q → Follows free all [] (fold (step_written k) p ws) (fold (event_written k) q (flat_map (step_events (name_by free all)) ws))
  walk_followed [] p q h f = f
  walk_followed (w ∷ ws) p q h f =
      let rest = flat_map step_links ws in
      let parts = and_parts (list_all below (step_links w)) (list_all below rest) (sym (list_all-append below (step_links w) rest) ∙ h) in
      let es = step_events (name_by free all) w in
      let g = step_followed w rest p q parts.0 f in
      let Is : Page → Type 0 = λ y. Follows free all [] (fold (step_written k) (step_written k p w) ws) y in
      subst Is (sym (fold-append (event_written k) q es (flat_map (step_events (name_by free all)) ws)))
      (walk_followed ws (step_written k p w) (fold (event_written k) q es) parts.1 g)
