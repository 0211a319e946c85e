-- The text of a whole plan.
use Rattle.std.proofs.lemmas.List.Folds.{list_all-append}
use Rattle.std.proofs.lemmas.List.Concat.{flat_map-append}
use Rattle.std.proofs.Common.{◌≡◌, ℕ, zero, suc, Bool, true, false, cond, eqb, List, [], ◌∷◌, ◌++◌, map, replicate, None, fold, filter, sym, refl, ap, ◌∙◌}
use Rattle.std.proofs.lemmas.Bool.{and_parts, and_from}
use Rattle.label.specs.Kind.{Kind}
use Rattle.grammar.specs.declared.event.Event.{Event}
use Rattle.plan.specs.declared.tables.FreeLink.{FreeLink}
use Rattle.plan.specs.Model.{Model, Node}
use Rattle.std.specs.List.{list_all}
use Rattle.plan.specs.Sound.{port_links}
use Rattle.showing.specs.declared.last.Last.TheVariants as last
use Rattle.std.specs.List.{flat_map}
use Rattle.showing.specs.Walk.{Step, atom, leave, walk, whole_walk, atoms_in, cells_in}
use Rattle.showing.specs.Text.{text_of, lead, own, past}
use Rattle.showing.specs.Shown.{step_links, step_events, numbered, shown_name, plan_events, shown, ties}
use Rattle.show.specs.Page.{Ink, Page, inked, event_written, ended}
use Rattle.show.specs.Steps.{plan_written, step_written}
use Rattle.std.proofs.lemmas.List.Sums.{fold-append}
use Rattle.show.proofs.Told.{told_none}
use Rattle.show.proofs.Walks.{cell_walk}
use Rattle.show.proofs.Followed.{Follows, below, walk_followed, events_followed}

-- events are written as their text
pub text_written : {L : Type 0} (k : Kind L) (es : List (Event L)) (p : Page) → (ended (fold (event_written k) p es)).ink ≡ fold inked p.ink (text_of k p.last es)
unfolding text_of
text_written k [] p = refl
text_written k (e ∷ es) p =
    text_written k es (event_written k p e)
    ∙ sym (fold-append inked p.ink (lead p.last e) (own k e ++ text_of k (past e) es) ∙ fold-append inked (fold inked p.ink (lead p.last e)) (own k e) (text_of k (past e) es))

-- the links of a walk are links of atoms
module _ {L : Type 0} (p : ℕ → Bool) where
  abbrev pub Passes : List (Step L) → Type 0
  Passes ws = list_all p (flat_map step_links ws) ≡ true

  passes_both : (ws vs : List (Step L)) → Passes ws → Passes vs → Passes (ws ++ vs)
  passes_both ws vs a b =
      ap (list_all p) (flat_map-append step_links ws vs) ∙ list_all-append p (flat_map step_links ws) (flat_map step_links vs) ∙ and_from _ _ a b

  passes_atoms : (q : Node L → Bool) (atoms : List (Node L)) → list_all p (port_links atoms) ≡ true → Passes (map atom (filter q atoms))
  unfolding port_links
  passes_atoms q [] h = refl
  passes_atoms q (a ∷ atoms) h =
      let parts = and_parts (list_all p a.links) (list_all p (port_links atoms)) (sym (list_all-append p a.links (port_links atoms)) ∙ h) in
      let ih = passes_atoms q atoms parts.1 in
      elim (q a) as (λ v. Passes (map atom (cond v (a ∷ filter q atoms) (filter q atoms)))) [
        | true ↦ list_all-append p a.links (flat_map step_links (map atom (filter q atoms))) ∙ and_from _ _ parts.0 ih
        | false ↦ ih
      ]

  passes_cells : (F : ℕ → List (Step L)) → ((r : ℕ) → Passes (F r)) → (rs : List ℕ) → Passes (flat_map F rs)
  passes_cells F h [] = refl
  passes_cells F h (r ∷ rs) = passes_both (F r) (flat_map F rs) (h r) (passes_cells F h rs)

  pub passes_walk : (n : ℕ) (m : Model L) (c : ℕ) → list_all p (port_links m.atoms) ≡ true → Passes (walk n m c)
  unfolding walk
  passes_walk zero m c h = refl
  passes_walk (suc n) m c h =
      passes_both (map atom (atoms_in c m.atoms)) (flat_map (cell_walk n m) (cells_in c m.cells)) (passes_atoms (λ a. eqb a.cell c) m.atoms h)
      (passes_cells (cell_walk n m) (λ r. passes_both (walk n m r) (leave ∷ []) (passes_walk n m r h) refl) (cells_in c m.cells))

-- the page that a text begins on
abbrev pub empty_page : Ink → List FreeLink → Page
empty_page i free = record { ink = i; last = last.Nothing; free = free; numbers = record { table = replicate 8256 None; count = 0 } }

pub plan_shown : {L : Type 0} (k : Kind L) (m : Model L) (i : Ink) → list_all below (port_links m.atoms) ≡ true → (plan_written k m (empty_page i m.free)).ink ≡ fold inked i (shown k m)
unfolding numbered
plan_shown k m i h =
    let p = empty_page i m.free in
    let es = flat_map (step_events (shown_name m)) (whole_walk m) in
    let start : Follows m.free (numbered m) (flat_map step_links (whole_walk m)) p p = record { page = refl; named = refl; seen = []; told = told_none; onward = refl } in
    let walked = walk_followed k m.free (numbered m) (whole_walk m) p p (passes_walk below 17 m 0 h) start in
    let tied = events_followed k m.free (numbered m) (ties m.free) [] _ _ walked in
    ap (λ (free : List FreeLink). (ended (fold (event_written k) (fold (step_written k) p (whole_walk m)) (ties free))).ink) walked.named
    ∙ ap (λ (x : Page). (ended x).ink) tied.page
    ∙ ap (λ (x : Page). (ended x).ink) (sym (fold-append (event_written k) p es (ties m.free)))
    ∙ text_written k (plan_events m) p
