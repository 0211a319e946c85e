-- Links renamed: the tables are as long after a text.
use Rattle.std.proofs.Common.{◌≡◌, ℕ, suc, min, true, false, cond, ◌&&◌, leb, List, [], ◌∷◌, ◌++◌, map, length, Some, filter, sym, refl, ap, ◌∙◌, ap₂, arith, length-append}
use Rattle.std.proofs.lemmas.List.{length-map}
use Rattle.label.specs.Kind.{Kind}
use Rattle.text.specs.declared.packed.Name.{Name}
use Rattle.grammar.specs.declared.event.Event.{Event}
use Rattle.grammar.specs.declared.event.Event.TheVariants as events
use Rattle.grammar.specs.declared.stand.Standing.{Standing}
use Rattle.grammar.specs.Reading.{Events, event, end, fault}
use Rattle.plan.specs.declared.tables.FreeLink.{FreeLink}
use Rattle.plan.specs.declared.tables.Plan.{Plan}
use Rattle.plan.specs.Model.{Model}
use Rattle.register.specs.Rows.{added}
use Rattle.placing.specs.Answer.{takes}
use Rattle.placing.specs.Links.{free_after, link_at, opened, opens, stays, unused}
use Rattle.placing.specs.Placing.{Placing, begun, hung, links_in, parent_of, place_all, place_one, refreed, relinked, with_set}
use Rattle.placing.proofs.KeepAtoms.{length_port}
use Rattle.placing.proofs.KeepNames.{length_links}
use Rattle.sameness.specs.Renaming.{free_by, node_by, renamed_by}
use Rattle.sameness.specs.Keeping.{SameRoom}
use Rattle.showing.proofs.Lists.{kept_map}
use Rattle.sameness.proofs.Hanging.{opens_by}

module _ {L : Type 0} where
  -- all is the same but for links
  record Alike (p q : Placing L) : Type 0 where
    atoms : length q.atoms ≡ length p.atoms
    cells : q.cells ≡ p.cells
    register : q.register ≡ p.register
    inside : q.inside ≡ p.inside

  module _ (k : Kind L) (link other : Name → ℕ) where
    one_alike : (p q : Placing L) (e : Event L) → Alike p q → Alike (place_one k link p e) (place_one k other q e)
    one_alike p q (events.Label l) h =
        let a = length-append p.atoms (record { label = l; cell = p.inside; links = [] } ∷ []) in
        let b = length-append q.atoms (record { label = l; cell = q.inside; links = [] } ∷ []) in
        let c = h.atoms in
        record { atoms = omega arith; cells = h.cells; register = ap (added k l) h.register; inside = h.inside }
    one_alike p q (events.Port n) h =
        record { atoms = length_port (other n) q.atoms ∙ h.atoms ∙ sym (length_port (link n) p.atoms); cells = h.cells; register = h.register; inside = h.inside }
    one_alike p q events.Enter h =
        record { atoms = h.atoms; cells = ap₂ (λ t c. t ++ (record { parent = Some c; set = 0 } ∷ [])) h.cells h.inside; register = h.register; inside = ap length h.cells }
    one_alike p q events.Leave h = record { atoms = h.atoms; cells = h.cells; register = h.register; inside = ap₂ parent_of h.cells h.inside }
    one_alike p q (events.Set j) h =
        record { atoms = h.atoms; cells = ap₂ (λ t c. with_set t c j) h.cells h.inside; register = h.register; inside = h.inside }
    one_alike p q (events.First n) h = record { atoms = h.atoms; cells = h.cells; register = h.register; inside = h.inside }
    one_alike p q (events.Second n) h = record { atoms = h.atoms; cells = h.cells; register = h.register; inside = h.inside }

    all_alike : (p q : Placing L) (es : Events L) → Alike p q → Alike (place_all k link p es) (place_all k other q es)
    unfolding place_all
    all_alike p q (event e rest) h = all_alike (place_one k link p e) (place_one k other q e) rest (one_alike p q e h)
    all_alike p q end h = h
    all_alike p q (fault x) h = h

opened_long : (f : ℕ → ℕ) (fs : List FreeLink) (ss : List Standing) (xs ys : List ℕ) → length ys ≡ length xs → length (opened (map (free_by f) fs) ss ys) ≡ length (opened fs ss xs)
unfolding opened
opened_long f fs [] xs ys l = refl
opened_long f fs (s ∷ ss) [] [] l = refl
opened_long f fs (s ∷ ss) [] (y ∷ ys) l = absurd (omega arith)
opened_long f fs (s ∷ ss) (x ∷ xs) [] l = absurd (omega arith)
opened_long f fs (s ∷ ss) (x ∷ xs) (y ∷ ys) l =
    let ih = opened_long f fs ss xs ys (omega arith) in
    ap (λ b. length (cond b (record { name = s.name; link = y } ∷ opened (map (free_by f) fs) ss ys) (opened (map (free_by f) fs) ss ys))) (opens_by f fs s)
    ∙ elim (opens fs s) as (λ b. length (cond b (record { name = s.name; link = y } ∷ opened (map (free_by f) fs) ss ys) (opened (map (free_by f) fs) ss ys)) ≡ length (cond b (record { name = s.name; link = x } ∷ opened fs ss xs) (opened fs ss xs))) [
      | true ↦ ap suc ih
      | false ↦ ih
    ]

after_long : (f : ℕ → ℕ) (fs : List FreeLink) (ss : List Standing) (xs ys : List ℕ) → length ys ≡ length xs → length (free_after (map (free_by f) fs) ss ys) ≡ length (free_after fs ss xs)
after_long f fs ss xs ys l =
    let a = length-append (filter (stays ss) (map (free_by f) fs)) (opened (map (free_by f) fs) ss ys) in
    let b = length-append (filter (stays ss) fs) (opened fs ss xs) in
    let c : length (filter (stays ss) (map (free_by f) fs)) ≡ length (filter (stays ss) fs) = ap length (kept_map (stays ss) (free_by f) fs) ∙ length-map (filter (stays ss) fs) (free_by f) in
    let d = opened_long f fs ss xs ys l in
    omega arith

-- the tables are as long
pub record AsLong {L : Type 0} (a b : Model L) : Type 0 where
  pub atoms : length b.atoms ≡ length a.atoms
  pub cells : length b.cells ≡ length a.cells
  pub free : length b.free ≡ length a.free
  pub register : length b.register ≡ length a.register

module _ {L : Type 0} (k : Kind L) (f : ℕ → ℕ) (m : Model L) (names : List Standing) (es : Events L) where
  pub as_long : AsLong (hung k m names es) (hung k (renamed_by f m) names es)
  as_long =
      let n = renamed_by f m in
      let link = link_at names (links_in m names) in
      let other = link_at names (links_in n names) in
      let p = place_all k link (begun m) es in
      let q = place_all k other (begun n) es in
      let alike = all_alike k link other (begun m) (begun n) es (record { atoms = length-map m.atoms (node_by f); cells = refl; register = refl; inside = refl }) in
      record {
        atoms = length-map q.atoms (relinked q.became) ∙ alike.atoms ∙ sym (length-map p.atoms (relinked p.became));
        cells = ap length alike.cells;
        free =
            length-map (free_after n.free names (links_in n names)) (refreed q.became)
            ∙ after_long f m.free names (links_in m names) (links_in n names) (length_links n.free (unused n) names ∙ sym (length_links m.free (unused m) names))
            ∙ sym (length-map (free_after m.free names (links_in m names)) (refreed p.became));
        register = ap length alike.register;
      }

pub takes_same : {L : Type 0} (p q : Plan L) (a b : Model L) → SameRoom p q → AsLong a b → takes q b ≡ takes p a
takes_same p q a b r l =
    ap₂ ◌&&◌ (ap₂ (λ n t. leb n (min t 1024)) l.atoms r.atoms)
    (ap₂ ◌&&◌ (ap₂ (λ n t. leb n (min t 128)) l.cells r.cells)
    (ap₂ ◌&&◌ (ap₂ (λ n t. leb n (min t 64)) l.free r.free) (ap₂ (λ n t. leb n (min t 1024)) l.register r.register)))
