-- The standings of names in events: at ports, and in connectors.
use Rattle.std.proofs.Common.{◌≡◌, ℕ, suc, ◌+◌, ◌-◌, ◌≤◌, Bool, true, false, cond, not, ◌&&◌, eqb, ltb, leb, List, [], ◌∷◌, map, length, None, refl, ap, ◌∙◌, arith}
use Rattle.std.proofs.lemmas.Bool.{and_parts, both_ways, ltb-true}
use Rattle.label.specs.Kind.{Kind}
use Rattle.text.specs.declared.packed.Name.{Name}
use Rattle.grammar.specs.declared.event.Event.TheVariants as events
use Rattle.grammar.specs.Laws.{fault_of}
use Rattle.grammar.specs.Reading.{Events, event, end, fault}
use Rattle.plan.specs.Sound.{port_links}
use Rattle.placing.specs.Keeps.{AddingKeeps, connectors_of}
use Rattle.grammar.specs.Events.{name_standings, proper_name}
use Rattle.placing.specs.Orderly.{may_come, orderly}
use Rattle.placing.specs.Placing.{Placing, place_all, place_one}
use Rattle.placing.proofs.KeepAbsorb.{flat, joined_all}
use Rattle.placing.proofs.KeepAtoms.{links_new, links_port}
use Rattle.placing.proofs.KeepGoing.{Going, goes}
use Rattle.placing.proofs.KeepTally.{tally, tally_append}

-- the links that are left, where a connector lacks its second name or not
abbrev pub pending : Bool → ℕ → List ℕ → List ℕ
pending true x xs = x ∷ xs
pending false x xs = xs

module _ {L : Type 0} where
  -- the links at the ports of events
  unfoldable pub ported : (Name → ℕ) → Events L → List ℕ
  ported link (event (events.Label l) rest) = ported link rest
  ported link (event (events.Port n) rest) = link n ∷ ported link rest
  ported link (event events.Enter rest) = ported link rest
  ported link (event events.Leave rest) = ported link rest
  ported link (event (events.Set j) rest) = ported link rest
  ported link (event (events.First n) rest) = ported link rest
  ported link (event (events.Second n) rest) = ported link rest
  ported link end = []
  ported link (fault f) = []

  -- the connectors of events, after a first name with this link
  unfoldable pub paired : (Name → ℕ) → ℕ → Events L → List (ℕ × ℕ)
  paired link x (event (events.Label l) rest) = paired link x rest
  paired link x (event (events.Port n) rest) = paired link x rest
  paired link x (event events.Enter rest) = paired link x rest
  paired link x (event events.Leave rest) = paired link x rest
  paired link x (event (events.Set j) rest) = paired link x rest
  paired link x (event (events.First n) rest) = paired link (link n) rest
  paired link x (event (events.Second n) rest) = (x, link n) ∷ paired link x rest
  paired link x end = []
  paired link x (fault f) = []

  -- the links of all standings
  unfoldable pub stood : (Name → ℕ) → Events L → List ℕ
  stood link (event (events.Label l) rest) = stood link rest
  stood link (event (events.Port n) rest) = link n ∷ stood link rest
  stood link (event events.Enter rest) = stood link rest
  stood link (event events.Leave rest) = stood link rest
  stood link (event (events.Set j) rest) = stood link rest
  stood link (event (events.First n) rest) = link n ∷ stood link rest
  stood link (event (events.Second n) rest) = link n ∷ stood link rest
  stood link end = []
  stood link (fault f) = []

  pub stood_names : (g : ℕ → ℕ) (es : Events L) → stood (λ n. g n.packed) es ≡ map g (name_standings es)
  unfolding stood name_standings
  stood_names g (event (events.Label l) rest) = stood_names g rest
  stood_names g (event (events.Port n) rest) = ap (λ t. g n.packed ∷ t) (stood_names g rest)
  stood_names g (event events.Enter rest) = stood_names g rest
  stood_names g (event events.Leave rest) = stood_names g rest
  stood_names g (event (events.Set j) rest) = stood_names g rest
  stood_names g (event (events.First n) rest) = ap (λ t. g n.packed ∷ t) (stood_names g rest)
  stood_names g (event (events.Second n) rest) = ap (λ t. g n.packed ∷ t) (stood_names g rest)
  stood_names g end = refl
  stood_names g (fault f) = refl

  module _ (k : Kind L) (link : Name → ℕ) where
    -- what the links have become is by the connectors alone
    pub became_all : (q : Placing L) (es : Events L) → (place_all k link q es).became ≡ joined_all (paired link q.first es) q.became
    unfolding place_all paired joined_all
    became_all q (event (events.Label l) rest) = became_all (place_one k link q (events.Label l)) rest
    became_all q (event (events.Port n) rest) = became_all (place_one k link q (events.Port n)) rest
    became_all q (event events.Enter rest) = became_all (place_one k link q events.Enter) rest
    became_all q (event events.Leave rest) = became_all (place_one k link q events.Leave) rest
    became_all q (event (events.Set j) rest) = became_all (place_one k link q (events.Set j)) rest
    became_all q (event (events.First n) rest) = became_all (place_one k link q (events.First n)) rest
    became_all q (event (events.Second n) rest) = became_all (place_one k link q (events.Second n)) rest
    became_all q end = refl
    became_all q (fault f) = refl

    -- each standing is at a port or in a connector
    pub all_stand : (p : ℕ → Bool) (d r : ℕ) (c : Bool) (x : ℕ) (es : Events L) → orderly k d r c es ≡ true → fault_of es ≡ None → tally p (ported link es) + tally p (flat (paired link x es)) ≡ tally p (pending c x (stood link es))
    unfolding orderly ported paired stood tally flat
    all_stand p d r c x (event (events.Label l) rest) h f =
        let both = and_parts (not c && k.mine l) (orderly k d 8 false rest) h in
        let ih = all_stand p d 8 false x rest both.1 f in
        elim c as (λ v. (not v && k.mine l) ≡ true → tally p (ported link rest) + tally p (flat (paired link x rest)) ≡ tally p (pending v x (stood link rest))) [
          | true ↦ λ e. absurd (both_ways false refl e)
          | false ↦ λ e. ih
        ] both.0
    all_stand p d r c x (event (events.Port n) rest) h f =
        let both = and_parts (not c && (ltb 0 r && proper_name n)) (orderly k d (r - 1) false rest) h in
        let ih = all_stand p d (r - 1) false x rest both.1 f in
        elim c as (λ v. (not v && (ltb 0 r && proper_name n)) ≡ true → tally p (link n ∷ ported link rest) + tally p (flat (paired link x rest)) ≡ tally p (pending v x (link n ∷ stood link rest))) [
          | true ↦ λ e. absurd (both_ways false refl e)
          | false ↦ λ e. grind arith
        ] both.0
    all_stand p d r c x (event events.Enter rest) h f =
        let both = and_parts (not c && ltb d 16) (orderly k (d + 1) 0 false rest) h in
        let ih = all_stand p (d + 1) 0 false x rest both.1 f in
        elim c as (λ v. (not v && ltb d 16) ≡ true → tally p (ported link rest) + tally p (flat (paired link x rest)) ≡ tally p (pending v x (stood link rest))) [
          | true ↦ λ e. absurd (both_ways false refl e)
          | false ↦ λ e. ih
        ] both.0
    all_stand p d r c x (event events.Leave rest) h f =
        let both = and_parts (not c && ltb 0 d) (orderly k (d - 1) 0 false rest) h in
        let ih = all_stand p (d - 1) 0 false x rest both.1 f in
        elim c as (λ v. (not v && ltb 0 d) ≡ true → tally p (ported link rest) + tally p (flat (paired link x rest)) ≡ tally p (pending v x (stood link rest))) [
          | true ↦ λ e. absurd (both_ways false refl e)
          | false ↦ λ e. ih
        ] both.0
    all_stand p d r c x (event (events.Set j) rest) h f =
        let both = and_parts (not c && (ltb 0 d && (leb 1 j && leb j 15))) (orderly k d 0 false rest) h in
        let ih = all_stand p d 0 false x rest both.1 f in
        elim c as (λ v. (not v && (ltb 0 d && (leb 1 j && leb j 15))) ≡ true → tally p (ported link rest) + tally p (flat (paired link x rest)) ≡ tally p (pending v x (stood link rest))) [
          | true ↦ λ e. absurd (both_ways false refl e)
          | false ↦ λ e. ih
        ] both.0
    all_stand p d r c x (event (events.First n) rest) h f =
        let both = and_parts (not c && proper_name n) (orderly k d 0 true rest) h in
        let ih = all_stand p d 0 true (link n) rest both.1 f in
        elim c as (λ v. (not v && proper_name n) ≡ true → tally p (ported link rest) + tally p (flat (paired link (link n) rest)) ≡ tally p (pending v x (link n ∷ stood link rest))) [
          | true ↦ λ e. absurd (both_ways false refl e)
          | false ↦ λ e. ih
        ] both.0
    all_stand p d r c x (event (events.Second n) rest) h f =
        let both = and_parts (c && proper_name n) (orderly k d 0 false rest) h in
        let ih = all_stand p d 0 false x rest both.1 f in
        elim c as (λ v. (v && proper_name n) ≡ true → tally p (ported link rest) + tally p (x ∷ (link n ∷ flat (paired link x rest))) ≡ tally p (pending v x (link n ∷ stood link rest))) [
          | true ↦ λ e. grind arith
          | false ↦ λ e. absurd (both_ways false refl e)
        ] both.0
    all_stand p d r c x end h f =
        let both = and_parts (eqb d 0) (not c) h in
        elim c as (λ v. not v ≡ true → tally p [] + tally p [] ≡ tally p (pending v x [])) [
          | true ↦ λ e. absurd (both_ways false refl e)
          | false ↦ λ e. refl
        ] both.1
    all_stand p d r c x (fault y) h f = let z : ◌≡◌ {A = ℕ} 0 1 = cc in absurd (omega arith)

    pub few_pairs : (d r : ℕ) (c : Bool) (x : ℕ) (es : Events L) → orderly k d r c es ≡ true → length (paired link x es) ≤ cond c 1 0 + connectors_of es
    unfolding orderly paired connectors_of
    few_pairs d r c x (event (events.Label l) rest) h =
        let ih = few_pairs d 8 false x rest (and_parts (may_come k d r c (events.Label l)) (orderly k d 8 false rest) h).1 in grind arith
    few_pairs d r c x (event (events.Port n) rest) h =
        let ih = few_pairs d (r - 1) false x rest (and_parts (may_come k d r c (events.Port n)) (orderly k d (r - 1) false rest) h).1 in grind arith
    few_pairs d r c x (event events.Enter rest) h =
        let ih = few_pairs (d + 1) 0 false x rest (and_parts (may_come k d r c events.Enter) (orderly k (d + 1) 0 false rest) h).1 in grind arith
    few_pairs d r c x (event events.Leave rest) h =
        let ih = few_pairs (d - 1) 0 false x rest (and_parts (may_come k d r c events.Leave) (orderly k (d - 1) 0 false rest) h).1 in grind arith
    few_pairs d r c x (event (events.Set j) rest) h =
        let ih = few_pairs d 0 false x rest (and_parts (may_come k d r c (events.Set j)) (orderly k d 0 false rest) h).1 in grind arith
    few_pairs d r c x (event (events.First n) rest) h =
        let ih = few_pairs d 0 true (link n) rest (and_parts (may_come k d r c (events.First n)) (orderly k d 0 true rest) h).1 in grind arith
    few_pairs d r c x (event (events.Second n) rest) h =
        let both = and_parts (c && proper_name n) (orderly k d 0 false rest) h in
        let ih = few_pairs d 0 false x rest both.1 in
        elim c as (λ v. (v && proper_name n) ≡ true → suc (length (paired link x rest)) ≤ cond v 1 0 + connectors_of rest) [
          | true ↦ λ e. grind arith
          | false ↦ λ e. absurd (both_ways false refl e)
        ] both.0
    few_pairs d r c x end h = omega arith
    few_pairs d r c x (fault y) h = omega arith

    -- the links at the ports of the plan, and of the text
    pub ports_all : AddingKeeps k → (p : ℕ → Bool) (d r : ℕ) (c : Bool) (q : Placing L) (es : Events L) → orderly k d r c es ≡ true → Going k d r q → tally p (port_links (place_all k link q es).atoms) ≡ tally p (port_links q.atoms) + tally p (ported link es)
    unfolding orderly place_all ported tally
    ports_all adding p d r c q (event (events.Label l) rest) h g =
        let both = and_parts (may_come k d r c (events.Label l)) (orderly k d 8 false rest) h in
        ports_all adding p d 8 false (place_one k link q (events.Label l)) rest both.1 (goes k link adding d r c q (events.Label l) both.0 g)
        ∙ ap (λ t. tally p t + tally p (ported link rest)) (links_new q.atoms l q.inside)
    ports_all adding p d r c q (event (events.Port n) rest) h g =
        let both = and_parts (may_come k d r c (events.Port n)) (orderly k d (r - 1) false rest) h in
        let some = ltb-true 0 r (and_parts (ltb 0 r) (proper_name n) (and_parts (not c) (ltb 0 r && proper_name n) both.0).1).0 in
        let more = ap (tally p) (links_port (link n) r q.atoms some g.room) ∙ tally_append p (port_links q.atoms) (link n ∷ []) in
        let ih = ports_all adding p d (r - 1) false (place_one k link q (events.Port n)) rest both.1 (goes k link adding d r c q (events.Port n) both.0 g) in
        ih ∙ ap (λ t. t + tally p (ported link rest)) more ∙ grind arith
    ports_all adding p d r c q (event events.Enter rest) h g =
        let both = and_parts (may_come k d r c events.Enter) (orderly k (d + 1) 0 false rest) h in
        ports_all adding p (d + 1) 0 false (place_one k link q events.Enter) rest both.1 (goes k link adding d r c q events.Enter both.0 g)
    ports_all adding p d r c q (event events.Leave rest) h g =
        let both = and_parts (may_come k d r c events.Leave) (orderly k (d - 1) 0 false rest) h in
        ports_all adding p (d - 1) 0 false (place_one k link q events.Leave) rest both.1 (goes k link adding d r c q events.Leave both.0 g)
    ports_all adding p d r c q (event (events.Set j) rest) h g =
        let both = and_parts (may_come k d r c (events.Set j)) (orderly k d 0 false rest) h in
        ports_all adding p d 0 false (place_one k link q (events.Set j)) rest both.1 (goes k link adding d r c q (events.Set j) both.0 g)
    ports_all adding p d r c q (event (events.First n) rest) h g =
        let both = and_parts (may_come k d r c (events.First n)) (orderly k d 0 true rest) h in
        ports_all adding p d 0 true (place_one k link q (events.First n)) rest both.1 (goes k link adding d r c q (events.First n) both.0 g)
    ports_all adding p d r c q (event (events.Second n) rest) h g =
        let both = and_parts (may_come k d r c (events.Second n)) (orderly k d 0 false rest) h in
        ports_all adding p d 0 false (place_one k link q (events.Second n)) rest both.1 (goes k link adding d r c q (events.Second n) both.0 g)
    ports_all adding p d r c q end h g = omega arith
    ports_all adding p d r c q (fault y) h g = omega arith
