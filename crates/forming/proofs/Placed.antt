-- The plan after a text, by its form.
use Rattle.std.proofs.lemmas.List.Elements.{filter_agree}
use Rattle.std.proofs.Common.{◌≡◌, ℕ, ◌<◌, false, not, ◌&&◌, eqb, List, [], ◌∷◌, ◌++◌, map, length, get_or, None, filter, sym, refl, ap, ◌∙◌, ap₂, append-nil, arith}
use lib.ListN as lists
use lib.Seq.{set-get_or}
use Rattle.std.proofs.lemmas.List.{map-append}
use Rattle.std.proofs.lemmas.Simd.{map-map}
use Rattle.label.specs.Kind.{Kind, Lawful}
use Rattle.text.specs.declared.packed.Name.{Name}
use Rattle.grammar.specs.Reading.{end, hang_events}
use Rattle.grammar.specs.State.{start}
use Rattle.grammar.specs.Laws.{fault_of, spots, stream, text_tokens}
use Rattle.grammar.specs.Form.{Items, item_tokens}
use Rattle.plan.specs.Model.{Model}
use Rattle.plan.specs.Sound.{count, link_limit, no_cell, rows}
use Rattle.placing.specs.Answer.{hung_text}
use Rattle.placing.specs.Laws.{is_open, stands_once}
use Rattle.grammar.specs.Events.{name_standings}
use Rattle.placing.specs.Orderly.{orderly}
use Rattle.placing.specs.Placing.{become, begun, place_all, relinked}
use Rattle.placing.proofs.HangLaws.{hang_laws}
use Rattle.placing.proofs.NamesOf.{names_right}
use Rattle.placing.proofs.Ordering.{orderly_text}
use Rattle.forming.specs.Events.{FormOf}
use Rattle.forming.specs.Places.{AtomText, Placed, PlaceLaw, became, direct_set, name_link, node, once, written_atoms, written_cells, written_names}
use Rattle.forming.proofs.Reading.{form_law}
use Rattle.forming.proofs.Laying.{laid, lays, settled}
use Rattle.forming.proofs.Names.{form_names, form_stands, packed_of}
use Rattle.forming.proofs.Outside.{no_outer_set}
use Rattle.forming.proofs.Table.{names_told, says_all, says_none, token_names}

relinked_nodes : {L : Type 0} (b : List ℕ) (link : Name → ℕ) (xs : List (AtomText L)) → map (relinked b) (map (node link) xs) ≡ map (node (λ n. become b (link n))) xs
relinked_nodes b link [] = refl
relinked_nodes b link (a ∷ xs) = ap₂ (λ ls rest. record { label = a.label; cell = a.cell; links = ls } ∷ rest) (map-map (become b) link a.names) (relinked_nodes b link xs)

module _ {L : Type 0} (k : Kind L) (law : Lawful k) (m : Model L) (bs : List ℕ) (h : Items) (some : 0 < length m.cells) (clean : fault_of (hang_events k 0 bs) ≡ None) (tokens : item_tokens h ≡ text_tokens k bs) where
  pub form_is : FormOf k bs h
  form_is = (form_law k bs clean).each h tokens

  pub placed_is : place_all k (name_link m bs) (begun m) (hang_events k 0 bs) ≡ laid k (name_link m bs) h m.atoms m.cells m.register 0 0 (rows 0 link_limit) (length m.cells)
  unfolding place_all
  placed_is =
      ap (place_all k (name_link m bs) (begun m)) form_is.events
      ∙ lays k (name_link m bs) h m.atoms m.cells m.register 0 0 (rows 0 link_limit) end some form_is.right

  pub no_set : (j : ℕ) → direct_set j h ≡ j
  no_set = no_outer_set k h end (0, false, ap (orderly k 0 0 false) (sym form_is.events) ∙ orderly_text k law bs)

  root_stays : settled m.cells 0 h ≡ m.cells
  root_stays =
      ap (λ j. lists.set m.cells 0 (record { parent = (get_or m.cells 0 no_cell).parent; set = j })) (no_set (get_or m.cells 0 no_cell).set)
      ∙ set-get_or m.cells 0 no_cell

  pub standings_are : name_standings (hang_events k 0 bs) ≡ form_names h
  unfolding name_standings
  standings_are = ap name_standings form_is.events ∙ form_stands k h end ∙ append-nil (form_names h)

  names_are : token_names (text_tokens k bs) ≡ written_names h
  names_are = ap token_names (sym tokens) ∙ ap token_names (sym (append-nil (item_tokens h))) ∙ names_told h [] ∙ append-nil (written_names h)

  free_are : map (λ f. f.name) (hung_text k m bs).free ≡ filter (λ n. not (once h n)) (map (λ f. f.name) m.free) ++ filter (λ n. once h n && not (is_open n m.free)) (written_names h)
  free_are =
      let P = λ (n : Name). not (is_open n m.free) in
      let says = says_all P (spots (stream k bs)) start [] (says_none P) (λ x. let f = (names_right k bs clean).few x in let e : count x (packed_of (token_names (text_tokens k bs))) ≡ count x (name_standings (hang_events k 0 bs)) = ap (λ ns. count x (packed_of ns)) names_are ∙ ap (count x) (sym standings_are) in omega arith) in
      (hang_laws k law m bs clean).free_names
      ∙ ap₂ ◌++◌
      (filter_agree (λ n. not (stands_once k m bs n)) (λ n. not (once h n)) (λ n. ap (λ xs. not (eqb (count n.packed xs) 1)) standings_are) (map (λ f. f.name) m.free))
      (says.singly ∙ ap (λ ns. filter (λ n. eqb (count n.packed (packed_of ns)) 1 && P n) ns) names_are)

  pub placed : Placed k m bs h
  placed =
      record {
        cells = ap (λ p. p.cells) placed_is ∙ ap (λ c. c ++ written_cells 0 (length m.cells) h) root_stays;
        atoms =
            ap (λ p. map (relinked p.became) p.atoms) placed_is
            ∙ map-append (relinked (became m bs h)) m.atoms (map (node (name_link m bs)) (written_atoms k 0 (length m.cells) h))
            ∙ ap (λ t. map (relinked (became m bs h)) m.atoms ++ t) (relinked_nodes (became m bs h) (name_link m bs) (written_atoms k 0 (length m.cells) h));
        free = free_are;
        no_set = no_set;
      }

pub place_law : {L : Type 0} (k : Kind L) → Lawful k → PlaceLaw k
place_law k law m bs h some clean tokens = placed k law m bs h some clean tokens
