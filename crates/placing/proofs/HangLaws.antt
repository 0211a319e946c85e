-- The laws of hanging a text.
use Rattle.std.proofs.Common.{false, cond, not, eqb, map, length, take, ap, ◌∙◌, arith, take_all}
use lib.ListN.{length-map}
use Rattle.std.proofs.lemmas.List.{take-map}
use Rattle.label.specs.Kind.{Kind, Lawful}
use Rattle.grammar.specs.Reading.{hang_events}
use Rattle.grammar.specs.Sheets.{text_names}
use Rattle.placing.specs.Links.{free_after, link_at, unused}
use Rattle.placing.specs.Placing.{begun, links_in, place_all, relinked}
use Rattle.placing.specs.Laws.{HangLaw, is_open, shape}
use Rattle.placing.proofs.Ordering.{orderly_text}
use Rattle.placing.proofs.NamesOf.{names_right}
use Rattle.placing.proofs.OpenNames.{after_names, after_open, links_length, refreed_open}
use Rattle.placing.proofs.Staying.{all_atoms, all_cells, all_labels, all_stays, relinked_atoms_of, shape_relinked}

pub hang_laws : {L : Type 0} (k : Kind L) → Lawful k → HangLaw k
hang_laws k law m bs e =
    let names = text_names bs in
    let es = hang_events k 0 bs in
    let links = links_in m names in
    let link = link_at names links in
    let last = place_all k link (begun m) es in
    let right = names_right k bs e in
    let long = links_length m.free names (unused m) in
    let stay = all_stays k link (length m.atoms) (length m.cells) es 0 0 false (begun m) (orderly_text k law bs)
    (record { atoms_long = omega arith; last_new = λ h. absurd (omega arith); cells_long = omega arith; chain = tt }) in
    record {
      open_names = λ n.
          refreed_open n last.became (free_after m.free names links) ∙ after_open m.free n names links long right.apart
          ∙ ap (λ c. cond (eqb c 1) (not (is_open n m.free)) (is_open n m.free)) (right.standings n);
      free_names = after_names m.free names links last.became _ long (λ n. ap (λ c. not (eqb c 1)) (right.standings n));
      labels = λ l. relinked_atoms_of k l last.became last.atoms ∙ all_labels k link l (begun m) es;
      atoms_stay =
          ap (map shape) (take-map (relinked last.became) (length m.atoms) last.atoms) ∙ shape_relinked last.became (take (length m.atoms) last.atoms)
          ∙ ap (map shape) (stay.0 ∙ take_all (length m.atoms) m.atoms (omega arith));
      atom_number = length-map last.atoms (relinked last.became) ∙ all_atoms k link (begun m) es;
      cells_stay = stay.1 ∙ take_all (length m.cells) m.cells (omega arith);
      cell_number = all_cells k link (begun m) es;
    }
