use Rattle.std.proofs.Common.{◌≡◌, ◌+◌, [], map, length, sym, ap, ◌∙◌, arith}
use Rattle.std.specs.Option.{option_map}
use Rattle.std.proofs.lemmas.List.{length-map}
use Rattle.label.specs.Written.{told}
use Rattle.plan.specs.Model.{model_of}
use Rattle.grammar.specs.Laws.{fault_of}
use Rattle.grammar.specs.Pull.{left}
use Rattle.grammar.specs.Reading.{event, end}
use Rattle.placing.specs.Counts.{labels_at, labels_in}
use Rattle.hang.specs.Labels.{all_mine, lacking}
use Rattle.hang.proofs.Heading.{ends_there}
use Rattle.hang.proofs.Labelling.{labels_on, lacking_end, lacking_on, mine_on}
use Rattle.hang.proofs.labels.count_lacking.Goals as goal

pub note_label-requires : goal.note_label-requires
note_label-requires g c =
    let k = g.L.Label.kind in
    let e = c.in-Some.event in
    let rest = left k c.next_event.new.reader in
    let gives : event e rest ≡ left k c.loop-event.reader = c.in-Some.ensures.0 in
    let mine = mine_on k e rest (ap (all_mine k) gives ∙ c.loop-event.invariant.mine) in
    let more : labels_at e + labels_in rest ≡ labels_in (left k c.loop-event.reader) = sym (labels_on e rest) ∙ ap labels_in gives in
    let room = c.loop-event.invariant.few in
    record { mine = mine.0; room = omega arith }

pub loop-event-preserved : goal.loop-event-preserved
loop-event-preserved g c =
    let k = g.L.Label.kind in
    let e = c.in-Some.event in
    let rest = left k c.next_event.new.reader in
    let register = (model_of c.args.plan.now).register in
    let ls = map (option_map told) c.loop-event.tokens.items in
    let gives : event e rest ≡ left k c.loop-event.reader = c.in-Some.ensures.0 in
    let mine = mine_on k e rest (ap (all_mine k) gives ∙ c.loop-event.invariant.mine) in
    let more : labels_at e + labels_in rest ≡ labels_in (left k c.loop-event.reader) = sym (labels_on e rest) ∙ ap labels_in gives in
    let room = c.loop-event.invariant.few in
    let few = c.note_label.ensures.few in
    record {
      list = ap (λ t. lacking k register t rest) c.note_label.ensures.labels ∙ sym (lacking_on k register ls e rest) ∙ ap (lacking k register ls) gives ∙ c.loop-event.invariant.list;
      whole = c.in-Some.ensures.2 ∙ c.loop-event.invariant.whole;
      clean = ap fault_of gives ∙ c.loop-event.invariant.clean;
      mine = mine.1;
      few = omega arith;
    }

pub returns : goal.returns
returns g c =
    let k = g.L.Label.kind in
    let ended : left k c.loop-event.reader ≡ end = ends_there (left k c.loop-event.reader) c.in_default.ensures.0 c.loop-event.invariant.clean in
    let ls = map (option_map told) c.loop-event.tokens.items in
    let register = (model_of c.args.plan.now).register in
    let all : ls ≡ lacking k register [] (left k c.args.reader.now) = sym (lacking_end k register ls) ∙ ap (lacking k register ls) (sym ended) ∙ c.loop-event.invariant.list in
    record { is = c.len.ensures.value ∙ sym (length-map c.loop-event.tokens.items (option_map told)) ∙ ap length all; whole = c.in_default.ensures.1 ended ∙ c.loop-event.invariant.whole }
