use Rattle.std.proofs.Common.{◌≡◌, ◌<◌, length, Ok, Err, sym, ap, ◌∙◌, subst, arith}
use Rattle.std.proofs.lemmas.Result.{err_from_is_err_and}
use Rattle.grammar.specs.Reading.{hang_events, event, end}
use Rattle.grammar.specs.Pull.{left, given, Goes, final, ComesTo, view}
use Rattle.grammar.specs.Sheets.{empty, tally, tallied, once_in, text_names, with_once, sheet_of, refusal_of}
use Rattle.grammar.proofs.Firsts.{reading_laws}
use Rattle.grammar.proofs.Tallies.{tallied_event, tallied_end, tallied_fault, refusal_is, long_text, short_text, tally_room}
use Rattle.grammar.proofs.read.read.Goals as goal

pub returns-in_err-limit_length : goal.returns-in_err-limit_length
returns-in_err-limit_length g c =
    let k = g.L.Label.kind in
    let bs = c.args.text.now in
    let n = once_in (text_names bs) in
    let p = err_from_is_err_and c.from_residual.result c.from_residual.ensures.1 in
    let f = c.in_err-limit_length.field-0.0 in
    let l = long_text k bs f (sym c.in_err-limit_length.ensures) in
    let i : Err f ≡ sheet_of k bs = sym (ap (λ ev. with_once n (tallied empty ev)) l ∙ ap (with_once n) (tallied_fault g.row.L.Denot empty f)) in
    rw (p.1, p.2) (record { is = i; fault = ap refusal_of i ∙ refusal_is n empty (hang_events k 0 bs); laws = reading_laws k bs })

pub returns-in_err-event : goal.returns-in_err-event
returns-in_err-event g c =
    let k = g.L.Label.kind in
    let bs = c.args.text.now in
    let n = once_in (text_names bs) in
    let p = err_from_is_err_and c.from_residual-in_err-event.result c.from_residual-in_err-event.ensures.1 in
    let f = c.in_err-event.field-0.0 in
    let s = c.loop-event.sheet in
    let h = short_text k bs _ (sym c.in_ok-limit_length.ensures) in
    let t : Err f ≡ tallied empty (hang_events k 0 bs) = sym (tallied_fault g.row.L.Denot s f) ∙ ap (tallied s) c.in_err-event.ensures.is ∙ c.loop-event.invariant.0 ∙ ap (tallied empty) (sym h) in
    let i : Err f ≡ sheet_of k bs = ap (with_once n) t in
    rw (p.1, p.2) (record { is = i; fault = ap refusal_of i ∙ refusal_is n empty (hang_events k 0 bs); laws = reading_laws k bs })

pub loop-event-preserved : goal.loop-event-preserved
loop-event-preserved g c =
    let k = g.L.Label.kind in
    let a = c.loop-event.reader in
    let b = c.next.new.self in
    let s = c.loop-event.sheet in
    let e = c.in-Some.event in
    let gives : event e (left k b) ≡ left k a = ap (λ o. given k (Ok o) b) (sym c.in-Some.is) ∙ c.in_ok-event.ensures.is in
    let goes : length b.rest.now < length a.rest.now = subst (λ o. Goes k (Ok o) a b) c.in-Some.is c.in_ok-event.ensures.goes in
    let comes : final b ≡ final a = subst (λ o. ComesTo (Ok o) a b) c.in-Some.is c.in_ok-event.ensures.comes in
    let m = tally_room s e in
    let n : c.count-sheet.result ≡ tally s e = c.count-sheet.ensures in
    let i = c.loop-event.invariant.2 in (
      ap (λ x. tallied x (left k b)) n ∙ sym (tallied_event s e (left k b)) ∙ ap (tallied s) gives ∙ c.loop-event.invariant.0,
      comes ∙ c.loop-event.invariant.1,
      rw n (omega arith),
    )

pub returns : goal.returns
returns g c =
    let k = g.L.Label.kind in
    let bs = c.args.text.now in
    let a = c.loop-event.reader in
    let b = c.next.new.self in
    let s = c.loop-event.sheet in
    let gives : end ≡ left k a = ap (λ o. given k (Ok o) b) (sym c.in_default.is) ∙ c.in_ok-event.ensures.is in
    let comes : view b ≡ final a = subst (λ o. ComesTo (Ok o) a b) c.in_default.is c.in_ok-event.ensures.comes in
    let h = short_text k bs _ (sym c.in_ok-limit_length.ensures) in
    let o : c.once.result ≡ once_in (text_names bs) = c.once.ensures ∙ ap (λ st. once_in st.names) (comes ∙ c.loop-event.invariant.1) in
    let t : Ok s ≡ tallied empty (hang_events k 0 bs) = sym (tallied_end g.row.L.Denot s) ∙ ap (tallied s) gives ∙ c.loop-event.invariant.0 ∙ ap (tallied empty) (sym h) in
    let i : Ok (record { atoms = s.atoms; cells = s.cells; connectors = s.connectors; once = c.once.result }) ≡ sheet_of k bs = ap (λ n. with_once n (Ok s)) o ∙ ap (with_once (once_in (text_names bs))) t in
    record { is = i; fault = ap refusal_of i ∙ refusal_is (once_in (text_names bs)) empty (hang_events k 0 bs); laws = reading_laws k bs }
