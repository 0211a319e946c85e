use Rattle.std.proofs.Common.{◌≡◌, ℕ, ◌+◌, ◌<◌, length, Ok, sym, ap, ◌∙◌, subst, arith}
use Rattle.std.proofs.lemmas.Result.{err_from_is_err_and}
use Rattle.text.specs.Tokens as tokens
use Rattle.text.specs.Answer.{answer, shape, GoesOn}
use Rattle.grammar.specs.Reading.{follow}
use Rattle.grammar.specs.Pull.{view, left}
use Rattle.grammar.proofs.Pulling.{on_end, on_fault, finished, taken, refused, final_taken, final_end}
use Rattle.grammar.proofs.reader.Reader.next.Given as given
use Rattle.grammar.proofs.reader.Reader.next.Goals as goal
use Rattle.grammar.proofs.reader.Reader.next.Goals.{In-Some}

pub returns-in_err-next_token : goal.returns-in_err-next_token
returns-in_err-next_token g c =
    let k = g.L.Label.kind in
    let p = err_from_is_err_and c.from_residual.result c.from_residual.ensures.1 in
    let i = c.tokens.invariant.0 in
    rw (p.1, p.2) (record { is = sym (on_fault k (view c.tokens.self) _ _ c.in_err-next_token.ensures.is) ∙ i; goes = i; comes = tt })

pub returns-in-None : goal.returns-in-None
returns-in-None g c =
    let k = g.L.Label.kind in
    let rd = c.tokens.self in
    let n : ℕ = rd.at + length rd.rest.now in
    let t : tokens.end n ≡ tokens.tokens 0 rd.at rd.rest.now = ap (λ o. answer n (Ok o)) (sym c.in-None.is) ∙ c.in_ok-next_token.ensures.is in
    let i = c.tokens.invariant.0 in
    let e = c.finish.ensures.is in
    let v = final_end rd n t ∙ c.tokens.invariant.2 in
    record {
      is = (finished k c.finish.result c.args.self.now _ (view rd) n e i v).0 ∙ sym (on_end k (view rd) _ n t) ∙ i;
      goes = (finished k c.finish.result c.args.self.now _ (view rd) n e i v).1;
      comes = (finished k c.finish.result c.args.self.now _ (view rd) n e i v).2;
    }

-- what the lexer found, at the arm that has it
found : (g : given.Over) (c : In-Some g) → (tokens.token (shape c.in-Some.found.token) c.in-Some.found.place (tokens.tokens 0 c.in-Some.found.next c.in-Some.found.rest.now) ≡ tokens.tokens 0 c.tokens.self.at c.tokens.self.rest.now) × (length c.in-Some.found.rest.now < length c.tokens.self.rest.now)
found g c =
    let n : ℕ = c.tokens.self.at + length c.tokens.self.rest.now in (
      ap (λ o. answer n (Ok o)) (sym c.in-Some.is) ∙ c.in_ok-next_token.ensures.is,
      (subst (λ o. GoesOn c.tokens.self.at c.tokens.self.rest.now (Ok o)) c.in-Some.is c.in_ok-next_token.ensures.ahead).1,
    )

pub returns-in_err-event-in-Some : goal.returns-in_err-event-in-Some
returns-in_err-event-in-Some g c =
    let k = g.L.Label.kind in
    let a = c.tokens.self in
    let b = c.take.new.self in
    let p = err_from_is_err_and c.from_residual-in_err-event-in-Some.result c.from_residual-in_err-event-in-Some.ensures.1 in
    let f = found g (goal.at.returns-in_err-event-in-Some g c).In-Some in
    let i = c.tokens.invariant.0 in
    let r = refused k a b c.in-Some.found c.in_err-event-in-Some.field-0.0 c.in_err-event-in-Some.ensures f.0 in
    rw (p.1, p.2) (record { is = sym r.0 ∙ i; goes = r.1 ∙ i; comes = tt })

pub returns-in-Some-event : goal.returns-in-Some-event
returns-in-Some-event g c =
    let k = g.L.Label.kind in
    let a = c.tokens.self in
    let b = c.take.new.self in
    let f = found g (goal.at.returns-in-Some-event g c).In-Some in
    let t = c.in_ok-event-in-Some.ensures in
    let i = c.tokens.invariant.0 in
    let e = taken k a b c.in-Some.found c.in_ok-event-in-Some.event t f.0 in
    let l : length b.rest.now ≡ length c.in-Some.found.rest.now = ap length t.2 in
    let m = f.1 in
    let j = c.tokens.invariant.1 in
    record { is = sym (e ∙ ap (λ o. follow (Ok o) c.in-Some.found.place (left k b)) c.in-Some-event.is) ∙ i; goes = omega arith; comes = final_taken k a b c.in-Some.found c.in_ok-event-in-Some.event t f.0 ∙ c.tokens.invariant.2 }

pub tokens-preserved : goal.tokens-preserved
tokens-preserved g c =
    let k = g.L.Label.kind in
    let a = c.tokens.self in
    let b = c.take.new.self in
    let f = found g (goal.at.tokens-preserved g c).In-Some in
    let t = c.in_ok-event-in-Some.ensures in
    let i = c.tokens.invariant.0 in
    let e = taken k a b c.in-Some.found c.in_ok-event-in-Some.event t f.0 in
    let l : length b.rest.now ≡ length c.in-Some.found.rest.now = ap length t.2 in
    let m = f.1 in
    let j = c.tokens.invariant.1 in
    (sym (e ∙ ap (λ o. follow (Ok o) c.in-Some.found.place (left k b)) c.in_default.is) ∙ i, omega arith, final_taken k a b c.in-Some.found c.in_ok-event-in-Some.event t f.0 ∙ c.tokens.invariant.2)
