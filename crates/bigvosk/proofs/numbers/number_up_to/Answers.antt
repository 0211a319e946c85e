use Rattle.std.proofs.Common.{sym, ◌∙◌, arith}
use Rattle.bigvosk.proofs.Counting.{is_text, no_text, not_digits, number_is, number_none, the_text}
use Rattle.bigvosk.proofs.numbers.number_up_to.Goals as goal

pub returns-then-not-is_digits : goal.returns-then-not-is_digits
returns-then-not-is_digits c = not_digits c.args.most c.args.bytes.now (sym c.if-not-is_digits.ensures)

pub returns-in_err-text : goal.returns-in_err-text
returns-in_err-text c =
    absurd (no_text _ _ _ c.from_utf8.result (sym c.ok.ensures.value ∙ c.in_err-text.was) c.from_utf8.ensures.cases (is_text c.args.most c.args.bytes.now (sym c.if-not-is_digits.ensures)))

pub returns-in_err-number : goal.returns-in_err-number
returns-in_err-number c =
    let s = c.args.bytes.now in
    let same = the_text _ _ s c.in_ok-text.text c.from_utf8.result (sym c.ok.ensures.value ∙ c.in_ok-text.was) c.from_utf8.ensures.cases in
    c.from_residual-in_err-number.ensures
    ∙ number_none c.args.most s (sym c.if-not-is_digits.ensures) (omega arith) c.parse.result (rw same at c.parse.ensures.value.0) (sym c.ok-2.ensures.value ∙ c.in_err-number.was)

pub returns : goal.returns
returns c =
    let s = c.args.bytes.now in
    let same = the_text _ _ s c.in_ok-text.text c.from_utf8.result (sym c.ok.ensures.value ∙ c.in_ok-text.was) c.from_utf8.ensures.cases in
    c.then_some.ensures
    ∙ number_is c.args.most s (sym c.if-not-is_digits.ensures) (omega arith) c.parse.result (rw same at c.parse.ensures.value.0) c.in_ok-number.number (sym c.ok-2.ensures.value ∙ c.in_ok-number.was)
