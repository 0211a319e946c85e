use Rattle.std.proofs.Common.{◌≡◌, ℕ, ◌+◌, Bool, eqb, [], ◌∷◌, ◌++◌, length, get_or, ap, sym, ◌∙◌, arith}
use Rattle.std.proofs.lemmas.Bool.{eq-eqb, ne_eqb}
use Rattle.hang.proofs.Numbers.{kept_yes, kept_no, none_kept}
use Rattle.hang.proofs.unused.list_zeros.Goals as goal
use Rattle.hang.proofs.unused.list_zeros.Goals.{then-count-eq0, else-count-eq0}

pub loop-number-init : goal.loop-number-init
loop-number-init c =
    let none : length c.new-zeros.result.items ≡ 0 = ap length c.new-zeros.ensures in
    record { few = omega arith; zeros = c.new-zeros.ensures ∙ sym (none_kept _) }

pub loop-number-preserved : goal.loop-number-preserved
loop-number-preserved c =
    let p : ℕ → Bool = λ x. eqb (get_or c.args.counts.now x 0) 0 in
    let n = c.loop-number.number in
    let few = c.loop-number.invariant.few in
    elim c.if-count-eq0.branch [
      | then-count-eq0 w ↦
          let more : length w.push.new.self.items ≡ length c.loop-number.zeros.items + 1 = w.push.ensures.len in
          rw w.zeros-is (record { few = omega arith; zeros = w.push.ensures.items ∙ ap (λ t. t ++ (n ∷ [])) c.loop-number.invariant.zeros ∙ sym (kept_yes p n (eq-eqb _ 0 w.if-count-eq0.true)) })
      | else-count-eq0 w ↦ rw w.zeros-is (record { few = omega arith; zeros = c.loop-number.invariant.zeros ∙ sym (kept_no p n (ne_eqb _ 0 w.if-count-eq0.false)) })
    ]
