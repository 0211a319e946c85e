use Rattle.std.proofs.Common.{◌&&◌, not, map, drop, ◌+◌, sym, ap, ◌∙◌, rules}
use Rattle.plan.specs.Sound.{distinct}
use Rattle.plan.proofs.Naming.{apart_here}
use Rattle.plan.proofs.names.names_apart.Goals as goal

pub returns-then-is_among : goal.returns-then-is_among
returns-then-is_among c =
    sym (apart_here c.args.free.now c.loop-i.i c.is_among.result (search rules) c.is_among.ensures ∙ ap (λ v. not v && distinct (map (λ f. f.name.packed) (drop (c.loop-i.i + 1) c.args.free.now))) c.if-is_among.true) ∙ c.loop-i.invariant

pub loop-i-preserved : goal.loop-i-preserved
loop-i-preserved c =
    sym (apart_here c.args.free.now c.loop-i.i c.is_among.result (search rules) c.is_among.ensures ∙ ap (λ v. not v && distinct (map (λ f. f.name.packed) (drop (c.loop-i.i + 1) c.args.free.now))) c.if-is_among.false) ∙ c.loop-i.invariant
