use Rattle.std.proofs.Common.{take, sym, ◌∙◌, arith}
use Rattle.register.proofs.Taking.{last_taken, less_taken, none_taken, taken_right_for}
use Rattle.register.proofs.take.take_label.Goals as goal

pub returns-then-rows-at-le1 : goal.returns-then-rows-at-le1
returns-then-rows-at-le1 g c =
    let k = g.L.Label.kind in
    let l = c.args.label in
    let law = g.met.L.Label.lawful in
    let rows = c.args.rows.now in
    let gone = last_taken k l law c.requires.mine rows c.args.count c.requires.within c.remove_row.new.rows c.in-Ok.at c.index-rows-at.result c.requires.filed (sym c.in-Ok.is ∙ c.seek.ensures.is) c.if-rows-at-le1.true c.remove_row.ensures.first in
    record { number = gone.0; register = gone.1; right = taken_right_for k l law c.requires.mine (take c.args.count rows) _ gone.1 }

pub returns-else-rows-at-le1 : goal.returns-else-rows-at-le1
returns-else-rows-at-le1 g c =
    let k = g.L.Label.kind in
    let l = c.args.label in
    let law = g.met.L.Label.lawful in
    let rows = c.args.rows.now in
    let less = less_taken k l law c.requires.mine rows c.args.count c.requires.within c.in-Ok.at c.index-rows-at.result _ _ c.requires.filed (sym c.in-Ok.is ∙ c.seek.ensures.is) (omega (arith, c.if-rows-at-le1.false)) in
    record { number = less.0; register = less.1; right = taken_right_for k l law c.requires.mine (take c.args.count rows) _ less.1 }

pub returns-in_default : goal.returns-in_default
returns-in_default g c =
    let k = g.L.Label.kind in
    let l = c.args.label in
    let law = g.met.L.Label.lawful in
    let rows = c.args.rows.now in
    let same = none_taken k l law c.requires.mine rows c.args.count c.requires.within c.in_default.field-0 (sym c.in_default.is ∙ c.seek.ensures.is) in
    record { number = same.0; register = same.1; right = taken_right_for k l law c.requires.mine (take c.args.count rows) _ same.1 }
