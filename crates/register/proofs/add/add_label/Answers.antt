use Rattle.std.proofs.Common.{take, sym, ◌∙◌, arith}
use Rattle.register.proofs.Adding.{added_right_for, row_met, row_new}
use Rattle.register.proofs.add.add_label.Goals as goal

pub insert_row-requires-clause-room : goal.insert_row-requires-clause-room
insert_row-requires-clause-room g c =
    let new = row_new g.L.Label.kind c.args.label g.met.L.Label.lawful c.requires.mine c.args.rows.now c.args.count c.in-Err.at c.requires.within c.requires.filed (sym c.in-Err.is ∙ c.seek.ensures.is) in
    omega arith

pub returns-in-Ok : goal.returns-in-Ok
returns-in-Ok g c =
    let k = g.L.Label.kind in
    let l = c.args.label in
    let law = g.met.L.Label.lawful in
    let row = row_met k l law c.requires.mine c.args.rows.now c.args.count c.in-Ok.at c.index-rows-at-in-Ok.result c.index-rows-at.result c.requires.within c.requires.filed (sym c.in-Ok.is ∙ c.seek.ensures.is) in
    record { number = row.0; register = row.1; right = added_right_for k l law c.requires.mine (take c.args.count c.args.rows.now) _ row.1 }

pub returns-in-Err : goal.returns-in-Err
returns-in-Err g c =
    let k = g.L.Label.kind in
    let l = c.args.label in
    let law = g.met.L.Label.lawful in
    let new = row_new k l law c.requires.mine c.args.rows.now c.args.count c.in-Err.at c.requires.within c.requires.filed (sym c.in-Err.is ∙ c.seek.ensures.is) in
    let register = c.insert_row.ensures.first ∙ sym new.1 in
    record { number = new.0; register = register; right = added_right_for k l law c.requires.mine (take c.args.count c.args.rows.now) _ register }
