use Rattle.std.proofs.Common.{sym, ap, ◌∙◌}
use Rattle.hang.specs.Labels.{all_mine}
use Rattle.hang.specs.Text.{if_room}
use Rattle.hang.proofs.Hanging.{all_but_free, all_known, begun_left, filed, no_labels, no_room, read_labels, room_both}
use Rattle.hang.proofs.hang.hang_sound.Goals as goal

pub returns-then-not-has_room-clause-is : goal.returns-then-not-has_room-clause-is
returns-then-not-has_room-clause-is g c =
    sym (ap if_room (no_room g.L.Label.kind g.met.L.Label.lawful c.args.plan.now c.args.text.now c.requires.hangable c.args.sheet c.requires.sheet (sym c.if-not-has_room.ensures)))

pub count_lacking-lacking-requires-clause-filed : goal.count_lacking-lacking-requires-clause-filed
count_lacking-lacking-requires-clause-filed g c = filed g.L.Label.kind g.met.L.Label.lawful c.args.plan.now c.args.text.now c.requires.hangable

pub count_lacking-lacking-requires-clause-mine : goal.count_lacking-lacking-requires-clause-mine
count_lacking-lacking-requires-clause-mine g c =
    let k = g.L.Label.kind in
    let text = c.args.text.now in
    ap (all_mine k) (begun_left k text c.new-reader.result c.requires.hangable.short c.new-reader.ensures) ∙ all_known k g.met.L.Label.lawful c.args.plan.now text c.requires.hangable

pub returns-then-not-fits-clause-is : goal.returns-then-not-fits-clause-is
returns-then-not-fits-clause-is g c =
    let k = g.L.Label.kind in
    let law = g.met.L.Label.lawful in
    let p = c.args.plan.now in
    let text = c.args.text.now in
    let h = c.requires.hangable in
    sym (ap if_room (no_labels k law p text h (sym (read_labels k law p text h c.new-reader.result _ c.new-reader.ensures c.count_lacking-lacking.ensures.is) ∙ sym c.if-not-fits.ensures)))

pub place_named-requires-clause-atoms : goal.place_named-requires-clause-atoms
place_named-requires-clause-atoms g c =
    (room_both g.L.Label.kind g.met.L.Label.lawful c.args.plan.now c.args.text.now c.requires.hangable c.args.sheet c.requires.sheet (sym c.if-not-has_room.ensures)).0

pub place_named-requires-clause-cells : goal.place_named-requires-clause-cells
place_named-requires-clause-cells g c =
    (room_both g.L.Label.kind g.met.L.Label.lawful c.args.plan.now c.args.text.now c.requires.hangable c.args.sheet c.requires.sheet (sym c.if-not-has_room.ensures)).1

pub place_named-requires-clause-labels : goal.place_named-requires-clause-labels
place_named-requires-clause-labels g c =
    sym (read_labels g.L.Label.kind g.met.L.Label.lawful c.args.plan.now c.args.text.now c.requires.hangable c.new-reader.result _ c.new-reader.ensures c.count_lacking-lacking.ensures.is) ∙ sym c.if-not-fits.ensures

pub returns-clause-is : goal.returns-clause-is
returns-clause-is g c =
    let k = g.L.Label.kind in
    let law = g.met.L.Label.lawful in
    let p = c.args.plan.now in
    let text = c.args.text.now in
    let h = c.requires.hangable in
    let both = room_both k law p text h c.args.sheet c.requires.sheet (sym c.if-not-has_room.ensures) in
    let labels = read_labels k law p text h c.new-reader.result _ c.new-reader.ensures c.count_lacking-lacking.ensures.is in
    c.place_named.ensures.is ∙ ap if_room (all_but_free k law p text h both.0 both.1 (sym labels ∙ sym c.if-not-fits.ensures))
