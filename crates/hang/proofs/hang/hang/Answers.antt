use Rattle.std.proofs.Common.{sym}
use Rattle.plan.specs.Model.{model_of}
use Rattle.placing.specs.Counts.{SheetCounts}
use Rattle.placing.proofs.Counting.{sheet_ok}
use Rattle.placing.proofs.HangLaws.{hang_laws}
use Rattle.hang.proofs.Hanging.{hangable, room_there, sound_after}
use Rattle.hang.proofs.hang.hang.Goals as goal

pub hang_sound-requires : goal.hang_sound-requires
hang_sound-requires g c =
    let k = g.L.Label.kind in
    let text = c.args.text.now in
    let sc : SheetCounts k text c.in_ok-sheet.sheet = sheet_ok k text c.in_ok-sheet.sheet (sym c.in_ok-sheet.ensures.is) in
    record { hangable = hangable k c.args.plan.now text c.in_ok-sheet.sheet (c.is_sound.ensures.decides.0 c.if-not-is_sound.false) sc; sheet = sc }

pub returns-clause-sound : goal.returns-clause-sound
returns-clause-sound g c =
    let k = g.L.Label.kind in
    let p = c.args.plan.now in
    let text = c.args.text.now in
    let sheet = c.in_ok-sheet.sheet in
    let h = hangable k p text sheet (c.is_sound.ensures.decides.0 c.if-not-is_sound.false) (sheet_ok k text sheet (sym c.in_ok-sheet.ensures.is)) in
    let hung = c.in_ok-hang_sound.ensures.hung in
    λ _. sound_after k g.met.L.Label.lawful p text h c.hang_sound.new.plan (room_there _ c.in_ok-hang_sound.ensures.is) hung.0 hung.1

pub returns-clause-laws : goal.returns-clause-laws
returns-clause-laws g c =
    let k = g.L.Label.kind in
    let text = c.args.text.now in
    λ _. hang_laws k g.met.L.Label.lawful (model_of c.args.plan.now) text (sheet_ok k text c.in_ok-sheet.sheet (sym c.in_ok-sheet.ensures.is)).clean
