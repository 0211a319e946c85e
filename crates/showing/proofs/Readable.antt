-- What a sound plan shows can be read again.
use Rattle.label.specs.Kind.{Kind, Lawful}
use Rattle.plan.specs.Model.{model_of}
use Rattle.showing.specs.Shown.{plan_events}
use Rattle.showing.specs.Reading.{ShownReadable}
use Rattle.showing.proofs.Back.{reads_back}
use Rattle.showing.proofs.Meeting.{facts}
use Rattle.showing.proofs.Runs.{shown_writable}
use Rattle.showing.proofs.Lengths.{shown_short}

pub shown_readable : {L : Type 0} (k : Kind L) → Lawful k → ShownReadable k
shown_readable k law p s =
    let m = model_of p in
    let f = facts k p s in
    let w = shown_writable k m f in
    let l = shown_short k law m f in
    record { writable = w; short = l; back = reads_back k law (plan_events m) w l }
