-- The caret stands under the byte at the place.
use Rattle.std.proofs.Common.{◌≡◌, ℕ, ◌+◌, ◌-◌, ◌<◌, ◌≤◌, List, length, get_or, take, drop, ap, ◌∙◌, arith}
use Rattle.std.proofs.lemmas.List.{get_or-take, get_or-drop, length-take-le, length-drop}
use Rattle.bigvosk.specs.declared.window.Window.{Window}
use Rattle.bigvosk.specs.Windows.{CaretUnder, part_of, window_of}

long : (text : List ℕ) (from to : ℕ) → to ≤ length text → length (take (to - from) (drop from text)) ≡ to - from
long text from to h = let l = length-drop from text in length-take-le (to - from) (drop from text) (omega arith)

byte_at : (text : List ℕ) (from to caret place : ℕ) → from + caret ≡ place → place < to → to ≤ length text →
    get_or (take (to - from) (drop from text)) caret 0 ≡ get_or text place 0
byte_at text from to caret place e h l =
    get_or-take (to - from) (drop from text) caret 0 (omega arith) ∙ get_or-drop from text caret 0 ∙ ap (λ k. get_or text k 0) e

pub caret_under : (place : ℕ) (text : List ℕ) (w : Window) → w ≡ window_of place (length text) → CaretUnder place text (part_of w text) w.caret
caret_under place text w e =
    let v = window_of place (length text) in
    rw e (record {
      byte = λ h. byte_at text v.from v.to v.caret place (omega arith) (omega arith) (omega arith);
      end = λ h. let m = long text v.from v.to (omega arith) in omega arith;
    })
