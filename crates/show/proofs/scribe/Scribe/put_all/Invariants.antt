use Rattle.std.proofs.Common.{◌≡◌, take}
use Rattle.show.specs.Page.{page_of, wrote}
use Rattle.show.proofs.scribe.Scribe.put_all.Given as goal

abbrev pub invariant-loop-byte : goal.invariant-loop-byte
invariant-loop-byte l = page_of l.self ≡ wrote (take l.byte-index l.bytes) (page_of l.initial.self)
