use Rattle.std.proofs.Common.{◌≡◌, take, fold}
use Rattle.show.specs.Page.{page_of}
use Rattle.show.specs.Steps.{port_written}
use Rattle.show.proofs.scribe.Scribe.put_ports.Given as goal

abbrev pub invariant-loop-link : goal.invariant-loop-link
invariant-loop-link g l = page_of l.self ≡ fold (port_written g.L.Label.kind) (page_of l.initial.self) (take l.link-index l.links)
