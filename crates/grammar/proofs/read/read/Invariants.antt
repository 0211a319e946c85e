use Rattle.std.proofs.Common.{◌≡◌, ◌+◌, ◌≤◌, length}
use Rattle.text.specs.Tokens.{tokens}
use Rattle.grammar.specs.State.{start}
use Rattle.grammar.specs.Reading.{events_from}
use Rattle.grammar.specs.Laws.{spots, state_after}
use Rattle.grammar.specs.Pull.{left, final}
use Rattle.grammar.specs.Sheets.{empty, tallied}
use Rattle.grammar.proofs.read.read.Given as goal

abbrev pub invariant-loop-event : goal.invariant-loop-event
invariant-loop-event g l =
    (tallied l.sheet (left g.L.Label.kind l.reader) ≡ tallied empty (events_from g.L.Label.kind start (tokens 0 0 l.text)))
    × (final l.reader ≡ state_after start (spots (tokens 0 0 l.text)))
    × (l.sheet.atoms + l.sheet.cells + l.sheet.connectors + length l.reader.rest.now ≤ 65535)

abbrev pub decreases-loop-event : goal.decreases-loop-event
decreases-loop-event g l = length l.reader.rest.now
