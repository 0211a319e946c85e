use Rattle.std.proofs.Common.{◌≡◌, ◌≤◌, length}
use Rattle.grammar.specs.Pull.{left, final}
use Rattle.grammar.proofs.reader.Reader.next.Given as goal

abbrev pub invariant-tokens : goal.invariant-tokens
invariant-tokens g l = (left g.L.Label.kind l.self ≡ left g.L.Label.kind l.initial.self) × (length l.self.rest.now ≤ length l.initial.self.rest.now) × (final l.self ≡ final l.initial.self)

abbrev pub decreases-tokens : goal.decreases-tokens
decreases-tokens g l = length l.self.rest.now
