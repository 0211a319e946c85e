use Rattle.std.proofs.Common.{rules}
use Rattle.std.proofs.iter.runs.Made.{chains}
use Rattle.grammar.proofs.Looking.{once_count}
use Rattle.grammar.proofs.table.Names.once.Goals as goal

pub returns : goal.returns
returns c = search (rules, chains, once_count)
