use Rattle.text.proofs.Proper.{tokens_proper}
use Rattle.text.proofs.lexer.tokens_stand.Goals as goal

pub returns : goal.returns
returns c = tokens_proper
