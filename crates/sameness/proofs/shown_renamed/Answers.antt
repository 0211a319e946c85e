use Rattle.sameness.proofs.Showing.{renaming_shown}
use Rattle.sameness.proofs.shown_renamed.Goals as goal

pub returns : goal.returns
returns g c = renaming_shown g.L.Label.kind
