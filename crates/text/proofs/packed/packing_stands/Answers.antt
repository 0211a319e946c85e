use Rattle.text.proofs.Order.{lossless, ordered}
use Rattle.text.proofs.packed.packing_stands.Goals as goal

pub returns : goal.returns
returns c = record { lossless = lossless; ordered = ordered }
