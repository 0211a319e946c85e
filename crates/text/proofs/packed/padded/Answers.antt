use Rattle.text.proofs.Packing.{padded_eight}
use Rattle.text.proofs.packed.padded.Goals as goal

pub returns : goal.returns
returns c = rw (c.copy_from_slice.ensures.after) (padded_eight c.args.bytes.now c.min-count.result c.min-count.ensures)
