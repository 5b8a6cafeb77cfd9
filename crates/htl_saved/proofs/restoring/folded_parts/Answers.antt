-- Each part is one of which a fold is made.
use Rattle.std.proofs.Common.{sym}
use Rattle.htl_saved.proofs.restoring.folded_parts.Goals as goal

pub folded_part-requires : goal.folded_part-requires
folded_part-requires c = c.requires c.part-item.result (c.loop-part.part-index, c.loop-part-test.true, sym c.part-item.is)
