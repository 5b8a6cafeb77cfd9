-- A state can be compacted one processor after another, and in each one event after another.
use Rattle.htl_main.proofs.Foldable.{any_can_be_compacted}
use Rattle.htl_main.proofs.laws.any_can_be_compacted.Goals as goal

pub returns : goal.returns
returns c = any_can_be_compacted
