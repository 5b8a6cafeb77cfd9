-- Two states are merged one processor after another, and in each one segment after another.
use Rattle.htl_case.proofs.Mergeable.{any_can_be_merged}
use Rattle.htl_case.proofs.laws.any_can_be_merged.Goals as goal

pub returns : goal.returns
returns c = any_can_be_merged
