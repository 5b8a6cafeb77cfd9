-- Each rule of the format has a fault of its own.
use Rattle.htl_segment.proofs.BundleLaws.{first_fault-no_memory}
use Rattle.htl_segment.proofs.laws.want_of_memory_breaks_no_rule.Goals as goal

pub returns : goal.returns
returns c = λ bytes is. cc (first_fault-no_memory bytes _ is)
