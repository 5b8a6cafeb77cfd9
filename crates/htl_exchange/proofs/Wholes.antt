-- Standing states of the whole of one trace are the same.
use Rattle.std.proofs.Common.{ℕ}
use Rattle.htl_segment.specs.Traces.{Trace}
use Rattle.htl_analyst.specs.States.{State}
use Rattle.htl_analyst.specs.Keys.{HasTaken}
use Rattle.htl_analyst.proofs.MergeLaws.{equal_once_compacted}
use Rattle.htl_case.proofs.Sizes.{key_of_trace}
use Rattle.htl_exchange.specs.Desks.{IsWholeStanding}
use Rattle.htl_exchange.specs.Laws.{AreSame}

within : (T : Trace) (a b : State) → IsWholeStanding T a → IsWholeStanding T b → (p n : ℕ) → HasTaken a p n → HasTaken b p n
within T a b whole other p n taken = other.keys p n (key_of_trace T a whole.standing.right p n taken)

-- two compacted states of the whole trace are the same
pub same_wholes : AreSame
same_wholes T a b trace one two = equal_once_compacted T a b trace one.standing two.standing (within T a b one two) (within T b a two one)
