-- A law of what surveys answer.
use Rattle.htl_segment.specs.Traces.{Trace, IsTrace}
use Rattle.htl_analyst.specs.States.{State}
use Rattle.htl_analyst.specs.Same.{IsSame}
use Rattle.htl_exchange.specs.Desks.{IsWholeStanding}

-- all standing states of one whole trace are the same
abbrev pub AreSame : Type 0
AreSame = (T : Trace) (a b : State) → IsTrace T → IsWholeStanding T a → IsWholeStanding T b → IsSame a b
