-- The last event is that of the span.
use Rattle.std.proofs.Common.{refl}
use Rattle.htl_main.proofs.Laters.{later_by_span}
use Rattle.htl_main.proofs.completed.has_later.Goals as goal

pub returns-in-Some : goal.returns-in-Some
returns-in-Some c = λ events is. later_by_span c.args.sequence events c.in-Some.span (rw c.in-Some.is at is)

pub returns-in-None : goal.returns-in-None
returns-in-None c = λ events is. let none = rw c.in-None.is at is in rw none refl
