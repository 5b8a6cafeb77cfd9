-- A segment with events begins a span, or widens it.
use Rattle.std.proofs.Common.{rules}
use Rattle.htl_case.proofs.SpanLaws.{begun, widened}
use Rattle.htl_case.proofs.spans.widened.Goals as goal

pub returns-in-None : goal.returns-in-None
returns-in-None c = λ events s fit is before.
    begun events s c.args.outline.now fit is (λ zero_is. search (rules, zero_is)) (rw c.in-None.is at before)

pub returns-in-Some : goal.returns-in-Some
returns-in-Some c = λ events s fit is before.
    widened events s c.args.outline.now fit is c.in-Some.span c.min.result c.max.result (λ zero_is. search (rules, zero_is))
    c.min.ensures c.max.ensures (rw c.in-Some.is at before)
