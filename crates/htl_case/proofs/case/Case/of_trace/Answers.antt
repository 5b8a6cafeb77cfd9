-- The sequences of the trace rise where no outline falls, and else the least that falls is told.
use Rattle.std.proofs.Common.{◌≢◌, ℕ, [], inr, refl}
use Rattle.std.proofs.lemmas.List.Elements.{All-from_recursion}
use Rattle.htl_segment.specs.Content.{Fits}
use Rattle.htl_segment.specs.Traces.{Trace, IsTrace, trace}
use Rattle.htl_case.specs.Cases.{IsCase}
use Rattle.htl_case.specs.Faults.{Falls}
use Rattle.htl_case.proofs.Scanned.{rise_from_none}
use Rattle.htl_case.proofs.case.Case.of_trace.Goals as goal

is_case : (T : Trace) → T.segments ≢ [] → IsTrace T → ((key : ℕ × ℕ) → Falls T.segments key → ⊥) → IsCase T
is_case T some is none = record { some = some; trace = is; rising = rise_from_none T.segments none }

pub returns-in-Some-clause-err : goal.returns-in-Some-clause-err
returns-in-Some-clause-err c =
    let ss = c.args.segments.items in
    inr (
      c.in-Some.processor,
      c.in-Some.number,
      refl,
      (rw c.deref-2.ensures.value at c.in-Some.ensures) ss (rw c.deref.ensures.value at c.in_ok-outlines.ensures)
          c.requires.trace.in_order (All-from_recursion Fits ss c.requires.trace.fit),
    )

pub invariant_of-result : goal.invariant_of-result
invariant_of-result c =
    let ss = c.args.segments.items in
    is_case (trace c.args.trace_id c.args.processors ss) c.requires.some c.requires.trace
    ((rw c.deref-2.ensures.value at c.in_default.ensures) ss (rw c.deref.ensures.value at c.in_ok-outlines.ensures)
    c.requires.trace.in_order (All-from_recursion Fits ss c.requires.trace.fit))

pub returns-clause-is_case : goal.returns-clause-is_case
returns-clause-is_case c =
    let ss = c.args.segments.items in
    is_case (trace c.args.trace_id c.args.processors ss) c.requires.some c.requires.trace
    ((rw c.deref-2.ensures.value at c.in_default.ensures) ss (rw c.deref.ensures.value at c.in_ok-outlines.ensures)
    c.requires.trace.in_order (All-from_recursion Fits ss c.requires.trace.fit))
