-- Segments in order that are a case's and more, and of which no sequence comes twice, are a trace.
use Rattle.std.proofs.Common.{rules, ◌≡◌, false}
use Rattle.htl_case.proofs.MoreSegments.{AreGrown, grown_own, more_fit}
use Rattle.htl_case.proofs.Refusals.{case_of_given, is_trace, still_some}
use Rattle.htl_case.proofs.growing.grown.Goals as goal

pub of_trace-requires-clause-some : goal.of_trace-requires-clause-some
of_trace-requires-clause-some c =
    let of = rw c.deref-2.ensures.value at c.in_ok-trace_id.ensures.ok in
    still_some c.in_ok-segments.segments.items c.in_ok-ordered.ordered.items c.in_ok-trace_id.trace_id c.in_ok-trace_id.processors of
    c.in_ok-ordered.ensures.ok

pub of_trace-requires-clause-trace : goal.of_trace-requires-clause-trace
of_trace-requires-clause-trace c =
    let more = c.args.more.now in
    let own = c.args.own.now in
    let ordered = c.in_ok-ordered.ordered.items in
    let of = rw c.deref-2.ensures.value at c.in_ok-trace_id.ensures.ok in
    let put = c.in_ok-ordered.ensures.ok in
    let members = rw c.in_ok-segments.ensures at put.members in
    let fit = rw c.deref-3.ensures.value at c.in_ok-comes_twice.ensures.fit in
    let no : c.in_ok-comes_twice.comes_twice ≡ false = search rules in
    let grown : AreGrown more own ordered c.span_of-span.result = record {
      own = c.requires;
      fit = fit;
      in_order = put.in_order;
      members = members;
      is_span = c.span_of-span.ensures more (more_fit more own ordered fit members) (rw c.deref.ensures.value c.in_ok-outlines.ensures);
      once = rw c.deref-3.ensures.value at c.in_ok-comes_twice.ensures.once no;
    } in
    is_trace c.in_ok-segments.segments.items ordered c.in_ok-trace_id.trace_id c.in_ok-trace_id.processors of put fit
    (grown_own more own ordered c.span_of-span.result grown)

pub returns : goal.returns
returns c =
    let of = rw c.deref-2.ensures.value at c.in_ok-trace_id.ensures.ok in
    rw (← c.in_ok-segments.ensures) (case_of_given c.in_ok-segments.segments.items c.in_ok-ordered.ordered.items c.in_ok-trace_id.trace_id
    c.in_ok-trace_id.processors of c.in_ok-ordered.ensures.ok c.in_ok-case.case c.in_ok-case.ensures.value c.in_ok-case.ensures.is_case)
