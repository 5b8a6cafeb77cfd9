-- The segments of a case have sequences of their own.
use Rattle.htl_case.proofs.case.Case.with_more.Goals as goal

pub grown-requires : goal.grown-requires
grown-requires c = rw c.segments.ensures.value c.segments.ensures.is_case.trace.sequences
