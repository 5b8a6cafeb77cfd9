-- Of the processors so far the gaps and the first missing numbers are listed, and the least of what they are unbroken to is found.
use Rattle.htl_segment.specs.Traces.{Trace, HasKey}
use Rattle.htl_taken.specs.Gaps.{IsGaps}
use Rattle.htl_evidence.specs.Outlines.{AreFronts, AreOutlinesOf}
use Rattle.htl_evidence.proofs.Covered.{IsCompleteBelow}
use Rattle.htl_evidence.proofs.Outlined.{AreOutlinesFrom}
use Rattle.htl_evidence.proofs.extent.Extent.of_outlines.Given as goal

abbrev pub invariant-loop-processor : goal.invariant-loop-processor
invariant-loop-processor l = record {
  rest : (T : Trace) → AreOutlinesOf l.processors l.outlines T → AreOutlinesFrom T l.processor l.rest;
  listed : (T : Trace) → AreOutlinesOf l.processors l.outlines T → IsGaps (HasKey T) l.processor l.gaps.items;
  fronts : (T : Trace) → AreOutlinesOf l.processors l.outlines T → AreFronts T l.processor l.fronts.items;
  complete : (T : Trace) → AreOutlinesOf l.processors l.outlines T → IsCompleteBelow T l.processor l.complete_to;
}
