-- That there are analysts of every history (`Headline` of `htl_case` says what follows for them).
use Rattle.std.specs.Prelude.{◌<◌, ◌≤◌, length}
use Rattle.htl_segment.specs.Traces.{Trace, IsTrace}
use Rattle.htl_analyst.specs.Right.{IsRight}
use Rattle.htl_analyst.specs.States.{State}
use Rattle.htl_case.specs.Histories.{History, begun, took, merged, compacted, compaction_refused, IsCompaction, Leaves}

-- Any analyst can be compacted.
abbrev pub AnyCanBeCompacted : Type 0
AnyCanBeCompacted = (T : Trace) (a : State) → IsRight a T → (b : State) × IsCompaction a b

-- every segment that the history takes is there
abbrev pub NamesSegments : Trace → History → Type 0
NamesSegments T begun = Unit {0}
NamesSegments T (took before place) = NamesSegments T before × (place < length T.segments)
NamesSegments T (merged before other) = NamesSegments T before × NamesSegments T other
NamesSegments T (compacted before) = NamesSegments T before
NamesSegments T (compaction_refused before) = NamesSegments T before

-- So an analyst can go through any history.
abbrev pub AnyHistoryLeavesAState : Type 0
AnyHistoryLeavesAState = (T : Trace) → IsTrace T → 0 < T.processors → T.processors ≤ 256
    → (history : History) → NamesSegments T history → (a : State) × Leaves T history a
