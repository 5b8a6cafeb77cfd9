-- So far the sequences that were gone through were seen.
use Rattle.std.proofs.Common.{◌++◌, ℕ, List, take}
use Rattle.htl_segment.specs.Seen.{Saw}
use Rattle.htl_segment.proofs.seen.Seen.note_all.Given as goal

abbrev pub invariant-loop-sequence : goal.invariant-loop-sequence
invariant-loop-sequence l =
    (numbers : List ℕ) → Saw l.fn.self numbers → Saw l.self (numbers ++ take l.sequence-index l.sequences)
