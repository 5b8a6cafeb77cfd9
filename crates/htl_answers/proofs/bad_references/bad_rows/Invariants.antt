-- The rows so far are those of the counts that were passed.
use Rattle.std.proofs.Common.{◌≡◌, take}
use Rattle.std.specs.List.{filter_map}
use Rattle.htl_answers.proofs.BadLemmas.{row_of}
use Rattle.htl_answers.proofs.bad_references.bad_rows.Given as goal

abbrev pub invariant-loop-slot : goal.invariant-loop-slot
invariant-loop-slot l = l.rows.items ≡ filter_map (row_of l.process) (take l.slot-index l.counts)
