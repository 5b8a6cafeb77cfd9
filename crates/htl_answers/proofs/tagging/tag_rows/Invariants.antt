-- The tag rows so far are those of the sums that were passed.
use Rattle.std.proofs.Common.{◌≡◌, take}
use Rattle.std.specs.List.{filter_map}
use Rattle.htl_answers.proofs.TagLemmas.{row_of}
use Rattle.htl_answers.proofs.tagging.tag_rows.Given as goal

abbrev pub invariant-loop-slot : goal.invariant-loop-slot
invariant-loop-slot l = l.rows.items ≡ filter_map (row_of l.object) (take l.slot-index l.sums)
