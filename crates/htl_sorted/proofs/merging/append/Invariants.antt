-- The rows that were passed so far are appended.
use Rattle.std.proofs.Common.{◌≡◌, ◌++◌, take}
use Rattle.htl_sorted.proofs.merging.append.Given as goal

abbrev pub invariant-loop-row : goal.invariant-loop-row
invariant-loop-row g l = l.rows.items ≡ l.initial.rows.items ++ take l.row-index l.more
