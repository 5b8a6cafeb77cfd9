-- The stacks of the parts so far are gathered.
use Rattle.std.proofs.Common.{◌≡◌, take}
use Rattle.std.specs.List.{flat_map}
use Rattle.htl_saved.specs.AnalystRows.{stacks_of}
use Rattle.htl_saved.proofs.table.table_of.Given as goal

abbrev pub invariant-loop-part : goal.invariant-loop-part
invariant-loop-part g l = l.stacks.items ≡ flat_map stacks_of (take l.part-index l.parts)
