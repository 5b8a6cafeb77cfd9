-- The parts so far are written.
use Rattle.std.proofs.Common.{◌≡◌, ◌++◌, take}
use Rattle.std.specs.List.{flat_map}
use Rattle.htl_state.specs.Format.{part_bytes}
use Rattle.htl_state.proofs.encoding.push_parts.Given as goal

abbrev pub invariant-loop-part : goal.invariant-loop-part
invariant-loop-part l = l.out.items ≡ l.fn.out.items ++ flat_map part_bytes (take l.part-index l.parts)
