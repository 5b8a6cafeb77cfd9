-- The addresses so far are written, in eight bytes each.
use Rattle.std.proofs.Common.{◌≡◌, ◌++◌, take}
use Rattle.std.specs.List.{flat_map}
use Rattle.htl_segment.specs.Numbers.{bytes_of}
use Rattle.htl_segment.proofs.encoding.push_frames.Given as goal

abbrev pub invariant-loop-frame : goal.invariant-loop-frame
invariant-loop-frame l = l.out.items ≡ l.fn.out.items ++ flat_map (bytes_of 8) (take l.frame-index l.frames)
