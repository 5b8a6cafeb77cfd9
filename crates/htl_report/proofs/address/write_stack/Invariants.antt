-- The lines of the frames so far, of a stack with its addresses, were written.
use Rattle.std.proofs.Common.{◌≡◌, ◌++◌, take, string_bytes}
use Rattle.std.specs.List.{flat_map}
use Rattle.htl_report.specs.Addresses.{frame_line}
use Rattle.htl_report.proofs.address.write_stack.Given as goal

abbrev pub invariant-loop-frame : goal.invariant-loop-frame
invariant-loop-frame l =
    string_bytes l.out ≡ string_bytes l.initial.out ++ flat_map (frame_line l.symbols) (take l.frame-index l.frames)
