-- The bytes of the name so far were written.
use Rattle.std.proofs.Common.{◌≡◌, ◌++◌, map, take}
use Rattle.htl_report.specs.Folded.{folded_byte}
use Rattle.htl_report.proofs.flame_graph.write_bytes.Given as goal

abbrev pub invariant-loop-byte : goal.invariant-loop-byte
invariant-loop-byte l = l.out.items ≡ l.initial.out.items ++ map folded_byte (take l.byte-index l.name)
