-- The sum is that of the bytes so far.
use Rattle.std.proofs.Common.{◌≡◌, take}
use Rattle.htl_state.specs.Checksum.{checksum}
use Rattle.htl_state.proofs.checksum.checksum.Given as goal

abbrev pub invariant-loop-byte : goal.invariant-loop-byte
invariant-loop-byte l = l.sum ≡ checksum (take l.byte-index l.bytes)
