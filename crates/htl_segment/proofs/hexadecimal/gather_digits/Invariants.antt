-- The digits so far are gathered.
use Rattle.std.proofs.Common.{◌≡◌, take}
use Rattle.htl_segment.specs.Hexadecimal.{digits_of}
use Rattle.htl_segment.proofs.hexadecimal.gather_digits.Given as goal

abbrev pub invariant-loop-byte : goal.invariant-loop-byte
invariant-loop-byte l = l.digits.items ≡ digits_of (take l.byte-index l.text)
