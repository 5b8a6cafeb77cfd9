-- So far the bytes are those of the pairs of digits that were gone through.
use Rattle.std.proofs.Common.{◌≡◌, ◌*◌, ◌/◌, drop, length, take}
use Rattle.hex.specs.Hex.{decode_pairs}
use Rattle.hex.proofs.Pairs.{prepend}
use Rattle.htl_segment.proofs.hexadecimal.decode_digits.Given as goal

abbrev pub invariant-loop-place : goal.invariant-loop-place
invariant-loop-place l = (length l.bytes.items ≡ length l.digits / 2)
    × (decode_pairs 0 l.digits ≡ prepend (take l.place l.bytes.items) (decode_pairs (2 * l.place) (drop (2 * l.place) l.digits)))
