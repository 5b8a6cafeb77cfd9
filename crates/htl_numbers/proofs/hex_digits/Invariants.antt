-- The last digits were written, and those of what is left come before them.
use Rattle.std.proofs.Common.{◌≡◌, ◌-◌, ◌*◌, ◌++◌, drop, length}
use Rattle.htl_numbers.proofs.Tables.{fixed}
use Rattle.htl_numbers.proofs.hex_digits.Given as goal

abbrev pub invariant-loop-place : goal.invariant-loop-place
invariant-loop-place l = record {
  room : length l.digits ≡ 16;
  so_far : fixed (16 - 2 * l.place) l.rest ++ drop (16 - 2 * l.place) l.digits ≡ fixed 16 l.number;
}
