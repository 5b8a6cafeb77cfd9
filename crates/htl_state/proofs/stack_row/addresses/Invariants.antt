-- The addresses so far are read, and the others follow in the bytes.
use Rattle.std.proofs.Common.{◌≡◌, ◌-◌, ◌+◌, ◌*◌, ◌≤◌, ◌++◌, length}
use Rattle.htl_segment.specs.Numbers.{numbers}
use Rattle.htl_state.proofs.stack_row.addresses.Given as goal

abbrev pub invariant-loop-place : goal.invariant-loop-place
invariant-loop-place l = record {
  so_far : l.addresses.items ++ numbers (1 + 8 * l.place) (l.depth - l.place) l.bytes ≡ numbers 1 l.depth l.bytes;
  pushed : length l.addresses.items ≡ l.place;
  few : l.depth ≤ 64;
  inside : 1 + 8 * l.depth ≤ length l.bytes;
}
