-- The addresses so far are read, and the others follow in the bytes.
use Rattle.std.proofs.Common.{◌≡◌, ◌-◌, ◌*◌, ◌/◌, ◌≤◌, ◌++◌, length}
use Rattle.htl_segment.specs.Numbers.{numbers}
use Rattle.htl_segment.proofs.stack_cache.addresses.Given as goal

abbrev pub invariant-loop-place : goal.invariant-loop-place
invariant-loop-place l = record {
  so_far : l.addresses.items ++ numbers (8 * l.place) (length l.frames / 8 - l.place) l.frames ≡ numbers 0 (length l.frames / 8) l.frames;
  pushed : length l.addresses.items ≡ l.place;
  few : length l.frames ≤ 8 * 64;
}
