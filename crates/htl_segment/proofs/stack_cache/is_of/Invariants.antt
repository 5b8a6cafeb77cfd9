-- The addresses so far are those of the bytes.
use Rattle.std.proofs.Common.{◌≡◌, ◌-◌, ◌*◌, ◌/◌, ◌++◌, length, take}
use Rattle.htl_segment.specs.Numbers.{numbers}
use Rattle.htl_segment.proofs.stack_cache.is_of.Given as goal

abbrev pub invariant-loop-place : goal.invariant-loop-place
invariant-loop-place l = record {
  so_far : take l.place l.known ++ numbers (8 * l.place) (length l.frames / 8 - l.place) l.frames ≡ numbers 0 (length l.frames / 8)
      l.frames;
  same : length l.known ≡ length l.frames / 8;
}
