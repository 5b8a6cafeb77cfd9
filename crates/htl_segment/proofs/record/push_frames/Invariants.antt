-- The addresses so far are pushed, and the others follow in the bytes.
use Rattle.std.proofs.Common.{◌≡◌, ◌-◌, ◌*◌, ◌/◌, ◌≤◌, ◌++◌, length}
use Rattle.htl_segment.specs.Numbers.{numbers}
use Rattle.htl_segment.proofs.record.push_frames.Given as goal

abbrev pub invariant-loop-frame : goal.invariant-loop-frame
invariant-loop-frame l = record {
  so_far : l.stack ++ numbers (8 * l.frame) (length l.frames / 8 - l.frame) l.frames ≡ numbers 0 (length l.frames / 8) l.frames;
  pushed : length l.stack ≡ l.frame;
  few : length l.frames ≤ 8 * 64;
}
