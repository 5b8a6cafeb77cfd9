-- The lines of the addresses so far were written, and the other addresses follow in the bytes.
use Rattle.std.proofs.Common.{◌≡◌, ◌-◌, ◌*◌, ◌/◌, ◌++◌, ℕ, List, length}
use Rattle.std.specs.List.{flat_map}
use Rattle.htl_segment.specs.Numbers.{numbers}
use Rattle.htl_text.specs.Texts.{frame_line}
use Rattle.htl_text.proofs.dumping.write_frames.Given as goal

abbrev pub invariant-loop-place : goal.invariant-loop-place
invariant-loop-place l = record {
  addresses : List ℕ;
  so_far : addresses ++ numbers (8 * l.place) (length l.frames / 8 - l.place) l.frames ≡ numbers 0 (length l.frames / 8) l.frames;
  written : l.out.items ≡ l.fn.out.items ++ flat_map frame_line addresses;
}
