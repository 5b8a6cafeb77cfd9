-- The line's bytes so far were taken of the text, and each read gave bytes.
use Rattle.std.proofs.Common.{◌≡◌, ◌≤◌, false}
use Rattle.std.specs.Io.KnownBytes.{prepend_known}
use Rattle.htl_dialogue.proofs.Takings.{SoFar}
use Rattle.htl_dialogue.proofs.reading.next_line.Given as goal

abbrev pub invariant-loop-read : goal.invariant-loop-read
invariant-loop-read g l = record {
  fine : (g.R.Source.state l.source).failed ≡ false;
  inside : (g.R.Source.state l.source).ended ≡ false;
  counted : l._read ≤ (g.R.Source.state l.source).good_reads;
  so_far : SoFar (prepend_known l.initial.held (g.R.Source.state l.initial.source).remaining)
      (prepend_known l.held (g.R.Source.state l.source).remaining) l.line;
}
