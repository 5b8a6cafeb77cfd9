-- What is left of the text comes to what the whole text does, it starts as the whole, and no more lines were read than bytes.
use Rattle.std.proofs.Common.{◌≡◌, ◌≤◌, ◌+◌, length}
use Rattle.htl_text.specs.Encoded.{begins, kept}
use Rattle.htl_text.specs.Lines.{lines_of_text}
use Rattle.htl_text.specs.Steps.{read, nothing_read}
use Rattle.htl_text.proofs.Beginnings.{starts}
use Rattle.htl_text.proofs.encoding.read_text.Given as goal

abbrev pub invariant-loop-rest : goal.invariant-loop-rest
invariant-loop-rest l = record {
  left : read 0 (lines_of_text l.text) nothing_read ≡ read l.number (lines_of_text l.rest) l.reader;
  start : begins (kept (lines_of_text l.text)) ≡ starts l.reader (lines_of_text l.rest);
  few : l.number + length l.rest ≤ length l.text;
}

abbrev pub decreases-loop-rest : goal.decreases-loop-rest
decreases-loop-rest l = length l.rest
