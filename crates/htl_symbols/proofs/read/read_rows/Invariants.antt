-- The rows so far wrote the ranges of the table; the reader stands before the next.
use Rattle.std.proofs.Common.{length}
use Rattle.htl_symbols.specs.Records.{records_left}
use Rattle.htl_symbols.proofs.RowsRead.{Progress}
use Rattle.htl_symbols.proofs.read.read_rows.Given as goal

abbrev pub invariant-loop-symbols : goal.invariant-loop-symbols
invariant-loop-symbols l = Progress (records_left l.initial.reader) l.number l.reader l.symbols

abbrev pub decreases-loop-symbols : goal.decreases-loop-symbols
decreases-loop-symbols l = length (records_left l.reader)
