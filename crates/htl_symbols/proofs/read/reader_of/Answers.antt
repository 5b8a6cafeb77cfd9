-- A new reader stands before the first record.
use Rattle.std.proofs.Common.{arith}
use Rattle.htl_symbols.proofs.Reader.{length-records_of, records_left-fresh}
use Rattle.htl_symbols.proofs.read.reader_of.Goals as goal

pub returns-clause-records : goal.returns-clause-records
returns-clause-records c = records_left-fresh c.from_reader.result c.args.bytes.now c.from_reader.ensures.state
    c.from_reader.ensures.source

pub returns-clause-countable : goal.returns-clause-countable
returns-clause-countable c = rw (returns-clause-records c) (omega (arith, length-records_of c.args.bytes.now))
