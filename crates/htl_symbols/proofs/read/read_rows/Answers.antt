-- One row more is read into the table, and where none is left the whole table was read.
use Rattle.std.proofs.lemmas.Result.{err_from_is_err_and}
use Rattle.csv.specs.Records.{fields_of}
use Rattle.htl_symbols.specs.Records.{records_left}
use Rattle.htl_symbols.proofs.RowsRead.{progress-fails, progress-goes}
use Rattle.htl_symbols.proofs.read.read_rows.Goals as goal

pub returns-in_err-add_row : goal.returns-in_err-add_row
returns-in_err-add_row c =
    let result = err_from_is_err_and c.from_residual-in_err-add_row.result c.from_residual-in_err-add_row.ensures.1 in
    let p = c.loop-symbols.invariant in
    let read = rw c.if-branch.true at (c.in_ok-read_record.ensures p.at) in
    rw (result.1, result.2) (
    progress-fails (records_left c.args.reader.now) c.loop-symbols.number c.loop-symbols.reader c.read_record.new.reader
    c.loop-symbols.symbols c.add_row.new.symbols
    (fields_of c.read_record.new.fields) _ p read c.in_err-add_row.ensures
    )

pub loop-symbols-preserved : goal.loop-symbols-preserved
loop-symbols-preserved c =
    let p = c.loop-symbols.invariant in
    let read = rw c.if-branch.true at (c.in_ok-read_record.ensures p.at) in
    progress-goes (records_left c.args.reader.now) c.loop-symbols.number c.loop-symbols.reader c.read_record.new.reader
    c.loop-symbols.symbols c.add_row.new.symbols
    (fields_of c.read_record.new.fields) _ p read c.in_ok-add_row.ensures
