-- A row adds its range, or has its first fault.
use Rattle.std.proofs.Common.{sym, ◌∙◌}
use Rattle.std.proofs.lemmas.Result.{err_from_is_err_and}
use Rattle.csv.specs.Records.{fields_of}
use Rattle.htl_symbols.specs.Symbols.{row_range}
use Rattle.htl_symbols.proofs.RowsAdded.{row-refused}
use Rattle.htl_symbols.proofs.read.add_row.Goals as goal

pub returns-in_err-row : goal.returns-in_err-row
returns-in_err-row c =
    let p = err_from_is_err_and c.from_residual.result c.from_residual.ensures.1 in
    rw (p.1, p.2) (row-refused (c.args.number, fields_of c.args.fields.now) c.args.symbols.now c.args.symbols.now _
    c.in_err-row.ensures.row)

pub returns : goal.returns
returns c = (
  record { range = row_range c.in_ok-row.row; written = c.in_ok-row.ensures.row; met = sym c.overlaps.ensures ∙ c.if-overlaps.false },
  rw c.in_ok-symbol_of.ensures at c.in_ok-insert.ensures.ok,
  c.in_ok-insert.ensures.table,
)
