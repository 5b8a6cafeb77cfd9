-- A record of four fields has each of them, and no other record has four.
use Rattle.std.proofs.Common.{arith}
use Rattle.csv.specs.Records.{fields_of}
use Rattle.htl_symbols.proofs.Fields.{four, not-four}
use Rattle.htl_symbols.proofs.row.four_fields.Goals as goal

pub returns-in_err-get : goal.returns-in_err-get
returns-in_err-get c = rw c.from_residual.ensures (not-four (fields_of c.args.fields.now) 0 (omega arith) c.in_err-get.ensures.value)

pub returns-in_err-get-2 : goal.returns-in_err-get-2
returns-in_err-get-2 c = rw c.from_residual-in_err-get-2.ensures
    (not-four (fields_of c.args.fields.now) 1 (omega arith) c.in_err-get-2.ensures.value)

pub returns-in_err-get-3 : goal.returns-in_err-get-3
returns-in_err-get-3 c = rw c.from_residual-in_err-get-3.ensures
    (not-four (fields_of c.args.fields.now) 2 (omega arith) c.in_err-get-3.ensures.value)

pub returns-in_err-get-4 : goal.returns-in_err-get-4
returns-in_err-get-4 c = rw c.from_residual-in_err-get-4.ensures
    (not-four (fields_of c.args.fields.now) 3 (omega arith) c.in_err-get-4.ensures.value)

pub returns : goal.returns
returns c =
    four (fields_of c.args.fields.now) c.in_ok-get.field-0.now c.in_ok-get-2.field-0.now c.in_ok-get-3.field-0.now
    c.in_ok-get-4.field-0.now (omega arith)
    c.in_ok-get.ensures.value c.in_ok-get-2.ensures.value c.in_ok-get-3.ensures.value c.in_ok-get-4.ensures.value
