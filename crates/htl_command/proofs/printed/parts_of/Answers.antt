-- What stands between the parentheses is read as the form of the code asks.
use Rattle.htl_command.proofs.FaultTexts.{finds-none, no_field, no_numbers}
use Rattle.htl_command.proofs.printed.parts_of.Goals as goal

pub returns-in_err-first-in-Numbers : goal.returns-in_err-first-in-Numbers
returns-in_err-first-in-Numbers c =
    finds-none _ c.from_residual-in_err-first-in-Numbers.result c.from_residual-in_err-first-in-Numbers.ensures
    (rw c.in-Numbers.is (no_numbers c.args.inner.now c.in_err-first-in-Numbers.ensures))

pub returns-in_err-field-in-Field : goal.returns-in_err-field-in-Field
returns-in_err-field-in-Field c =
    finds-none _ c.from_residual-in_err-field-in-Field.result c.from_residual-in_err-field-in-Field.ensures
    (rw c.in-Field.is (no_field c.args.inner.now c.in_err-field-in-Field.ensures))
