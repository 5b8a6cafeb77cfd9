-- A text without a parenthesis is the name of a code, or no fault.
use Rattle.std.proofs.Common.{◌≡◌, [], refl}
use Rattle.std.specs.Prelude.{None, Some}
use Rattle.htl_command.proofs.FaultTexts.{called, finds-none, named}
use Rattle.htl_command.specs.Steps.{AreFault, code_named}
use Rattle.htl_command.specs.declared.printed.PrintedFault.{PrintedFault}
use Rattle.htl_command.proofs.printed.PrintedFault.alone.Goals as goal

pub returns-in_err-code : goal.returns-in_err-code
returns-in_err-code c =
    finds-none (AreFault c.args.name.now []) c.from_residual.result c.from_residual.ensures
    (λ (fault : PrintedFault) (p : AreFault c.args.name.now [] fault).
    let none : c.from_name.result ≡ None = c.in_err-code.was in
    let other : code_named c.args.name.now ≡ Some fault.code = named c.args.name.now fault.code p.code in
    cc (c.from_name.ensures))

pub returns : goal.returns
returns c =
    let some : c.from_name.result ≡ Some c.in_ok-code.code = c.in_ok-code.was in
    let is : code_named c.args.name.now ≡ Some c.in_ok-code.code = cc (c.from_name.ensures) in
    record { code = called c.args.name.now c.in_ok-code.code is; parts = refl }
