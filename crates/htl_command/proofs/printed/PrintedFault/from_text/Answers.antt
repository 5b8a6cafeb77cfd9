-- What is found of the halves round the first parenthesis is what is found of the text.
use Rattle.std.proofs.Common.{◌≡◌, ◌∙◌, ◌∷◌, [], arith, refl, sym, append-nil}
use Rattle.std.specs.Prelude.{None, Some}
use Rattle.std.specs.Str.{trim}
use Rattle.std.proofs.lemmas.Str.Pattern.{split_parts}
use Rattle.htl_command.proofs.FaultTexts.{of_halves}
use Rattle.htl_command.specs.Printed.{behind_colon}
use Rattle.htl_command.proofs.printed.PrintedFault.from_text.Goals as goal

pub returns-in-None : goal.returns-in-None
returns-in-None c =
    let fault : trim (behind_colon c.args.text.now) ≡ c.trim-fault.result.now = rw (c.trim-fault.ensures.trim, c.behind_colon.ensures) refl in
    let none : c.split_once.result ≡ None = c.in-None.is in
    let parts = rw none at (split_parts 40 c.trim-fault.result.now c.split_once.result c.split_once.ensures.cases (omega arith)) in
    of_halves c.args.text.now c.trim-fault.result.now [] c.alone.result (fault ∙ sym (append-nil c.trim-fault.result.now)) parts tt c.alone.ensures

pub returns-in-Some : goal.returns-in-Some
returns-in-Some c =
    let fault : trim (behind_colon c.args.text.now) ≡ c.trim-fault.result.now = rw (c.trim-fault.ensures.trim, c.behind_colon.ensures) refl in
    let some : c.split_once.result ≡ Some (c.in-Some.name, c.in-Some.tail) = c.in-Some.is in
    let parts = rw some at (split_parts 40 c.trim-fault.result.now c.split_once.result c.split_once.ensures.cases (omega arith)) in
    of_halves c.args.text.now c.in-Some.name.now (40 ∷ c.in-Some.tail.now) c.with_parts.result (fault ∙ parts.0) parts.1 refl c.with_parts.ensures
