-- A text with a parenthesis is the name of a code with its parts, or no fault.
use Rattle.std.proofs.Common.{◌≡◌, ◌∷◌, arith}
use Rattle.std.specs.Prelude.{None, Some}
use Rattle.std.proofs.lemmas.Str.Pattern.{strip_suffix_char}
use Rattle.htl_command.proofs.FaultTexts.{finds-none, named, no_end, no_parts, some_parts}
use Rattle.htl_command.specs.Steps.{AreFault, code_named}
use Rattle.htl_command.specs.declared.printed.PrintedFault.{PrintedFault}
use Rattle.htl_command.proofs.printed.PrintedFault.with_parts.Goals as goal

pub returns-in_err-code : goal.returns-in_err-code
returns-in_err-code c =
    finds-none (AreFault c.args.name.now (40 ∷ c.args.tail.now)) c.from_residual.result c.from_residual.ensures
    (λ (fault : PrintedFault) (p : AreFault c.args.name.now (40 ∷ c.args.tail.now) fault).
    let none : c.from_name.result ≡ None = c.in_err-code.was in
    let other : code_named c.args.name.now ≡ Some fault.code = named c.args.name.now fault.code p.code in
    cc (c.from_name.ensures))

pub returns-in_err-inner : goal.returns-in_err-inner
returns-in_err-inner c =
    let none : c.strip_suffix.result ≡ None = c.in_err-inner.was in
    let no = strip_suffix_char 41 c.args.tail.now c.strip_suffix.result c.strip_suffix.ensures.cases (omega arith) in
    finds-none (AreFault c.args.name.now (40 ∷ c.args.tail.now)) c.from_residual-in_err-inner.result c.from_residual-in_err-inner.ensures
    (no_end c.args.name.now c.args.tail.now (rw none at no))

pub returns-in_err-parts : goal.returns-in_err-parts
returns-in_err-parts c =
    let some : c.from_name.result ≡ Some c.in_ok-code.code = c.in_ok-code.was in
    let is : code_named c.args.name.now ≡ Some c.in_ok-code.code = cc (c.from_name.ensures) in
    let stripped : c.strip_suffix.result ≡ Some c.in_ok-inner.inner = c.in_ok-inner.was in
    let end = rw stripped at (strip_suffix_char 41 c.args.tail.now c.strip_suffix.result c.strip_suffix.ensures.cases (omega arith)) in
    finds-none (AreFault c.args.name.now (40 ∷ c.args.tail.now)) c.from_residual-in_err-parts.result c.from_residual-in_err-parts.ensures
    (rw end (no_parts c.args.name.now c.in_ok-inner.inner.now c.in_ok-code.code is (rw (c.of.ensures) at (c.in_err-parts.ensures))))

pub returns : goal.returns
returns c =
    let some : c.from_name.result ≡ Some c.in_ok-code.code = c.in_ok-code.was in
    let is : code_named c.args.name.now ≡ Some c.in_ok-code.code = cc (c.from_name.ensures) in
    let stripped : c.strip_suffix.result ≡ Some c.in_ok-inner.inner = c.in_ok-inner.was in
    let end = rw stripped at (strip_suffix_char 41 c.args.tail.now c.strip_suffix.result c.strip_suffix.ensures.cases (omega arith)) in
    rw end (some_parts c.args.name.now c.in_ok-inner.inner.now c.in_ok-code.code c.in_ok-parts.parts is (rw (c.of.ensures) at (c.in_ok-parts.ensures)))
