-- The last range that begins at or before the address is the only one that can have it.
use Rattle.std.proofs.Common.{sym}
use Rattle.htl_symbols.proofs.Resolving.{resolved-before, resolved-inside, resolved-outside}
use Rattle.htl_symbols.proofs.symbols.Symbols.resolve.Goals as goal

pub returns-in_err-start-clause-value : goal.returns-in_err-start-clause-value
returns-in_err-start-clause-value c =
    rw c.from_residual.ensures (sym (resolved-before c.args.self.now c.args.address c.in_err-start.ensures.last))

pub returns-then-address-symbol-clause-value : goal.returns-then-address-symbol-clause-value
returns-then-address-symbol-clause-value c =
    rw (c.as_str.ensures.value, c.as_str-then-address-symbol.ensures.value)
    (sym (resolved-inside c.args.self.now c.args.address _ c.in_ok-start.ensures.last c.if-address-symbol.true))

pub returns-else-address-symbol-clause-value : goal.returns-else-address-symbol-clause-value
returns-else-address-symbol-clause-value c =
    sym (resolved-outside c.args.self.now c.args.address _ c.in_ok-start.ensures.last c.if-address-symbol.false)
