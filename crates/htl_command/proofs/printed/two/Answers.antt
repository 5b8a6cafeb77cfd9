-- Two numbers are read from the halves round the comma, and where there is no comma there are none.
use Rattle.std.proofs.Common.{◌≡◌, arith, sym}
use Rattle.std.specs.Prelude.{None, Some}
use Rattle.std.proofs.lemmas.Str.Pattern.{split_parts}
use Rattle.htl_command.proofs.FaultTexts.{finds-none, two_made, two_split}
use Rattle.htl_command.specs.Values.{sequence_in}
use Rattle.htl_command.proofs.printed.two.Goals as goal

pub returns-in_err-first : goal.returns-in_err-first
returns-in_err-first c =
    finds-none _ c.from_residual.result c.from_residual.ensures
    (λ x p. rw (c.in_err-first.was) at (two_split x.0 x.1 c.args.inner.now c.split_once.result p c.split_once.ensures.cases))

pub returns-in_err-sequence : goal.returns-in_err-sequence
returns-in_err-sequence c =
    finds-none _ c.from_residual-in_err-sequence.result c.from_residual-in_err-sequence.ensures
    (λ x p.
    let split = rw (c.in_ok-first.was) at (two_split x.0 x.1 c.args.inner.now c.split_once.result p c.split_once.ensures.cases) in
    let none : None ≡ sequence_in c.in_ok-first.first.now = c.in_err-sequence.ensures in
    let some : sequence_in c.in_ok-first.first.now ≡ Some x.0 = rw split.0 p.left in
    cc)

pub returns-in_err-sequence-2 : goal.returns-in_err-sequence-2
returns-in_err-sequence-2 c =
    finds-none _ c.from_residual-in_err-sequence-2.result c.from_residual-in_err-sequence-2.ensures
    (λ x p.
    let split = rw (c.in_ok-first.was) at (two_split x.0 x.1 c.args.inner.now c.split_once.result p c.split_once.ensures.cases) in
    let none : None ≡ sequence_in c.after_blank.result.now = c.in_err-sequence-2.ensures in
    let some : sequence_in c.after_blank.result.now ≡ Some x.1 = rw (c.after_blank.ensures, split.1) p.right in
    cc)

pub returns : goal.returns
returns c =
    let parts = rw (c.in_ok-first.was) at (split_parts 44 c.args.inner.now c.split_once.result c.split_once.ensures.cases (omega arith)) in
    two_made c.in_ok-sequence.field-0 c.in_ok-sequence-2.field-0 c.args.inner.now c.in_ok-first.first.now c.in_ok-first.second.now parts.0
    (sym c.in_ok-sequence.ensures) (rw (← c.after_blank.ensures) (sym c.in_ok-sequence-2.ensures))
