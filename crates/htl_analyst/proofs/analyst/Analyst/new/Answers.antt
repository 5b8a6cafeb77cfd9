-- A state with nothing taken is right about every collection of its id and processor count.
use Rattle.std.proofs.Common.{◌≤◌, ◌<◌, arith, inl, inr}
use Rattle.htl_analyst.proofs.Fresh.{IsState-new, IsRight-new}
use Rattle.htl_analyst.proofs.analyst.Analyst.new.Goals as goal

pub invariant_of-result : goal.invariant_of-result
invariant_of-result g c =
    let some : 0 < c.args.processors = omega (arith, c.if-processors-eq0.false) in
    let few : c.args.processors ≤ 256 = omega (arith, c.if-processors-gt-MAX_PROCESSORS.false) in
    rw (c.in_ok-taken.ensures, c.in_ok-parts.ensures) (IsState-new c.args.trace_id c.args.processors some few)

pub returns-clause-processors : goal.returns-clause-processors
returns-clause-processors g c = (
  (λ e. cc),
  (λ h. elim h [
    | inl zero ↦ absurd (c.if-processors-eq0.false zero)
    | inr many ↦ absurd (omega (arith, many, c.if-processors-gt-MAX_PROCESSORS.false))
  ]),
)

pub returns-clause-right : goal.returns-clause-right
returns-clause-right g c = λ T collection ei en.
    let some : 0 < c.args.processors = omega (arith, c.if-processors-eq0.false) in
    let few : c.args.processors ≤ 256 = omega (arith, c.if-processors-gt-MAX_PROCESSORS.false) in
    rw (c.in_ok-taken.ensures, c.in_ok-parts.ensures) (IsRight-new T c.args.trace_id c.args.processors some few collection ei en)
