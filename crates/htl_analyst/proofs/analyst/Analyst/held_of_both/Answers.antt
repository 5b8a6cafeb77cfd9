-- A part more holds the segments of the loose numbers of both.
use Rattle.std.proofs.Common.{◌≡◌, ℕ, ap, subst, arith}
use Rattle.htl_taken.specs.Numbers.{numbers_at}
use Rattle.htl_analyst.specs.StepParts.{AreHeldOfBoth}
use Rattle.htl_analyst.specs.States.{State, Part, part_at}
use Rattle.htl_analyst.specs.StepParts.{IsHeldOfBoth}
use Rattle.htl_analyst.proofs.United.{parts_more}
use Rattle.htl_analyst.proofs.analyst.Analyst.held_of_both.Goals as goal

pub loop-processor-preserved : goal.loop-processor-preserved
loop-processor-preserved g c =
    let a = c.args.self.now in
    let b = c.args.other.now in
    let old = c.loop-processor.invariant in
    let more = parts_more (λ p (k : Part). IsHeldOfBoth (part_at a.parts p) (part_at b.parts p) (numbers_at c.args.taken.now p) k.held)
    c.loop-processor.parts.items c.push.new.self.items c.in_ok-part_of_both.field-0 c.loop-processor.processor c.in_ok-push.ensures.items
    old.len old.each c.in_ok-part_of_both.ensures in
    record { len = more.0; each = more.1 }

pub returns : goal.returns
returns g c =
    let n = ap (λ (x : State). x.processors) c.self.view_is in
    let end : c.loop-processor.processor ≡ c.args.self.now.processors =
    omega (arith, n, c.loop-processor.auto.processor-end, c.loop-processor-test.false) in
    subst (λ (m : ℕ). AreHeldOfBoth c.args.self.now c.args.other.now c.args.taken.now c.loop-processor.parts.items m) end
    c.loop-processor.invariant
