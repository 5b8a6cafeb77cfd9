-- A part more holds what the other folded further.
use Rattle.std.proofs.Common.{◌≡◌, ◌<◌, ℕ, ap, subst, arith}
use Rattle.htl_taken.specs.Numbers.{front_at}
use Rattle.htl_analyst.specs.StepParts.{AreGreaterOf}
use Rattle.htl_analyst.specs.States.{State, Part, folded_at}
use Rattle.htl_analyst.proofs.United.{parts_more}
use Rattle.htl_analyst.proofs.analyst.Analyst.greater_of.Goals as goal

pub loop-processor-preserved : goal.loop-processor-preserved
loop-processor-preserved g c =
    let a = c.args.self.now in
    let b = c.args.other.now in
    let old = c.loop-processor.invariant in
    let more = parts_more (λ p (k : Part). front_at a.taken p < front_at b.taken p → k.folded ≡ folded_at b.parts p)
    c.loop-processor.parts.items c.push.new.self.items c.in_ok-greater_at.field-0 c.loop-processor.processor c.in_ok-push.ensures.items
    old.len old.each c.in_ok-greater_at.ensures in
    record { len = more.0; each = more.1 }

pub returns : goal.returns
returns g c =
    let n = ap (λ (x : State). x.processors) c.self.view_is in
    let end : c.loop-processor.processor ≡ c.args.self.now.processors =
    omega (arith, n, c.loop-processor.auto.processor-end, c.loop-processor-test.false) in
    subst (λ (m : ℕ). AreGreaterOf c.args.self.now c.args.other.now c.loop-processor.parts.items m) end c.loop-processor.invariant
