-- The held segments of a processor more are added.
use Rattle.std.proofs.Common.{◌≡◌, ◌<◌, length, ap, ◌∙◌, subst, arith}
use Rattle.std.proofs.lemmas.List.Sums.{sum_by_more}
use Rattle.htl_taken.specs.Numbers.{numbers_at}
use Rattle.htl_analyst.specs.States.{State, Part, part_at, no_part}
use Rattle.htl_analyst.specs.Right.{IsState}
use Rattle.htl_analyst.proofs.Takes.{held_few}
use Rattle.htl_analyst.proofs.analyst.Analyst.held.Goals as goal

pub loop-processor-preserved : goal.loop-processor-preserved
loop-processor-preserved g c =
    let a : State = c.args.self.now in
    let p = c.loop-processor.processor in
    let few = held_few a.trace_id a.processors p (numbers_at a.taken p) c.part.result.now c.part.ensures.part in
    let e : length c.held.result.now ≡ length (part_at a.parts p).held =
    ap length c.held.ensures ∙ ap (λ (k : Part). length k.held) c.part.ensures.value in
    let f : length c.held.result.now ≡ length c.part.result.now.held = ap length c.held.ensures in
    let lt : p < length a.parts =
    (let is : IsState a = subst IsState c.self.view_is c.self.invariant in
    let n = ap (λ (x : State). x.processors) c.self.view_is in
    omega (arith, is.parts, n, c.loop-processor-test.true)) in
    let more = sum_by_more (λ (k : Part). length k.held) a.parts p no_part lt in
    let inv = c.loop-processor.invariant in
    record { value = omega (arith, inv.value, more, e); bounded = omega (arith, inv.bounded, few, f) }
