-- The least of the last folded sequences is what the trace is complete to.
use Rattle.std.proofs.Common.{ℕ, ap, ◌∙◌, subst, arith}
use Rattle.htl_analyst.specs.States.{State, Folded, Part, folded_at}
use Rattle.htl_analyst.specs.Right.{IsState}
use Rattle.htl_analyst.specs.Moments.{IsLeastKept}
use Rattle.htl_analyst.proofs.Falling.{LeastOf-first, LeastOf-more, complete, nothing_missing}
use Rattle.htl_analyst.proofs.analyst.Analyst.complete_to.Goals as goal

pub loop-processor-init : goal.loop-processor-init
loop-processor-init g c =
    LeastOf-first (λ (p : ℕ). (folded_at c.args.self.now.parts p).last_sequence) c.last_sequence-least.result
    (c.last_sequence-least.ensures ∙ ap (λ (d : Folded). d.last_sequence)
    (c.folded.ensures ∙ ap (λ (k : Part). k.folded) c.part.ensures.value))

pub loop-processor-preserved : goal.loop-processor-preserved
loop-processor-preserved g c =
    LeastOf-more (λ (p : ℕ). (folded_at c.args.self.now.parts p).last_sequence) c.loop-processor.processor c.loop-processor.least
    c.last_sequence.result c.min-least.result
    c.loop-processor.invariant
    (c.last_sequence.ensures ∙ ap (λ (d : Folded). d.last_sequence)
    (c.folded-in-loop-processor.ensures ∙ ap (λ (k : Part). k.folded) c.part-in-loop-processor.ensures.value))
    (omega (arith, c.min-least.ensures))

pub returns : goal.returns
returns g c =
    let a : State = c.args.self.now in
    let is : IsState a = subst IsState c.self.view_is c.self.invariant in
    let n = ap (λ (x : State). x.processors) c.self.view_is in
    let inv = c.loop-processor.invariant in
    let end = c.loop-processor-test.false in
    let some = is.some in
    let last = c.loop-processor.auto.processor-end in
    let kept : IsLeastKept a c.loop-processor.least = record {
      bound = λ p lt. inv.bound p (omega (arith, lt, n, end));
      processor = inv.place;
      within = (let w = inv.within in omega (arith, w, n, last, some));
      reached = inv.reached;
    } in
    record {
      kept = kept;
      complete = λ T right. complete T a c.loop-processor.least right kept;
      missing = λ T right rise. nothing_missing T a c.loop-processor.least right kept rise;
    }
