-- The events of a processor more are added.
use Rattle.std.proofs.Common.{◌≡◌, ◌≤◌, ◌<◌, List, length, sum_by, ap, ◌∙◌, subst, arith}
use Rattle.std.proofs.lemmas.List.Sums.{sum_by_more}
use Rattle.std.proofs.lemmas.List.{take_all}
use Rattle.htl_taken.specs.Numbers.{numbers_at}
use Rattle.htl_analyst.specs.States.{State, Part, part_at, no_part}
use Rattle.htl_analyst.specs.Right.{IsState}
use Rattle.htl_analyst.specs.TakenEvents.{events_kept}
use Rattle.htl_analyst.proofs.EventNumbers.{kept_few, number_kept}
use Rattle.htl_analyst.proofs.analyst.Analyst.events.Goals as goal

pub events-events-requires : goal.events-events-requires
events-events-requires g c =
    let a : State = c.args.self.now in
    let few = kept_few a.trace_id a.processors c.loop-processor.processor (numbers_at a.taken c.loop-processor.processor)
    c.part.result.now c.part.ensures.part in
    omega (arith, few)

pub loop-processor-preserved : goal.loop-processor-preserved
loop-processor-preserved g c =
    let a : State = c.args.self.now in
    let p = c.loop-processor.processor in
    let k : Part = c.part.result.now in
    let few = kept_few a.trace_id a.processors p (numbers_at a.taken p) k c.part.ensures.part in
    let e : events_kept k ≡ events_kept (part_at a.parts p) = ap (λ (l : Part). events_kept l) c.part.ensures.value in
    let added : c.events-events.result ≡ events_kept k = c.events-events.ensures in
    let lt : p < length a.parts =
    (let is : IsState a = subst IsState c.self.view_is c.self.invariant in
    let n = ap (λ (x : State). x.processors) c.self.view_is in
    omega (arith, is.parts, n, c.loop-processor-test.true)) in
    let more = sum_by_more events_kept a.parts p no_part lt in
    let inv = c.loop-processor.invariant in
    record { value = omega (arith, inv.value, more, e, added); bounded = omega (arith, inv.bounded, few, added) }

pub overflow_add-events : goal.overflow_add-events
overflow_add-events g c =
    let a : State = c.args.self.now in
    let few = kept_few a.trace_id a.processors c.loop-processor.processor (numbers_at a.taken c.loop-processor.processor)
    c.part.result.now c.part.ensures.part in
    let most = c.self.invariant.few in
    omega (arith, few, most, c.events-events.ensures, c.loop-processor.invariant.bounded, c.loop-processor-test.true)

pub returns-clause-taken : goal.returns-clause-taken
returns-clause-taken g c = λ T right.
    let a : State = c.args.self.now in
    let p = c.loop-processor.processor in
    let all : length a.parts ≤ p =
    (let is : IsState a = subst IsState c.self.view_is c.self.invariant in
    let n = ap (λ (x : State). x.processors) c.self.view_is in
    omega (arith, is.parts, n, c.loop-processor-test.false)) in
    c.loop-processor.invariant.value ∙ ap (λ (ks : List Part). sum_by events_kept ks) (take_all p a.parts all) ∙ number_kept T a right
