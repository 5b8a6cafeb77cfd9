-- The held segments before the one found have lower numbers and no other content.
use Rattle.std.proofs.Common.{◌≡◌, ◌<◌, List, length, get_or, ap, sym, ◌∙◌, subst, arith}
use Rattle.std.specs.Prelude.{Contains}
use Rattle.htl_segment.specs.Content.{Content}
use Rattle.htl_taken.specs.Numbers.{numbers_at}
use Rattle.htl_analyst.specs.States.{State, Part}
use Rattle.htl_analyst.specs.Refusals.{HoldsOther}
use Rattle.htl_analyst.proofs.Merges.{before_item}
use Rattle.htl_analyst.proofs.analyst.Analyst.find_conflict.Goals as goal

pub returns-then-holds_other-clause-least : goal.returns-then-holds_other-clause-least
returns-then-holds_other-clause-least g c = λ m lt two.
    let b : State = c.args.other.now in
    let p = c.args.processor in
    let i = c.loop-segment.segment-index in
    let items = c.held-segment-items.result.now in
    let k : Part = c.part.result.now in
    let ei : items ≡ k.held = c.held-segment-items.ensures in
    let here : Contains k.held two.segment = subst (λ (l : Part). Contains l.held two.segment) (sym c.part.ensures.value) two.here in
    let within : i < length k.held = (let e = ap length ei in omega (arith, e, c.loop-segment-test.true)) in
    let at : (get_or k.held i c.segment-item.result).number ≡ c.number.result =
    ap (λ (hs : List Content). (get_or hs i c.segment-item.result).number) (sym ei)
    ∙ ap (λ (s : Content). s.number) (sym c.segment-item.is) ∙ sym c.number.ensures in
    let low : two.segment.number < (get_or k.held i c.segment-item.result).number = (let n = two.number in omega (arith, n, at, lt)) in
    let found =
    before_item b.trace_id b.processors p (numbers_at b.taken p) k c.part.ensures.part two.segment i c.segment-item.result within here
    low in
    let same : get_or items found.0 two.segment ≡ two.segment = ap (λ (hs : List Content). get_or hs found.0 two.segment) ei ∙ found.2 in
    c.loop-segment.invariant found.0 two.segment found.1 (subst (HoldsOther c.args.self.now) (sym same) two.other)
