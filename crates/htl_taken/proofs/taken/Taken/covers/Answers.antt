-- One processor more is covered; where one is not, the set is not.
use Rattle.std.proofs.Common.{length, arith, below_more, inl, inr, refl, sym, ◌∙◌, ap}
use Rattle.std.proofs.lemmas.Bool.{cases_lt, false≢true}
use Rattle.htl_taken.proofs.Keys.{keys_within, within_keys}
use Rattle.htl_taken.proofs.NumberSets.{numbers_at-item, numbers_at-past, length-view, Has-no_numbers}
use Rattle.htl_taken.proofs.taken.Taken.covers.Goals as goal

pub returns-then-not-covers_set : goal.returns-then-not-covers_set
returns-then-not-covers_set g c =
    let p = c.loop-processor.processor in
    let at = numbers_at-item c.other.inside.sets.items c.deref-numbers-items.result.now c.args.other.now c.other.view_is
    c.deref-numbers-items.ensures.value p c.numbers-item.result c.loop-processor-test.true c.numbers-item.is in (
      (λ t p' n h. absurd (false≢true t)),
      (λ all. sym c.if-not-covers_set.true ∙ c.covers_set.ensures.1 (rw at at (within_keys c.args.other.now c.args.self.now all p))),
    )

pub loop-processor-preserved : goal.loop-processor-preserved
loop-processor-preserved g c =
    let p = c.loop-processor.processor in
    let at = numbers_at-item c.other.inside.sets.items c.deref-numbers-items.result.now c.args.other.now c.other.view_is
    c.deref-numbers-items.ensures.value p c.numbers-item.result c.loop-processor-test.true c.numbers-item.is in
    below_more _ _ c.loop-processor.invariant (rw at (c.covers_set.ensures.0 c.if-not-covers_set.false))

pub returns : goal.returns
returns g c = (
  (λ t. keys_within c.args.other.now c.args.self.now (λ p n h. elim (cases_lt p c.loop-processor.processor) [
    | inl lt ↦ c.loop-processor.invariant p lt n h
    | inr le ↦
        let len = length-view c.other.inside.sets.items c.args.other.now c.other.view_is in
        let past = numbers_at-past c.args.other.now p
        (omega (arith, len, le, c.loop-processor-test.false, ap length c.deref-numbers-items.ensures.value)) in
        absurd (Has-no_numbers n (rw past at h))
  ])),
  (λ all. refl),
)
