-- Sets are equal where each processor has equal numbers.
use Rattle.std.proofs.Common.{◌≡◌, ◌<◌, length, arith, below_more, refl, sym, ◌∙◌, ap}
use Rattle.std.proofs.lemmas.Bool.{false≢true}
use Rattle.htl_taken.specs.Numbers.{numbers_at}
use Rattle.htl_taken.proofs.NumberSets.{numbers_at-item, numbers_at-view, length-view, numbers_same}
use Rattle.htl_taken.proofs.taken.Taken.same.Goals as goal

pub loop-processor-preserved : goal.loop-processor-preserved
loop-processor-preserved g c =
    let p = c.loop-processor.processor in
    let left = numbers_at-item c.self.inside.sets.items c.deref-numbers-items.result.now c.args.self.now c.self.view_is
    c.deref-numbers-items.ensures.value p c.numbers-item.result c.loop-processor-test.true c.numbers-item.is in
    let in_other : p < length c.other.inside.sets.items =
    omega (
      arith,
      c.if-len.false,
      c.len.ensures,
      c.len-2.ensures,
      c.self.inside.sets.ok.0,
      c.other.inside.sets.ok.0,
      ap length c.deref-numbers-items.ensures.value,
      c.loop-processor-test.true,
    ) in
    let right = numbers_at-view c.other.inside.sets.items c.args.other.now c.other.view_is p c.index.result.now in_other c.index.ensures in
    below_more _ _ c.loop-processor.invariant (left ∙ c.same.ensures.0 c.if-not-same.false ∙ sym right)

pub returns-then-not-same : goal.returns-then-not-same
returns-then-not-same g c =
    let p = c.loop-processor.processor in
    let left = numbers_at-item c.self.inside.sets.items c.deref-numbers-items.result.now c.args.self.now c.self.view_is
    c.deref-numbers-items.ensures.value p c.numbers-item.result c.loop-processor-test.true c.numbers-item.is in
    let in_other : p < length c.other.inside.sets.items =
    omega (
      arith,
      c.if-len.false,
      c.len.ensures,
      c.len-2.ensures,
      c.self.inside.sets.ok.0,
      c.other.inside.sets.ok.0,
      ap length c.deref-numbers-items.ensures.value,
      c.loop-processor-test.true,
    ) in
    let right = numbers_at-view c.other.inside.sets.items c.args.other.now c.other.view_is p c.index.result.now in_other
    c.index.ensures in (
      (λ t. absurd (false≢true t)),
      (λ e. sym c.if-not-same.true ∙ c.same.ensures.1 (sym left ∙ ap (λ (ps : _). numbers_at ps p) e ∙ right)),
    )

pub returns : goal.returns
returns g c =
    let left = length-view c.self.inside.sets.items c.args.self.now c.self.view_is in
    let right = length-view c.other.inside.sets.items c.args.other.now c.other.view_is in
    let items = ap length c.deref-numbers-items.ensures.value in
    let same_len : length c.args.self.now ≡ length c.args.other.now =
    omega (arith, left, right, c.if-len.false, c.len.ensures, c.len-2.ensures, c.self.inside.sets.ok.0, c.other.inside.sets.ok.0) in (
      (λ t. numbers_same c.args.self.now c.args.other.now same_len
          (λ p lt. c.loop-processor.invariant p (omega (arith, lt, left, items, c.loop-processor-test.false)))),
      (λ e. refl),
    )
