-- One processor more is united, and united numbers are united keys.
use Rattle.std.proofs.Common.{◌≡◌, ◌+◌, ◌<◌, ◌≤◌, ℕ, arith, length, map, ap, ◌∙◌, inl, inr, ◌++◌, ◌∷◌, []}
use Rattle.std.proofs.lemmas.Bool.{cases_lt}
use Rattle.std.proofs.lemmas.List.{length-map, length_push}
use Rattle.htl_taken.specs.Numbers.{IsUnion, numbers_at}
use Rattle.htl_taken.specs.NumberSets.{numbers_of}
use Rattle.htl_taken.proofs.Numbers.{Has-union}
use Rattle.htl_taken.proofs.Keys.{key_united}
use Rattle.htl_taken.proofs.NumberSets.{numbers_at-item, numbers_at-view, length-view, united_more, IsUnion-past}
use Rattle.htl_taken.proofs.taken.Taken.union.Goals as goal

pub loop-processor-preserved : goal.loop-processor-preserved
loop-processor-preserved g c =
    let p = c.loop-processor.processor in
    let sets = c.loop-processor.sets.items in
    let numbers = c.in_ok-union.field-0 in
    let left = numbers_at-item c.self.inside.sets.items c.deref-numbers-items.result.now c.args.self.now c.self.view_is
    c.deref-numbers-items.ensures.value p c.numbers-item.result c.loop-processor-test.true c.numbers-item.is in
    let in_other : p < length c.other.inside.sets.items =
    omega (
      arith,
      c.requires,
      length-view c.self.inside.sets.items c.args.self.now c.self.view_is,
      length-view c.other.inside.sets.items c.args.other.now c.other.view_is,
      ap length c.deref-numbers-items.ensures.value,
      c.loop-processor-test.true,
    ) in
    let right = numbers_at-view c.other.inside.sets.items c.args.other.now c.other.view_is p c.index.result.now in_other c.index.ensures in
    let one : IsUnion (numbers_at c.args.self.now p) (numbers_at c.args.other.now p) (numbers_of numbers) =
    rw (left, right) c.in_ok-union.ensures in
    let pushed : c.push.new.self.items ≡ sets ++ numbers ∷ [] = c.in_ok-push.ensures.items in
    record {
      counted = ap length pushed ∙ length_push sets numbers ∙ ap (λ (n : ℕ). n + 1) c.loop-processor.invariant.counted;
      united = rw pushed (united_more c.args.self.now c.args.other.now sets numbers p c.loop-processor.invariant.counted
          c.loop-processor.invariant.united one);
    }

pub returns-clause-each : goal.returns-clause-each
returns-clause-each g c = λ p. elim (cases_lt p c.loop-processor.processor) [
  | inl lt ↦ c.loop-processor.invariant.united p lt
  | inr le ↦
      let left = length-view c.self.inside.sets.items c.args.self.now c.self.view_is in
      let items = ap length c.deref-numbers-items.ensures.value in
      let past : length c.args.self.now ≤ p = omega (arith, left, items, le, c.loop-processor-test.false) in
      let made = length-map c.loop-processor.sets.items (numbers_of {A = g.row.A.Denot}) in
      IsUnion-past c.args.self.now c.args.other.now (map numbers_of c.loop-processor.sets.items) p past (omega (arith, past, c.requires))
      (omega (arith, made, c.loop-processor.invariant.counted, le))
]

pub returns-clause-keys : goal.returns-clause-keys
returns-clause-keys g c = λ p n.
    let made = map numbers_of c.loop-processor.sets.items in
    key_united c.args.self.now c.args.other.now made p n
    (Has-union (numbers_at c.args.self.now p) (numbers_at c.args.other.now p) (numbers_at made p) (returns-clause-each g c p) n)
