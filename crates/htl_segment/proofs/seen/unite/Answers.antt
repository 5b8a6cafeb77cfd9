-- The marks below a place were added, and those of one place more are.
use Rattle.std.proofs.Common.{◌<◌, length, arith, subst, Bool}
use Rattle.htl_segment.proofs.SeenLaws.{AreUnited, all_united, none_united, one_united}
use Rattle.htl_segment.proofs.seen.unite.Goals as goal

pub loop-place-init : goal.loop-place-init
loop-place-init c = none_united c.args.marks.now c.args.more.now

pub loop-place-preserved : goal.loop-place-preserved
loop-place-preserved c =
    let inside : c.loop-place.place < length c.loop-place.marks =
    omega (arith, c.requires, c.loop-place-test.true, c.loop-place.invariant.long) in
    one_united c.args.marks.now c.args.more.now c.loop-place.marks c.loop-place.place c.loop-place.is_twice inside c.loop-place.invariant

pub returns-clause-twice : goal.returns-clause-twice
returns-clause-twice c = c.loop-place.invariant.twice

pub returns-clause-once : goal.returns-clause-once
returns-clause-once c = λ once.
    all_united c.args.marks.now c.args.more.now c.loop-place.marks c.loop-place.place c.loop-place-test.false
    (subst (λ (b : Bool). AreUnited c.args.marks.now c.args.more.now c.loop-place.marks c.loop-place.place b) once c.loop-place.invariant)
