-- The first number that its neighbour repeats is the least that comes twice.
use Rattle.std.proofs.Common.{ℕ, List, refl, subst, rules}
use Rattle.htl_segment.proofs.Times.{AreGone, none_gone, gone_more, gone_found, gone_all}
use Rattle.htl_segment.proofs.repeated.first_repeated.Goals as goal

pub loop-number-init : goal.loop-number-init
loop-number-init c =
    subst (λ (left : List ℕ). AreGone c.args.numbers.now left) c.in_ok-first.ensures.cases.0 (none_gone c.args.numbers.now c.requires)

pub returns-then-number-last : goal.returns-then-number-last
returns-then-number-last c =
    gone_found c.args.numbers.now c.in_ok-first.rest.now c.loop-number.number-index c.loop-number.last _ 0
    c.loop-number-test.true refl (search rules) c.loop-number.invariant

pub loop-number-preserved : goal.loop-number-preserved
loop-number-preserved c =
    gone_more c.args.numbers.now c.in_ok-first.rest.now c.loop-number.number-index c.loop-number.last _ 0
    c.loop-number-test.true refl (search rules) c.loop-number.invariant

pub returns : goal.returns
returns c =
    gone_all c.args.numbers.now c.in_ok-first.rest.now c.loop-number.number-index c.loop-number.last c.loop-number-test.false
    c.loop-number.invariant
