-- The first pair of neighbours with one key and two contents has the least such key.
use Rattle.std.proofs.Common.{rules}
use Rattle.std.proofs.lemmas.Bool.{both_ways}
use Rattle.htl_case.proofs.Repeats.{gone_more, gone_found, gone_all}
use Rattle.htl_case.proofs.ordering.two_contents.Goals.{else-have_one_key-via-then-have_one_key+else-not-same}
use Rattle.htl_case.proofs.ordering.two_contents.Goals.{else-have_one_key-via-else-have_one_key}
use Rattle.htl_case.proofs.ordering.two_contents.Goals as goal

pub returns-then-not-same : goal.returns-then-not-same
returns-then-not-same c =
    rw c.key.ensures (gone_found c.args.segments.now c.in_ok-first.rest.now c.loop-segment.segment-index c.loop-segment.last.now
    c.segment-item.result c.loop-segment-test.true c.segment-item.is (search rules) (search rules) c.loop-segment.invariant)

pub loop-segment-preserved : goal.loop-segment-preserved
loop-segment-preserved c =
    gone_more c.args.segments.now c.in_ok-first.rest.now c.loop-segment.segment-index c.loop-segment.last.now c.segment-item.result
    c.loop-segment-test.true c.segment-item.is
    (λ same. elim c.else-have_one_key.branch [
      | else-have_one_key-via-then-have_one_key+else-not-same w ↦ search rules
      | else-have_one_key-via-else-have_one_key w ↦ absurd
          (both_ways c.have_one_key.result w.if-have_one_key.false (c.have_one_key.ensures.1 same))
    ])
    c.loop-segment.invariant

pub returns : goal.returns
returns c =
    gone_all c.args.segments.now c.in_ok-first.rest.now c.loop-segment.segment-index c.loop-segment.last.now c.loop-segment-test.false
    c.loop-segment.invariant
