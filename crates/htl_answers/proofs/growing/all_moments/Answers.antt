-- A turn lists one moment of the span more.
use Rattle.std.proofs.Common.{arith, refl}
use Rattle.std.proofs.lemmas.List.FromFn.{map-range_with_len_more}
use Rattle.htl_event.specs.Growth.{moment_at}
use Rattle.htl_answers.proofs.growing.all_moments.Goals as goal

pub loop-i-preserved : goal.loop-i-preserved
loop-i-preserved c =
    let i = c.loop-i.i in
    let more = map-range_with_len_more (moment_at c.args.span c.args.points) 0 i i (omega arith) in
    rw (more, c.in_ok-push.ensures.items, c.moment_at.ensures, c.loop-i.invariant) refl
