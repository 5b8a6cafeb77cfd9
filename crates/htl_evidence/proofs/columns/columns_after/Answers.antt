-- One more segment has columns, and those that are left belong to segments to come.
use Rattle.std.proofs.Common.{◌+◌, drop, subst, sym, take}
use Rattle.htl_evidence.specs.Columns.{AreAmong, AreColumnsOf, HaveColumns}
use Rattle.htl_evidence.proofs.TakenOver.{columns_more, left_from}
use Rattle.htl_evidence.proofs.columns.columns_after.Goals.{in-Some, in-None+in_ok-columns-in-None}
use Rattle.htl_evidence.proofs.columns.columns_after.Goals as goal

pub loop-segment-preserved : goal.loop-segment-preserved
loop-segment-preserved c =
    let ss = c.args.segments.now in
    let i = c.loop-segment.segment-index in
    let s = c.segment-item.result in
    let among = subst (AreAmong c.loop-segment.rest.segments.now) (left_from ss i s c.loop-segment-test.true c.segment-item.is)
    c.loop-segment.invariant.among in
    let own : AreColumnsOf s.events c.match-take.columns = elim c.match-take.branch [
      | in-Some w ↦ rw w.columns-is (w.in-Some.ensures.value (drop (i + 1) ss) among)
      | in-None+in_ok-columns-in-None w ↦ rw w.columns-is (rw w.events.ensures.value at w.in_ok-columns-in-None.ensures)
    ] in
    record {
      made = subst (HaveColumns (take (i + 1) ss)) (sym c.in_ok-push.ensures.items)
          (columns_more ss i s c.loop-segment.all.items c.match-take.columns c.loop-segment-test.true c.segment-item.is
          c.loop-segment.invariant.made own);
      left = c.take.ensures.left;
      among = c.take.ensures.among (drop (i + 1) ss) among;
    }
