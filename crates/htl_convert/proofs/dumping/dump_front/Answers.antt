-- The text of one segment more is written; or none follows, memory was refused for it, or it could not be written.
use Rattle.std.proofs.Common.{sym, ◌∙◌, inl, inr}
use Rattle.std.proofs.lemmas.List.{take_rest}
use Rattle.std.proofs.lemmas.Result.{err_from_is_err_and}
use Rattle.htl_segment.proofs.BundleLaws.{early_end, some_left}
use Rattle.htl_convert.proofs.DumpLaws.{front_memory, front_next, front_refused, front_unwritten}
use Rattle.htl_convert.proofs.dumping.dump_front.Goals as goal

pub returns-in_err-dump_segment-in-Ok-clause-dumped : goal.returns-in_err-dump_segment-in-Ok-clause-dumped
returns-in_err-dump_segment-in-Ok-clause-dumped g c =
    let p = err_from_is_err_and c.from_residual.result c.from_residual.ensures.1 in
    let inv = c.loop-segment.invariant in
    rw (p.1, p.2) (elim (c.in_err-dump_segment-in-Ok.ensures.err) [
      | inl memory ↦ rw (memory.0, memory.1) (front_memory c.args.place c.args.start c.args.bytes.now c.loop-segment.rest.now
          (g.W.Sink.state c.args.out.now).contents (g.W.Sink.state c.loop-segment.out).contents inv.dumped c.in-Ok.ensures.fault)
      | inr part ↦ rw (part.0) (front_unwritten c.args.place c.args.start c.args.bytes.now c.loop-segment.rest.now _ c.in-Ok.segment
          (g.W.Sink.state c.args.out.now).contents (g.W.Sink.state c.loop-segment.out).contents
          (g.W.Sink.state c.dump_segment.new.out).contents inv.dumped c.in-Ok.ensures.found part.1)
    ])

pub loop-segment-preserved : goal.loop-segment-preserved
loop-segment-preserved g c =
    let inv = c.loop-segment.invariant in
    record {
      dumped = rw take_rest (front_next c.args.bytes.now c.loop-segment.rest.now _ c.in-Ok.segment (g.W.Sink.state c.args.out.now).contents
          (g.W.Sink.state c.loop-segment.out).contents (g.W.Sink.state c.dump_segment.new.out).contents inv.dumped
          (rw (c.byte_len.ensures.value) (c.in-Ok.ensures.found)) c.in_ok-dump_segment-in-Ok.ensures.ok);
      fine = c.in_ok-dump_segment-in-Ok.ensures.failed;
    }

pub returns-in-Err : goal.returns-in-Err
returns-in-Err g c =
    let early = sym c.is_early_end.ensures ∙ c.if-is_early_end.true in
    record {
      dumped = (c.loop-segment.invariant.dumped, early_end c.loop-segment.rest.now c.in-Err.fault c.in-Err.ensures.fault early);
      failed = c.loop-segment.invariant.fine;
    }

pub returns-in-Err-2 : goal.returns-in-Err-2
returns-in-Err-2 g c =
    let late = sym c.is_early_end.ensures ∙ c.if-is_early_end.false in
    let rest = c.loop-segment.rest.now in
    let is = c.in-Err.ensures.fault in
    record {
      dumped = front_refused c.args.place c.args.start c.args.bytes.now rest _ _ c.in-Err.fault c.loop-segment.invariant.dumped is late
          (some_left rest c.in-Err.fault is late);
      failed = c.loop-segment.invariant.fine;
    }
