-- The digits of some bytes more are written, or the write of some of them failed.
use Rattle.std.proofs.Common.{◌≡◌, ◌++◌, sym}
use Rattle.std.proofs.lemmas.List.{take-append-drop}
use Rattle.std.proofs.lemmas.Result.{err_from_is_err_and}
use Rattle.htl_convert.proofs.EncodeLaws.{digits_cut, digits_next, digits_start}
use Rattle.htl_convert.proofs.encoding.write_digits.Goals as goal

pub loop-rest-init : goal.loop-rest-init
loop-rest-init g c = record { written = digits_start c.args.bytes.now (g.W.Sink.state c.args.out.now).contents; fine = c.requires }

pub returns-in_err-write_step : goal.returns-in_err-write_step
returns-in_err-write_step g c =
    let p = err_from_is_err_and c.from_residual.result c.from_residual.ensures.1 in
    let cut : c.loop-rest.rest.now ≡ c.split_at.result.0.now ++ c.split_at.result.1.now =
    rw (c.split_at.ensures.front, c.split_at.ensures.back) (sym (take-append-drop _ c.loop-rest.rest.now)) in
    let failed = c.in_err-write_step.ensures.err in
    rw (p.1, p.2) (record {
      ok = tt;
      err = (
        failed.0,
        digits_cut c.args.bytes.now c.loop-rest.rest.now c.split_at.result.0.now c.split_at.result.1.now (g.W.Sink.state c.args.out.now).contents
            (g.W.Sink.state c.loop-rest.out).contents (g.W.Sink.state c.write_step.new.out).contents c.loop-rest.invariant.written cut failed.1,
      );
      failed = c.in_err-write_step.ensures.failed;
    })

pub loop-rest-preserved : goal.loop-rest-preserved
loop-rest-preserved g c =
    let cut : c.loop-rest.rest.now ≡ c.split_at.result.0.now ++ c.split_at.result.1.now =
    rw (c.split_at.ensures.front, c.split_at.ensures.back) (sym (take-append-drop _ c.loop-rest.rest.now)) in
    record {
      written = digits_next c.args.bytes.now c.loop-rest.rest.now c.split_at.result.0.now c.split_at.result.1.now
          (g.W.Sink.state c.args.out.now).contents (g.W.Sink.state c.loop-rest.out).contents (g.W.Sink.state c.write_step.new.out).contents
          c.loop-rest.invariant.written cut c.in_ok-write_step.ensures.ok;
      fine = c.in_ok-write_step.ensures.failed;
    }
