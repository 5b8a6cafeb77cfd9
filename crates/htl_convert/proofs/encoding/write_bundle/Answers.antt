-- Where the bundle could not be written, the write of its digits failed, or that of the line feed.
use Rattle.std.proofs.Common.{[], ◌∷◌}
use Rattle.std.proofs.lemmas.Result.{err_from_is_err_and}
use Rattle.hex.specs.Hex.{encode_lower}
use Rattle.htl_convert.proofs.DumpLaws.{prefix_more}
use Rattle.htl_convert.proofs.EncodeLaws.{feed_writes}
use Rattle.htl_convert.proofs.encoding.write_bundle.Goals as goal

pub returns-in_err-write_digits : goal.returns-in_err-write_digits
returns-in_err-write_digits g c =
    let p = err_from_is_err_and c.from_residual.result c.from_residual.ensures.1 in
    let failed = c.in_err-write_digits.ensures.err in
    rw (p.1, p.2, c.if-hex.true) (record {
      ok = tt;
      err = (
        failed.0,
        prefix_more (g.W.Sink.state c.args.out.now).contents (g.W.Sink.state c.write_digits.new.out).contents (encode_lower c.args.bytes.now)
            (10 ∷ []) failed.1,
      );
      failed = c.in_err-write_digits.ensures.failed;
    })

pub returns-in_ok-write_digits : goal.returns-in_ok-write_digits
returns-in_ok-write_digits g c =
    rw (c.if-hex.true) (feed_writes (g.W.Sink.state c.args.out.now) (g.W.Sink.state c.write_digits.new.out)
    (g.W.Sink.state c.write_lines.new.out) (encode_lower c.args.bytes.now) _ c.write_lines.result c.in_ok-write_digits.ensures.ok
    c.write_lines.ensures.ok c.write_lines.ensures.fine c.write_lines.ensures.err)
