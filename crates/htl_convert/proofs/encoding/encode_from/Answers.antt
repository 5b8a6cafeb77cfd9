-- `encode_from` writes what the texts of its sources encode once all were read, or ends for a fault of theirs.
use Rattle.std.proofs.Common.{map, true, ◌∙◌, refl, sym}
use Rattle.std.proofs.lemmas.Result.{err_from_is_err_and}
use Rattle.htl_inputs.proofs.ReadingLaws.{ends_too, read_then}
use Rattle.htl_convert.proofs.EncodeLaws.{ends_unwritten, ends_written, no_failure, no_input_of_writes, no_read_of_writes, only_writes}
use Rattle.htl_convert.proofs.encoding.encode_from.Goals as goal

pub returns-in_err-bundle : goal.returns-in_err-bundle
returns-in_err-bundle g c =
    let p = err_from_is_err_and c.from_residual.result c.from_residual.ensures.1 in
    let is = c.in_err-bundle.ensures in
    let fault = c.in_err-bundle.field-0.0 in
    let now = map g.R.Source.state c.encode_all.new.sources in
    let out = (g.W.Sink.state c.args.out.now).contents in
    rw (p.1, p.2) (record {
      outcome = λ texts all. ends_unwritten (Unit {0}) c.args.hex texts now out out fault is.no_write (is.stops texts all);
      failed = c.requires.out ∙ sym (no_failure (Unit {0}) fault is.no_write);
      reading = ends_too true (map g.R.Source.state c.args.inputs.now) now fault is.reading;
      readers = is.readers;
      untouched = λ other. refl;
    })

pub returns : goal.returns
returns g c =
    let now = map g.R.Source.state c.encode_all.new.sources in
    let result = c.write_bundle.result in
    record {
      outcome = λ texts all. ends_written c.args.hex texts now c.deref.result.now (g.W.Sink.state c.args.out.now).contents
          (g.W.Sink.state c.write_bundle.new.out).contents result (rw (c.deref.ensures.value) (c.in_ok-bundle.ensures.ok texts all))
          c.write_bundle.ensures.ok c.write_bundle.ensures.err;
      failed = c.write_bundle.ensures.failed;
      reading = read_then true (map g.R.Source.state c.args.inputs.now) now c.in_ok-bundle.bundle result c.in_ok-bundle.ensures.reading
          (no_read_of_writes _ result c.write_bundle.ensures.err) (no_input_of_writes _ result c.write_bundle.ensures.err);
      readers = c.in_ok-bundle.ensures.readers;
      untouched = only_writes _ _ result c.write_bundle.ensures.err;
    }
