-- One worker reads on behind the parts of several.
use Rattle.std.proofs.Common.{arith}
use Rattle.std.proofs.lemmas.Result.{err_from_is_err_and}
use Rattle.htl_device.specs.declared.whole.TheConstants.{MAX_READS}
use Rattle.htl_reading.proofs.ReadLaws.{read_fine, read_later}
use Rattle.htl_reading.proofs.TakenLaws.{taken_none}
use Rattle.htl_reading.proofs.reading.gather_bundle.Goals as goal

pub returns-in_err-offset : goal.returns-in_err-offset
returns-in_err-offset g c =
    let p = err_from_is_err_and c.from_residual.result c.from_residual.ensures.1 in
    let given = (g.R.Source.state c.args.source.now).remaining in
    let none = taken_none g.K.Keeper.gathers c.args.keeper given in
    let skips = c.in_err-offset.ensures.skips in
    rw (p.1, p.2) (record {
      ok = tt;
      err = skips.memory c.args.keeper given none;
      reading = read_fine c.args.workers MAX_READS given
          (g.R.Source.state c.args.source.now) (g.R.Source.state c.take_parts.new.source) _ (λ is. cc is) skips.ready.fine tt (omega (arith, skips.counts))
          (skips.to_fault c.args.keeper given none)
          c.in_err-offset.ensures.readers;
    })

pub returns : goal.returns
returns g c =
    let given = (g.R.Source.state c.args.source.now).remaining in
    let skips = c.in_ok-offset.ensures.skips in
    let on = c.gather_on.ensures c.args.keeper given (skips.taken c.args.keeper given (taken_none g.K.Keeper.gathers c.args.keeper given)) in
    record {
      ok = on.ok;
      err = on.err;
      reading = read_later c.args.workers MAX_READS given
          (g.R.Source.state c.args.source.now) (g.R.Source.state c.gather_on.new.source) (g.R.Source.state c.take_parts.new.source) c.gather_on.result
          skips.counts c.in_ok-offset.ensures.readers on.reading;
    }
