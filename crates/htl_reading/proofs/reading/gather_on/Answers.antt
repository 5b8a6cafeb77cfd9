-- What the keeper took is given back with it.
use Rattle.std.proofs.lemmas.Result.{err_from_is_err_and}
use Rattle.htl_reading.proofs.ReadLaws.{read_ill, read_well}
use Rattle.htl_reading.proofs.reading.gather_on.Goals as goal

pub returns-in_err-early_end : goal.returns-in_err-early_end
returns-in_err-early_end g c = λ start given at.
    let p = err_from_is_err_and c.from_residual.result c.from_residual.ensures.1 in
    let takes = c.in_err-early_end.ensures start given at in
    rw (p.1, p.2) (record {
      ok = tt;
      err = takes.err;
      reading = read_ill 1 c.args.most given (g.R.Source.state c.args.source.now) (g.R.Source.state c.take_reads.new.source) _ takes.reading;
    })

pub returns : goal.returns
returns g c = λ start given at.
    let takes = c.in_ok-early_end.ensures start given at in
    record {
      ok = takes.ok;
      err = tt;
      reading = read_well 1 c.args.most given (g.R.Source.state c.args.source.now) (g.R.Source.state c.take_reads.new.source) _ _ takes.reading;
    }
