-- The list that was gathered is that of the segments, and the source was read to gather them.
use Rattle.std.proofs.Common.{[]}
use Rattle.std.proofs.lemmas.Result.{err_from_is_err_and}
use Rattle.htl_device.specs.declared.whole.TheConstants.{MAX_READS}
use Rattle.htl_reading.proofs.ReadLaws.{read_ill, read_well}
use Rattle.std.proofs.lemmas.Option.{IfSome_then}
use Rattle.htl_reading.proofs.reading.read_bundle.Goals as goal

pub returns-clause-ok : goal.returns-clause-ok
returns-clause-ok g c =
    IfSome_then (g.R.Source.state c.args.source.now).remaining c.in_ok-segments.ensures.ok
    (λ bytes took.
    let list = took.4 c.new.result [] c.new.ensures in
    (took.1, rw list took.2, rw list took.3))

pub returns-in_err-segments-clause-reading : goal.returns-in_err-segments-clause-reading
returns-in_err-segments-clause-reading g c =
    let p = err_from_is_err_and c.from_residual.result c.from_residual.ensures.1 in
    rw (p.1, p.2) (read_ill c.args.workers MAX_READS (g.R.Source.state c.args.source.now).remaining (g.R.Source.state c.args.source.now)
    (g.R.Source.state c.gather_bundle.new.source) _ c.in_err-segments.ensures.reading)

pub returns-clause-reading : goal.returns-clause-reading
returns-clause-reading g c =
    read_well c.args.workers MAX_READS (g.R.Source.state c.args.source.now).remaining (g.R.Source.state c.args.source.now)
    (g.R.Source.state c.gather_bundle.new.source) _ _
    c.in_ok-segments.ensures.reading
