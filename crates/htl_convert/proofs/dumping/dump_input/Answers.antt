-- A source of digits is dumped as the bytes that these write, or nothing is dumped of digits that can't be read.
use Rattle.std.proofs.lemmas.Result.{MatchResult-from_both}
use Rattle.htl_inputs.proofs.DigitsLaws.{digits_read, err_known, ok_known}
use Rattle.htl_convert.specs.Dumping.{DumpsInput}
use Rattle.htl_convert.specs.Dumps.{InputStops}
use Rattle.htl_convert.proofs.DumpLaws.{unread_dump}
use Rattle.htl_convert.proofs.dumping.dump_input.Goals as goal

pub returns-in-Ok-clause-dumped : goal.returns-in-Ok-clause-dumped
returns-in-Ok-clause-dumped g c =
    let given = (g.R.Source.state c.args.source.now).remaining in
    let new = g.R.Source.state c.read_digits.new.source in
    let old_out = (g.W.Sink.state c.args.out.now).contents in
    let new_out = (g.W.Sink.state c.dump_text.new.out).contents in
    let bytes = c.in-Ok.bytes.items in
    let dumps = rw (c.deref.ensures.value) at c.dump_text.ensures.ok in
    let stops = rw (c.deref.ensures.value) at c.dump_text.ensures.stops in
    MatchResult-from_both c.dump_text.result _ _
    (ok_known (λ end input. DumpsInput c.args.form input end old_out new_out) c.args.form given bytes c.dump_text.result c.if-form.true
    c.in-Ok.ensures.ok dumps)
    (err_known (λ fault input. InputStops c.args.form new.remaining new.ended c.args.place input old_out new_out fault) c.args.form given bytes
    c.dump_text.result c.if-form.true c.in-Ok.ensures.ok (λ input has. stops input new.remaining new.ended has))

pub returns-in-Err-clause-dumped : goal.returns-in-Err-clause-dumped
returns-in-Err-clause-dumped g c =
    rw (c.from_digits.ensures) (unread_dump (g.R.Source.state c.args.source.now) (g.R.Source.state c.read_digits.new.source) c.args.form
    c.args.place (g.R.Source.state c.args.source.now).remaining c.in-Err.fault _ c.if-form.true c.in-Err.ensures)

pub returns-in-Err-clause-reading : goal.returns-in-Err-clause-reading
returns-in-Err-clause-reading g c =
    rw (c.from_digits.ensures) (digits_read (g.R.Source.state c.args.source.now) (g.R.Source.state c.read_digits.new.source) c.args.form
    c.args.place c.in-Err.fault c.if-form.true c.in-Err.ensures)
