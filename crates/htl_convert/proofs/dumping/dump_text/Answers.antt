-- What was dumped of the bytes that digits write is the dump of their input.
use Rattle.std.proofs.lemmas.Result.{err_from_is_err_and}
use Rattle.htl_inputs.proofs.EndLaws.{rest_at}
use Rattle.htl_convert.proofs.DumpLaws.{dumped_whole, front_named, front_no_read, front_stops_text, refused_whole, text_dumped, text_stops}
use Rattle.htl_convert.proofs.dumping.dump_text.Goals as goal

pub returns-in_err-rest-clause-stops : goal.returns-in_err-rest-clause-stops
returns-in_err-rest-clause-stops g c =
    let p = err_from_is_err_and c.from_residual.result c.from_residual.ensures.1 in
    λ input left ended has. rw (p.1, p.2) (front_stops_text c.args.form left ended c.args.place input c.args.bytes.now
    (g.W.Sink.state c.args.out.now).contents (g.W.Sink.state c.dump_front.new.out).contents _ c.requires.digits has
    c.in_err-rest.ensures.dumped)

pub returns-in_err-rest-clause-no_read : goal.returns-in_err-rest-clause-no_read
returns-in_err-rest-clause-no_read g c =
    let p = err_from_is_err_and c.from_residual.result c.from_residual.ensures.1 in
    λ at is. absurd (front_no_read _ _ _ _ _ _ c.in_err-rest.ensures.dumped at (cc (p.1, p.2, is)))

pub returns-in_err-rest-clause-named : goal.returns-in_err-rest-clause-named
returns-in_err-rest-clause-named g c =
    let p = err_from_is_err_and c.from_residual.result c.from_residual.ensures.1 in
    rw (p.1, p.2) (front_named _ _ _ _ _ _ c.in_err-rest.ensures.dumped)

pub returns-clause-ok : goal.returns-clause-ok
returns-clause-ok g c = λ input has.
    let front = c.in_ok-rest.ensures.dumped.0 in
    let rest = c.in_ok-rest.rest.now in
    let at = rest_at c.args.bytes.now rest front.segments front.splits in
    text_dumped c.args.form input c.args.bytes.now _ _ c.finish.result has
    (dumped_whole c.args.form c.args.bytes.now rest _ _ c.finish.result front (c.finish.ensures.ok front.segments at))

pub returns-clause-stops : goal.returns-clause-stops
returns-clause-stops g c = λ input left ended has.
    let front = c.in_ok-rest.ensures.dumped.0 in
    let rest = c.in_ok-rest.rest.now in
    let at = rest_at c.args.bytes.now rest front.segments front.splits in
    text_stops c.args.form left ended c.args.place input c.args.bytes.now _ _ c.finish.result c.requires.digits has
    (refused_whole c.args.form c.args.place c.args.bytes.now rest _ _ _ c.finish.result front at (c.finish.ensures.stops front.segments at))
