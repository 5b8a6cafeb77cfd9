-- `read_all` reads its sources one after another and decodes them, or reports the first that is refused or can't be read.
use Rattle.std.proofs.Common.{◌≤◌, arith, inl, length, map}
use Rattle.std.proofs.lemmas.Option.{IfSome_then}
use Rattle.std.proofs.lemmas.Result.{err_from_is_err_and}
use Rattle.htl_inputs.specs.Ends.{IsInput}
use Rattle.htl_inputs.specs.declared.fault.RunFault.TheVariants.{Memory}
use Rattle.htl_inputs.proofs.InputLaws.{asked_of}
use Rattle.htl_inputs.proofs.ReadingLaws.{all_ended, all_texts, at_next, ends_there, next_of, next_open, none_before, one_more, refused_there, stops_there}
use Rattle.htl_inputs.proofs.ReadingLaws.{asks_more}
use Rattle.htl_inputs.proofs.SpanLaws.{all_so_far, none_so_far, one_so_far}
use Rattle.htl_inputs.proofs.sources.read_all.Goals as goal
use Rattle.htl_inputs.proofs.SourceLaws.{none_asked}

pub loop-place-init : goal.loop-place-init
loop-place-init g c = record {
  before = none_before _ (map g.R.Source.state c.args.sources.now) c.requires.ready;
  readers = none_asked c.args.form.hex c.args.workers (map g.R.Source.state c.args.sources.now);
  decoded = λ texts all. none_so_far c.args.form texts c.new-decoded.result c.new-decoded.ensures.segments
      (c.new-decoded.ensures.spans c.args.form texts) c.new-decoded.ensures.cuts;
}

pub loop-place-preserved : goal.loop-place-preserved
loop-place-preserved g c =
    let l = c.loop-place in
    let next = next_of g.R.Source.state c.args.sources.now l.sources l.place c.index-sources-place.result l.invariant.before (omega arith) in
    let more = c.in_ok-more.more in
    let added = c.in_ok-add.ensures in
    record {
      before = one_more next c.read_input.new.source more c.in_ok-more.ensures.reading;
      readers = asks_more next c.read_input.new.source c.args.workers l.invariant.readers c.in_ok-more.ensures.readers;
      decoded = λ texts all.
          let one = at_next next texts all (λ bytes. IsInput c.args.form bytes more.segments.items more.end) c.in_ok-more.ensures.ok in
          one_so_far c.args.form texts l.place one.text l.decoded _ more.segments.items more.end one.here one.holds (l.invariant.decoded texts all)
          added.segments (added.spans c.args.form texts one.text) added.cuts;
    }

pub returns-in_err-more-clause-reads : goal.returns-in_err-more-clause-reads
returns-in_err-more-clause-reads g c =
    let p = err_from_is_err_and c.from_residual.result c.from_residual.ensures.1 in
    let l = c.loop-place in
    let next = next_of g.R.Source.state c.args.sources.now l.sources l.place c.index-sources-place.result l.invariant.before (omega arith) in
    let is = c.in_err-more.ensures in
    let fault = c.in_err-more.field-0.0 in
    rw (p.1, p.2) (record {
      outcome = λ texts all. stops_there next c.read_input.new.source c.args.form texts fault l.decoded.segments.items all
          (l.invariant.decoded texts all).segments is.err;
      reading = ends_there next c.read_input.new.source fault is.reading;
      readers = asks_more next c.read_input.new.source c.args.workers l.invariant.readers is.readers;
    })

pub returns-in_err-add-clause-reads : goal.returns-in_err-add-clause-reads
returns-in_err-add-clause-reads g c =
    let p = err_from_is_err_and c.from_residual-in_err-add.result c.from_residual-in_err-add.ensures.1 in
    let l = c.loop-place in
    let next = next_of g.R.Source.state c.args.sources.now l.sources l.place c.index-sources-place.result l.invariant.before (omega arith) in
    let is = c.in_ok-more.ensures in
    let more = c.in_ok-more.more in
    rw (p.1, p.2) (record {
      outcome = λ texts all. stops_there next c.read_input.new.source c.args.form texts Memory l.decoded.segments.items all
          (l.invariant.decoded texts all).segments (IfSome_then _ is.ok
          (λ bytes own. inl (asked_of c.args.form bytes more.segments.items more.end own c.in_err-add.ensures.full)));
      reading = refused_there next c.read_input.new.source more is.reading;
      readers = asks_more next c.read_input.new.source c.args.workers l.invariant.readers is.readers;
    })

pub returns-clause-reads : goal.returns-clause-reads
returns-clause-reads g c =
    let l = c.loop-place in
    let done : length c.args.sources.now ≤ l.place = omega arith in
    record {
      outcome = λ texts all. all_so_far c.args.form texts l.place l.decoded
          (all_texts g.R.Source.state c.args.sources.now texts l.place all done) (l.invariant.decoded texts all);
      reading = all_ended g.R.Source.state c.args.sources.now l.sources l.place _ l.invariant.before (omega arith);
      readers = l.invariant.readers;
    }

pub read_input-requires-clause-ready : goal.read_input-requires-clause-ready
read_input-requires-clause-ready g c κs within =
    let l = c.loop-place in
    next_open (next_of g.R.Source.state c.args.sources.now l.sources l.place c.index-sources-place.result l.invariant.before (omega arith))
    c.requires.ready
