-- `pick_all` reads its sources one after another and picks what is asked about, or reports the first that is refused or can't be read.
use Rattle.std.proofs.Common.{◌≤◌, arith, false, inl, length, map}
use Rattle.std.proofs.lemmas.Option.{IfSome_then}
use Rattle.std.proofs.lemmas.Result.{err_from_is_err_and}
use Rattle.htl_inputs.specs.declared.fault.RunFault.TheVariants.{Memory}
use Rattle.htl_inputs.proofs.CutLaws.{ends_next, no_ends}
use Rattle.htl_inputs.proofs.ReadingLaws.{all_ended, all_texts, at_next, ends_there, next_of, next_open, none_before, one_more, refused_there, stops_there}
use Rattle.htl_inputs.proofs.ReadingLaws.{asks_more}
use Rattle.htl_main.specs.Picking.{ArePicksMore}
use Rattle.htl_main.proofs.PickLaws.{none_picked, one_picked}
use Rattle.htl_main.proofs.picks.picking.pick_all.Goals as goal
use Rattle.htl_inputs.proofs.SourceLaws.{none_asked}

pub loop-place-init : goal.loop-place-init
loop-place-init g c = record {
  before = none_before _ (map g.R.Source.state c.args.sources.now) c.requires.ready;
  readers = none_asked false c.args.workers (map g.R.Source.state c.args.sources.now);
  picked = λ texts all. none_picked c.args.form c.args.interest texts c.new-picks.result c.new-picks.ensures;
  cuts = λ texts all. rw (c.new-cuts.ensures.items) (no_ends c.args.form.hex texts);
}

pub loop-place-preserved : goal.loop-place-preserved
loop-place-preserved g c =
    let l = c.loop-place in
    let next = next_of g.R.Source.state c.args.sources.now l.sources l.place c.index-sources-place.result l.invariant.before (omega arith) in
    let is = c.in_ok-more.ensures in
    let more = c.in_ok-more.more in
    record {
      before = one_more next c.pick_source.new.source more is.reading;
      readers = asks_more next c.pick_source.new.source c.args.workers l.invariant.readers is.readers;
      picked = λ texts all.
          let one = at_next next texts all (λ bytes. ArePicksMore c.args.form l.picks more.segments bytes more.end) is.ok in
          one_picked c.args.form c.args.interest texts l.place one.text l.picks more.segments more.end one.here
          (l.invariant.picked texts all) one.holds;
      cuts = λ texts all.
          let one = at_next next texts all (λ bytes. ArePicksMore c.args.form l.picks more.segments bytes more.end) is.ok in
          rw (c.in_ok-add_end.ensures.added) (ends_next c.args.form.hex texts l.place one.text more.end l.cuts.items one.here
          (l.invariant.cuts texts all) one.holds.are.ends);
    }

pub returns-in_err-more-clause-reads : goal.returns-in_err-more-clause-reads
returns-in_err-more-clause-reads g c =
    let p = err_from_is_err_and c.from_residual.result c.from_residual.ensures.1 in
    let l = c.loop-place in
    let next = next_of g.R.Source.state c.args.sources.now l.sources l.place c.index-sources-place.result l.invariant.before (omega arith) in
    let is = c.in_err-more.ensures in
    let fault = c.in_err-more.field-0.0 in
    rw (p.1, p.2) (record {
      outcome = λ texts all. (let so_far = l.invariant.picked texts all in
          stops_there next c.pick_source.new.source c.args.form texts fault so_far.segments all so_far.decoded is.err);
      reading = ends_there next c.pick_source.new.source fault is.reading;
      readers = asks_more next c.pick_source.new.source c.args.workers l.invariant.readers is.readers;
    })

pub returns-in_err-add_end-clause-reads : goal.returns-in_err-add_end-clause-reads
returns-in_err-add_end-clause-reads g c =
    let p = err_from_is_err_and c.from_residual-in_err-add_end.result c.from_residual-in_err-add_end.ensures.1 in
    let l = c.loop-place in
    let next = next_of g.R.Source.state c.args.sources.now l.sources l.place c.index-sources-place.result l.invariant.before (omega arith) in
    let is = c.in_ok-more.ensures in
    rw (p.1, p.2) (record {
      outcome = λ texts all. (let so_far = l.invariant.picked texts all in
          stops_there next c.pick_source.new.source c.args.form texts Memory so_far.segments all so_far.decoded
          (IfSome_then _ is.ok (λ bytes own. inl (own.are.asks c.in_err-add_end.ensures.full))));
      reading = refused_there next c.pick_source.new.source c.in_ok-more.more is.reading;
      readers = asks_more next c.pick_source.new.source c.args.workers l.invariant.readers is.readers;
    })

pub returns-in_err-add_end-clause-no_case : goal.returns-in_err-add_end-clause-no_case
returns-in_err-add_end-clause-no_case g c =
    let p = err_from_is_err_and c.from_residual-in_err-add_end.result c.from_residual-in_err-add_end.ensures.1 in
    rw (p.1, p.2) (λ broken is. cc is)

pub pick_source-requires-clause-ready : goal.pick_source-requires-clause-ready
pick_source-requires-clause-ready g c κs within =
    let l = c.loop-place in
    next_open (next_of g.R.Source.state c.args.sources.now l.sources l.place c.index-sources-place.result l.invariant.before (omega arith))
    c.requires.ready

pub returns-clause-reads : goal.returns-clause-reads
returns-clause-reads g c =
    let l = c.loop-place in
    let done : length c.args.sources.now ≤ l.place = omega arith in
    record {
      outcome = λ texts all.
          let whole = all_texts g.R.Source.state c.args.sources.now texts l.place all done in
          record { picks = rw whole at (l.invariant.picked texts all); cuts = rw whole at (l.invariant.cuts texts all) };
      reading = all_ended g.R.Source.state c.args.sources.now l.sources l.place _ l.invariant.before (omega arith);
      readers = l.invariant.readers;
    }
