-- `dump_from` reads its sources one after another and writes the segments of each, up to the one at which it ends.
use Rattle.std.proofs.Common.{◌≤◌, ◌∙◌, [], Option, arith, length, map, refl}
use Rattle.std.specs.Prelude.{is_some}
use Rattle.std.proofs.KnownBytes.{Appends-nil}
use Rattle.std.proofs.lemmas.Result.{err_from_is_err_and}
use Rattle.htl_inputs.specs.declared.cuts.CutInputs.{CutInputs}
use Rattle.htl_inputs.proofs.CutLaws.{is_cut_of}
use Rattle.htl_inputs.proofs.ReadingLaws.{all_ended, all_texts, at_next, ended_there, ends_there, later_there, left_there, next_of, next_open}
use Rattle.htl_inputs.proofs.ReadingLaws.{none_before, one_more}
use Rattle.htl_inputs.proofs.SourceLaws.{none_asked}
use Rattle.htl_convert.specs.Dumping.{DumpsInput}
use Rattle.htl_convert.specs.Dumps.{InputStops}
use Rattle.htl_reading.specs.declared.outcome.EarlyEnd.{EarlyEnd}
use Rattle.htl_convert.proofs.Unasked.{asks_no_more}
use Rattle.htl_convert.proofs.CutCounts.{cut_next, fits_next, none_cut, none_fits}
use Rattle.htl_convert.proofs.DumpLaws.{dumps_next, same_failure, written_after}
use Rattle.htl_convert.proofs.dumping.dump_from.Goals as goal

pub loop-place-init : goal.loop-place-init
loop-place-init g c = record {
  before = none_before _ (map g.R.Source.state c.args.inputs.now) c.requires.ready;
  readers = none_asked c.args.form.hex 1 (map g.R.Source.state c.args.inputs.now);
  sound = c.requires.out;
  dumped = λ texts all. ([], refl, Appends-nil (g.W.Sink.state c.args.out.now).contents);
  cut = λ texts all. none_cut c.args.form.hex texts;
  few = none_fits 0;
}

pub loop-place-preserved : goal.loop-place-preserved
loop-place-preserved g c =
    let l = c.loop-place in
    let next = next_of g.R.Source.state c.args.inputs.now l.inputs l.place c.index-inputs-place.result l.invariant.before (omega arith) in
    let is = c.in_ok-end.ensures in
    let end = c.in_ok-end.end in
    let old_out = (g.W.Sink.state l.out).contents in
    let new_out = (g.W.Sink.state c.dump_input.new.out).contents in
    record {
      before = one_more next c.dump_input.new.source end is.reading;
      readers = asks_no_more next c.dump_input.new.source 1 l.invariant.readers is.tails;
      sound = is.failed;
      dumped = λ texts all.
          let one = at_next next texts all (λ bytes. DumpsInput c.args.form bytes end old_out new_out) is.dumped in
          dumps_next c.args.form texts l.place one.text end _ old_out new_out one.here (l.invariant.dumped texts all) one.holds;
      cut = λ texts all.
          let one = at_next next texts all (λ bytes. DumpsInput c.args.form bytes end old_out new_out) is.dumped in
          rw (c.with_input-cut.ensures, c.is_some.ensures) (cut_next c.args.form.hex texts l.place one.text (is_some end) l.cut one.here
          (l.invariant.cut texts all) (is_cut_of c.args.form.hex one.text end one.holds.1.ends));
      few = rw (c.with_input-cut.ensures) (fits_next _ l.place l.cut l.invariant.few);
    }

pub returns-in_err-end : goal.returns-in_err-end
returns-in_err-end g c =
    let p = err_from_is_err_and c.from_residual.result c.from_residual.ensures.1 in
    let l = c.loop-place in
    let next = next_of g.R.Source.state c.args.inputs.now l.inputs l.place c.index-inputs-place.result l.invariant.before (omega arith) in
    let is = c.in_err-end.ensures in
    let fault = c.in_err-end.field-0.0 in
    let y = c.dump_input.new.source in
    let new = g.R.Source.state y in
    let old_out = (g.W.Sink.state l.out).contents in
    let new_out = (g.W.Sink.state c.dump_input.new.out).contents in
    rw (p.1, p.2) (record {
      outcome = λ texts all.
          let one = at_next next texts all (λ bytes. InputStops c.args.form new.remaining new.ended l.place bytes old_out new_out fault) is.dumped in
          let so_far = l.invariant.dumped texts all in
          record {
            place = l.place;
            input = one.text;
            here = one.here;
            left = new.remaining;
            left_is = left_there next y;
            ended = new.ended;
            ended_is = ended_there next y;
            before = so_far.0;
            decoded = so_far.1;
            reported = one.holds.reported;
            segments = one.holds.segments;
            are = one.holds.are;
            written = written_after _ _ _ so_far.0 one.holds.segments fault so_far.2 one.holds.written;
            unread = later_there next y texts all;
          };
      failed = is.failed ∙ same_failure (Option EarlyEnd) (Option CutInputs) fault;
      reading = ends_there next y fault is.reading;
      readers = asks_no_more next y 1 l.invariant.readers is.tails;
    })

pub returns : goal.returns
returns g c =
    let inv = c.loop-place.invariant in
    let done : length c.args.inputs.now ≤ c.loop-place.place = omega arith in
    record {
      outcome = λ texts all.
          let whole = all_texts g.R.Source.state c.args.inputs.now texts c.loop-place.place all done in
          (rw whole at (inv.dumped texts all), rw whole at (inv.cut texts all));
      failed = inv.sound;
      reading = all_ended g.R.Source.state c.args.inputs.now c.loop-place.inputs c.loop-place.place _ inv.before (omega arith);
      readers = inv.readers;
    }

pub dump_input-requires : goal.dump_input-requires
dump_input-requires g c =
    let l = c.loop-place in
    let next = next_of g.R.Source.state c.args.inputs.now l.inputs l.place c.index-inputs-place.result l.invariant.before (omega arith) in
    record { ready = next_open next c.requires.ready; out = l.invariant.sound }
