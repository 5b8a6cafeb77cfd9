-- `read_all` reads its sources one after another, and the folder takes their segments, or the first that is refused is reported.
use Rattle.std.proofs.Common.{◌++◌, ◌≤◌, ℕ, List, [], Option, Some, None, IfSome, arith, inl, length, map, refl}
use Rattle.std.proofs.lemmas.Option.{IfSome_then}
use Rattle.std.proofs.lemmas.Result.{err_from_is_err_and}
use Rattle.htl_inputs.specs.Sources.{IsReportedOfSource}
use Rattle.htl_inputs.specs.declared.fault.RunFault.TheVariants.{Memory}
use Rattle.htl_inputs.proofs.CutLaws.{ends_next, no_ends}
use Rattle.htl_inputs.proofs.InputLaws.{decode_next}
use Rattle.htl_inputs.proofs.ReadingLaws.{all_ended, all_texts, at_next, ends_there, left_there, next_of, next_open, none_before, one_more, refused_there}
use Rattle.htl_inputs.proofs.ReadingLaws.{stops_there, asks_more}
use Rattle.htl_main.specs.Folders.{folds_of}
use Rattle.htl_main.proofs.FoldInputs.{TookInput, TookOwn, given_before, took_both, took_none}
use Rattle.htl_main.proofs.folding.taking.read_all.Goals as goal
use Rattle.htl_inputs.proofs.SourceLaws.{none_asked}

of_both : (known : Option (List ℕ)) (P Q : List ℕ → Type 0) → IfSome known P → IfSome known Q → IfSome known (λ text. P text × Q text)
of_both None P Q one other = tt
of_both (Some text) P Q one other = (one, other)

pub loop-place-init : goal.loop-place-init
loop-place-init g c = record {
  before = none_before _ (map g.R.Source.state c.args.sources.now) c.requires.ready;
  readers = none_asked c.args.setting.form.hex c.args.setting.workers (map g.R.Source.state c.args.sources.now);
  took = λ inputs all. ([], refl, took_none folds_of c.args.folder.now);
  cuts = λ inputs all. rw (c.new-cuts.ensures.items) (no_ends c.args.setting.form.hex inputs);
}

pub loop-place-preserved : goal.loop-place-preserved
loop-place-preserved g c =
    let l = c.loop-place in
    let next = next_of g.R.Source.state c.args.sources.now l.sources l.place c.index-sources-place.result l.invariant.before (omega arith) in
    let is = c.in_ok-end.ensures in
    let end = c.in_ok-end.end in
    let form = c.args.setting.form in
    let now = c.read_input.new.folder in
    record {
      before = one_more next c.read_input.new.source end is.reading;
      readers = asks_more next c.read_input.new.source c.args.setting.workers l.invariant.readers is.readers;
      took = λ texts all.
          let own = at_next next texts all (λ text. TookInput folds_of l.folder now form text end) is.ok in
          let earlier = l.invariant.took texts all in (
            earlier.0 ++ own.holds.0,
            decode_next form texts l.place own.text earlier.0 own.holds.0 own.here earlier.1 own.holds.1.decoded,
            took_both folds_of c.args.folder.now l.folder now earlier.0 own.holds.0 earlier.2 own.holds.2,
          );
      cuts = λ texts all.
          let own = at_next next texts all (λ text. TookInput folds_of l.folder now form text end) is.ok in
          rw (c.in_ok-add_end.ensures.added)
          (ends_next form.hex texts l.place own.text end l.cuts.items own.here (l.invariant.cuts texts all) own.holds.1.ends);
    }

pub returns-in_err-end-clause-reads : goal.returns-in_err-end-clause-reads
returns-in_err-end-clause-reads g c =
    let p = err_from_is_err_and c.from_residual.result c.from_residual.ensures.1 in
    let l = c.loop-place in
    let next = next_of g.R.Source.state c.args.sources.now l.sources l.place c.index-sources-place.result l.invariant.before (omega arith) in
    let form = c.args.setting.form in
    let is = c.in_err-end.ensures in
    let y = c.read_input.new.source in
    let new = g.R.Source.state y in
    let now = c.read_input.new.folder in
    let fault = c.in_err-end.field-0.0 in
    rw (p.1, p.2) (record {
      outcome = λ texts all.
          let earlier = l.invariant.took texts all in
          let Told : List ℕ → Type 0 = λ text. IsReportedOfSource form new.remaining new.ended l.place text fault in
          let Kept : List ℕ → Type 0 = λ text. TookOwn folds_of l.folder now form new.remaining text fault in
          let own = at_next next texts all (λ text. Told text × Kept text) (of_both _ Told Kept is.err is.kept) in
          record {
            stops = stops_there next y form texts fault earlier.0 all earlier.1 is.err;
            kept = λ other.
                let kept = own.holds.1 other in (
                  earlier.0 ++ kept.0,
                  given_before form texts _ l.place own.text earlier.0 kept.0 earlier.1 own.here new.remaining new.ended fault
                      (left_there next y) own.holds.0 other kept.1,
                  took_both folds_of c.args.folder.now l.folder now earlier.0 kept.0 earlier.2 kept.2,
                );
          };
      reading = ends_there next y fault is.reading;
      readers = asks_more next y c.args.setting.workers l.invariant.readers is.readers;
    })

pub returns-in_err-add_end-clause-reads : goal.returns-in_err-add_end-clause-reads
returns-in_err-add_end-clause-reads g c =
    let p = err_from_is_err_and c.from_residual-in_err-add_end.result c.from_residual-in_err-add_end.ensures.1 in
    let l = c.loop-place in
    let next = next_of g.R.Source.state c.args.sources.now l.sources l.place c.index-sources-place.result l.invariant.before (omega arith) in
    let is = c.in_ok-end.ensures in
    rw (p.1, p.2) (record {
      outcome = λ texts all.
          let earlier = l.invariant.took texts all in
          record {
            stops = stops_there next c.read_input.new.source c.args.setting.form texts Memory earlier.0 all earlier.1
                (IfSome_then _ is.ok (λ text own. inl (own.1.asks c.in_err-add_end.ensures.full)));
            kept = λ other. absurd (other refl);
          };
      reading = refused_there next c.read_input.new.source c.in_ok-end.end is.reading;
      readers = asks_more next c.read_input.new.source c.args.setting.workers l.invariant.readers is.readers;
    })

pub returns-in_err-add_end-clause-of_input : goal.returns-in_err-add_end-clause-of_input
returns-in_err-add_end-clause-of_input g c =
    let p = err_from_is_err_and c.from_residual-in_err-add_end.result c.from_residual-in_err-add_end.ensures.1 in
    rw (p.1, p.2) tt

pub returns-clause-reads : goal.returns-clause-reads
returns-clause-reads g c =
    let l = c.loop-place in
    let done : length c.args.sources.now ≤ l.place = omega arith in
    record {
      outcome = λ texts all.
          let whole = all_texts g.R.Source.state c.args.sources.now texts l.place all done in
          let all_of_them = l.invariant.took texts all in
          record {
            given = all_of_them.0;
            decoded = rw whole at all_of_them.1;
            took = all_of_them.2;
            cut_ends = rw whole at (l.invariant.cuts texts all);
          };
      reading = all_ended g.R.Source.state c.args.sources.now l.sources l.place _ l.invariant.before (omega arith);
      readers = l.invariant.readers;
    }

pub read_input-requires-clause-ready : goal.read_input-requires-clause-ready
read_input-requires-clause-ready g c κs within =
    let l = c.loop-place in
    next_open (next_of g.R.Source.state c.args.sources.now l.sources l.place c.index-sources-place.result l.invariant.before (omega arith))
    c.requires.ready
