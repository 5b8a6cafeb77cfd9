-- What there is before the first question is what was loaded, or what was folded and the segments that were taken.
use Rattle.std.proofs.Common.{Some, map, refl}
use Rattle.std.proofs.lemmas.Result.{err_from_is_err_and}
use Rattle.htl_inputs.proofs.ReadingLaws.{ends_too, read_then, well}
use Rattle.htl_ask.specs.Asking.{inputs}
use Rattle.htl_ask.proofs.FoldLaws.{begun_folded, not_begun}
use Rattle.htl_ask.proofs.kept.begin.Goals as goal

pub returns-in_ok-folded-in-Some : goal.returns-in_ok-folded-in-Some
returns-in_ok-folded-in-Some g c =
    let folded = c.in_ok-folded-in-Some.folded in
    let added = c.in_ok-folded-in-Some.added in
    let is = c.in_ok-folded-in-Some.ensures in
    rw c.in-Some.is (record {
      outcome = begun_folded is;
      between = tt;
      form = refl;
      coverage = tt;
      workers = is.workers;
      reading = read_then c.args.setting.form.hex (map g.R.Source.state c.args.inputs.now) (map g.R.Source.state c.load_folded.new.inputs)
          (folded, added) (well _) is.reading (λ at told. cc told) tt;
      readers = is.readers;
      no_write = tt;
    })

pub returns-in_err-folded-in-Some : goal.returns-in_err-folded-in-Some
returns-in_err-folded-in-Some g c =
    let p = err_from_is_err_and c.from_residual.result c.from_residual.ensures.1 in
    let is = c.in_err-folded-in-Some.ensures in
    rw (p.1, p.2, c.in-Some.is) (record {
      outcome = not_begun is;
      between = λ folds. is.between;
      form = tt;
      coverage = tt;
      workers = tt;
      reading = ends_too c.args.setting.form.hex (map g.R.Source.state c.args.inputs.now) (map g.R.Source.state c.load_folded.new.inputs)
          c.in_err-folded-in-Some.field-0.0.fault is.reading;
      readers = is.readers;
      no_write = is.no_write;
    })

pub returns-in_err-loaded-in-None : goal.returns-in_err-loaded-in-None
returns-in_err-loaded-in-None g c =
    let p = err_from_is_err_and c.from_residual-in_err-loaded-in-None.result c.from_residual-in_err-loaded-in-None.ensures.1 in
    let is = c.in_err-loaded-in-None.ensures in
    rw (p.1, p.2, c.in-None.is) (record {
      outcome = λ told none texts all. is.outcome texts all;
      between = λ folds. absurd (cc folds);
      form = tt;
      coverage = tt;
      workers = tt;
      reading = ends_too c.args.setting.form.hex (map g.R.Source.state c.args.inputs.now) (map g.R.Source.state c.load.new.inputs)
          c.in_err-loaded-in-None.field-0.0.fault is.reading;
      readers = is.readers;
      no_write = is.no_write;
    })

pub returns-in_ok-loaded-in-None : goal.returns-in_ok-loaded-in-None
returns-in_ok-loaded-in-None g c =
    let loaded = c.in_ok-loaded-in-None.loaded in
    let is = c.in_ok-loaded-in-None.ensures in
    rw c.in-None.is (record {
      outcome = λ told none texts all.
          let are = is.outcome texts all in
          record {
            read = Some (inputs texts);
            kept = are.0;
            opens = (
              refl,
              record { case = loaded.case; names = loaded.symbols; loaded = are.0; coverage = is.coverage; cut = are.1 },
            );
          };
      between = tt;
      form = refl;
      coverage = is.coverage;
      workers = is.workers;
      reading = read_then c.args.setting.form.hex (map g.R.Source.state c.args.inputs.now) (map g.R.Source.state c.load.new.inputs) loaded
          (well _) is.reading (λ at told. cc told) tt;
      readers = is.readers;
      no_write = tt;
    })
