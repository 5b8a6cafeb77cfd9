-- `load_folded` reads its sources one after another and begins with what they come to, or ends for a cause of theirs.
use Rattle.std.proofs.Common.{map, refl}
use Rattle.std.proofs.lemmas.Result.{err_from_is_err_and}
use Rattle.std.specs.Option.{option_copied}
use Rattle.htl_inputs.specs.declared.fault.RunFault.TheVariants.{Workers}
use Rattle.htl_inputs.proofs.ReadingLaws.{ends_too, ill, read_then, unread, well}
use Rattle.htl_main.specs.Folding.{AreFolded, folding}
use Rattle.htl_main.proofs.AfterDecoding.{refused_is}
use Rattle.htl_main.proofs.FoldInputs.{begins_refused, gap_about_none, gap_late, gap_no_write, is_folded, no_workers, not_added}
use Rattle.htl_main.proofs.FoldInputs.{symbols_about_none, symbols_late, symbols_no_write, symbols_refused}
use Rattle.htl_main.proofs.LateFaults.{read_late}
use Rattle.htl_inputs.proofs.SourceLaws.{none_asked}
use Rattle.htl_main.proofs.folding.load_folded.Goals as goal

pub returns-in_err-check_workers : goal.returns-in_err-check_workers
returns-in_err-check_workers g c =
    let p = err_from_is_err_and c.from_residual.result c.from_residual.ensures.1 in
    let unfit = c.in_err-check_workers.ensures.err in
    let now = map g.R.Source.state c.args.inputs.now in
    rw (p.1, refused_is p.0 p.2.0 p.2.1, unfit.0) (record {
      outcome = λ before was texts all. begins_refused c.args.setting (option_copied c.args.symbols) before texts now
          (AreFolded c.args.folded.analyst) Workers
          (no_workers (folding c.args.setting before texts now) c.args.folded.analyst was unfit.1);
      symbols = tt;
      workers = tt;
      between = refl;
      reading = unread c.args.setting.form.hex now c.requires.ready;
      readers = none_asked c.args.setting.form.hex c.args.setting.workers now;
      no_write = λ told. cc told;
    })

pub returns-in_err-taken : goal.returns-in_err-taken
returns-in_err-taken g c =
    let p = err_from_is_err_and c.from_residual-in_err-taken.result c.from_residual-in_err-taken.ensures.1 in
    let is = c.take_all-taken.ensures in
    let now = map g.R.Source.state c.take_all-taken.new.inputs in
    let fault = c.in_err-taken.field-0.0.fault in
    rw (p.1, p.2) (record {
      outcome = λ before was texts all. begins_refused c.args.setting (option_copied c.args.symbols) before texts now _ fault
          (rw c.in_err-taken.was at (is.taken before was texts all).err c.in_ok-check_workers.ensures.ok);
      symbols = tt;
      workers = tt;
      between = rw c.in_err-taken.was at is.between;
      reading = ends_too c.args.setting.form.hex (map g.R.Source.state c.args.inputs.now) now fault (rw c.in_err-taken.was at is.reading);
      readers = is.readers;
      no_write = rw c.in_err-taken.was at is.no_write;
    })

pub returns-in_err-far : goal.returns-in_err-far
returns-in_err-far g c =
    let p = err_from_is_err_and c.from_residual-in_err-far.result c.from_residual-in_err-far.ensures.1 in
    let is = c.take_all-taken.ensures in
    rw (p.1, refused_is p.0 p.2.0 p.2.1) (record {
      outcome = λ before was texts all. rw c.in_err-far.was at (is.taken before was texts all).memory c.in_ok-check_workers.ensures.ok;
      symbols = tt;
      workers = tt;
      between = refl;
      reading = read_then c.args.setting.form.hex (map g.R.Source.state c.args.inputs.now) (map g.R.Source.state c.take_all-taken.new.inputs)
          c.in_ok-taken.taken (ill _) (rw c.in_ok-taken.was at is.reading) (λ at told. cc told) (λ place before. before);
      readers = is.readers;
      no_write = λ told. cc told;
    })

pub returns-in_err-added : goal.returns-in_err-added
returns-in_err-added g c =
    let p = err_from_is_err_and c.from_residual-in_err-added.result c.from_residual-in_err-added.ensures.1 in
    let is = c.take_all-taken.ensures in
    let now = map g.R.Source.state c.take_all-taken.new.inputs in
    let after = c.take_all-taken.new.folded.analyst in
    let taken = c.in_ok-taken.taken in
    let fault = c.in_err-added.field-0.0 in
    let told = c.in_err-added.ensures.err in
    rw (p.1, refused_is p.0 p.2.0 p.2.1) (record {
      outcome = λ before was texts all. begins_refused c.args.setting (option_copied c.args.symbols) before texts now (AreFolded after) fault
          (not_added (folding c.args.setting before texts now) c.in_ok-check_workers.ensures.ok c.args.folded.analyst after taken.segments taken.cuts.items
          (rw (c.in_ok-far.was, c.in_ok-taken.was) at (is.taken before was texts all).ok) fault told);
      symbols = tt;
      workers = tt;
      between = gap_about_none c.args.setting.complete taken.cuts.items after fault told;
      reading = read_late c.args.setting.form.hex (map g.R.Source.state c.args.inputs.now) now taken (ill fault)
          (rw c.in_ok-taken.was at is.reading) (gap_late c.args.setting.complete taken.cuts.items after fault told);
      readers = is.readers;
      no_write = gap_no_write c.args.setting.complete taken.cuts.items after fault told;
    })

pub returns-in_err-folded : goal.returns-in_err-folded
returns-in_err-folded g c =
    let p = err_from_is_err_and c.from_residual-in_err-folded.result c.from_residual-in_err-folded.ensures.1 in
    let is = c.take_all-taken.ensures in
    let now = map g.R.Source.state c.take_all-taken.new.inputs in
    let after = c.take_all-taken.new.folded.analyst in
    let taken = c.in_ok-taken.taken in
    let table = option_copied c.args.symbols in
    let fault = c.in_err-folded.field-0.0 in
    let told = c.in_err-folded.ensures.err in
    rw (p.1, refused_is p.0 p.2.0 p.2.1) (record {
      outcome = λ before was texts all. symbols_refused c.args.setting table before texts now (AreFolded after) c.in_ok-added.added fault
          (is_folded (folding c.args.setting before texts now) c.in_ok-check_workers.ensures.ok c.args.folded.analyst after taken.segments taken.cuts.items
          (rw (c.in_ok-far.was, c.in_ok-taken.was) at (is.taken before was texts all).ok)
          c.in_ok-added.added was (rw c.number-before.ensures at c.in_ok-added.ensures.ok)) told;
      symbols = tt;
      workers = tt;
      between = symbols_about_none table fault told;
      reading = read_late c.args.setting.form.hex (map g.R.Source.state c.args.inputs.now) now taken (ill fault)
          (rw c.in_ok-taken.was at is.reading) (symbols_late table fault told);
      readers = is.readers;
      no_write = symbols_no_write table fault told;
    })

pub returns : goal.returns
returns g c =
    let is = c.take_all-taken.ensures in
    let now = map g.R.Source.state c.take_all-taken.new.inputs in
    let taken = c.in_ok-taken.taken in
    record {
      outcome = λ before was texts all. is_folded (folding c.args.setting before texts now) c.in_ok-check_workers.ensures.ok
          c.args.folded.analyst c.take_all-taken.new.folded.analyst taken.segments taken.cuts.items
          (rw (c.in_ok-far.was, c.in_ok-taken.was) at (is.taken before was texts all).ok)
          c.in_ok-added.added was (rw c.number-before.ensures at c.in_ok-added.ensures.ok);
      symbols = c.in_ok-folded.ensures.ok;
      workers = c.in_ok-check_workers.ensures.ok;
      between = tt;
      reading = read_then c.args.setting.form.hex (map g.R.Source.state c.args.inputs.now) now taken (well _)
          (rw c.in_ok-taken.was at is.reading) (λ at told. cc told) tt;
      readers = is.readers;
      no_write = tt;
    }
