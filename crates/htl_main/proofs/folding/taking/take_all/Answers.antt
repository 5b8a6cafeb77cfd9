-- `take_all` reads its sources one after another, takes their segments, and ends for a cause of theirs.
use Rattle.std.proofs.Common.{Option, map, subst}
use Rattle.std.proofs.lemmas.Result.{on_err_weaker}
use Rattle.htl_analyst.specs.States.{State}
use Rattle.htl_case.specs.declared.fault.CaseFault.{CaseFault}
use Rattle.htl_main.specs.Folders.{Folds, IsBegun}
use Rattle.htl_main.specs.Folding.{folding}
use Rattle.htl_main.proofs.FoldInputs.{all_taken, refused_fold, refused_read, refused_unfit, since}
use Rattle.htl_main.proofs.folding.taking.take_all.Goals as goal

pub returns-in-Err-clause-taken : goal.returns-in-Err-clause-taken
returns-in-Err-clause-taken g c =
    let first = c.args.folded.now.analyst in
    let old = c.new-folder.result in
    let begun = subst (λ (a : Option State). IsBegun a old) c.replace-analyst.ensures.value c.new-folder.ensures in
    let read = c.read_all-read in
    let far = c.fold_by-far in
    let now = far.new.self in
    λ before was texts all.
    let of = folding c.args.setting before texts (map g.R.Source.state read.new.sources) in
    record {
      ok = tt;
      err = λ fit. rw (c.from.ensures.0) (refused_read of fit first was far.result old read.new.folder begun now.analyst now.unfit
          now.segments c.in-Err.fault far.ensures.kept (λ given folds. far.ensures.far first given folds was.far)
          (c.in-Err.ensures.reads.outcome texts all) c.in-Err.ensures.of_input);
      memory = λ fit. on_err_weaker far.result (λ some. refused_fold of fit first was far.result old read.new.folder begun read.result some
          (read.ensures.reads.outcome texts all)) far.ensures.some;
    }

pub returns-in-Some-clause-taken : goal.returns-in-Some-clause-taken
returns-in-Some-clause-taken g c =
    let first = c.args.folded.now.analyst in
    let old = c.new-folder.result in
    let begun = subst (λ (a : Option State). IsBegun a old) c.replace-analyst.ensures.value c.new-folder.ensures in
    let read = c.read_all-read in
    let far = c.fold_by-far in
    let now = far.new.self in
    λ before was texts all.
    let of = folding c.args.setting before texts (map g.R.Source.state read.new.sources) in
    let own = c.in-Ok.ensures.reads.outcome texts all in
    let folds = since first old read.new.folder own.given begun own.took in
    record {
      ok = tt;
      err = λ fit. rw (c.half_known.ensures.fault) (refused_unfit of fit first was far.result now.analyst now.segments own.given
          c.in-Some.fault
          (subst (λ (u : Option CaseFault). Folds first now.analyst u now.segments own.given) c.in-Some.is
          (far.ensures.kept first own.given folds))
          (far.ensures.far first own.given folds was.far) own.decoded);
      memory = λ fit. on_err_weaker far.result (λ some. refused_fold of fit first was far.result old read.new.folder begun read.result some
          (read.ensures.reads.outcome texts all)) far.ensures.some;
    }

pub returns-clause-taken : goal.returns-clause-taken
returns-clause-taken g c =
    let first = c.args.folded.now.analyst in
    let old = c.new-folder.result in
    let begun = subst (λ (a : Option State). IsBegun a old) c.replace-analyst.ensures.value c.new-folder.ensures in
    let read = c.read_all-read in
    let far = c.fold_by-far in
    let now = far.new.self in
    λ before was texts all.
    let of = folding c.args.setting before texts (map g.R.Source.state read.new.sources) in
    let own = c.in-Ok.ensures.reads.outcome texts all in
    let folds = since first old read.new.folder own.given begun own.took in
    record {
      ok = all_taken first now.analyst now.segments own.given before was far.result
          (subst (λ (u : Option CaseFault). Folds first now.analyst u now.segments own.given) c.in_default.is
          (far.ensures.kept first own.given folds))
          c.args.setting.form texts c.in-Ok.cuts.items own.decoded (far.ensures.far first own.given folds was.far) own.cut_ends;
      err = λ fit. tt;
      memory = λ fit. on_err_weaker far.result (λ some. refused_fold of fit first was far.result old read.new.folder begun read.result some
          (read.ensures.reads.outcome texts all)) far.ensures.some;
    }
