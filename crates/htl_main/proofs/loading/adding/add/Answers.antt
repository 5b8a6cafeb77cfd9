-- `add` reads its sources one after another, it ends for a cause of theirs, and the case has no fewer segments than before.
use Rattle.std.proofs.Common.{◌≡◌, ◌∙◌, ◌++◌, ◌∷◌, [], ap, arith, length, map, refl, sym}
use Rattle.std.proofs.lemmas.Grind.{common_steps}
use Rattle.std.proofs.lemmas.List.{length-map}
use Rattle.std.proofs.lemmas.List.Elements.{Contains-append_right}
use Rattle.std.proofs.lemmas.Result.{err_from_is_err_and}
use Rattle.htl_device.specs.States.{ends, has_ended, lefts, remaining}
use Rattle.htl_inputs.specs.CutInputs.{decoding}
use Rattle.htl_inputs.proofs.ReadingLaws.{ends_too, read_then, unread, well}
use Rattle.htl_main.proofs.AddingLaws.{added_cause, as_many, may_be_partial, no_fewer, no_write_after, none_stops, reads_after, stops_cause}
use Rattle.htl_main.proofs.AfterDecoding.{refused_is}
use Rattle.htl_main.proofs.loading.adding.add.Goals as goal
use Rattle.htl_inputs.proofs.SourceLaws.{none_asked}

pub returns-in_err-check_workers : goal.returns-in_err-check_workers
returns-in_err-check_workers g c =
    let p = err_from_is_err_and c.from_residual.result c.from_residual.ensures.1 in
    let unfit = c.in_err-check_workers.ensures.err in
    rw (p.1, refused_is p.0 p.2.0 p.2.1, unfit.0) (record {
      outcome = λ texts all earlier job decoded as_of. (unfit.1, refl);
      coverage = tt;
      workers = tt;
      same = refl;
      symbols = refl;
      cut = refl;
      reading = unread c.args.setting.form.hex (map g.R.Source.state c.args.inputs.now) c.requires.ready;
      readers = none_asked c.args.setting.form.hex c.args.setting.workers (map g.R.Source.state c.args.inputs.now);
      no_write = λ is. cc is;
    })

pub returns-in_err-decoded : goal.returns-in_err-decoded
returns-in_err-decoded g c =
    let p = err_from_is_err_and c.from_residual-in_err-decoded.result c.from_residual-in_err-decoded.ensures.1 in
    let is = c.in_err-decoded.ensures in
    let fault = c.in_err-decoded.field-0.0 in
    let now = map g.R.Source.state c.read_all.new.sources in
    rw (p.1, refused_is p.0 p.2.0 p.2.1) (record {
      outcome = λ texts all earlier job decoded as_of. (
        stops_cause c.args.setting texts earlier (lefts now) (ends now) job fault c.in_ok-check_workers.ensures.ok
            (is.reads.outcome texts all),
        none_stops c.args.setting texts earlier (lefts now) (ends now) (texts ++ earlier ∷ []) fault (is.reads.outcome texts all),
      );
      coverage = tt;
      workers = tt;
      same = refl;
      symbols = refl;
      cut = refl;
      reading = ends_too c.args.setting.form.hex (map g.R.Source.state c.args.inputs.now) now fault is.reads.reading;
      readers = is.reads.readers;
      no_write = is.no_write;
    })

pub returns-in_err-whole : goal.returns-in_err-whole
returns-in_err-whole g c =
    let p = err_from_is_err_and c.from_residual-in_err-whole.result c.from_residual-in_err-whole.ensures.1 in
    let setting = c.args.setting in
    let new = c.read_all.new.sources in
    let now = map g.R.Source.state new in
    let first = map g.R.Source.state c.args.inputs.now in
    let before = c.args.loaded.now.case.segments in
    let segments = c.in_ok-decoded.decoded.segments.items in
    let fault = c.in_err-whole.field-0.0.fault in
    let kept : length new ≡ length c.args.inputs.now = omega arith in
    let same : length now ≡ length first = length-map new g.R.Source.state ∙ kept ∙ sym (length-map c.args.inputs.now g.R.Source.state) in
    let cuts = c.in_ok-decoded.decoded.cuts.items in
    let given = decoding (segments ++ before) cuts in
    rw (p.1, p.2) (record {
      outcome = λ texts all earlier job decoded as_of.
          let long = as_many first now texts all same in
          let is = c.in_ok-decoded.ensures.reads.outcome texts all in (
            added_cause setting texts earlier (lefts now) (ends now) job segments before cuts fault c.in_ok-check_workers.ensures.ok
                is.given.segments is.given.cuts decoded c.in_err-whole.ensures.before.some (length-map now remaining ∙ sym long)
                (length-map now has_ended ∙ sym long) as_of c.in_err-whole.ensures.err,
            c.in_err-whole.ensures.between setting.form texts earlier (long ∙ length-map new g.R.Source.state)
                is.given.segments is.spans (may_be_partial setting.form earlier before decoded),
          );
      coverage = tt;
      workers = tt;
      same = refl;
      symbols = refl;
      cut = refl;
      reading = reads_after setting.form.hex first now c.in_ok-decoded.decoded given setting fault c.in_ok-decoded.ensures.reads.reading
          c.in_err-whole.ensures.err;
      readers = c.in_ok-decoded.ensures.reads.readers;
      no_write = no_write_after given setting fault c.in_err-whole.ensures.err;
    })

pub overflow_sub-new : goal.overflow_sub-new
overflow_sub-new g c =
    let fewer = no_fewer c.in_ok-decoded.decoded.segments.items c.args.loaded.now.case c.in_ok-whole.whole.case c.in_ok-whole.ensures.before
    c.in_ok-whole.ensures.ok.case in
    omega (arith, fewer, ap length c.segments-2.ensures.value, ap length c.segments.ensures.value)

pub grow-requires : goal.grow-requires
grow-requires g c s there =
    (c.in_ok-whole.ensures.ok.case.members s).1
    (Contains-append_right c.in_ok-decoded.decoded.segments.items c.args.loaded.now.case.segments s there)

pub returns : goal.returns
returns g c =
    let whole = c.in_ok-whole.ensures.ok in
    let fewer = no_fewer c.in_ok-decoded.decoded.segments.items c.args.loaded.now.case c.in_ok-whole.whole.case c.in_ok-whole.ensures.before
    whole.case in
    rw (c.grow.ensures) (record {
      outcome = λ texts all. record {
        segments = c.in_ok-decoded.decoded.segments.items;
        decoded = (c.in_ok-decoded.ensures.reads.outcome texts all).given.segments;
        case = whole.case;
        cuts = c.in_ok-decoded.decoded.cuts.items;
        cut_ends = (c.in_ok-decoded.ensures.reads.outcome texts all).given.cuts;
        whole = whole.whole;
        counted = grind (arith, common_steps);
        new = omega (arith, fewer, ap length c.segments-2.ensures.value, ap length c.segments.ensures.value);
        coverage = c.in_ok-whole.ensures.coverage;
        cut = c.in_ok-whole.ensures.cut c.args.setting.form.hex texts (c.in_ok-decoded.ensures.reads.outcome texts all).given.cuts;
      };
      coverage = (refl, c.in_ok-whole.ensures.coverage);
      workers = c.in_ok-check_workers.ensures.ok;
      same = tt;
      symbols = refl;
      cut = refl;
      reading = read_then c.args.setting.form.hex (map g.R.Source.state c.args.inputs.now) (map g.R.Source.state c.read_all.new.sources)
          c.in_ok-decoded.decoded (well _) c.in_ok-decoded.ensures.reads.reading (λ at told. cc told) tt;
      readers = c.in_ok-decoded.ensures.reads.readers;
      no_write = tt;
    })
