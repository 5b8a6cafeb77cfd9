-- The first read is taken, and what is read on after it is taken behind it.
use Rattle.std.proofs.Common.{◌≡◌, ◌≤◌, ◌<◌, ◌+◌, List, [], ℕ, Option, None, take, arith, false, refl, true}
use Rattle.std.proofs.lemmas.Grind.{common_steps}
use Rattle.std.proofs.lemmas.List.{take_rest}
use Rattle.std.proofs.lemmas.Result.{err_from_is_err_and}
use Rattle.std.specs.Prelude.{is_err}
use Rattle.htl_device.specs.declared.source.TheConstants.{MAX_READ_LEN}
use Rattle.htl_reading.specs.Keepers.{IsTakenTo}
use Rattle.htl_reading.proofs.KeptLaws.{kept_nothing}
use Rattle.htl_reading.proofs.ReadLaws.{asks_none, asks_then, read_fine}
use Rattle.htl_reading.proofs.TakenLaws.{first_behind, first_kept, taken_and_more, taken_before, taken_before_refused, taken_ended}
use Rattle.htl_reading.proofs.TakenLaws.{taken_kept, taken_memory, taken_more, taken_refused, taken_to_end, taken_to_fault}
use Rattle.htl_reading.proofs.reading.take_reads.Goals as goal

-- ---- the first read failed

pub returns-in_default : goal.returns-in_default
returns-in_default g c =
    let failed : is_err c.read.result ≡ true = grind (arith, common_steps) in
    λ start given at.
    let kept = taken_kept at c.read.result failed (first_kept _ _ c.read.new.buffer c.read.result c.read.ensures.bytes) in
    record {
      ok = tt;
      err = kept_nothing given;
      kept = taken_before kept;
      reading = record {
        ended = tt;
        reported = λ is. refl;
        read = λ is. grind (arith, common_steps);
        no_fault = λ is. taken_to_fault kept 0;
        bounded = grind (arith, common_steps);
        to_fault = taken_to_fault kept MAX_READ_LEN;
        readers = asks_none 1 given (g.R.Source.state c.args.source.now) (g.R.Source.state c.read.new.self) (grind (arith, common_steps));
      };
    }

-- ---- it gave bytes, or found the end

pub returns-then-count-eq0 : goal.returns-then-count-eq0
returns-then-count-eq0 g c =
    let zero : c.in-Ok.count ≡ 0 = grind (arith, common_steps) in
    let few : c.in-Ok.count ≤ MAX_READ_LEN = grind (arith, common_steps) in
    let fine : (g.R.Source.state c.read.new.self).failed ≡ false = grind (arith, common_steps) in
    let ended : (g.R.Source.state c.read.new.self).ended ≡ true = grind (arith, common_steps) in
    let got = first_behind c.read.new.buffer c.in-Ok.count c.in-Ok.ensures.bound (grind (arith, common_steps)) c.in-Ok.ensures.bytes in
    let end = rw zero at got in
    λ start given at. record {
      ok = taken_to_end (taken_ended at end) None (end.end refl) (λ segments is rest. refl);
      err = tt;
      kept = tt;
      reading = read_fine 1 c.args.most given (g.R.Source.state c.args.source.now) (g.R.Source.state c.read.new.self) _ (λ is. cc is) fine ended
          (grind (arith, common_steps))
          (taken_and_more at MAX_READ_LEN got few)
          (asks_none 1 given (g.R.Source.state c.args.source.now) (g.R.Source.state c.read.new.self) (grind (arith, common_steps)));
    }

-- ---- its bytes were refused

pub returns-in_err-len : goal.returns-in_err-len
returns-in_err-len g c =
    let p = err_from_is_err_and c.from_residual.result c.from_residual.ensures.1 in
    let few : c.in-Ok.count ≤ MAX_READ_LEN = grind (arith, common_steps) in
    let fine : (g.R.Source.state c.read.new.self).failed ≡ false = grind (arith, common_steps) in
    let got = first_behind c.read.new.buffer c.in-Ok.count c.in-Ok.ensures.bound (grind (arith, common_steps)) c.in-Ok.ensures.bytes in
    λ start given at. rw (p.1, p.2) (record {
      ok = tt;
      err = taken_refused at _ _ got c.in_err-len.ensures.err;
      kept = taken_before_refused at _ got c.in_err-len.ensures.kept;
      reading = read_fine 1 c.args.most given (g.R.Source.state c.args.source.now) (g.R.Source.state c.read.new.self) _
          (λ is. c.in_err-len.ensures.no_read (cc is)) fine tt (grind (arith, common_steps))
          (taken_and_more at MAX_READ_LEN got few)
          (asks_none 1 given (g.R.Source.state c.args.source.now) (g.R.Source.state c.read.new.self) (grind (arith, common_steps)));
    })

-- ---- they were taken

pub returns-in_err-new : goal.returns-in_err-new
returns-in_err-new g c =
    let some : 0 < c.in-Ok.count = grind (arith, common_steps) in
    let p = err_from_is_err_and c.from_residual-in_err-new.result c.from_residual-in_err-new.ensures.1 in
    let inside : (g.R.Source.state c.read.new.self).ended ≡ false = grind (arith, common_steps) in
    let fine : (g.R.Source.state c.read.new.self).failed ≡ false = grind (arith, common_steps) in
    let got = first_behind c.read.new.buffer c.in-Ok.count c.in-Ok.ensures.bound (grind (arith, common_steps)) c.in-Ok.ensures.bytes in
    λ start given at.
    let taken = taken_more at c.in-Ok.count c.in_ok-len.len got some c.in_ok-len.ensures.ok c.in_ok-len.ensures.inside in
    rw (p.1, p.2) (record {
      ok = tt;
      err = taken_memory taken _ (omega arith) inside;
      kept = kept_nothing given;
      reading = read_fine 1 c.args.most given (g.R.Source.state c.args.source.now) (g.R.Source.state c.read.new.self) _ (λ is. cc is) fine tt
          (grind (arith, common_steps))
          (taken_to_fault taken MAX_READ_LEN)
          (asks_none 1 given (g.R.Source.state c.args.source.now) (g.R.Source.state c.read.new.self) (grind (arith, common_steps)));
    })

began : (g : _) (c : goal.After-read_on g) (start : _) (given : Option (List ℕ))
    → IsTakenTo g.K.Keeper.gathers start c.args.keeper.now given (g.R.Source.state c.args.source.now).remaining [] c.args.offset 0
    → IsTakenTo g.K.Keeper.gathers start c.take_front.new.keeper given (g.R.Source.state c.read.new.self).remaining c.in_ok-new.field-0.held
    (c.args.offset + c.in_ok-len.len) 1
began g c start given at =
    let some : 0 < c.in-Ok.count = grind (arith, common_steps) in
    let got = first_behind c.read.new.buffer c.in-Ok.count c.in-Ok.ensures.bound (grind (arith, common_steps)) c.in-Ok.ensures.bytes in
    rw (c.in_ok-new.ensures, take_rest (take c.in-Ok.count c.read.new.buffer) c.in_ok-len.len)
    (taken_more at c.in-Ok.count c.in_ok-len.len got some c.in_ok-len.ensures.ok c.in_ok-len.ensures.inside)

pub returns : goal.returns
returns g c = λ start given at.
    let on = c.read_on.ensures.taken start given (began g c start given at) in
    record {
      ok = on.ok;
      err = on.err;
      kept = on.kept;
      reading = record {
        ended = on.reading.ended;
        reported = on.reading.reported;
        read = on.reading.read;
        no_fault = on.reading.no_fault;
        bounded = grind (arith, common_steps);
        to_fault = on.reading.to_fault;
        readers = asks_then 1 given (g.R.Source.state c.args.source.now) (g.R.Source.state c.read.new.self) (g.R.Source.state c.read_on.new.source)
            (asks_none 1 given (g.R.Source.state c.args.source.now) (g.R.Source.state c.read.new.self) (grind (arith, common_steps)))
            (on.reading.readers.alone (omega arith));
      };
    }
