-- A read gives more bytes, of which segments are taken, or finds the end of the source, and a fault ends the reading.
use Rattle.std.proofs.Common.{◌≡◌, ◌≤◌, ◌<◌, length, ap, arith, false, inr, refl, true}
use Rattle.std.proofs.lemmas.List.{length-append, length-drop}
use Rattle.std.proofs.lemmas.Grind.{common_steps}
use Rattle.std.proofs.lemmas.Result.{err_from_is_err_and}
use Rattle.std.specs.Prelude.{is_err}
use Rattle.htl_device.specs.declared.source.TheConstants.{MAX_READ_LEN}
use Rattle.htl_reading.proofs.KeptLaws.{kept_nothing}
use Rattle.htl_reading.proofs.ReadLaws.{asks_none, read_fine}
use Rattle.htl_reading.proofs.TakenLaws.{taken_and_more, taken_before, taken_before_refused, taken_ended, taken_kept, taken_many, taken_memory}
use Rattle.htl_reading.proofs.TakenLaws.{taken_more, taken_refused, taken_still, taken_to_end, taken_to_fault}
use Rattle.htl_reading.proofs.gathered.Gathered.read_on.Goals as goal

pub returns-in_err-between-clause-taken : goal.returns-in_err-between-clause-taken
returns-in_err-between-clause-taken g c =
    let p = err_from_is_err_and c.from_residual.result c.from_residual.ensures.1 in
    let inv = c.loop-reads.invariant in
    let some : 0 < c.loop-reads._reads = grind (arith, common_steps) in
    λ start given at. rw (p.1, p.2) (record {
      ok = tt;
      err = taken_memory (inv.taken start given at) _ some inv.inside;
      kept = kept_nothing given;
      reading = read_fine 1 c.args.most given (g.R.Source.state c.args.source.now) (g.R.Source.state c.loop-reads.source) _ (λ is. cc is) inv.fine tt
          (grind (arith, common_steps))
          (taken_to_fault (inv.taken start given at) MAX_READ_LEN)
          (asks_none 1 given (g.R.Source.state c.args.source.now) (g.R.Source.state c.loop-reads.source) (grind (arith, common_steps)));
    })

pub returns-in_err-make_room-clause-taken : goal.returns-in_err-make_room-clause-taken
returns-in_err-make_room-clause-taken g c =
    let p = err_from_is_err_and c.from_residual-in_err-make_room.result c.from_residual-in_err-make_room.ensures.1 in
    let inv = c.loop-reads.invariant in
    let some : 0 < c.loop-reads._reads = grind (arith, common_steps) in
    λ start given at. rw (p.1, p.2) (record {
      ok = tt;
      err = taken_memory (inv.taken start given at) _ some inv.inside;
      kept = kept_nothing given;
      reading = read_fine 1 c.args.most given (g.R.Source.state c.args.source.now) (g.R.Source.state c.loop-reads.source) _ (λ is. cc is) inv.fine tt
          (grind (arith, common_steps))
          (taken_to_fault (inv.taken start given at) MAX_READ_LEN)
          (asks_none 1 given (g.R.Source.state c.args.source.now) (g.R.Source.state c.loop-reads.source) (grind (arith, common_steps)));
    })

pub returns-in_default-clause-taken : goal.returns-in_default-clause-taken
returns-in_default-clause-taken g c =
    let still = c.requires.leaves _ _ _ c.in_ok-between.ensures in
    let failed : is_err c.read.result ≡ true = grind (arith, common_steps) in
    λ start given at.
    let kept = taken_kept (c.loop-reads.invariant.taken start given at) c.read.result failed c.read.ensures.err in
    record {
      ok = tt;
      err = kept_nothing given;
      kept = taken_before (taken_kept (taken_still (c.loop-reads.invariant.taken start given at) still) c.read.result failed c.read.ensures.err);
      reading = record {
        ended = tt;
        reported = λ is. refl;
        read = λ is. grind (arith, common_steps);
        no_fault = λ is. taken_to_fault kept 0;
        bounded = grind (arith, common_steps);
        to_fault = taken_to_fault kept MAX_READ_LEN;
        readers = asks_none 1 given (g.R.Source.state c.args.source.now) (g.R.Source.state c.read.new.source) (grind (arith, common_steps));
      };
    }

pub returns-then-count-eq0-clause-taken : goal.returns-then-count-eq0-clause-taken
returns-then-count-eq0-clause-taken g c =
    let still = c.requires.leaves _ _ _ c.in_ok-between.ensures in
    let zero : c.in-Ok.count ≡ 0 = grind (arith, common_steps) in
    let behind = rw (c.make_room.ensures.held) at c.in-Ok.ensures.ok in
    let end = rw zero at behind in
    let fine : (g.R.Source.state c.read.new.source).failed ≡ false = grind (arith, common_steps) in
    let ended : (g.R.Source.state c.read.new.source).ended ≡ true = grind (arith, common_steps) in
    λ start given at. record {
      ok = taken_to_end (taken_ended (taken_still (c.loop-reads.invariant.taken start given at) still) end) c.early_end.result (end.end refl)
          (rw c.held.ensures at c.early_end.ensures);
      err = tt;
      kept = tt;
      reading = read_fine 1 c.args.most given (g.R.Source.state c.args.source.now) (g.R.Source.state c.read.new.source) _ (λ is. cc is) fine ended
          (grind (arith, common_steps))
          (taken_and_more (c.loop-reads.invariant.taken start given at) MAX_READ_LEN behind c.in-Ok.ensures.bound)
          (asks_none 1 given (g.R.Source.state c.args.source.now) (g.R.Source.state c.read.new.source) (grind (arith, common_steps)));
    }

pub returns-in_err-take-clause-taken : goal.returns-in_err-take-clause-taken
returns-in_err-take-clause-taken g c =
    let still = c.requires.leaves _ _ _ c.in_ok-between.ensures in
    let p = err_from_is_err_and c.from_residual-in_err-take.result c.from_residual-in_err-take.ensures.1 in
    let behind = rw (c.make_room.ensures.held) at c.in-Ok.ensures.ok in
    let fine : (g.R.Source.state c.read.new.source).failed ≡ false = grind (arith, common_steps) in
    λ start given at. rw (p.1, p.2) (record {
      ok = tt;
      err = taken_refused (c.loop-reads.invariant.taken start given at) _ _ behind c.in_err-take.ensures.err;
      kept = taken_before_refused (taken_still (c.loop-reads.invariant.taken start given at) still) _ behind c.in_err-take.ensures.kept;
      reading = read_fine 1 c.args.most given (g.R.Source.state c.args.source.now) (g.R.Source.state c.read.new.source) _
          (λ is. c.in_err-take.ensures.no_read (cc is)) fine tt (grind (arith, common_steps))
          (taken_and_more (c.loop-reads.invariant.taken start given at) MAX_READ_LEN behind c.in-Ok.ensures.bound)
          (asks_none 1 given (g.R.Source.state c.args.source.now) (g.R.Source.state c.read.new.source) (grind (arith, common_steps)));
    })

pub loop-reads-preserved : goal.loop-reads-preserved
loop-reads-preserved g c =
    let still = c.requires.leaves _ _ _ c.in_ok-between.ensures in
    let inv = c.loop-reads.invariant in
    let behind = rw (c.make_room.ensures.held) at c.in-Ok.ensures.ok in
    let some : 0 < c.in-Ok.count = grind (arith, common_steps) in
    let found = c.in_ok-take.ensures.ok in
    record {
      taken = λ start given at. rw (found.rest_is, found.later_is)
          (taken_more (taken_still (inv.taken start given at) still) c.in-Ok.count found.len behind some found.off found.inside);
      fine = grind (arith, common_steps);
      inside = grind (arith, common_steps);
      short = omega (
        arith,
        inv.short,
        found.inside,
        found.later_is,
        c.in-Ok.ensures.bound,
        behind.count_is,
        ap length found.rest_is,
        ap length behind.held,
        length-append c.loop-reads.self.block.held behind.more,
        length-drop found.len c.read.new.self.held,
      );
      tails = grind (arith, common_steps);
      counted = grind (arith, common_steps);
      bounded = grind (arith, common_steps);
    }

pub returns-clause-taken : goal.returns-clause-taken
returns-clause-taken g c =
    let inv = c.loop-reads.invariant in
    let all : c.args.most ≤ c.loop-reads._reads = grind (arith, common_steps) in
    λ start given at.
    let taken = inv.taken start given at in
    record {
      ok = tt;
      err = kept_nothing given;
      kept = taken_before taken;
      reading = record {
        ended = tt;
        reported = λ is. refl;
        read = λ is. inr (grind (arith, common_steps), taken_many taken c.args.most all);
        no_fault = λ is. taken_to_fault taken 0;
        bounded = grind (arith, common_steps);
        to_fault = taken_to_fault taken MAX_READ_LEN;
        readers = asks_none 1 given (g.R.Source.state c.args.source.now) (g.R.Source.state c.loop-reads.source) (grind (arith, common_steps));
      };
    }
