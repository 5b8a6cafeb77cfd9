-- One round more is skipped and taken, and the rounds end where one takes nothing.
use Rattle.std.proofs.Common.{◌≡◌, ◌<◌, ◌*◌, ◌∙◌, [], arith, refl, sym}
use Rattle.std.proofs.lemmas.Grind.{common_steps}
use Rattle.std.proofs.lemmas.Result.{err_from_is_err_and}
use Rattle.std.proofs.lemmas.List.Elements.{All-nil}
use Rattle.htl_device.specs.States.{SourceState}
use Rattle.htl_segment.specs.declared.keeper.Segments.{Segments}
use Rattle.htl_reading.specs.Parts.{AsksFew, most_parts}
use Rattle.htl_reading.specs.Sources.{AsksReaders}
use Rattle.htl_reading.proofs.ReadLaws.{asked_again, asks_again}
use Rattle.htl_reading.proofs.SkipLaws.{next_skipped, next_refused, none_skipped, skipped_far, some_more, still_skipped, still_refused}
use Rattle.htl_reading.proofs.TailLaws.{asks_nothing}
use Rattle.htl_reading.proofs.rounds.take_rounds.Goals as goal
use Rattle.htl_reading.proofs.rounds.take_rounds.Goals.{else-loop-round-test, then-loop-round-test+in_ok-end+then-end-offset}
use Rattle.htl_reading.proofs.rounds.take_rounds.Goals.{then-loop-round-test+in_ok-end+else-end-offset+in_ok-between+then-offset-gt-MAX_LEN}

pub loop-round-init : goal.loop-round-init
loop-round-init g c =
    let source = g.R.Source.state c.args.source.now in
    record {
      skips = none_skipped g.K.Keeper.gathers source c.args.keeper.now 0 (omega arith) source refl c.requires.ready;
      few = omega arith;
      spare = rw (c.new-spare.ensures.items) (All-nil (λ (keeper : Segments). keeper.list.items ≡ []));
      alone = λ one. refl;
      asked = omega arith;
      far = omega arith;
    }

pub take_round-requires-clause-ready : goal.take_round-requires-clause-ready
take_round-requires-clause-ready g c κs within = c.loop-round.invariant.skips.ready

pub returns-in_err-end : goal.returns-in_err-end
returns-in_err-end g c =
    let p = err_from_is_err_and c.from_residual.result c.from_residual.ensures.1 in
    let old = g.R.Source.state c.args.source.now in
    let mid = g.R.Source.state c.loop-round.source in
    let new = g.R.Source.state c.take_round.new.source in
    let inv = c.loop-round.invariant in
    rw (p.1, p.2) (record {
      skips = next_refused g.K.Keeper.gathers old mid c.args.keeper.now c.loop-round.keeper c.loop-round.offset inv.skips new
          c.take_round.new.keeper c.in_err-end.field-0.0 c.in_err-end.ensures.skips;
      readers = asks_again c.args.workers c.loop-round._round old.remaining old mid new inv.alone inv.asked c.take_round.ensures.tails
          (skipped_far g.K.Keeper.gathers old mid c.args.keeper.now c.loop-round.keeper c.loop-round.offset inv.skips _ inv.far);
    })

pub returns-in_err-between : goal.returns-in_err-between
returns-in_err-between g c =
    let p = err_from_is_err_and c.from_residual-in_err-between.result c.from_residual-in_err-between.ensures.1 in
    let old = g.R.Source.state c.args.source.now in
    let mid = g.R.Source.state c.loop-round.source in
    let new = g.R.Source.state c.take_round.new.source in
    let inv = c.loop-round.invariant in
    let next = next_skipped g.K.Keeper.gathers old mid c.args.keeper.now c.loop-round.keeper c.loop-round.offset inv.skips new
    c.take_round.new.keeper c.in_ok-end.end c.in_ok-end.ensures.skips in
    let some : 0 < c.in_ok-end.end = some_more c.loop-round.offset c.in_ok-end.end c.in_ok-end.ensures.skips.few.0 c.if-end-offset.false in
    rw (p.1, p.2) (record {
      skips = still_refused g.K.Keeper.gathers old new c.args.keeper.now c.take_round.new.keeper c.in_ok-end.end next _
          c.in_err-between.field-0.0 some;
      readers = asks_again c.args.workers c.loop-round._round old.remaining old mid new inv.alone inv.asked c.take_round.ensures.tails
          (skipped_far g.K.Keeper.gathers old mid c.args.keeper.now c.loop-round.keeper c.loop-round.offset inv.skips _ inv.far);
    })

pub loop-round-preserved : goal.loop-round-preserved
loop-round-preserved g c =
    let old = g.R.Source.state c.args.source.now in
    let mid = g.R.Source.state c.loop-round.source in
    let new = g.R.Source.state c.take_round.new.source in
    let inv = c.loop-round.invariant in
    let next = next_skipped g.K.Keeper.gathers old mid c.args.keeper.now c.loop-round.keeper c.loop-round.offset inv.skips new
    c.take_round.new.keeper c.in_ok-end.end c.in_ok-end.ensures.skips in
    let still = c.requires.leaves _ _ _ c.in_ok-between.ensures in
    record {
      skips = still_skipped g.K.Keeper.gathers old new c.args.keeper.now c.take_round.new.keeper c.in_ok-end.end next _ still;
      few = c.if-offset-gt-MAX_LEN.false;
      spare = c.in_ok-end.ensures.spare;
      alone = λ one. c.take_round.ensures.tails.none (grind (arith, one)) ∙ inv.alone one;
      asked = asked_again c.args.workers c.loop-round._round old mid new inv.asked c.take_round.ensures.tails;
      far = grind (arith, common_steps);
    }

pub returns : goal.returns
returns g c =
    let old = g.R.Source.state c.args.source.now in
    let mid = g.R.Source.state c.loop-round.source in
    let inv = c.loop-round.invariant in
    let asks : (new : SourceState) → AsksFew (3 * most_parts c.args.workers) mid new → AsksReaders c.args.workers old.remaining old new =
    λ new once. asks_again c.args.workers c.loop-round._round old.remaining old mid new inv.alone inv.asked once
    (skipped_far g.K.Keeper.gathers old mid c.args.keeper.now c.loop-round.keeper c.loop-round.offset inv.skips _ inv.far) in
    elim c.loop-round-test.branch [
      | else-loop-round-test w ↦ rw (w.source-is, w.keeper-is, w.offset-is) (record {
        skips = inv.skips;
        readers = asks mid (asks_nothing (3 * most_parts c.args.workers) mid);
      })
      | then-loop-round-test+in_ok-end+then-end-offset w ↦
          let new = g.R.Source.state w.take_round.new.source in
          let next = next_skipped g.K.Keeper.gathers old mid c.args.keeper.now c.loop-round.keeper c.loop-round.offset inv.skips new
          w.take_round.new.keeper w.in_ok-end.end w.in_ok-end.ensures.skips in
          rw (w.source-is, w.keeper-is, w.offset-is, sym w.if-end-offset.true) (record {
            skips = next;
            readers = asks new w.take_round.ensures.tails;
          })
      | then-loop-round-test+in_ok-end+else-end-offset+in_ok-between+then-offset-gt-MAX_LEN w ↦
          let new = g.R.Source.state w.take_round.new.source in
          let next = next_skipped g.K.Keeper.gathers old mid c.args.keeper.now c.loop-round.keeper c.loop-round.offset inv.skips new
          w.take_round.new.keeper w.in_ok-end.end w.in_ok-end.ensures.skips in
          let still = c.requires.leaves _ _ _ w.in_ok-between.ensures in
          rw (w.source-is, w.keeper-is, w.offset-is) (record {
            skips = still_skipped g.K.Keeper.gathers old new c.args.keeper.now w.take_round.new.keeper w.in_ok-end.end next _ still;
            readers = asks new w.take_round.ensures.tails;
          })
    ]
