-- One part more is cut off, up to the next end.
use Rattle.std.proofs.Common.{◌≡◌, ◌+◌, ◌++◌, ◌∷◌, [], arith, inl, inr, refl, slice_index_or}
use Rattle.std.proofs.lemmas.Grind.{common_steps}
use Rattle.htl_reading.proofs.PartLaws.{first_parts, part_behind}
use Rattle.htl_reading.proofs.TailLaws.{same_left, tailed_more, tailed_none}
use Rattle.htl_reading.proofs.parts.cut.Goals as goal

pub loop-end-init : goal.loop-end-init
loop-end-init g c = record {
  parts = rw (c.new-parts.ensures.items) (first_parts g.K.Keeper.gathers g.R.Tail.Read.remaining c.args.keeper.now
      (g.R.Source.state c.args.source.now).remaining);
  spare = c.requires.fresh;
  far = inl refl;
  tails = tailed_none g.R.Source.state g.R.Parted.is_parted 0 c.args.source.now;
}

pub loop-end-preserved : goal.loop-end-preserved
loop-end-preserved g c =
    let inv = c.loop-end.invariant in
    let pushed : c.push.new.self.items ≡ c.loop-end.parts.items ++ c.in_ok-part_at.field-0 ∷ [] = grind (arith, common_steps) in
    let to : slice_index_or c.args.ends.now c.loop-end.end-index 0 ≡ c.loop-end.from + c.in_ok-len.len = grind (arith, common_steps) in
    record {
      parts = rw pushed (part_behind g.K.Keeper.gathers g.R.Tail.Read.remaining c.args.keeper.now (g.R.Source.state c.args.source.now).remaining
          c.loop-end.parts.items c.in_ok-part_at.field-0 c.loop-end.from c.in_ok-len.len _ to inv.parts
          (rw (same_left (g.R.Source.state c.args.source.now) (g.R.Source.state c.loop-end.source) inv.tails.same) at c.in_ok-part_at.ensures.part));
      spare = c.part_at.ensures.spare;
      far = inr (c.requires.far c.loop-end.end-index 0 (omega arith));
      tails = tailed_more g.R.Source.state g.R.Parted.is_parted c.loop-end.end-index 1 _ c.args.source.now c.loop-end.source c.part_at.new.source
          (omega arith) inv.tails c.part_at.ensures.tails;
    }

pub returns-in_err-part_at-clause-tails : goal.returns-in_err-part_at-clause-tails
returns-in_err-part_at-clause-tails g c =
    tailed_more g.R.Source.state g.R.Parted.is_parted c.loop-end.end-index 1 _ c.args.source.now c.loop-end.source c.part_at.new.source
    (omega arith) c.loop-end.invariant.tails c.part_at.ensures.tails

pub returns-in_err-ok-clause-tails : goal.returns-in_err-ok-clause-tails
returns-in_err-ok-clause-tails g c =
    tailed_more g.R.Source.state g.R.Parted.is_parted c.loop-end.end-index 1 _ c.args.source.now c.loop-end.source c.part_at.new.source
    (omega arith) c.loop-end.invariant.tails c.part_at.ensures.tails

pub returns-clause-tails : goal.returns-clause-tails
returns-clause-tails g c =
    tailed_more g.R.Source.state g.R.Parted.is_parted c.loop-end.end-index 0 _ c.args.source.now c.loop-end.source c.loop-end.source
    (omega arith) c.loop-end.invariant.tails (tailed_none g.R.Source.state g.R.Parted.is_parted 0 c.loop-end.source)
