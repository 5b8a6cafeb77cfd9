-- Each turn pushes one address.
use Rattle.std.proofs.Common.{arith, ◌≡◌, ◌*◌, ◌/◌, ◌++◌, ◌∷◌, [], length}
use Rattle.std.proofs.lemmas.Grind.{common_steps}
use Rattle.htl_segment.specs.Numbers.{number}
use Rattle.htl_segment.proofs.Frames.{numbers-more, numbers-all}
use Rattle.htl_segment.proofs.record.push_frames.Goals as goal

pub loop-frame-preserved : goal.loop-frame-preserved
loop-frame-preserved c =
    let inv = c.loop-frame.invariant in
    let pushed : c.push.new.self ≡ c.loop-frame.stack ++ number (8 * c.loop-frame.frame) 8 c.args.frames.now ∷ [] =
    grind (arith, common_steps) in
    record {
      so_far = rw pushed (numbers-more c.loop-frame.stack c.loop-frame.frame (length c.args.frames.now / 8) c.args.frames.now _
          c.loop-frame-test.true inv.so_far);
      pushed = grind (arith, common_steps);
      few = inv.few;
    }

pub returns : goal.returns
returns c =
    numbers-all c.loop-frame.stack c.loop-frame.frame (length c.args.frames.now / 8) c.args.frames.now _ c.loop-frame-test.false
    c.loop-frame.invariant.so_far
