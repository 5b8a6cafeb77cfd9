-- Each turn reads one address.
use Rattle.std.proofs.Common.{arith, ◌≡◌, ◌*◌, ◌/◌, ◌++◌, ◌∷◌, [], length}
use Rattle.std.proofs.lemmas.Grind.{common_steps}
use Rattle.htl_segment.specs.Numbers.{number}
use Rattle.htl_segment.proofs.Frames.{numbers-more, numbers-all}
use Rattle.htl_segment.proofs.stack_cache.addresses.Goals as goal

pub loop-place-preserved : goal.loop-place-preserved
loop-place-preserved c =
    let inv = c.loop-place.invariant in
    let pushed : c.push.new.self.items ≡ c.loop-place.addresses.items ++ number (8 * c.loop-place.place) 8 c.args.frames.now ∷ [] =
    grind (arith, common_steps) in
    record {
      so_far = rw pushed (numbers-more c.loop-place.addresses.items c.loop-place.place (length c.args.frames.now / 8) c.args.frames.now _
          c.loop-place-test.true inv.so_far);
      pushed = grind (arith, common_steps);
      few = inv.few;
    }

pub returns-clause-value : goal.returns-clause-value
returns-clause-value c =
    numbers-all c.loop-place.addresses.items c.loop-place.place (length c.args.frames.now / 8) c.args.frames.now _ c.loop-place-test.false
    c.loop-place.invariant.so_far
