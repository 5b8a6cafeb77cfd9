-- Addresses that are equal one by one are those of the bytes.
use Rattle.std.proofs.Common.{◌≡◌, ◌++◌, ◌∷◌, [], ◌+◌, ◌*◌, ◌/◌, length, take, arith}
use Rattle.std.proofs.lemmas.Grind.{common_steps}
use Rattle.htl_segment.specs.Numbers.{number}
use Rattle.htl_segment.proofs.Frames.{numbers-more, numbers-all}
use Rattle.htl_segment.proofs.stack_cache.is_of.Goals as goal

pub loop-place-preserved : goal.loop-place-preserved
loop-place-preserved c =
    let inv = c.loop-place.invariant in
    let next : take (c.loop-place.place + 1) c.args.known.now ≡ take c.loop-place.place c.args.known.now ++ number
    (8 * c.loop-place.place) 8 c.args.frames.now ∷ [] = grind (arith, common_steps) in
    record {
      so_far = rw next (numbers-more (take c.loop-place.place c.args.known.now) c.loop-place.place (length c.args.frames.now / 8)
          c.args.frames.now _ (omega arith) inv.so_far);
      same = inv.same;
    }

pub returns : goal.returns
returns c = λ _. grind (
  arith,
  common_steps,
  numbers-all (take c.loop-place.place c.args.known.now) c.loop-place.place (length c.args.frames.now / 8) c.args.frames.now _
      (omega arith) c.loop-place.invariant.so_far,
)
