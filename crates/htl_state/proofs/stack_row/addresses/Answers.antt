-- Each turn reads one address.
use Rattle.std.proofs.Common.{arith, ◌≡◌, ◌+◌, ◌*◌, ◌++◌, ◌∷◌, []}
use Rattle.std.proofs.lemmas.Grind.{common_steps}
use Rattle.htl_segment.specs.Numbers.{number}
use Rattle.htl_state.proofs.Turns.{address_read, addresses_done}
use Rattle.htl_state.proofs.stack_row.addresses.Goals as goal

pub loop-place-preserved : goal.loop-place-preserved
loop-place-preserved c =
    let inv = c.loop-place.invariant in
    let pushed : c.push.new.self.items ≡ c.loop-place.addresses.items ++ number (1 + 8 * c.loop-place.place) 8 c.args.bytes.now ∷ [] =
    grind (arith, common_steps) in
    record {
      so_far = rw pushed (address_read c.loop-place.addresses.items c.loop-place.place c.args.depth c.args.bytes.now _
          c.loop-place-test.true inv.so_far);
      pushed = grind (arith, common_steps);
      few = inv.few;
      inside = inv.inside;
    }

pub returns-clause-value : goal.returns-clause-value
returns-clause-value c =
    addresses_done c.loop-place.addresses.items c.loop-place.place c.args.depth c.args.bytes.now _ c.loop-place-test.false
    c.loop-place.invariant.so_far
