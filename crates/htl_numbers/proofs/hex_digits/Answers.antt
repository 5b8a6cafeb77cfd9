-- Each byte's two digits come before those of the bytes below it, and in the end before none.
use Rattle.std.proofs.Common.{◌≡◌, ◌-◌, ◌*◌, ◌%◌, ◌∙◌, ℕ, arith, refl, sym}
use Rattle.std.proofs.lemmas.List.{append-nil, length-set}
use Rattle.htl_numbers.proofs.Tables.{first_right, fixed, padded_fixed, pair_written, second_right}
use Rattle.htl_numbers.proofs.hex_digits.Goals as goal

pub loop-place-init : goal.loop-place-init
loop-place-init c = record { room = refl; so_far = append-nil (fixed 16 c.args.number) }

pub loop-place-preserved : goal.loop-place-preserved
loop-place-preserved c =
    let byte : ℕ = c.loop-place.rest % 256 in
    record {
      room = simp length-set c.loop-place.invariant.room;
      so_far = pair_written c.args.number c.loop-place.rest c.loop-place.place _ _ c.loop-place.digits c.loop-place.invariant.room
          c.loop-place-test.true c.loop-place.invariant.so_far (first_right byte (omega arith)) (second_right byte (omega arith));
    }

pub returns : goal.returns
unfolding fixed
returns c =
    let none : 16 - 2 * c.loop-place.place ≡ 0 = omega arith in
    (rw none at c.loop-place.invariant.so_far) ∙ sym (padded_fixed 15 c.args.number (omega arith) (omega arith))
