-- What follows a first segment is split after it.
use Rattle.std.proofs.Common.{◌≡◌, ◌∷◌, [], refl, arith}
use Rattle.std.proofs.lemmas.Grind.{common_steps}
use Rattle.htl_segment.proofs.BundleLaws.{boundary_inside}
use Rattle.htl_segment.proofs.PiecesLaws.{taken_after, encoded_refused, refused_behind, piece_boundary}
use Rattle.htl_segment.proofs.feeding.keep_after.Goals as goal

pub returns-then-is_err-clause-taken : goal.returns-then-is_err-clause-taken
returns-then-is_err-clause-taken c = (encoded_refused c.args.first c.args.bytes.now c.events-fits.ensures.fits, refl)

pub returns-in-Ok-clause-taken : goal.returns-in-Ok-clause-taken
returns-in-Ok-clause-taken c =
    let pushed : c.push.new.self.items ≡ c.args.first ∷ [] = grind (arith, common_steps) in
    let taken = rw pushed at c.in-Ok.ensures.taken in
    record {
      splits = taken_after c.args.first c.args.bytes.now _ _ c.events-fits.ensures.fits taken.0;
      is_rest = taken.1.0;
      room = taken.1.1;
    }

pub overflow_add-result : goal.overflow_add-result
overflow_add-result c =
    let inside = boundary_inside c.args.bytes.now c.in-Err.offset
    (piece_boundary c.args.bytes.now c.in-Err.offset c.in-Err.fault c.in-Err.ensures.taken.0) in
    omega (arith, inside, c.requires.small)

pub returns-in-Err-clause-taken : goal.returns-in-Err-clause-taken
returns-in-Err-clause-taken c = (
  rw c.requires.len (refused_behind c.args.first c.args.bytes.now c.in-Err.offset c.in-Err.fault c.events-fits.ensures.fits
      c.in-Err.ensures.taken.0),
  c.in-Err.ensures.taken.1,
)
