-- A splitter keeps of a piece what makes no segment yet, and hands on the segments that the piece completes.
use Rattle.std.proofs.Common.{rules, ◌++◌, ap, arith}
use Rattle.std.proofs.lemmas.List.{length-append}
use Rattle.htl_segment.specs.Pieces.{SplitterState}
use Rattle.htl_segment.proofs.BundleLaws.{boundary_inside}
use Rattle.htl_segment.proofs.PiecesLaws.{rest_inside, piece_boundary}
use Rattle.htl_segment.proofs.splitter.Splitter.feed.Goals as goal

pub invariant_of-self : goal.invariant_of-self
invariant_of-self c =
    let taken = c.in-Ok.ensures.taken in (
      taken.is_rest,
      (
        taken.room,
        (
          rest_inside c.self.inside.rest.items c.args.piece.now _ _ c.self.inside.fed taken.splits
              c.self.invariant.1.1.0,
          search rules,
        ),
      ),
    )

pub overflow_add-refused : goal.overflow_add-refused
overflow_add-refused c =
    let held = c.self.inside.rest.items in
    let bytes = held ++ c.args.piece.now in
    let inside = boundary_inside bytes c.in-Err.offset (piece_boundary bytes c.in-Err.offset c.in-Err.fault c.in-Err.ensures.taken.0) in
    omega (
      arith,
      inside,
      length-append held c.args.piece.now,
      c.self.invariant.1.1.0,
      c.len-held.ensures,
      c.requires,
      ap (λ (s : SplitterState). s.fed) c.self.view_is,
    )
