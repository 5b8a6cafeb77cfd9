-- With each piece, the segments so far are those of the pieces taken in, and a refusal tells of all bytes.
use Rattle.std.proofs.Common.{◌≡◌, ◌+◌, ◌<◌, ◌++◌, length, get_or, take, drop, arith, inl, ap}
use Rattle.std.proofs.lemmas.List.{length-append, take_all}
use Rattle.std.proofs.lemmas.Grind.{common_steps}
use Rattle.std.proofs.lemmas.Result.{err_from_is_err_and}
use Rattle.htl_segment.specs.Pieces.{SplitterState, joined}
use Rattle.htl_segment.proofs.PiecesLaws.{no_piece, splits_next, brought, list_refused, told_of_pieces, fault_boundary, joined-more}
use Rattle.htl_segment.proofs.PiecesLaws.{joined-around, ended_inside}
use Rattle.htl_segment.proofs.splitter.decode_pieces.Goals as goal

pub feed-requires : goal.feed-requires
feed-requires c =
    let pieces = c.args.pieces.now in
    let i = c.loop-piece.piece-index in
    let inv = c.loop-piece.invariant in
    let piece = (get_or pieces i no_piece).now in
    let around = joined-around pieces i c.loop-piece-test.true in
    omega (
      arith,
      inv.fed,
      inv.room,
      ap length around,
      length-append (joined (take i pieces)) piece,
      length-append (joined (take i pieces) ++ piece) (joined (drop (i + 1) pieces)),
    )

pub returns-in_err-more-clause-fault : goal.returns-in_err-more-clause-fault
returns-in_err-more-clause-fault c =
    let p = err_from_is_err_and c.from_residual.result c.from_residual.ensures.1 in
    let pieces = c.args.pieces.now in
    let i = c.loop-piece.piece-index in
    let inv = c.loop-piece.invariant in
    let found = brought c.loop-piece.splitter (joined (take i pieces)) (get_or pieces i no_piece).now (joined (drop (i + 1) pieces))
    c.loop-piece.segments.items _ inv.split inv.fed (c.in_err-more.ensures.refused inv.no_fault).0 in
    rw (p.1, p.2) (told_of_pieces pieces i _ _ c.loop-piece-test.true found)

pub returns-in_err-more-clause-boundary : goal.returns-in_err-more-clause-boundary
returns-in_err-more-clause-boundary c =
    let p = err_from_is_err_and c.from_residual.result c.from_residual.ensures.1 in
    let pieces = c.args.pieces.now in
    let i = c.loop-piece.piece-index in
    let inv = c.loop-piece.invariant in
    let found = brought c.loop-piece.splitter (joined (take i pieces)) (get_or pieces i no_piece).now (joined (drop (i + 1) pieces))
    c.loop-piece.segments.items _ inv.split inv.fed (c.in_err-more.ensures.refused inv.no_fault).0 in
    rw (p.1, p.2, joined-around pieces i c.loop-piece-test.true) found.boundary

pub returns-in-Err-clause-boundary : goal.returns-in-Err-clause-boundary
returns-in-Err-clause-boundary c =
    let pieces = c.args.pieces.now in
    let i = c.loop-piece.piece-index in
    let inv = c.loop-piece.invariant in
    let taken = c.in_ok-more.ensures.taken inv.no_fault in
    let some : 0 < length c.in_ok-more.more.items = omega (arith, c.in-Err.ensures.full) in
    let found = list_refused c.loop-piece.splitter (joined (take i pieces)) (get_or pieces i no_piece).now (joined (drop (i + 1) pieces))
    _ c.loop-piece.segments.items c.in_ok-more.more.items inv.split inv.fed taken.0 some in
    rw (c.start-start.ensures, joined-around pieces i c.loop-piece-test.true) found.boundary

pub returns-in-Err-clause-fault : goal.returns-in-Err-clause-fault
returns-in-Err-clause-fault c =
    let pieces = c.args.pieces.now in
    let i = c.loop-piece.piece-index in
    let inv = c.loop-piece.invariant in
    let taken = c.in_ok-more.ensures.taken inv.no_fault in
    let some : 0 < length c.in_ok-more.more.items = omega (arith, c.in-Err.ensures.full) in
    let found = list_refused c.loop-piece.splitter (joined (take i pieces)) (get_or pieces i no_piece).now (joined (drop (i + 1) pieces))
    _ c.loop-piece.segments.items c.in_ok-more.more.items inv.split inv.fed taken.0 some in
    rw c.start-start.ensures (told_of_pieces pieces i _ _ c.loop-piece-test.true found)

pub loop-piece-preserved : goal.loop-piece-preserved
loop-piece-preserved c =
    let pieces = c.args.pieces.now in
    let i = c.loop-piece.piece-index in
    let inv = c.loop-piece.invariant in
    let piece = (get_or pieces i no_piece).now in
    let more = joined-more pieces i c.loop-piece-test.true in
    let taken = c.in_ok-more.ensures.taken inv.no_fault in
    let appended : c.append.new.self.items ≡ c.loop-piece.segments.items ++ c.in_ok-more.more.items = grind (arith, common_steps) in
    record {
      split = rw (more, appended) (splits_next (joined (take i pieces)) piece c.loop-piece.splitter.rest c.feed.new.self.rest
          c.loop-piece.segments.items c.in_ok-more.more.items inv.split taken.0);
      fed = omega (
        arith,
        ap (λ (s : SplitterState). s.fed) taken.1,
        inv.fed,
        ap length more,
        length-append (joined (take i pieces)) piece,
      );
      no_fault = ap (λ (s : SplitterState). s.fault) taken.1;
      room = inv.room;
    }

pub returns-in_err-finish-clause-fault : goal.returns-in_err-finish-clause-fault
returns-in_err-finish-clause-fault c =
    let p = err_from_is_err_and c.from_residual-in_err-finish.result c.from_residual-in_err-finish.ensures.1 in
    let inv = c.loop-piece.invariant in
    let whole : take c.loop-piece.piece-index c.args.pieces.now ≡ c.args.pieces.now =
    take_all c.loop-piece.piece-index c.args.pieces.now c.loop-piece-test.false in
    rw (p.1, p.2) (inl (ended_inside c.loop-piece.splitter (joined c.args.pieces.now) c.loop-piece.segments.items _
    (rw whole at inv.split) (rw whole at inv.fed) inv.no_fault c.in_err-finish.ensures.rest c.in_err-finish.ensures.value))

pub returns-in_err-finish-clause-boundary : goal.returns-in_err-finish-clause-boundary
returns-in_err-finish-clause-boundary c =
    let p = err_from_is_err_and c.from_residual-in_err-finish.result c.from_residual-in_err-finish.ensures.1 in
    let inv = c.loop-piece.invariant in
    let whole : take c.loop-piece.piece-index c.args.pieces.now ≡ c.args.pieces.now =
    take_all c.loop-piece.piece-index c.args.pieces.now c.loop-piece-test.false in
    let found = ended_inside c.loop-piece.splitter (joined c.args.pieces.now) c.loop-piece.segments.items _ (rw whole at inv.split)
    (rw whole at inv.fed) inv.no_fault c.in_err-finish.ensures.rest c.in_err-finish.ensures.value in
    rw (p.1, p.2) (fault_boundary (joined c.args.pieces.now) _ _ found)
