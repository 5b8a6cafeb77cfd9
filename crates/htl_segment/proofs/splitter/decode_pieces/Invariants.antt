-- The segments so far and the rest are the bytes of the pieces taken in.
use Rattle.std.proofs.Common.{◌≡◌, ◌<◌, ◌^◌, length, take, None}
use Rattle.htl_segment.specs.Bundles.{Splits}
use Rattle.htl_segment.specs.Pieces.{joined}
use Rattle.htl_segment.proofs.splitter.decode_pieces.Given as goal

abbrev pub invariant-loop-piece : goal.invariant-loop-piece
invariant-loop-piece l = record {
  split : Splits (joined (take l.piece-index l.pieces)) l.segments.items l.splitter.rest;
  fed : l.splitter.fed ≡ length (joined (take l.piece-index l.pieces));
  no_fault : l.splitter.fault ≡ None;
  room : length (joined l.pieces) < 2 ^ 64;
}
