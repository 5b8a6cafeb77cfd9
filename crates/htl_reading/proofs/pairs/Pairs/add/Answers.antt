-- Memory is refused for a digit of the piece.
use Rattle.std.proofs.lemmas.Result.{err_from_is_err_and}
use Rattle.htl_reading.proofs.PairsLaws.{digit_there}
use Rattle.htl_reading.proofs.pairs.Pairs.add.Goals as goal

pub returns-in_err-add_byte-clause-full : goal.returns-in_err-add_byte-clause-full
returns-in_err-add_byte-clause-full c =
    let p = err_from_is_err_and c.from_residual.result c.from_residual.ensures.1 in
    rw (p.1) (digit_there c.args.piece.now c.loop-byte.byte-index _ c.loop-byte-test.true c.in_err-add_byte.ensures.full)
