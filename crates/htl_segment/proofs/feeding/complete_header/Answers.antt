-- A header made of two parts is there: what follows it completes its segment, or is cut off.
use Rattle.std.proofs.Common.{◌++◌, sym, ◌∙◌, arith}
use Rattle.std.proofs.lemmas.List.{length-append, take_rest}
use Rattle.std.proofs.lemmas.Result.{MatchResult-weaker}
use Rattle.htl_segment.proofs.PiecesLaws.{parts_encoded, header_cut, first_refused, extends_nothing, extends_same}
use Rattle.htl_segment.proofs.feeding.complete_header.Goals as goal

pub keep_piece-requires-in-Err-clause-fewer : goal.keep_piece-requires-in-Err-clause-fewer
keep_piece-requires-in-Err-clause-fewer c =
    let early = sym c.is_early_end.ensures ∙ c.if-is_early_end.true in
    let bytes = rw c.deref.ensures.value at c.header_and_after.ensures.bytes in
    let cut = header_cut _ _ c.in-Err.fault c.header_and_after.ensures.size c.in-Err.ensures.fault early in
    omega (arith, (rw bytes at cut).fewer, c.len_at.ensures, length-append c.args.rest.now.items c.args.piece.now)

pub keep_piece-requires-in-Err-clause-is_rest : goal.keep_piece-requires-in-Err-clause-is_rest
keep_piece-requires-in-Err-clause-is_rest c =
    let early = sym c.is_early_end.ensures ∙ c.if-is_early_end.true in
    let bytes = rw c.deref.ensures.value at c.header_and_after.ensures.bytes in
    let cut = header_cut _ _ c.in-Err.fault c.header_and_after.ensures.size c.in-Err.ensures.fault early in
    (rw bytes at cut).is_rest

pub keep_piece-requires-in-Err-clause-room : goal.keep_piece-requires-in-Err-clause-room
keep_piece-requires-in-Err-clause-room c =
    let early = sym c.is_early_end.ensures ∙ c.if-is_early_end.true in
    let bytes = rw c.deref.ensures.value at c.header_and_after.ensures.bytes in
    let cut = header_cut _ _ c.in-Err.fault c.header_and_after.ensures.size c.in-Err.ensures.fault early in
    λ room le. (rw bytes at cut).room room (omega (arith, le, c.len_at.ensures))

pub returns-in-Ok-to_segment_with-clause-taken : goal.returns-in-Ok-to_segment_with-clause-taken
returns-in-Ok-to_segment_with-clause-taken c =
    let bytes = rw c.deref.ensures.value at c.header_and_after.ensures.bytes in
    let front = rw (← c.byte_len-len.ensures.value) at c.in-Ok.ensures.found in
    let encoded = parts_encoded c.header_and_after.result.0 c.header_and_after.result.1.now c.byte_len-len.result c.in-Ok.found
    c.header_and_after.ensures.size c.byte_len-len.ensures.long front in
    let all = sym bytes ∙ encoded in
    let taken = rw (c.in-Ok-to_segment_with.ensures, take_rest) at c.keep_after.ensures.taken in
    rw all (MatchResult-weaker c.keep_after.result taken (λ segments taken. taken)
    (λ refusal refused. (refused.0, extends_same c.args.rest.now.items c.keep_after.new.rest.items refused.1)))

pub returns-in-Err-to_segment_with-clause-taken : goal.returns-in-Err-to_segment_with-clause-taken
returns-in-Err-to_segment_with-clause-taken c =
    let bytes = rw c.deref.ensures.value at c.header_and_after.ensures.bytes in
    let refused = first_refused (c.header_and_after.result.0 ++ c.header_and_after.result.1.now) c.in-Ok.ensures.fault in
    (rw bytes at refused, extends_nothing c.args.rest.now.items)
