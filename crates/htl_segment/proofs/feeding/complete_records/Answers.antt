-- A segment whose header is there is completed by its last bytes.
use Rattle.std.proofs.Common.{◌≡◌, ◌++◌, sym, ap, ◌∙◌, arith}
use Rattle.std.proofs.lemmas.Result.{MatchResult-weaker}
use Rattle.htl_segment.specs.Reading.{length_in}
use Rattle.htl_segment.specs.Encoding.{encoding}
use Rattle.htl_segment.proofs.PiecesLaws.{cut_is_rest, cut_has_room, completed, complete_refused, faulty_refused, whole_encoded, parts_joined}
use Rattle.htl_segment.proofs.feeding.complete_records.Goals as goal

pub keep_piece-requires-clause-is_rest : goal.keep_piece-requires-clause-is_rest
keep_piece-requires-clause-is_rest c =
    let rest = c.args.rest.now.items in
    let len : c.len_at-len.result ≡ length_in rest = rw (← c.deref.ensures.value) c.len_at-len.ensures in
    cut_is_rest rest c.args.piece.now c.requires.long c.requires.no_fault (omega (arith, len, c.if-piece-len.true, c.len.ensures))

pub keep_piece-requires-clause-room : goal.keep_piece-requires-clause-room
keep_piece-requires-clause-room c =
    let rest = c.args.rest.now.items in
    let len : c.len_at-len.result ≡ length_in rest = rw (← c.deref.ensures.value) c.len_at-len.ensures in
    λ room le. cut_has_room rest c.args.piece.now room c.requires.long (omega (arith, c.requires.long, c.requires.cut))
    (omega (arith, len, le))

pub returns-in-Ok-to_segment_with-clause-taken : goal.returns-in-Ok-to_segment_with-clause-taken
returns-in-Ok-to_segment_with-clause-taken c =
    let rest = c.args.rest.now.items in
    let taken = c.split_at.result.0.now in
    let left = c.split_at.result.1.now in
    let whole = c.put_behind.new.rest.items in
    let len : c.len_at-len.result ≡ length_in rest = rw (← c.deref.ensures.value) c.len_at-len.ensures in
    let complete = completed rest taken whole c.put_behind.ensures.items c.requires.long c.requires.no_fault
    (omega (arith, len, c.split_at.ensures.front_len, c.len-2.ensures, c.requires.cut)) in
    let parts : rest ++ c.args.piece.now ≡ whole ++ left =
    sym (parts_joined rest c.args.piece.now taken left whole c.put_behind.ensures.items c.split_at.ensures.by_index.0) in
    let encoded : whole ≡ encoding c.in-Ok.found =
    whole_encoded whole _ c.in-Ok.found complete.stated (rw c.deref-2.ensures.value at c.in-Ok.ensures.found) in
    let bytes : rest ++ c.args.piece.now ≡ encoding c.in-Ok.found ++ left = parts ∙ ap (λ x. x ++ left) encoded in
    rw bytes (MatchResult-weaker c.keep_after.result (rw c.in-Ok-to_segment_with.ensures at c.keep_after.ensures.taken)
    (λ segments taken. taken)
    (λ refusal refused. (refused.0, record { more = taken; is = refused.1 ∙ c.put_behind.ensures.items })))

pub returns-in-Err-to_segment_with-clause-taken : goal.returns-in-Err-to_segment_with-clause-taken
returns-in-Err-to_segment_with-clause-taken c =
    let rest = c.args.rest.now.items in
    let taken = c.split_at.result.0.now in
    let left = c.split_at.result.1.now in
    let whole = c.put_behind.new.rest.items in
    let len : c.len_at-len.result ≡ length_in rest = rw (← c.deref.ensures.value) c.len_at-len.ensures in
    let complete = completed rest taken whole c.put_behind.ensures.items c.requires.long c.requires.no_fault
    (omega (arith, len, c.split_at.ensures.front_len, c.len-2.ensures, c.requires.cut)) in
    let bytes = parts_joined rest c.args.piece.now taken left whole c.put_behind.ensures.items c.split_at.ensures.by_index.0 in
    let none = rw c.deref-2.ensures.value at c.in-Ok.ensures.fault in
    (rw bytes at (complete_refused whole left complete none), record { more = taken; is = c.put_behind.ensures.items })

pub returns-in-Err-clause-taken : goal.returns-in-Err-clause-taken
returns-in-Err-clause-taken c =
    let rest = c.args.rest.now.items in
    let taken = c.split_at.result.0.now in
    let left = c.split_at.result.1.now in
    let whole = c.put_behind.new.rest.items in
    let len : c.len_at-len.result ≡ length_in rest = rw (← c.deref.ensures.value) c.len_at-len.ensures in
    let complete = completed rest taken whole c.put_behind.ensures.items c.requires.long c.requires.no_fault
    (omega (arith, len, c.split_at.ensures.front_len, c.len-2.ensures, c.requires.cut)) in
    let bytes = parts_joined rest c.args.piece.now taken left whole c.put_behind.ensures.items c.split_at.ensures.by_index.0 in
    let fault = rw c.deref-2.ensures.value at c.in-Err.ensures.fault in
    (rw bytes at (faulty_refused whole left c.in-Err.fault complete fault), record { more = taken; is = c.put_behind.ensures.items })
