-- What follows an encoding in another is nothing.
use Rattle.std.proofs.Common.{[], ◌++◌, length, sym, ap, arith}
use Rattle.std.proofs.lemmas.List.{append-nil, length-append, nil_from_length}
use Rattle.htl_segment.proofs.SegmentLaws.{one_encoding}
use Rattle.htl_segment.proofs.laws.no_encoding_begins_another.Goals as goal

pub returns : goal.returns
returns c = λ a rest s t p q.
    let same = (one_encoding a (a ++ rest) rest [] s t p q (sym (append-nil (a ++ rest)))).0 in
    nil_from_length rest (omega (arith, length-append a rest, ap length same))
