-- Two encodings of the same bytes are of one segment.
use Rattle.std.proofs.Common.{[], refl}
use Rattle.htl_segment.proofs.SegmentLaws.{one_encoding}
use Rattle.htl_segment.proofs.laws.one_encoding.Goals as goal

pub returns-clause-of_one : goal.returns-clause-of_one
returns-clause-of_one c = λ a s t p q. (one_encoding a a [] [] s t p q refl).1
