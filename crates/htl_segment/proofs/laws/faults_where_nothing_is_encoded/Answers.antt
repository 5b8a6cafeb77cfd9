-- Bytes without a first fault begin with an encoding, and the other way round.
use Rattle.htl_segment.proofs.SegmentLaws.{begins, encoded_where_no_fault}
use Rattle.htl_segment.proofs.laws.faults_where_nothing_is_encoded.Goals as goal

pub returns : goal.returns
returns c = λ bytes small. (encoded_where_no_fault bytes small, λ found. (begins bytes found.0 found.1 found.2).no_fault)
