-- An encoding is read as its segment, whatever follows it.
use Rattle.std.proofs.Common.{◌++◌, length}
use Rattle.htl_segment.proofs.SegmentLaws.{begins_with, same_front, encoded_again}
use Rattle.htl_segment.proofs.laws.written_is_read_again.Goals as goal

pub returns-clause-read : goal.returns-clause-read
returns-clause-read c = begins_with

pub returns-clause-nothing_else : goal.returns-clause-nothing_else
returns-clause-nothing_else c = λ bytes rest s t n p q. same_front (bytes ++ rest) n (length bytes) t s q (begins_with bytes rest s p)

pub returns-clause-no_fault : goal.returns-clause-no_fault
returns-clause-no_fault c = λ bytes rest s p. (encoded_again bytes rest s p).no_fault
