-- The bytes are their first 32 and what follows them.
use Rattle.std.proofs.lemmas.List.{take-append-drop}
use Rattle.htl_segment.proofs.SegmentLaws.{first_fault-short}
use Rattle.htl_segment.proofs.segment_bytes.SegmentBytes.check.Goals as goal

pub returns-then-bytes-lt-HEADER_LEN-clause-fault : goal.returns-then-bytes-lt-HEADER_LEN-clause-fault
returns-then-bytes-lt-HEADER_LEN-clause-fault c = first_fault-short c.args.bytes.now c.if-bytes-lt-HEADER_LEN.true

pub returns-clause-found : goal.returns-clause-found
returns-clause-found c = rw (c.split_at.ensures.front, c.split_at.ensures.back, take-append-drop) at c.check_parts.ensures.found

pub returns-clause-fault : goal.returns-clause-fault
returns-clause-fault c = rw (c.split_at.ensures.front, c.split_at.ensures.back, take-append-drop) at c.check_parts.ensures.fault
