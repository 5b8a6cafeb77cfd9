-- Bytes are those of one list of segments, and the texts of segments encode them.
use Rattle.std.proofs.Common.{[], sym}
use Rattle.std.proofs.lemmas.List.{append-nil}
use Rattle.htl_segment.specs.Bundles.{bundle}
use Rattle.htl_segment.proofs.BundleLaws.{split_in_one_way, nothing_short}
use Rattle.htl_text.proofs.Dumped.{dumped_encodes}
use Rattle.htl_text.proofs.laws.encoded_is_dumped_to_the_same_segments.Goals as goal

pub returns-clause-segments : goal.returns-clause-segments
returns-clause-segments c = λ text ss ts h q.
    (split_in_one_way (bundle ss) [] [] ts ss _ _ q (record { parts = sym (append-nil (bundle ss)); fits = h.fits }) nothing_short nothing_short).0

pub returns-clause-text : goal.returns-clause-text
returns-clause-text c = λ text ss h. dumped_encodes ss h.fits

pub returns-clause-words : goal.returns-clause-words
returns-clause-words c = λ a b ss h same. record { written = rw same h.written; fits = h.fits }
