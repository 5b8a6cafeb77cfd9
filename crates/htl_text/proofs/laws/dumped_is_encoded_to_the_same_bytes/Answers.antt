-- Each line of the text is read as its item, and the bytes are those of the segments.
use Rattle.std.proofs.Common.{sym, ◌∙◌}
use Rattle.std.proofs.lemmas.List.{append-nil}
use Rattle.htl_segment.specs.Bundles.{bundle}
use Rattle.htl_text.proofs.Dumped.{dumped_encodes}
use Rattle.htl_text.proofs.laws.dumped_is_encoded_to_the_same_bytes.Goals as goal

pub returns : goal.returns
returns c = λ bytes ss h. (dumped_encodes ss h.fits, sym (h.parts ∙ append-nil (bundle ss)))
