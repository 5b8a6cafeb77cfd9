-- Bytes that begin with a segment are read as it.
use Rattle.std.proofs.Common.{◌≡◌, ℕ, List, length, drop, refl, ap, arith}
use Rattle.std.proofs.lemmas.List.{length-take}
use Rattle.htl_segment.specs.Content.{Content}
use Rattle.htl_segment.specs.Encoding.{encoding, BeginsWith}
use Rattle.htl_segment.specs.Reading.{length_in}
use Rattle.htl_segment.proofs.SegmentLaws.{begins}
use Rattle.htl_state.specs.declared.rows.Setting.{Setting}
use Rattle.htl_state.specs.Reading.{segment_of, segment_in}

pub segment_here : (s : Setting) (b : List ℕ) (n : ℕ) (segment : Content) → BeginsWith b n segment
    → segment_in s b ≡ segment_of s segment (drop n b)
unfolding segment_in
segment_here s b n segment front =
    let again = begins b n segment front in
    let size : n ≡ length (encoding segment) = omega (arith, ap length front.encodes.bytes, length-take n b, front.inside) in
    let len : length_in b ≡ n = omega (arith, again.len, size) in
    rw (again.no_fault, again.content, len) refl
