-- A held segment is read exactly where the bytes begin with one that fits.
use Rattle.std.proofs.Common.{◌≡◌, ℕ, ◌≤◌, true, false, ◌&&◌, eqb, nat_lt, List, ◌++◌, length, drop, Option, Some, None}
use Rattle.std.proofs.Common.{is_some, refl, sym, ap, ◌∙◌, arith}
use Rattle.std.proofs.lemmas.List.{length-append, take-append-drop}
use Rattle.std.proofs.lemmas.Bool.{and_parts, ltb-true, lt-ltb, eqb-true, eq-eqb}
use Rattle.std.proofs.Math.Seq.{drop-append_seam}
use Rattle.htl_segment.specs.declared.fault.Fault.{Fault}
use Rattle.htl_segment.specs.Numbers.{IsBytes}
use Rattle.htl_segment.specs.Content.{Content, Fits}
use Rattle.htl_segment.specs.Encoding.{header_bytes, records, encoding}
use Rattle.htl_segment.specs.Reading.{length_in, content_in}
use Rattle.htl_segment.specs.Faults.{first_fault}
use Rattle.htl_segment.proofs.HeaderLaws.{length-header_bytes}
use Rattle.htl_segment.proofs.SegmentLaws.{segment_read, segment_again}
use Rattle.htl_state.specs.declared.rows.Setting.{Setting}
use Rattle.htl_state.specs.Reading.{is_of, segment_of, segment_in, held}
use Rattle.htl_state.specs.WellFormed.{SegmentFits}
use Rattle.htl_state.proofs.Readings.{found, kept}
use Rattle.htl_state.proofs.Lists.{IsExact}

none_is : (fault : Option Fault) → is_some fault ≡ false → fault ≡ None
none_is None e = refl
none_is (Some fault) e = absurd cc

long_segment : (segment : Content) → 32 ≤ length (encoding segment)
long_segment s =
    let size = length (records s.events) in
    omega (arith, length-append (header_bytes s size) (records s.events), length-header_bytes s size)

fits_from_is_of : (s : Setting) (segment : Content) → Fits segment → is_of s segment ≡ true → SegmentFits s segment
fits_from_is_of s c fits e =
    let one = and_parts (eqb c.trace_id s.trace_id) (eqb c.processors s.processors && (eqb c.processor s.processor && nat_lt s.front c.number)) e in
    let two = and_parts (eqb c.processors s.processors) (eqb c.processor s.processor && nat_lt s.front c.number) one.1 in
    let three = and_parts (eqb c.processor s.processor) (nat_lt s.front c.number) two.1 in
    record {
      fits = fits;
      trace_id = eqb-true _ _ one.0;
      processors = eqb-true _ _ two.0;
      processor = eqb-true _ _ three.0;
      above = ltb-true _ _ three.1;
    }

is_of_from_fits : (s : Setting) (segment : Content) → SegmentFits s segment → is_of s segment ≡ true
is_of_from_fits s c fits =
    rw (
      eq-eqb c.trace_id s.trace_id fits.trace_id,
      eq-eqb c.processors s.processors fits.processors,
      eq-eqb c.processor s.processor fits.processor,
      lt-ltb s.front c.number fits.above,
    )
    refl

sound : (s : Setting) (b : List ℕ) (segment : Content) (rest : List ℕ) → IsBytes b → segment_in s b ≡ Some (segment, rest)
    → SegmentFits s segment × (b ≡ encoding segment ++ rest)
unfolding segment_in
sound s b segment rest small e =
    let t1 = found (is_some (first_fault b)) (segment_of s (content_in b) (drop (length_in b) b)) (segment, rest) e in
    let t2 = kept (is_of s (content_in b)) (content_in b, drop (length_in b) b) (segment, rest) t1.1 in
    let read = segment_read b small (none_is (first_fault b) t1.0) in
    let segment_is : content_in b ≡ segment = ap (λ (x : Content × List ℕ). x.0) t2.1 in
    let rest_is : drop (length_in b) b ≡ rest = ap (λ (x : Content × List ℕ). x.1) t2.1 in
    let fits : SegmentFits s (content_in b) = fits_from_is_of s (content_in b) read.encodes.fits t2.0 in
    let front : b ≡ encoding (content_in b) ++ drop (length_in b) b =
    sym (take-append-drop (length_in b) b) ∙ ap (λ (x : List ℕ). x ++ drop (length_in b) b) read.encodes.bytes in (
      rw segment_is at fits,
      front ∙ ap (λ (x : Content). encoding x ++ drop (length_in b) b) segment_is ∙ ap (λ (x : List ℕ). encoding segment ++ x) rest_is,
    )

complete : (s : Setting) (segment : Content) (rest : List ℕ) → SegmentFits s segment
    → segment_in s (encoding segment ++ rest) ≡ Some (segment, rest)
unfolding segment_in
complete s segment rest fits =
    let again = segment_again segment rest fits.fits in
    let left : drop (length (encoding segment)) (encoding segment ++ rest) ≡ rest = drop-append_seam (encoding segment) rest in
    rw (again.no_fault, again.content, again.len, left, is_of_from_fits s segment fits) refl

pub held_exact : (s : Setting) → IsExact held s (SegmentFits s)
held_exact s = record {
  some = omega arith;
  long = λ segment fits. long_segment segment;
  sound = sound s;
  complete = complete s;
}
