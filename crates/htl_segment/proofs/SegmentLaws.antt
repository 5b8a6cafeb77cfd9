-- Bytes without a fault begin with the encoding of what they say, and an encoding is read as its segment.
use Rattle.std.proofs.Common.{◌≡◌, ℕ, zero, suc, ◌+◌, ◌-◌, ◌*◌, ◌<◌, ◌≤◌, true, false, cond, eqb, nat_lt, List, [], ◌∷◌, ◌++◌, length}
use Rattle.std.proofs.Common.{take, drop, Some, None, unwrap_or, refl, sym, ap, ◌∙◌, append_assoc, arith}
use Rattle.std.proofs.Math.Nat.{mul-le-mul_left}
use Rattle.std.proofs.Math.Seq.{take-add}
use Rattle.std.specs.Prelude.{sum_by}
use Rattle.std.proofs.lemmas.List.Sums.{sum_by-cons}
use Rattle.std.proofs.lemmas.Bool.{ltb-false, le-ltb, lt-ltb, eqb-true}
use Rattle.std.proofs.lemmas.List.{length-append, length-take, length-drop, take_at, drop_at, nil_from_length}
use Rattle.std.proofs.lemmas.List.{take-append-drop}
use Rattle.htl_event.specs.Events.{Event}
use Rattle.htl_segment.specs.declared.version.Version.{Version}
use Rattle.htl_segment.specs.declared.version.Version.TheVariants.{V1, V2}
use Rattle.htl_segment.specs.declared.fault.Fault.{Fault}
use Rattle.htl_segment.specs.declared.fault.Fault.TheVariants as faults
use Rattle.htl_segment.specs.Versions.{limits_of}
use Rattle.htl_segment.specs.Numbers.{IsBytes, number}
use Rattle.htl_segment.specs.Content.{Content, EventFits, EventsFit, Fits}
use Rattle.htl_segment.specs.Encoding.{event_bytes, records, header_bytes, encoding, Encodes, BeginsWith}
use Rattle.htl_segment.specs.declared.header.Header.{Header}
use Rattle.htl_segment.specs.Reading.{event_in, after_record, events_in, version_of, version_in, length_in, body_in, content_in}
use Rattle.htl_segment.specs.InPlace.{header_in, content_of}
use Rattle.htl_segment.specs.Faults.{header_fault, record_fault, records_fault, first_fault}
use Rattle.htl_segment.specs.InPlace.{HasRecords, IsSegment}
use Rattle.htl_segment.proofs.Bytes.{IsBytes-drop, IsBytes-take, number-lt, length-bytes_of, length-frames}
use Rattle.htl_segment.proofs.PassedTests.{passed, ended, both_passed}
use Rattle.htl_segment.proofs.RecordLaws.{record_read, record_again}
use Rattle.htl_segment.proofs.MoreBytes.{number-append, header_fault-append}
use Rattle.htl_segment.proofs.HeaderLaws as header

-- ---- records

-- what this many records are
pub record RecordsRead (v : Version) (last n : ℕ) (b : List ℕ) : Type 0 where
  pub parts : b ≡ records (events_in n b)
  pub count : length (events_in n b) ≡ n
  pub fits : EventsFit v last (events_in n b)
  pub whole : HasRecords v n b

sequence-event_in : (b : List ℕ) → (event_in b).sequence ≡ number 0 8 b
unfolding event_in
sequence-event_in b = refl

pub records_read : (v : Version) (n i last : ℕ) (b : List ℕ) → IsBytes b → records_fault v n i last b ≡ None → RecordsRead v last n b
unfolding records_fault events_in
records_read v zero i last b small none =
    let nothing : b ≡ [] = nil_from_length b (eqb-true _ _ (ended (eqb (length b) 0) faults.Excess none)) in
    record { parts = nothing; count = refl; fits = tt; whole = tt }
records_read v (suc n) i last b small none =
    let parts = both_passed (record_fault v i last b) (records_fault v n (i + 1) (number 0 8 b) (after_record b)) none in
    let first = record_read v i last b small parts.0 in
    let others = records_read v n (i + 1) (number 0 8 b) (after_record b) (IsBytes-drop _ b small) parts.1 in
    let last_is : EventsFit v (event_in b).sequence (events_in n (after_record b)) = rw (sequence-event_in b) others.fits in
    record {
      parts = first.parts ∙ ap (λ (r : List ℕ). event_bytes (event_in b) ++ r) others.parts;
      count = ap suc others.count;
      fits = (first.fits, rw (sequence-event_in b) first.above, last_is);
      whole = (first.whole, others.whole);
    }

-- what the encoding of events is read as
record RecordsAgain (v : Version) (i last : ℕ) (es : List Event) : Type 0 where
  no_fault : records_fault v (length es) i last (records es) ≡ None
  events : events_in (length es) (records es) ≡ es

records_again : (v : Version) (es : List Event) (i last : ℕ) → EventsFit v last es → RecordsAgain v i last es
unfolding records_fault events_in
records_again v [] i last fits = record { no_fault = refl; events = refl }
records_again v (e ∷ es) i last fits =
    let first = record_again v i last e (records es) fits.0 fits.1 in
    let others = records_again v es (i + 1) e.sequence fits.2 in
    record {
      no_fault = rw (first.no_fault, first.sequence, first.others) others.no_fault;
      events = rw (first.event, first.others, others.events) refl;
    }

-- ---- lengths

length-event_bytes_exact : (e : Event) → length e.tag ≡ 4 → length (event_bytes e) ≡ 36 + 8 * length e.stack
unfolding event_bytes
length-event_bytes_exact e tag = simp (length-append, length-bytes_of) (omega (arith, tag, length-frames e.stack))

length-event_bytes : (v : Version) (e : Event) → EventFits v e → length (event_bytes e) ≤ 36 + 8 * (limits_of v).frames
length-event_bytes v e fits = omega (arith, length-event_bytes_exact e fits.in_range.tag_len, fits.depth)

length-records : (v : Version) (es : List Event) (last : ℕ) → EventsFit v last es
    → length (records es) ≤ (36 + 8 * (limits_of v).frames) * length es
length-records v [] last fits = omega arith
length-records v (e ∷ es) last fits =
    let first = length-event_bytes v e fits.0 in
    let others = length-records v es e.sequence fits.2 in
    grind (arith, length-append (event_bytes e) (records es))

-- each record has 36 bytes, and eight for each frame
pub length-records_exact : (v : Version) (es : List Event) (last : ℕ) → EventsFit v last es
    → length (records es) ≡ 36 * length es + 8 * sum_by (λ e. length e.stack) es
length-records_exact v [] last fits = refl
length-records_exact v (e ∷ es) last fits =
    let others = length-records_exact v es e.sequence fits.2 in
    let first = length-event_bytes_exact e fits.0.in_range.tag_len in
    let frames = sum_by-cons (λ (e : Event). length e.stack) e es in
    omega (arith, length-append (event_bytes e) (records es), others, first, frames)

-- the greatest length holds a header and the most records with all their frames
limits_hold : (v : Version) → 32 + (36 + 8 * (limits_of v).frames) * 4096 ≡ (limits_of v).len
limits_hold V1 = refl
limits_hold V2 = refl

pub header_fits : (s : Content) → Fits s → header.HeaderFits s (length (records s.events))
header_fits s fits =
    let bound = length-records s.version s.events 0 fits.events in
    let most = mul-le-mul_left (36 + 8 * (limits_of s.version).frames) fits.count in
    record {
      trace_id = fits.trace_id;
      processors = fits.processors;
      processor = fits.processor;
      number = fits.number;
      count = fits.count;
      len = omega (arith, bound, most, limits_hold s.version);
    }

-- ---- a whole segment

-- what the segment at the front is
pub record SegmentRead (b : List ℕ) : Type 0 where
  pub long : 32 ≤ length b
  pub whole : (32 ≤ length_in b) × (length_in b ≤ length b)
  pub encodes : Encodes (take (length_in b) b) (content_in b)
  pub has_records : HasRecords (version_in b) (number 24 4 b) (body_in b)

-- the front of the bytes is the header and the records
front : (b head : List ℕ) (len : ℕ) → 32 ≤ len → length head ≡ 32 → b ≡ head ++ drop 32 b
    → take len b ≡ head ++ take (len - 32) (drop 32 b)
front b head len low size parts =
    let split : take len b ≡ take 32 b ++ take (len - 32) (drop 32 b) =
    (let k : len ≡ 32 + (len - 32) = omega arith in ap (λ (m : ℕ). take m b) k ∙ take-add 32 (len - 32) b) in
    let first : take 32 b ≡ head = ap (take 32) parts ∙ take_at head (drop 32 b) 32 size in
    split ∙ ap (λ (x : List ℕ). x ++ take (len - 32) (drop 32 b)) first

pub segment_read : (b : List ℕ) → IsBytes b → first_fault b ≡ None → SegmentRead b
unfolding first_fault content_in
segment_read b small none =
    let t = both_passed (header_fault b)
    (cond (nat_lt (length b) (length_in b)) (Some faults.Cut) (records_fault (version_in b) (number 24 4 b) 0 0 (body_in b))) none in
    let k = header.keeps_from_none b t.0 in
    let cut = passed (nat_lt (length b) (length_in b)) faults.Cut (records_fault (version_in b) (number 24 4 b) 0 0 (body_in b)) t.1 in
    let whole : length_in b ≤ length b = ltb-false _ _ cut.0 in
    let body = body_in b in
    let read = records_read (version_in b) (number 24 4 b) 0 0 body
    (IsBytes-take (length_in b - 32) (drop 32 b) (IsBytes-drop 32 b small)) cut.1 in
    let s = content_in b in
    let size : length_in b ≡ 32 + length (records s.events) =
    omega (arith, ap length read.parts, length-take (length_in b - 32) (drop 32 b), length-drop 32 b, k.len, whole) in
    let held : header.Holds b s (length (records s.events)) = record {
      long = k.long;
      magic = k.magic;
      version = header.version_from_keeps b k;
      processors = refl;
      processor = refl;
      reserved = k.reserved;
      number_is = refl;
      trace_id = refl;
      count = sym read.count;
      len = size;
    } in
    let parts = header.header_from_holds b s (length (records s.events)) small held in
    record {
      long = k.long;
      whole = (k.len.0, whole);
      encodes = record {
        bytes = front b (header_bytes s (length (records s.events))) (length_in b) k.len.0
            (header.length-header_bytes s (length (records s.events))) parts
            ∙ ap (λ (x : List ℕ). header_bytes s (length (records s.events)) ++ x) read.parts;
        fits = record {
          trace_id = number-lt 16 8 b small;
          processors = k.processors;
          processor = k.processor;
          number = k.number_is;
          count = omega (arith, read.count, k.count);
          events = read.fits;
        };
      };
      has_records = read.whole;
    }

-- what an encoding is read as, whatever follows it
pub record SegmentAgain (b : List ℕ) (s : Content) : Type 0 where
  pub no_fault : first_fault b ≡ None
  pub content : content_in b ≡ s
  pub len : length_in b ≡ length (encoding s)

-- a segment's encoding with anything behind it is read as this segment, with no fault
pub segment_again : (s : Content) (more : List ℕ) → Fits s → SegmentAgain (encoding s ++ more) s
unfolding first_fault content_in
segment_again s more fits =
    let body = records s.events in
    let size = length body in
    let head = header_bytes s size in
    let b = encoding s ++ more in
    let regrouped : b ≡ head ++ (body ++ more) = append_assoc head body more in
    let head_fits = header_fits s fits in
    let there = header.holds s size (body ++ more) head_fits in
    let held : header.Holds b s size = rw regrouped there in
    let head_len = header.length-header_bytes s size in
    let total : length (encoding s) ≡ 32 + size = omega (arith, length-append head body, head_len) in
    let whole : nat_lt (length b) (length_in b) ≡ false =
    le-ltb (length b) (length_in b) (omega (arith, total, length-append (encoding s) more, held.len)) in
    let rest_is : drop 32 b ≡ body ++ more = ap (drop 32) regrouped ∙ drop_at head (body ++ more) 32 head_len in
    let body_len : length_in b - 32 ≡ size = omega (arith, held.len) in
    let body_is : body_in b ≡ body = rw (body_len, rest_is) (take_at body more size refl) in
    let version = header.version_in-holds b s size held in
    let again = records_again s.version s.events 0 0 fits.events in
    record {
      no_fault = rw (header.none_from_holds b s size held head_fits, whole, version, held.count, body_is) again.no_fault;
      content = rw (version, held.trace_id, held.processors, held.processor, held.number_is, held.count, body_is, again.events) refl;
      len = held.len ∙ sym total;
    }

-- ---- the steps of reading

-- a fault of the header is the first of all
pub first_fault-header : (b : List ℕ) (fault : Fault) → header_fault b ≡ Some fault → first_fault b ≡ Some fault
unfolding first_fault
first_fault-header b fault some = rw some refl

-- bytes with a good header that states more bytes than there are have the fault Cut
pub first_fault-cut : (b : List ℕ) → header_fault b ≡ None → length b < length_in b → first_fault b ≡ Some faults.Cut
unfolding first_fault
first_fault-cut b none cut = let t : nat_lt (length b) (length_in b) ≡ true = lt-ltb _ _ cut in rw (none, t) refl

-- bytes with a good header and all that it states have the first fault of their records
pub first_fault-records : (b : List ℕ) → header_fault b ≡ None → length_in b ≤ length b
    → first_fault b ≡ records_fault (version_in b) (number 24 4 b) 0 0 (body_in b)
unfolding first_fault
first_fault-records b none whole =
    let t : nat_lt (length b) (length_in b) ≡ false = le-ltb _ _ whole in
    rw (none, t) refl

-- ---- the bytes of one segment

-- bytes that encode a segment, with anything behind them, are read as this segment
pub encoded_again : (b more : List ℕ) (s : Content) → Encodes b s → SegmentAgain (b ++ more) s
encoded_again b more s encodes = rw encodes.bytes (segment_again s more encodes.fits)

-- the segment that bytes without a fault begin with, by its header and the bytes of its records
record Found (b : List ℕ) (h : Header) (body : List ℕ) : Type 0 where
  is_segment : IsSegment h body
  begins : BeginsWith b (length (encoding (content_of h body))) (content_of h body)

found_whole : (b : List ℕ) → IsBytes b → first_fault b ≡ None → Found b (header_in b) (body_in b)
unfolding header_in content_in
found_whole b small none =
    let read = segment_read b small none in
    let size : length (body_in b) ≡ length_in b - 32 =
    omega (arith, length-take (length_in b - 32) (drop 32 b), length-drop 32 b, read.whole) in
    let len : length (encoding (content_in b)) ≡ length_in b =
    omega (arith, ap length read.encodes.bytes, length-take (length_in b) b, read.whole) in
    record {
      is_segment = record {
        fits = read.encodes.fits;
        len = omega (arith, size, len, read.whole);
        has_records = read.has_records;
      };
      begins = rw len (record { inside = read.whole.1; encodes = read.encodes });
    }

header_in-append : (head rest : List ℕ) → 32 ≤ length head → header_in (head ++ rest) ≡ header_in head
unfolding header_in
header_in-append head rest long =
    rw (
      number-append 4 2 head rest (omega arith),
      number-append 6 2 head rest (omega arith),
      number-append 8 2 head rest (omega arith),
      number-append 12 4 head rest (omega arith),
      number-append 16 8 head rest (omega arith),
      number-append 24 4 head rest (omega arith),
      number-append 28 4 head rest (omega arith),
    )
    refl

length-header_in : (b : List ℕ) (h : Header) → h ≡ header_in b → h.len ≡ length_in b
unfolding header_in
length-header_in b h is = ap (λ (x : Header). x.len) is

-- the same where the header lies apart from what follows it
found_parts : (head rest : List ℕ) (h : Header) → IsBytes (head ++ rest) → length head ≡ 32 → h ≡ header_in head
    → first_fault (head ++ rest) ≡ None → Found (head ++ rest) h (take (h.len - 32) rest)
found_parts head rest h small long is none =
    let b = head ++ rest in
    let same : header_in b ≡ h = header_in-append head rest (omega arith) ∙ sym is in
    let len : h.len ≡ length_in b = length-header_in b h (sym same) in
    let body : body_in b ≡ take (h.len - 32) rest = ap (λ (n : ℕ). take (n - 32) (drop 32 b)) (sym len)
    ∙ ap (take (h.len - 32)) (drop_at head rest 32 long) in
    rw body at (rw same at (found_whole b small none))

-- a header, and bytes after it that have no fault with it, are one segment
pub is_segment : (head rest : List ℕ) (h : Header) → IsBytes (head ++ rest) → length head ≡ 32 → h ≡ header_in head
    → first_fault (head ++ rest) ≡ None → IsSegment h (take (h.len - 32) rest)
is_segment head rest h small long is none = (found_parts head rest h small long is none).is_segment

-- a header, and bytes after it that have no fault with it, begin with the encoding of the segment that they say
pub begins_here : (head rest : List ℕ) (h : Header) → IsBytes (head ++ rest) → length head ≡ 32 → h ≡ header_in head
    → first_fault (head ++ rest) ≡ None
    → BeginsWith (head ++ rest) (length (encoding (content_of h (take (h.len - 32) rest)))) (content_of h (take (h.len - 32) rest))
begins_here head rest h small long is none = (found_parts head rest h small long is none).begins

-- ---- the steps of reading a header and what follows it

-- fewer than 32 bytes have the fault Short
pub first_fault-short : (b : List ℕ) → length b < 32 → first_fault b ≡ Some faults.Short
unfolding header_fault
first_fault-short b short =
    let t : nat_lt (length b) 32 ≡ true = lt-ltb _ _ short in
    first_fault-header b faults.Short (rw t refl)

-- a fault of a header is the first one, whatever follows the header
pub parts_fault-header : (head rest : List ℕ) (fault : Fault) → length head ≡ 32 → header_fault head ≡ Some fault
    → first_fault (head ++ rest) ≡ Some fault
parts_fault-header head rest fault long some =
    first_fault-header (head ++ rest) fault (header_fault-append head rest (omega arith) ∙ some)

-- a good header with fewer bytes after it than it states has the fault Cut
pub parts_fault-cut : (head rest : List ℕ) (h : Header) → length head ≡ 32 → header_fault head ≡ None → h ≡ header_in head
    → length rest < h.len - 32 → first_fault (head ++ rest) ≡ Some faults.Cut
parts_fault-cut head rest h long none is cut =
    let len : h.len ≡ length_in head = length-header_in head h is in
    let same : length_in (head ++ rest) ≡ length_in head = number-append 28 4 head rest (omega arith) in
    first_fault-cut (head ++ rest) (header_fault-append head rest (omega arith) ∙ none) (omega (arith, len, same, length-append head rest))

-- a good header with all that it states after it has the first fault of its records
pub parts_fault-records : (head rest : List ℕ) (h : Header) → length head ≡ 32 → header_fault head ≡ None → h ≡ header_in head
    → 32 ≤ h.len → h.len - 32 ≤ length rest
    → first_fault (head ++ rest) ≡ records_fault h.version h.count 0 0 (take (h.len - 32) rest)
unfolding header_in
parts_fault-records head rest h long none is low whole =
    let b = head ++ rest in
    let len : h.len ≡ length_in head = length-header_in head h is in
    let same : length_in b ≡ length_in head = number-append 28 4 head rest (omega arith) in
    let version : version_in b ≡ h.version = ap (λ (n : ℕ). unwrap_or (version_of n) V1) (number-append 4 2 head rest (omega arith))
    ∙ sym (ap (λ (x : Header). x.version) is) in
    let count : number 24 4 b ≡ h.count = number-append 24 4 head rest (omega arith) ∙ sym (ap (λ (x : Header). x.count) is) in
    let body : body_in b ≡ take (h.len - 32) rest = ap (λ (n : ℕ). take (n - 32) (drop 32 b)) (same ∙ sym len)
    ∙ ap (take (h.len - 32)) (drop_at head rest 32 long) in
    first_fault-records b (header_fault-append head rest (omega arith) ∙ none) (omega (arith, same, len, length-append head rest))
    ∙ rw (version, count, body) refl

-- ---- one encoding

-- no encoding begins another, and each is that of one segment
pub one_encoding : (a b x y : List ℕ) (s t : Content) → Encodes a s → Encodes b t → a ++ x ≡ b ++ y → (a ≡ b) × (s ≡ t)
one_encoding a b x y s t p q same =
    let content : s ≡ t = sym (encoded_again a x s p).content ∙ ap content_in same ∙ (encoded_again b y t q).content in
    (p.bytes ∙ ap encoding content ∙ sym q.bytes, content)

-- what the first bytes encode is what they are read as
pub begins : (b : List ℕ) (n : ℕ) (s : Content) → BeginsWith b n s → SegmentAgain b s
begins b n s front = rw (take-append-drop n b) at (encoded_again (take n b) (drop n b) s front.encodes)

-- two encodings at the front of the same bytes are one
pub same_front : (b : List ℕ) (m n : ℕ) (s t : Content) → BeginsWith b m s → BeginsWith b n t → (m ≡ n) × (s ≡ t)
same_front b m n s t p q =
    let both = one_encoding (take m b) (take n b) (drop m b) (drop n b) s t p.encodes q.encodes (take-append-drop m b
    ∙ sym (take-append-drop n b)) in
    (omega (arith, length-take m b, length-take n b, p.inside, q.inside, ap length both.0), both.1)

-- what encodes a segment begins with it, whatever follows
pub begins_with : (a rest : List ℕ) (s : Content) → Encodes a s → BeginsWith (a ++ rest) (length a) s
begins_with a rest s encodes = record {
  inside = omega (arith, length-append a rest);
  encodes = rw (take_at a rest (length a) refl) encodes;
}

-- bytes without a first fault begin with the encoding of some segment
pub encoded_where_no_fault : (b : List ℕ) → IsBytes b → first_fault b ≡ None → (n : ℕ) × (s : Content) × BeginsWith b n s
encoded_where_no_fault b small none =
    let read = segment_read b small none in
    (length_in b, content_in b, record { inside = read.whole.1; encodes = read.encodes })
