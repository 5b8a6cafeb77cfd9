-- A record without a fault is encoded as its event, and an event's encoding is a record without a fault.
use Rattle.std.proofs.Common.{◌≡◌, ℕ, zero, suc, ◌+◌, ◌-◌, ◌*◌, ◌<◌, ◌≤◌, true, false, not, ◌||◌, eqb, nat_lt, nat_le, List, [], ◌∷◌}
use Rattle.std.proofs.Common.{◌++◌, length, slice_index, take, drop, None, refl, sym, ap, ◌∙◌, append_assoc, arith, drop-cons}
use Rattle.std.proofs.lemmas.Bool.{ltb-false, leb-false, le-ltb, lt-leb, eqb-true, eqb-false, eq-eqb, ne_eqb, or_parts, not-false, or_from, not_from_true}
use Rattle.std.proofs.lemmas.List.{length-append, length-take, length-drop, take_at}
use Rattle.std.specs.List.{flat_map, AllByRecursion}
use Rattle.htl_event.specs.Events.{Event}
use Rattle.htl_event.specs.declared.kind.Kind.{Kind}
use Rattle.htl_event.specs.declared.kind.Kind.TheVariants as kinds
use Rattle.htl_event.specs.Ranges.{InRange}
use Rattle.htl_segment.specs.declared.version.Version.{Version}
use Rattle.htl_segment.specs.declared.version.Version.TheVariants.{V1, V2}
use Rattle.htl_segment.specs.declared.fault.Fault.TheVariants as faults
use Rattle.htl_segment.specs.Versions.{limits_of}
use Rattle.htl_segment.specs.Numbers.{IsBytes, number, numbers, bytes_of}
use Rattle.htl_segment.specs.Content.{kind_code, fields_fit, EventFits}
use Rattle.htl_segment.specs.Encoding.{event_bytes}
use Rattle.htl_segment.specs.Reading.{kind_of, frames_in, event_in, after_record}
use Rattle.htl_segment.specs.Faults.{record_fault}
use Rattle.htl_segment.specs.InPlace.{HasRecord}
use Rattle.htl_segment.proofs.Bytes.{IsBytes-drop, field, part, number-lt, numbers_take, numbers-fit, length-numbers, after, number_here}
use Rattle.htl_segment.proofs.Bytes.{after_number, byte_here, numbers_here, length-frames, length-bytes_of}
use Rattle.htl_segment.proofs.PassedTests.{passed}

-- ---- kinds and their codes

kind_code-kind_of : (n : ℕ) → 1 ≤ n → n ≤ 7 → kind_code (kind_of n) ≡ n
kind_code-kind_of zero low high = absurd (omega arith)
kind_code-kind_of (suc zero) low high = refl
kind_code-kind_of (suc (suc zero)) low high = refl
kind_code-kind_of (suc (suc (suc zero))) low high = refl
kind_code-kind_of (suc (suc (suc (suc zero)))) low high = refl
kind_code-kind_of (suc (suc (suc (suc (suc zero))))) low high = refl
kind_code-kind_of (suc (suc (suc (suc (suc (suc zero)))))) low high = refl
kind_code-kind_of (suc (suc (suc (suc (suc (suc (suc zero))))))) low high = refl
kind_code-kind_of (suc (suc (suc (suc (suc (suc (suc (suc n)))))))) low high = absurd (omega arith)

kind_of-kind_code : (k : Kind) → kind_of (kind_code k) ≡ k
kind_of-kind_code kinds.Opened = refl
kind_of-kind_code kinds.Closed = refl
kind_of-kind_code kinds.BadRef = refl
kind_of-kind_code kinds.Snapshot = refl
kind_of-kind_code kinds.Ref = refl
kind_of-kind_code kinds.Deref = refl
kind_of-kind_code kinds.Exited = refl

one≤kind_code : (k : Kind) → 1 ≤ kind_code k
one≤kind_code kinds.Opened = omega arith
one≤kind_code kinds.Closed = omega arith
one≤kind_code kinds.BadRef = omega arith
one≤kind_code kinds.Snapshot = omega arith
one≤kind_code kinds.Ref = omega arith
one≤kind_code kinds.Deref = omega arith
one≤kind_code kinds.Exited = omega arith

kinds≤7 : (v : Version) → (limits_of v).kinds ≤ 7
kinds≤7 V1 = omega arith
kinds≤7 V2 = omega arith

-- no version lets a stack have more than 64 frames
pub frames≤64 : (v : Version) → (limits_of v).frames ≤ 64
frames≤64 V1 = omega arith
frames≤64 V2 = omega arith

-- ---- the rules of one record

-- the record at the front keeps the rules, after one with the last sequence
record Keeps (v : Version) (last : ℕ) (b : List ℕ) : Type 0 where
  long : 36 ≤ length b
  above : last < number 0 8 b
  known : (1 ≤ slice_index b 8) × (slice_index b 8 ≤ (limits_of v).kinds)
  few : frames_in b ≤ (limits_of v).frames
  held : 8 * frames_in b ≤ length b - 36
  reserved : number 10 2 b ≡ 0
  fields : fields_fit (kind_of (slice_index b 8)) (number 20 4 b) (number 24 8 b) (take 4 (drop 32 b)) ≡ true

keeps_from_none : (v : Version) (i last : ℕ) (b : List ℕ) → record_fault v i last b ≡ None → Keeps v last b
unfolding record_fault
keeps_from_none v i last b none =
    let t1 = passed (nat_lt (length b) 36) (faults.RecordShort i) _ none in
    let t2 = passed (nat_le (number 0 8 b) last) (faults.Sequence i) _ t1.1 in
    let t3 = passed (eqb (slice_index b 8) 0 || nat_lt (limits_of v).kinds (slice_index b 8)) (faults.Kind i) _ t2.1 in
    let t4 = passed (nat_lt (limits_of v).frames (frames_in b) || nat_lt (length b - 36) (8 * frames_in b)) (faults.Frames i) _ t3.1 in
    let t5 = passed (not (eqb (number 10 2 b) 0) || not
    (fields_fit (kind_of (slice_index b 8)) (number 20 4 b) (number 24 8 b) (take 4 (drop 32 b)))) (faults.Field i) None t4.1 in
    let some : slice_index b 8 ≡ 0 → ⊥ = eqb-false _ _ (or_parts _ _ t3.0).0 in
    record {
      long = ltb-false _ _ t1.0;
      above = leb-false _ _ t2.0;
      known = (omega arith, ltb-false _ _ (or_parts _ _ t3.0).1);
      few = ltb-false _ _ (or_parts _ _ t4.0).0;
      held = ltb-false _ _ (or_parts _ _ t4.0).1;
      reserved = eqb-true _ _ (not-false _ (or_parts _ _ t5.0).0);
      fields = not-false _ (or_parts _ _ t5.0).1;
    }

none_from_keeps : (v : Version) (i last : ℕ) (b : List ℕ) → Keeps v last b → record_fault v i last b ≡ None
unfolding record_fault
none_from_keeps v i last b k =
    let t1 : nat_lt (length b) 36 ≡ false = le-ltb _ _ k.long in
    let t2 : nat_le (number 0 8 b) last ≡ false = lt-leb _ _ k.above in
    let some : slice_index b 8 ≡ 0 → ⊥ = λ z. omega (arith, k.known.0) in
    let t3 : (eqb (slice_index b 8) 0 || nat_lt (limits_of v).kinds (slice_index b 8)) ≡ false =
    or_from _ _ (ne_eqb (slice_index b 8) 0 some) (le-ltb (limits_of v).kinds (slice_index b 8) k.known.1) in
    let t4 : (nat_lt (limits_of v).frames (frames_in b) || nat_lt (length b - 36) (8 * frames_in b)) ≡ false =
    or_from _ _ (le-ltb (limits_of v).frames (frames_in b) k.few) (le-ltb (length b - 36) (8 * frames_in b) k.held) in
    let t5 : (not (eqb (number 10 2 b) 0) || not
    (fields_fit (kind_of (slice_index b 8)) (number 20 4 b) (number 24 8 b) (take 4 (drop 32 b)))) ≡ false =
    or_from _ _ (not_from_true _ (eq-eqb _ _ k.reserved)) (not_from_true _ k.fields) in
    rw (t1, t2, t3, t4, t5) refl

-- bytes without a record's fault begin with a whole record
pub has_record : (v : Version) (i last : ℕ) (b : List ℕ) → record_fault v i last b ≡ None → HasRecord v b
has_record v i last b none =
    let k = keeps_from_none v i last b none in
    let some : slice_index b 8 ≡ 0 → ⊥ = λ z. omega (arith, k.known.0) in
    let known : (eqb (slice_index b 8) 0 || nat_lt (limits_of v).kinds (slice_index b 8)) ≡ false =
    or_from _ _ (ne_eqb (slice_index b 8) 0 some) (le-ltb (limits_of v).kinds (slice_index b 8) k.known.1) in
    record { whole = omega (arith, k.long, k.held); few = omega (arith, k.few, frames≤64 v); kind = rw known refl }

-- ---- from bytes to their event

-- the bytes of a record that keeps the rules
record_parts : (b : List ℕ) → IsBytes b → 36 + 8 * frames_in b ≤ length b → kind_code (kind_of (slice_index b 8)) ≡ slice_index b 8
    → number 10 2 b ≡ 0
    → b ≡ event_bytes (event_in b) ++ after_record b
unfolding event_bytes event_in
record_parts b small long code reserved =
    let n = frames_in b in
    let s36 = numbers_take 36 n (36 + 8 * n) b small long refl in
    let s32 = part 32 4 36 b refl ∙ ap (λ (r : List ℕ). take 4 (drop 32 b) ++ r) s36 in
    let s24 = field 24 8 32 b small (omega arith) refl ∙ ap (λ (r : List ℕ). bytes_of 8 (number 24 8 b) ++ r) s32 in
    let s20 = field 20 4 24 b small (omega arith) refl ∙ ap (λ (r : List ℕ). bytes_of 4 (number 20 4 b) ++ r) s24 in
    let s16 = field 16 4 20 b small (omega arith) refl ∙ ap (λ (r : List ℕ). bytes_of 4 (number 16 4 b) ++ r) s20 in
    let s12 = field 12 4 16 b small (omega arith) refl ∙ ap (λ (r : List ℕ). bytes_of 4 (number 12 4 b) ++ r) s16 in
    let s10 = field 10 2 12 b small (omega arith) refl ∙ ap (λ (x : ℕ). bytes_of 2 x ++ drop 12 b) reserved
    ∙ ap (λ (r : List ℕ). bytes_of 2 0 ++ r) s12 in
    let s9 = drop-cons b 9 0 (omega arith) ∙ ap (λ (x : ℕ). x ∷ drop 10 b) (sym (length-numbers 36 n b))
    ∙ ap (λ (r : List ℕ). length (numbers 36 n b) ∷ r) s10 in
    let s8 = drop-cons b 8 0 (omega arith) ∙ ap (λ (x : ℕ). x ∷ drop 9 b) (sym code)
    ∙ ap (λ (r : List ℕ). kind_code (kind_of (slice_index b 8)) ∷ r) s9 in
    let s0 = field 0 8 8 b small (omega arith) refl ∙ ap (λ (r : List ℕ). bytes_of 8 (number 0 8 b) ++ r) s8 in
    simp append_assoc s0

AllByRecursion-take : (n : ℕ) (b : List ℕ) → IsBytes b → AllByRecursion (λ x. x < 256) (take n b)
AllByRecursion-take zero b small = tt
AllByRecursion-take (suc n) [] small = tt
AllByRecursion-take (suc n) (x ∷ b) small = (small 0, AllByRecursion-take n b (λ i. small (suc i)))

event_fits : (v : Version) (last : ℕ) (b : List ℕ) → IsBytes b → Keeps v last b → kind_code (kind_of (slice_index b 8)) ≡ slice_index b 8
    → EventFits v (event_in b)
unfolding event_in
event_fits v last b small k code = record {
  in_range = record {
    sequence = number-lt 0 8 b small;
    process = number-lt 12 4 b small;
    thread = number-lt 16 4 b small;
    handle = number-lt 20 4 b small;
    object = number-lt 24 8 b small;
    tag_len = omega (arith, length-take 4 (drop 32 b), length-drop 32 b, k.long);
    tag = AllByRecursion-take 4 (drop 32 b) (IsBytes-drop 32 b small);
    depth = omega (arith, length-numbers 36 (frames_in b) b, k.few, frames≤64 v);
    stack = numbers-fit 36 (frames_in b) b small;
  };
  kind = omega (arith, code, k.known);
  depth = omega (arith, length-numbers 36 (frames_in b) b, k.few);
  fields = k.fields;
}

-- what the record at the front is
pub record RecordRead (v : Version) (last : ℕ) (b : List ℕ) : Type 0 where
  pub parts : b ≡ event_bytes (event_in b) ++ after_record b
  pub fits : EventFits v (event_in b)
  pub above : last < number 0 8 b
  pub whole : HasRecord v b

-- bytes without a record's fault begin with the encoding of an event that fits and is above the last sequence
pub record_read : (v : Version) (i last : ℕ) (b : List ℕ) → IsBytes b → record_fault v i last b ≡ None → RecordRead v last b
record_read v i last b small none =
    let k = keeps_from_none v i last b none in
    let code = kind_code-kind_of (slice_index b 8) k.known.0 (omega (arith, k.known.1, kinds≤7 v)) in
    let whole = has_record v i last b none in
    record {
      parts = record_parts b small whole.whole code k.reserved;
      fits = event_fits v last b small k code;
      above = k.above;
      whole = whole;
    }

-- ---- from an event to its bytes

-- the bytes have the fields of the event, and then the rest
record Holds (b : List ℕ) (e : Event) (rest : List ℕ) : Type 0 where
  sequence : number 0 8 b ≡ e.sequence
  code : slice_index b 8 ≡ kind_code e.kind
  count : frames_in b ≡ length e.stack
  reserved : number 10 2 b ≡ 0
  process : number 12 4 b ≡ e.process
  thread : number 16 4 b ≡ e.thread
  handle : number 20 4 b ≡ e.handle
  object : number 24 8 b ≡ e.object
  tag : take 4 (drop 32 b) ≡ e.tag
  stack : numbers 36 (length e.stack) b ≡ e.stack
  others : drop (36 + 8 * length e.stack) b ≡ rest
  long : 36 + 8 * length e.stack ≤ length b

holds : (e : Event) (rest : List ℕ) → InRange e → Holds (event_bytes e ++ rest) e rest
unfolding event_bytes
holds e rest fits =
    let b = event_bytes e ++ rest in
    let r36 = flat_map (bytes_of 8) e.stack ++ rest in
    let r32 = e.tag ++ r36 in
    let r24 = bytes_of 8 e.object ++ r32 in
    let r20 = bytes_of 4 e.handle ++ r24 in
    let r16 = bytes_of 4 e.thread ++ r20 in
    let r12 = bytes_of 4 e.process ++ r16 in
    let r10 = bytes_of 2 0 ++ r12 in
    let r8 = kind_code e.kind ∷ length e.stack ∷ r10 in
    let d0 : drop 0 b ≡ bytes_of 8 e.sequence ++ r8 = simp append_assoc in
    let d8 : drop 8 b ≡ r8 = after_number 0 8 8 e.sequence b r8 d0 refl in
    let d9 : drop 9 b ≡ length e.stack ∷ r10 = after 8 1 9 b (kind_code e.kind ∷ []) (length e.stack ∷ r10) d8 refl refl in
    let d10 : drop 10 b ≡ r10 = after 9 1 10 b (length e.stack ∷ []) r10 d9 refl refl in
    let d12 : drop 12 b ≡ r12 = after_number 10 2 12 0 b r12 d10 refl in
    let d16 : drop 16 b ≡ r16 = after_number 12 4 16 e.process b r16 d12 refl in
    let d20 : drop 20 b ≡ r20 = after_number 16 4 20 e.thread b r20 d16 refl in
    let d24 : drop 24 b ≡ r24 = after_number 20 4 24 e.handle b r24 d20 refl in
    let d32 : drop 32 b ≡ r32 = after_number 24 8 32 e.object b r32 d24 refl in
    let d36 : drop 36 b ≡ r36 = after 32 4 36 b e.tag r36 d32 fits.tag_len refl in
    let frames = length-frames e.stack in
    let len : length b ≡ 36 + (8 * length e.stack + length rest) =
    omega (
      arith,
      ap length d0,
      length-append (bytes_of 8 e.sequence) r8,
      length-bytes_of 8 e.sequence,
      length-append (bytes_of 2 0) r12,
      length-bytes_of 2 0,
      length-append (bytes_of 4 e.process) r16,
      length-bytes_of 4 e.process,
      length-append (bytes_of 4 e.thread) r20,
      length-bytes_of 4 e.thread,
      length-append (bytes_of 4 e.handle) r24,
      length-bytes_of 4 e.handle,
      length-append (bytes_of 8 e.object) r32,
      length-bytes_of 8 e.object,
      length-append e.tag r36,
      fits.tag_len,
      length-append (flat_map (bytes_of 8) e.stack) rest,
    ) in
    record {
      sequence = number_here 0 8 e.sequence b r8 d0 fits.sequence;
      code = byte_here 8 (kind_code e.kind) b (length e.stack ∷ r10) d8;
      count = byte_here 9 (length e.stack) b r10 d9;
      reserved = number_here 10 2 0 b r12 d10 (omega arith);
      process = number_here 12 4 e.process b r16 d12 fits.process;
      thread = number_here 16 4 e.thread b r20 d16 fits.thread;
      handle = number_here 20 4 e.handle b r24 d20 fits.handle;
      object = number_here 24 8 e.object b r32 d24 fits.object;
      tag = ap (take 4) d32 ∙ take_at e.tag r36 4 fits.tag_len;
      stack = numbers_here e.stack rest 36 b d36 fits.stack;
      others = after 36 (8 * length e.stack) (36 + 8 * length e.stack) b (flat_map (bytes_of 8) e.stack) rest d36 frames refl;
      long = omega arith;
    }

-- what an event's encoding is read as
pub record RecordAgain (v : Version) (i last : ℕ) (b : List ℕ) (e : Event) (rest : List ℕ) : Type 0 where
  pub no_fault : record_fault v i last b ≡ None
  pub event : event_in b ≡ e
  pub others : after_record b ≡ rest
  pub sequence : number 0 8 b ≡ e.sequence

again : (v : Version) (i last : ℕ) (b : List ℕ) (e : Event) (rest : List ℕ) → Holds b e rest → EventFits v e → last < e.sequence
    → RecordAgain v i last b e rest
unfolding event_in
again v i last b e rest h fits above =
    let kind : kind_of (slice_index b 8) ≡ e.kind = ap kind_of h.code ∙ kind_of-kind_code e.kind in
    let keeps : Keeps v last b = record {
      long = omega (arith, h.long);
      above = omega (arith, h.sequence);
      known = (omega (arith, h.code, one≤kind_code e.kind), omega (arith, h.code, fits.kind));
      few = omega (arith, h.count, fits.depth);
      held = omega (arith, h.count, h.long);
      reserved = h.reserved;
      fields = rw (kind, h.handle, h.object, h.tag) fits.fields;
    } in
    record {
      no_fault = none_from_keeps v i last b keeps;
      event = rw (h.sequence, kind, h.process, h.thread, h.handle, h.object, h.tag, h.count, h.stack) refl;
      others = rw h.count h.others;
      sequence = h.sequence;
    }

-- the encoding of an event that fits is read as a record of this event without a fault, and what follows it as what is left
pub record_again : (v : Version) (i last : ℕ) (e : Event) (rest : List ℕ) → EventFits v e → last < e.sequence
    → RecordAgain v i last (event_bytes e ++ rest) e rest
record_again v i last e rest fits above =
    again v i last (event_bytes e ++ rest) e rest (holds e rest fits.in_range) fits above
