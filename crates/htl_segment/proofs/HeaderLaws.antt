-- A header without a fault is encoded as what it says, and an encoded header has no fault.
use Rattle.std.proofs.Common.{◌≡◌, ℕ, zero, suc, ◌+◌, ◌^◌, ◌<◌, ◌≤◌, false, not, ◌||◌, eqb, nat_eq, nat_lt, nat_le, List, ◌++◌, length}
use Rattle.std.proofs.Common.{take, drop, Option, Some, None, is_none, unwrap_or, refl, sym, ap, ◌∙◌, append_assoc, arith}
use Rattle.std.specs.Prelude.{codes}
use Rattle.std.specs.List.{starts_with}
use Rattle.std.proofs.lemmas.Slice.Eq.{bytes_eq-Decides}
use Rattle.std.proofs.lemmas.Bool.{ltb-false, leb-false, le-ltb, lt-leb, eq-eqb, eqb-true, eqb-false, ne_eqb, or_parts, not-false, or_from, not_from_true}
use Rattle.std.proofs.lemmas.List.{length-append, take_at, take-append-drop}
use Rattle.htl_segment.specs.declared.version.Version.{Version}
use Rattle.htl_segment.specs.declared.version.Version.TheVariants.{V1, V2}
use Rattle.htl_segment.specs.declared.fault.Fault.TheVariants as faults
use Rattle.htl_segment.specs.Versions.{version_number, limits_of}
use Rattle.htl_segment.specs.Numbers.{IsBytes, number, bytes_of}
use Rattle.htl_segment.specs.Content.{Content}
use Rattle.htl_segment.specs.Encoding.{header_bytes}
use Rattle.htl_segment.specs.Reading.{version_of, version_in, length_in}
use Rattle.htl_segment.specs.Faults.{header_fault}
use Rattle.htl_segment.proofs.Bytes.{field, after, number_here, after_number, length-bytes_of}
use Rattle.htl_segment.proofs.PassedTests.{passed}

-- ---- versions and their numbers

-- the number of a version is read as that version
pub version_of-version_number : (v : Version) → version_of (version_number v) ≡ Some v
version_of-version_number V1 = refl
version_of-version_number V2 = refl

version_number-version_of : (n : ℕ) → is_none (version_of n) ≡ false → version_number (unwrap_or (version_of n) V1) ≡ n
version_number-version_of zero known = absurd cc
version_number-version_of (suc zero) known = refl
version_number-version_of (suc (suc zero)) known = refl
version_number-version_of (suc (suc (suc n))) known = absurd cc

version_number≤2 : (v : Version) → version_number v ≤ 2
version_number≤2 V1 = omega arith
version_number≤2 V2 = omega arith

-- no version lets a trace have more than 256 processors
pub processors≤256 : (v : Version) → (limits_of v).processors ≤ 256
processors≤256 V1 = omega arith
processors≤256 V2 = omega arith

len≤2244640 : (v : Version) → (limits_of v).len ≤ 2244640
len≤2244640 V1 = omega arith
len≤2244640 V2 = omega arith

-- ---- the rules of a header

-- the header at the front keeps the rules
pub record Keeps (b : List ℕ) : Type 0 where
  pub long : 32 ≤ length b
  pub magic : codes "HLS1" ≡ take 4 b
  pub version : is_none (version_of (number 4 2 b)) ≡ false
  pub processors : (1 ≤ number 6 2 b) × (number 6 2 b ≤ (limits_of (version_in b)).processors)
  pub processor : number 8 2 b < number 6 2 b
  pub reserved : number 10 2 b ≡ 0
  pub number_is : number 12 4 b ≤ 0xFFFFFFFE
  pub count : number 24 4 b ≤ 4096
  pub len : (32 ≤ length_in b) × (length_in b ≤ (limits_of (version_in b)).len)

-- bytes without a header's fault keep the rules of a header
pub keeps_from_none : (b : List ℕ) → header_fault b ≡ None → Keeps b
unfolding header_fault
keeps_from_none b none =
    let t1 = passed (nat_lt (length b) 32) faults.Short _ none in
    let t2 = passed (not (starts_with nat_eq b (codes "HLS1"))) faults.Magic _ t1.1 in
    let t3 = passed (is_none (version_of (number 4 2 b))) faults.Version _ t2.1 in
    let t4 = passed (eqb (number 6 2 b) 0 || nat_lt (limits_of (version_in b)).processors (number 6 2 b)) faults.Processors _ t3.1 in
    let t5 = passed (nat_le (number 6 2 b) (number 8 2 b)) faults.Processor _ t4.1 in
    let t6 = passed (not (eqb (number 10 2 b) 0)) faults.Reserved _ t5.1 in
    let t7 = passed (nat_lt 0xFFFFFFFE (number 12 4 b)) faults.Number _ t6.1 in
    let t8 = passed (nat_lt 4096 (number 24 4 b)) faults.Count _ t7.1 in
    let t9 = passed (nat_lt (length_in b) 32 || nat_lt (limits_of (version_in b)).len (length_in b)) faults.Length None t8.1 in
    let some : number 6 2 b ≡ 0 → ⊥ = eqb-false _ _ (or_parts _ _ t4.0).0 in
    record {
      long = ltb-false _ _ t1.0;
      magic = (bytes_eq-Decides (codes "HLS1") (take 4 b)).0 (not-false _ t2.0);
      version = t3.0;
      processors = (omega arith, ltb-false _ _ (or_parts _ _ t4.0).1);
      processor = leb-false _ _ t5.0;
      reserved = eqb-true _ _ (not-false _ t6.0);
      number_is = ltb-false _ _ t7.0;
      count = ltb-false _ _ t8.0;
      len = (ltb-false _ _ (or_parts _ _ t9.0).0, ltb-false _ _ (or_parts _ _ t9.0).1);
    }

pub none_from_keeps : (b : List ℕ) → Keeps b → header_fault b ≡ None
unfolding header_fault
none_from_keeps b k =
    let t1 : nat_lt (length b) 32 ≡ false = le-ltb _ _ k.long in
    let t2 : not (starts_with nat_eq b (codes "HLS1")) ≡ false = rw (← k.magic) refl in
    let t3 = k.version in
    let some : number 6 2 b ≡ 0 → ⊥ = λ z. omega (arith, k.processors.0) in
    let t4 : (eqb (number 6 2 b) 0 || nat_lt (limits_of (version_in b)).processors (number 6 2 b)) ≡ false =
    or_from _ _ (ne_eqb (number 6 2 b) 0 some) (le-ltb (limits_of (version_in b)).processors (number 6 2 b) k.processors.1) in
    let t5 : nat_le (number 6 2 b) (number 8 2 b) ≡ false = lt-leb _ _ k.processor in
    let t6 : not (eqb (number 10 2 b) 0) ≡ false = not_from_true _ (eq-eqb _ _ k.reserved) in
    let t7 : nat_lt 0xFFFFFFFE (number 12 4 b) ≡ false = le-ltb _ _ k.number_is in
    let t8 : nat_lt 4096 (number 24 4 b) ≡ false = le-ltb _ _ k.count in
    let t9 : (nat_lt (length_in b) 32 || nat_lt (limits_of (version_in b)).len (length_in b)) ≡ false =
    or_from _ _ (le-ltb (length_in b) 32 k.len.0) (le-ltb (limits_of (version_in b)).len (length_in b) k.len.1) in
    rw (t1, t2, t3, t4, t5, t6, t7, t8, t9) refl

-- ---- the fields of a header

-- the bytes begin with the header of this segment, whose records take so many bytes
pub record Holds (b : List ℕ) (s : Content) (size : ℕ) : Type 0 where
  pub long : 32 ≤ length b
  pub magic : codes "HLS1" ≡ take 4 b
  pub version : number 4 2 b ≡ version_number s.version
  pub processors : number 6 2 b ≡ s.processors
  pub processor : number 8 2 b ≡ s.processor
  pub reserved : number 10 2 b ≡ 0
  pub number_is : number 12 4 b ≡ s.number
  pub trace_id : number 16 8 b ≡ s.trace_id
  pub count : number 24 4 b ≡ length s.events
  pub len : length_in b ≡ 32 + size

-- bytes that hold the header of a segment are this header's bytes, and then what follows
pub header_from_holds : (b : List ℕ) (s : Content) (size : ℕ) → IsBytes b → Holds b s size → b ≡ header_bytes s size ++ drop 32 b
unfolding header_bytes
header_from_holds b s size small h =
    let s28 = field 28 4 32 b small (omega (arith, h.long)) refl ∙ ap (λ (x : ℕ). bytes_of 4 x ++ drop 32 b) h.len in
    let s24 = field 24 4 28 b small (omega (arith, h.long)) refl ∙ ap (λ (x : ℕ). bytes_of 4 x ++ drop 28 b) h.count
    ∙ ap (λ (r : List ℕ). bytes_of 4 (length s.events) ++ r) s28 in
    let s16 = field 16 8 24 b small (omega (arith, h.long)) refl ∙ ap (λ (x : ℕ). bytes_of 8 x ++ drop 24 b) h.trace_id
    ∙ ap (λ (r : List ℕ). bytes_of 8 s.trace_id ++ r) s24 in
    let s12 = field 12 4 16 b small (omega (arith, h.long)) refl ∙ ap (λ (x : ℕ). bytes_of 4 x ++ drop 16 b) h.number_is
    ∙ ap (λ (r : List ℕ). bytes_of 4 s.number ++ r) s16 in
    let s10 = field 10 2 12 b small (omega (arith, h.long)) refl ∙ ap (λ (x : ℕ). bytes_of 2 x ++ drop 12 b) h.reserved
    ∙ ap (λ (r : List ℕ). bytes_of 2 0 ++ r) s12 in
    let s8 = field 8 2 10 b small (omega (arith, h.long)) refl ∙ ap (λ (x : ℕ). bytes_of 2 x ++ drop 10 b) h.processor
    ∙ ap (λ (r : List ℕ). bytes_of 2 s.processor ++ r) s10 in
    let s6 = field 6 2 8 b small (omega (arith, h.long)) refl ∙ ap (λ (x : ℕ). bytes_of 2 x ++ drop 8 b) h.processors
    ∙ ap (λ (r : List ℕ). bytes_of 2 s.processors ++ r) s8 in
    let s4 = field 4 2 6 b small (omega (arith, h.long)) refl ∙ ap (λ (x : ℕ). bytes_of 2 x ++ drop 6 b) h.version
    ∙ ap (λ (r : List ℕ). bytes_of 2 (version_number s.version) ++ r) s6 in
    let s0 : b ≡ codes "HLS1" ++ drop 4 b = sym (take-append-drop 4 b) ∙ ap (λ (m : List ℕ). m ++ drop 4 b) (sym h.magic) in
    let all = s0 ∙ ap (λ (r : List ℕ). codes "HLS1" ++ r) s4 in
    simp append_assoc all

-- a header has 32 bytes
pub length-header_bytes : (s : Content) (size : ℕ) → length (header_bytes s size) ≡ 32
unfolding header_bytes
length-header_bytes s size = simp (length-append, length-bytes_of) refl

-- the numbers of a header fit their fields
pub record HeaderFits (s : Content) (size : ℕ) : Type 0 where
  pub trace_id : s.trace_id < 2 ^ 64
  pub processors : (1 ≤ s.processors) × (s.processors ≤ (limits_of s.version).processors)
  pub processor : s.processor < s.processors
  pub number : s.number ≤ 0xFFFFFFFE
  pub count : length s.events ≤ 4096
  pub len : 32 + size ≤ (limits_of s.version).len

-- the bytes of a header, with anything behind them, hold this header
pub holds : (s : Content) (size : ℕ) (rest : List ℕ) → HeaderFits s size → Holds (header_bytes s size ++ rest) s size
unfolding header_bytes
holds s size rest fits =
    let b = header_bytes s size ++ rest in
    let r28 = bytes_of 4 (32 + size) ++ rest in
    let r24 = bytes_of 4 (length s.events) ++ r28 in
    let r16 = bytes_of 8 s.trace_id ++ r24 in
    let r12 = bytes_of 4 s.number ++ r16 in
    let r10 = bytes_of 2 0 ++ r12 in
    let r8 = bytes_of 2 s.processor ++ r10 in
    let r6 = bytes_of 2 s.processors ++ r8 in
    let r4 = bytes_of 2 (version_number s.version) ++ r6 in
    let d0 : drop 0 b ≡ codes "HLS1" ++ r4 = simp append_assoc in
    let d4 : drop 4 b ≡ r4 = after 0 4 4 b (codes "HLS1") r4 d0 refl refl in
    let d6 : drop 6 b ≡ r6 = after_number 4 2 6 (version_number s.version) b r6 d4 refl in
    let d8 : drop 8 b ≡ r8 = after_number 6 2 8 s.processors b r8 d6 refl in
    let d10 : drop 10 b ≡ r10 = after_number 8 2 10 s.processor b r10 d8 refl in
    let d12 : drop 12 b ≡ r12 = after_number 10 2 12 0 b r12 d10 refl in
    let d16 : drop 16 b ≡ r16 = after_number 12 4 16 s.number b r16 d12 refl in
    let d24 : drop 24 b ≡ r24 = after_number 16 8 24 s.trace_id b r24 d16 refl in
    let d28 : drop 28 b ≡ r28 = after_number 24 4 28 (length s.events) b r28 d24 refl in
    record {
      long = omega (arith, length-append (header_bytes s size) rest, length-header_bytes s size);
      magic = sym (ap (take 4) d0 ∙ take_at (codes "HLS1") r4 4 refl);
      version = number_here 4 2 (version_number s.version) b r6 d4 (omega (arith, version_number≤2 s.version));
      processors = number_here 6 2 s.processors b r8 d6 (omega (arith, fits.processors, processors≤256 s.version));
      processor = number_here 8 2 s.processor b r10 d8 (omega (arith, fits.processors, fits.processor, processors≤256 s.version));
      reserved = number_here 10 2 0 b r12 d10 (omega arith);
      number_is = number_here 12 4 s.number b r16 d12 (omega (arith, fits.number));
      trace_id = number_here 16 8 s.trace_id b r24 d16 fits.trace_id;
      count = number_here 24 4 (length s.events) b r28 d24 (omega (arith, fits.count));
      len = number_here 28 4 (32 + size) b rest d28 (omega (arith, fits.len, len≤2244640 s.version));
    }

-- ---- both together

-- the version in bytes that hold the header of a segment is the segment's
pub version_in-holds : (b : List ℕ) (s : Content) (size : ℕ) → Holds b s size → version_in b ≡ s.version
version_in-holds b s size h =
    ap (λ (n : ℕ). unwrap_or (version_of n) V1) h.version
    ∙ ap (λ (o : Option Version). unwrap_or o V1) (version_of-version_number s.version)

-- bytes that hold a header whose numbers fit have no header's fault
pub none_from_holds : (b : List ℕ) (s : Content) (size : ℕ) → Holds b s size → HeaderFits s size → header_fault b ≡ None
none_from_holds b s size h fits =
    let version = version_in-holds b s size h in
    let known : is_none (version_of (number 4 2 b)) ≡ false = rw (h.version, version_of-version_number s.version) refl in
    none_from_keeps b (record {
      long = h.long;
      magic = h.magic;
      version = known;
      processors = (omega (arith, h.processors, fits.processors), rw (version, h.processors) fits.processors.1);
      processor = rw (h.processors, h.processor) fits.processor;
      reserved = h.reserved;
      number_is = rw h.number_is fits.number;
      count = rw h.count fits.count;
      len = (omega (arith, h.len), rw (version, h.len) fits.len);
    })

-- bytes that keep the rules of a header have the number of their version
pub version_from_keeps : (b : List ℕ) → Keeps b → number 4 2 b ≡ version_number (version_in b)
version_from_keeps b k = sym (version_number-version_of (number 4 2 b) k.version)
