-- Bytes are split into segments in one way, and where they aren't whole segments, one fault at one offset says so.
use Rattle.std.proofs.Common.{◌≡◌, ℕ, zero, suc, ◌+◌, ◌-◌, ◌*◌, ◌<◌, ◌≤◌, Bool, true, false, cond, not, ◌||◌, eqb, nat_eq, nat_lt, nat_le}
use Rattle.std.proofs.Common.{List, [], ◌∷◌, ◌++◌, length, All, drop, Option, Some, None, is_none, refl, sym, ap, ◌∙◌, append_assoc}
use Rattle.std.proofs.Common.{arith, inl, inr, ◌⊎◌}
use Rattle.std.specs.Prelude.{codes, MatchOption}
use Rattle.std.specs.List.{starts_with}
use Rattle.std.proofs.lemmas.Bool.{cases_lt, lt-ltb, le-ltb}
use Rattle.std.proofs.lemmas.List.{append_cancel_left, length-append, take-append-drop, flat_map_more}
use Rattle.std.proofs.lemmas.List.Elements.{All-push, All-head, All-tail}
use Rattle.htl_segment.specs.declared.version.Version.{Version}
use Rattle.htl_segment.specs.declared.fault.Fault.{Fault}
use Rattle.htl_segment.specs.declared.fault.Fault.TheVariants as faults
use Rattle.htl_segment.specs.Versions.{limits_of}
use Rattle.htl_segment.specs.Numbers.{number}
use Rattle.htl_segment.specs.Content.{Content, Fits}
use Rattle.htl_segment.specs.Encoding.{encoding, BeginsWith}
use Rattle.htl_segment.specs.Reading.{version_of, frames_in, after_record, version_in, length_in, body_in}
use Rattle.htl_segment.specs.Faults.{or_else, header_fault, record_fault, records_fault, first_fault}
use Rattle.htl_segment.specs.Bundles.{bundle, Splits, BundleFault, SegmentAt, IsBoundary, cut_off, IsRest, IsRefused, is_early_end}
use Rattle.htl_segment.specs.Feeding.{SplitsMore}
use Rattle.htl_segment.specs.Pieces.{is_memory}
use Rattle.htl_segment.proofs.PassedTests.{some_is}
use Rattle.htl_segment.proofs.SegmentLaws.{first_fault-header, first_fault-cut, first_fault-records, segment_again, one_encoding}
use Rattle.htl_segment.proofs.MoreBytes.{header_fault-append, first_fault-append}

-- ---- which faults are early ends

-- a rule that more bytes can't mend, and not out of memory
abbrev is_late : Fault → Bool
is_late fault = not (is_early_end fault || is_memory fault)

-- no fault, or a late one
abbrev IsLate : Option Fault → Type 0
IsLate None = Unit {0}
IsLate (Some fault) = is_late fault ≡ true

neither : (a b : Bool) → not (a || b) ≡ true → (a ≡ false) × (b ≡ false)
neither false false e = (refl, refl)
neither false true e = cc
neither true b e = cc

late_test : (t : Bool) (fault : Fault) (next : Option Fault) → is_late fault ≡ true → IsLate next → IsLate (cond t (Some fault) next)
late_test true fault next late others = late
late_test false fault next late others = others

late_or_else : (first next : Option Fault) → IsLate first → IsLate next → IsLate (or_else first next)
late_or_else None next late others = others
late_or_else (Some fault) next late others = late

late_header : (b : List ℕ) → 32 ≤ length b → IsLate (header_fault b)
unfolding header_fault
late_header b long =
    let t : nat_lt (length b) 32 ≡ false = le-ltb _ _ long in
    rw t
    (late_test (not (starts_with nat_eq b (codes "HLS1"))) faults.Magic _ refl
    (late_test (is_none (version_of (number 4 2 b))) faults.Version _ refl
    (late_test (eqb (number 6 2 b) 0 || nat_lt (limits_of (version_in b)).processors (number 6 2 b)) faults.Processors _ refl
    (late_test (nat_le (number 6 2 b) (number 8 2 b)) faults.Processor _ refl
    (late_test (not (eqb (number 10 2 b) 0)) faults.Reserved _ refl
    (late_test (nat_lt 0xFFFFFFFE (number 12 4 b)) faults.Number _ refl
    (late_test (nat_lt 4096 (number 24 4 b)) faults.Count _ refl
    (late_test (nat_lt (length_in b) 32 || nat_lt (limits_of (version_in b)).len (length_in b)) faults.Length None refl tt))))))))

late_record : (v : Version) (i last : ℕ) (b : List ℕ) → IsLate (record_fault v i last b)
unfolding record_fault
late_record v i last b =
    late_test (nat_lt (length b) 36) (faults.RecordShort i) _ refl
    (late_test (nat_le (number 0 8 b) last) (faults.Sequence i) _ refl
    (late_test (eqb _ 0 || nat_lt (limits_of v).kinds _) (faults.Kind i) _ refl
    (late_test (nat_lt (limits_of v).frames (frames_in b) || nat_lt (length b - 36) (8 * frames_in b)) (faults.Frames i) _ refl
    (late_test _ (faults.Field i) None refl tt))))

late_records : (v : Version) (n i last : ℕ) (b : List ℕ) → IsLate (records_fault v n i last b)
unfolding records_fault
late_records v zero i last b = filled (eqb (length b) 0)
  where
    filled : (t : Bool) → IsLate (cond t None (Some faults.Excess))
    filled true = tt
    filled false = refl
late_records v (suc n) i last b =
    late_or_else (record_fault v i last b) (records_fault v n (i + 1) (number 0 8 b) (after_record b)) (late_record v i last b)
    (late_records v n (i + 1) (number 0 8 b) (after_record b))

is_mended : (first : Option Fault) (fault : Fault) → IsLate first → first ≡ Some fault → is_early_end fault ≡ true → ⊥
is_mended None fault late is early = cc is
is_mended (Some other) fault late is early =
    let same : other ≡ fault = some_is other fault is in
    cc (sym (neither _ _ late).0 ∙ ap is_early_end same ∙ early)

cut_off-long : (b : List ℕ) → 32 ≤ length b → cut_off b ≡ faults.Cut
cut_off-long b long = let t : nat_lt (length b) 32 ≡ false = le-ltb _ _ long in rw t refl

long_early_end : (b : List ℕ) (fault : Fault) (head : Option Fault) → 32 ≤ length b → header_fault b ≡ head → first_fault b ≡ Some fault
    → is_early_end fault ≡ true → (header_fault b ≡ None) × (length b < length_in b)
long_early_end b fault (Some other) long head is early =
    let late : IsLate (Some other) = rw head at (late_header b long) in
    absurd (is_mended (Some other) fault late (sym (first_fault-header b other head) ∙ is) early)
long_early_end b fault None long head is early =
    elim (cases_lt (length b) (length_in b)) [
      | inl cut ↦ (head, cut)
      | inr whole ↦
          let first = first_fault-records b head whole in
          absurd (is_mended _ fault (late_records (version_in b) (number 24 4 b) 0 0 (body_in b)) (sym first ∙ is) early)
    ]

-- a fault that more bytes may mend is that of bytes that end too early
pub early_end : (b : List ℕ) (fault : Fault) → first_fault b ≡ Some fault → is_early_end fault ≡ true → IsRest b
early_end b fault is early =
    elim (cases_lt (length b) 32) [
      | inl short ↦ record { cut_off = inl short }
      | inr long ↦ record { cut_off = inr (long_early_end b fault (header_fault b) long refl is early) }
    ]

short_end : (b : List ℕ) → length b < 32 → first_fault b ≡ Some (cut_off b)
unfolding header_fault
short_end b short =
    let t : nat_lt (length b) 32 ≡ true = lt-ltb _ _ short in
    first_fault-header b (cut_off b) (rw t refl)

-- bytes of which more may make a segment have the fault of bytes that end too early
pub first_fault-rest : (b : List ℕ) → IsRest b → first_fault b ≡ Some (cut_off b)
first_fault-rest b rest =
    elim (cases_lt (length b) 32) [
      | inl short ↦ short_end b short
      | inr long ↦ elim (rest.cut_off) [
        | inl short ↦ short_end b short
        | inr cut ↦ first_fault-cut b cut.0 cut.1 ∙ ap Some (sym (cut_off-long b long))
      ]
    ]

-- ---- out of memory is no first fault

late_no_memory : (first : Option Fault) (fault : Fault) → IsLate first → first ≡ Some fault → is_memory fault ≡ false
late_no_memory None fault late is = absurd cc
late_no_memory (Some other) fault late is = sym (ap is_memory (some_is other fault is)) ∙ (neither _ _ late).1

long_no_memory : (b : List ℕ) (fault : Fault) (head : Option Fault) → 32 ≤ length b → header_fault b ≡ head → first_fault b ≡ Some fault
    → is_memory fault ≡ false
long_no_memory b fault (Some other) long head is =
    let late : IsLate (Some other) = rw head at (late_header b long) in
    late_no_memory (Some other) fault late (sym (first_fault-header b other head) ∙ is)
long_no_memory b fault None long head is =
    elim (cases_lt (length b) (length_in b)) [
      | inl cut ↦ sym (ap is_memory (some_is faults.Cut fault (sym (first_fault-cut b head cut) ∙ is)))
      | inr whole ↦
          late_no_memory _ fault (late_records (version_in b) (number 24 4 b) 0 0 (body_in b))
          (sym (first_fault-records b head whole) ∙ is)
    ]

-- out of memory is never the first fault of bytes
pub first_fault-no_memory : (b : List ℕ) (fault : Fault) → first_fault b ≡ Some fault → is_memory fault ≡ false
first_fault-no_memory b fault is =
    elim (cases_lt (length b) 32) [
      | inl short ↦
          let t : nat_lt (length b) 32 ≡ true = lt-ltb _ _ short in
          let none : is_memory (cut_off b) ≡ false = rw t refl in
          sym (ap is_memory (some_is (cut_off b) fault (sym (short_end b short) ∙ is))) ∙ none
      | inr long ↦ long_no_memory b fault (header_fault b) long refl is
    ]

-- ---- splitting one segment after the other

-- a segment at the front of the rest comes behind those that were split off, and what follows it is the new rest
pub splits_one : (b : List ℕ) (old new : List Content) (rest : List ℕ) (n : ℕ) (s : Content) → SplitsMore b old new rest
    → BeginsWith rest n s → SplitsMore b old (new ++ s ∷ []) (drop n rest)
splits_one b old new rest n s so_far front = record {
  more = so_far.more ++ s ∷ [];
  pushed = rw so_far.pushed (append_assoc old so_far.more (s ∷ []));
  splits = record {
    parts = so_far.splits.parts ∙ ap (λ (r : List ℕ). bundle so_far.more ++ r) (sym (take-append-drop n rest)
        ∙ ap (λ (x : List ℕ). x ++ drop n rest) front.encodes.bytes)
        ∙ sym (append_assoc (bundle so_far.more) (encoding s) (drop n rest))
        ∙ ap (λ (x : List ℕ). x ++ drop n rest) (flat_map_more encoding [] so_far.more s);
    fits = All-push Fits so_far.more s so_far.splits.fits front.encodes.fits;
  };
}

-- bytes with a fault that more bytes can't mend aren't empty
pub some_left : (rest : List ℕ) (fault : Fault) → first_fault rest ≡ Some fault → is_early_end fault ≡ false → 0 < length rest
some_left [] fault is late = absurd (let same = some_is faults.Short fault (sym (short_end [] (omega arith))
    ∙ is) in cc (ap is_early_end same ∙ late))
some_left (x ∷ rest) fault is late = omega arith

-- where the rest begins, whole segments end
unfoldable pub boundary : (b : List ℕ) (old new : List Content) (rest : List ℕ) → SplitsMore b old new rest → IsBoundary b (length b - length rest)
boundary b old new rest so_far = record {
  before = so_far.more;
  rest = rest;
  splits = so_far.splits;
  offset_is = omega (arith, ap length so_far.splits.parts, length-append (bundle so_far.more) rest);
}

late_fault_at : (b : List ℕ) (old new : List Content) (rest : List ℕ) (fault : Fault) → SplitsMore b old new rest
    → is_early_end fault ≡ false
    → first_fault rest ≡ Some fault → IsRefused b (length b - length rest) fault
unfolding boundary
late_fault_at b old new rest fault so_far late is =
    inl (
      record {
        before = so_far.more;
        rest = rest;
        splits = so_far.splits;
        offset_is = (boundary b old new rest so_far).offset_is;
        some = some_left rest fault is late;
        fault_is = is;
      },
      late,
    )

memory_at : (b : List ℕ) (old new : List Content) (rest : List ℕ) → SplitsMore b old new rest → first_fault rest ≡ None
    → IsRefused b (length b - length rest) faults.NoMemory
unfolding boundary
memory_at b old new rest so_far none =
    inr (
      refl,
      record {
        before = so_far.more;
        rest = rest;
        splits = so_far.splits;
        offset_is = (boundary b old new rest so_far).offset_is;
        no_fault = none;
      },
    )

-- what `decode` answers of the bytes left
pub refused : (b : List ℕ) (old new : List Content) (rest : List ℕ) (fault : Fault) (first : Option Fault) → SplitsMore b old new rest
    → is_early_end fault ≡ false
    → first_fault rest ≡ first → MatchOption first (fault ≡ faults.NoMemory) (λ other. fault ≡ other)
    → IsRefused b (length b - length rest) fault
refused b old new rest fault None so_far late first told = rw told (memory_at b old new rest so_far first)
refused b old new rest fault (Some other) so_far late first told = late_fault_at b old new rest fault so_far late (first
    ∙ ap Some (sym told))

-- whole segments end where splitting is refused
pub refused_boundary : (b : List ℕ) (offset : ℕ) (fault : Fault) → IsRefused b offset fault → IsBoundary b offset
refused_boundary b offset fault refused =
    elim refused [
      | inl found ↦ record { before = found.0.before; rest = found.0.rest; splits = found.0.splits; offset_is = found.0.offset_is }
      | inr asked ↦ record { before = asked.1.before; rest = asked.1.rest; splits = asked.1.splits; offset_is = asked.1.offset_is }
    ]

-- no boundary is beyond the end of the bytes
pub boundary_inside : (b : List ℕ) (offset : ℕ) → IsBoundary b offset → offset ≤ length b
boundary_inside b offset here = omega (arith, here.offset_is, ap length here.splits.parts, length-append (bundle here.before) here.rest)

-- the fault of a whole bundle, where it has one that more bytes can't mend
pub refused_bundle : (b : List ℕ) (offset : ℕ) (fault : Fault) → IsRefused b offset fault
    → BundleFault b offset fault ⊎ ((fault ≡ faults.NoMemory) × SegmentAt b offset)
refused_bundle b offset fault refused =
    elim refused [
      | inl found ↦ inl (found.0)
      | inr asked ↦ inr asked
    ]

-- ---- a whole bundle

-- where a rest is left that more bytes may complete, the bundle's fault is that it ends too early, at the rest
pub bundle_cut : (b : List ℕ) (ss : List Content) (rest : List ℕ) → Splits b ss rest → IsRest rest → 0 < length rest
    → BundleFault b (length b - length rest) (cut_off rest)
bundle_cut b ss rest splits is_rest some = record {
  before = ss;
  rest = rest;
  splits = splits;
  offset_is = omega (arith, ap length splits.parts, length-append (bundle ss) rest);
  some = some;
  fault_is = first_fault-rest rest is_rest;
}

-- ---- the bytes of one segment

whole_late : (first : Option Fault) (fault : Fault) → IsLate first → first ≡ Some fault → is_early_end fault ≡ false
whole_late None fault late is = absurd cc
whole_late (Some other) fault late is = sym (ap is_early_end (some_is other fault is)) ∙ (neither _ _ late).0

-- a header and all that it states have no fault that more bytes may mend
pub whole_fault : (b : List ℕ) (fault : Fault) → 32 ≤ length b → header_fault b ≡ None → length_in b ≤ length b
    → first_fault b ≡ Some fault → is_early_end fault ≡ false
whole_fault b fault long none whole is =
    whole_late _ fault (late_records (version_in b) (number 24 4 b) 0 0 (body_in b)) (sym (first_fault-records b none whole) ∙ is)

-- ---- what stays when more bytes follow

not_early : (early fault : Fault) → is_early_end early ≡ true → Some early ≡ Some fault → is_early_end fault ≡ false → ⊥
not_early early fault is same late =
    let e : early ≡ fault = some_is early fault same in
    cc (sym is ∙ ap is_early_end e ∙ late)

late_stays_long : (b more : List ℕ) (fault : Fault) (head : Option Fault) → 32 ≤ length b → header_fault b ≡ head
    → is_early_end fault ≡ false → first_fault b ≡ Some fault → first_fault (b ++ more) ≡ Some fault
late_stays_long b more fault (Some first) long head late is =
    first_fault-header (b ++ more) first (header_fault-append b more long ∙ head) ∙ sym (first_fault-header b first head) ∙ is
late_stays_long b more fault None long head late is =
    elim (cases_lt (length b) (length_in b)) [
      | inl cut ↦ absurd (not_early faults.Cut fault refl (sym (first_fault-cut b head cut) ∙ is) late)
      | inr whole ↦ first_fault-append b more long whole ∙ is
    ]

no_fault_stays_long : (b more : List ℕ) (head : Option Fault) → 32 ≤ length b → header_fault b ≡ head → first_fault b ≡ None
    → first_fault (b ++ more) ≡ None
no_fault_stays_long b more (Some first) long head none = absurd (cc (sym (first_fault-header b first head) ∙ none))
no_fault_stays_long b more None long head none =
    elim (cases_lt (length b) (length_in b)) [
      | inl cut ↦ absurd (cc (sym (first_fault-cut b head cut) ∙ none))
      | inr whole ↦ first_fault-append b more long whole ∙ none
    ]

-- a segment at the front
pub no_fault_stays : (b more : List ℕ) → first_fault b ≡ None → first_fault (b ++ more) ≡ None
no_fault_stays b more none =
    elim (cases_lt (length b) 32) [
      | inl short ↦ absurd (cc (sym (short_end b short) ∙ none))
      | inr long ↦ no_fault_stays_long b more (header_fault b) long refl none
    ]

-- a fault that more bytes can't mend
pub late_stays : (b more : List ℕ) (fault : Fault) → is_early_end fault ≡ false → first_fault b ≡ Some fault
    → first_fault (b ++ more) ≡ Some fault
late_stays b more fault late is =
    elim (cases_lt (length b) 32) [
      | inl short ↦
          let t : nat_lt (length b) 32 ≡ true = lt-ltb _ _ short in
          let early : is_early_end (cut_off b) ≡ true = rw t refl in
          absurd (not_early (cut_off b) fault early (sym (short_end b short) ∙ is) late)
      | inr long ↦ late_stays_long b more fault (header_fault b) long refl late is
    ]

-- ---- one way to split

-- a segment that bytes begin with leaves no fault
encoded_first : (s : Content) (more : List ℕ) (fault : Fault) → Fits s → first_fault (encoding s ++ more) ≡ Some fault → ⊥
encoded_first s more fault fits is = cc (sym (segment_again s more fits).no_fault ∙ is)

split_one_way : (ss ts : List Content) (rest left : List ℕ) (f g : Fault) → All Fits ss → All Fits ts → first_fault rest ≡ Some f
    → first_fault left ≡ Some g → bundle ss ++ rest ≡ bundle ts ++ left
    → (ss ≡ ts) × (rest ≡ left)
split_one_way [] [] rest left f g fits fit is isn't same = (refl, same)
split_one_way [] (t ∷ ts) rest left f g fits fit is isn't same =
    absurd (encoded_first t (bundle ts ++ left) f (All-head Fits t ts fit)
    (sym (ap first_fault (same ∙ append_assoc (encoding t) (bundle ts) left)) ∙ is))
split_one_way (s ∷ ss) [] rest left f g fits fit is isn't same =
    absurd (encoded_first s (bundle ss ++ rest) g (All-head Fits s ss fits)
    (sym (ap first_fault (sym same ∙ append_assoc (encoding s) (bundle ss) rest)) ∙ isn't))
split_one_way (s ∷ ss) (t ∷ ts) rest left f g fits fit is isn't same =
    let regrouped : encoding s ++ (bundle ss ++ rest) ≡ encoding t ++ (bundle ts ++ left) =
    sym (append_assoc (encoding s) (bundle ss) rest) ∙ same ∙ append_assoc (encoding t) (bundle ts) left in
    let first = one_encoding (encoding s) (encoding t) (bundle ss ++ rest) (bundle ts ++ left) s t
    (record { bytes = refl; fits = All-head Fits s ss fits }) (record { bytes = refl; fits = All-head Fits t ts fit }) regrouped in
    let next : bundle ss ++ rest ≡ bundle ts ++ left =
    append_cancel_left (encoding t) (bundle ss ++ rest) (bundle ts ++ left)
    (ap (λ (x : List ℕ). x ++ (bundle ss ++ rest)) (sym first.0) ∙ regrouped) in
    let others = split_one_way ss ts rest left f g (All-tail Fits s ss fits) (All-tail Fits t ts fit) is isn't next in
    (ap (λ (x : Content). x ∷ ss) first.1 ∙ ap (λ (xs : List Content). t ∷ xs) others.0, others.1)

-- two splits of the same bytes, each up to bytes with a fault, have the same segments and the same rest
pub split_in_one_way : (b rest left : List ℕ) (ss ts : List Content) (f g : Fault) → Splits b ss rest → Splits b ts left
    → first_fault rest ≡ Some f → first_fault left ≡ Some g → (ss ≡ ts) × (rest ≡ left)
split_in_one_way b rest left ss ts f g split other is isn't =
    split_one_way ss ts rest left f g split.fits other.fits is isn't (sym split.parts ∙ other.parts)

-- no bytes are too few
pub nothing_short : first_fault [] ≡ Some (cut_off [])
nothing_short = short_end [] (omega arith)
