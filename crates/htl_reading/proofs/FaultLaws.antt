-- What is reported of bytes that are refused is so whichever bytes follow them, and a source is read no further than its fault.
use Rattle.std.proofs.Common.{◌≡◌, ◌+◌, ◌<◌, ◌≤◌, ℕ, Bool, false, List, [], ◌∷◌, ◌++◌, length, All, refl, sym, ap, ◌∙◌, append_assoc}
use Rattle.std.proofs.Common.{arith, inl, inr, subst, Option, Some, None, IfSome, append-nil}
use Rattle.std.proofs.KnownBytes.{Consumes-trans}
use Rattle.std.proofs.lemmas.List.{length-append}
use Rattle.std.specs.Io.KnownBytes.{Consumes}
use Rattle.htl_segment.specs.Content.{Content, Fits}
use Rattle.std.proofs.lemmas.List.Elements.{All-head, All-nil}
use Rattle.htl_segment.proofs.SegmentLaws.{segment_again}
use Rattle.htl_segment.specs.Faults.{first_fault}
use Rattle.htl_segment.specs.Encoding.{encoding}
use Rattle.htl_segment.specs.Bundles.{bundle, SegmentAt, Splits, IsRefused, IsRest}
use Rattle.htl_segment.specs.Pieces.{is_memory}
use Rattle.htl_segment.specs.declared.fault.Fault.{Fault}
use Rattle.htl_segment.specs.declared.fault.Fault.TheVariants as faults
use Rattle.htl_segment.proofs.BundleLaws.{first_fault-no_memory}
use Rattle.htl_segment.proofs.PiecesLaws.{fault_more, refused_after, segment_more, splits_next}
use Rattle.htl_reading.specs.declared.fault.SourceFault.{SourceFault}
use Rattle.htl_reading.specs.declared.fault.SourceFault.TheVariants.{Segment}
use Rattle.htl_reading.specs.Keepers.{taken}
use Rattle.htl_reading.specs.Blocks.{IsRefusedAt, of_segment}
use Rattle.htl_reading.specs.Sources.{IsReadToFault, IsReportedOfBundle}

-- ---- bytes that were taken in

-- bytes of segments with a rest behind them are split into these segments and the rest
pub taken_splits : (segments : List Content) (rest : List ℕ) → All Fits segments → Splits (taken segments rest) segments rest
taken_splits segments rest fits = record { parts = refl; fits = fits }

-- one more piece
pub taken_next : (first mid last : Option (List ℕ)) (segments more : List Content) (rest new piece : List ℕ) → All Fits segments
    → Consumes first mid (taken segments rest) → Consumes mid last piece → Splits (rest ++ piece) more new
    → Splits (taken segments rest ++ piece) (segments ++ more) new × Consumes first last (taken (segments ++ more) new)
taken_next first mid last segments more rest new piece fits given read next =
    let both = splits_next (taken segments rest) piece rest new segments more (taken_splits segments rest fits) next in
    (both, subst (Consumes first last) (both.parts) (Consumes-trans first mid last (taken segments rest) piece given read))

-- no bytes are the beginning of a segment
pub begins_none : IsRest []
begins_none = record { cut_off = inl (omega arith) }

pub whole_before : (segments : List Content) → All Fits segments → Splits (bundle segments) segments []
whole_before segments fits = record { parts = sym (append-nil (bundle segments)); fits = fits }

-- ---- bytes that are refused

-- bytes of some segments begin with one
pub first_begins : (b rest : List ℕ) (ts : List Content) → Splits b ts rest → 0 < length ts → SegmentAt b 0
first_begins b rest [] split some = absurd (omega arith)
first_begins b rest (t ∷ ts) split some =
    let parts : b ≡ encoding t ++ (bundle ts ++ rest) = split.parts ∙ append_assoc (encoding t) (bundle ts) rest in
    let none : first_fault b ≡ None = ap first_fault parts
    ∙ (segment_again t (bundle ts ++ rest) (All-head Fits t ts split.fits)).no_fault in
    record {
      before = [];
      rest = b;
      splits = record { parts = refl; fits = All-nil Fits };
      offset_is = refl;
      no_fault = none;
    }

-- out of memory is reported as itself, and every other fault by its offset
pub segment_fault : (offset : ℕ) (fault : Fault) → is_memory fault ≡ false → of_segment offset fault ≡ Segment offset fault
segment_fault offset faults.NoMemory other = absurd cc
segment_fault offset fault other = refl

-- ---- what is reported

more_reported : (read left : List ℕ) (ended : Bool) (offset : ℕ) (fault : Fault) → IsRefused read offset fault
    → IsReportedOfBundle (Some left) ended (read ++ left) (of_segment offset fault)
more_reported read left ended offset fault refused =
    elim refused [
      | inl found ↦ rw (segment_fault offset fault (first_fault-no_memory found.0.rest fault found.0.fault_is))
          (fault_more read left offset fault found.1 found.0, found.1)
      | inr asked ↦ rw (asked.0) (inl (offset, segment_more read left offset asked.1))
    ]

-- what is refused behind segments is so whichever bytes follow it
pub refusal_reported : (first last : Option (List ℕ)) (ended : Bool) (segments : List Content) (held : List ℕ) (offset : ℕ)
    (reported : SourceFault) → All Fits segments → offset ≡ length (bundle segments) → Consumes first last (taken segments held)
    → IsRefusedAt offset held reported → IfSome first (λ all. IsReportedOfBundle last ended all reported)
refusal_reported None last ended segments held offset reported fits offset_is given refused = tt
refusal_reported (Some xs) None ended segments held offset reported fits offset_is given refused = absurd given
refusal_reported (Some xs) (Some ys) ended segments held offset reported fits offset_is given refused =
    rw (given, refused.3, offset_is) (more_reported (taken segments held) ys ended (length (bundle segments) + refused.0) refused.1
    (refused_after (bundle segments) held segments refused.0 refused.1 (whole_before segments fits) refused.2))

-- as many bytes as reads
pub given_many : (first last : Option (List ℕ)) (read : List ℕ) (most : ℕ) → Consumes first last read → most ≤ length read
    → IfSome first (λ bytes. most ≤ length bytes)
given_many None last read most given many = tt
given_many (Some xs) None read most given many = absurd given
given_many (Some xs) (Some ys) read most given many = omega (arith, ap length given, length-append read ys, many)

-- ---- how far a source is read

-- no further than what has no fault
pub read_without_fault : (most : ℕ) (first last : Option (List ℕ)) (segments : List Content) (rest : List ℕ) → All Fits segments → IsRest rest
    → Consumes first last (taken segments rest) → IsReadToFault most first last
read_without_fault most first last segments rest fits is_rest given = record {
  before = taken segments rest;
  segments = segments;
  rest = rest;
  splits = taken_splits segments rest fits;
  is_rest = is_rest;
  last = [];
  few = omega arith;
  read = subst (Consumes first last) (sym (append-nil (taken segments rest))) given;
}

-- or by some bytes more
pub read_more : (most : ℕ) (first mid last : Option (List ℕ)) (segments : List Content) (rest piece : List ℕ) → All Fits segments → IsRest rest
    → Consumes first mid (taken segments rest) → Consumes mid last piece → length piece ≤ most → IsReadToFault most first last
read_more most first mid last segments rest piece fits is_rest given next few = record {
  before = taken segments rest;
  segments = segments;
  rest = rest;
  splits = taken_splits segments rest fits;
  is_rest = is_rest;
  last = piece;
  few = few;
  read = Consumes-trans first mid last (taken segments rest) piece given next;
}
