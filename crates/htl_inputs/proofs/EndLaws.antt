-- An input whose last bytes end within a segment comes to its segments where it may, and else to its fault.
use Rattle.std.proofs.Common.{◌≡◌, ◌-◌, ℕ, Bool, true, false, List, [], length, Option, Some, None, refl, ap, arith, inl, length-append}
use Rattle.std.proofs.Common.{IfErr, IfOk, IfSome, Result, Ok, Err, Vec, Global, inr, subst, ◌<◌}
use Rattle.std.specs.Prelude.{nat_lt, if◌then◌else◌}
use Rattle.htl_command.specs.declared.question.InputForm.{InputForm}
use Rattle.htl_segment.specs.Bundles.{bundle, cut_off, is_early_end, IsRest, Splits}
use Rattle.htl_segment.specs.Content.{Content}
use Rattle.htl_segment.proofs.BundleLaws.{early_end}
use Rattle.htl_reading.specs.Sources.{IsLeft, begins_header}
use Rattle.htl_reading.specs.declared.outcome.Bundle.{Bundle}
use Rattle.htl_reading.specs.declared.outcome.EarlyEnd.{EarlyEnd}
use Rattle.htl_inputs.specs.Ends.{IsEnd, IsEndRefused, IsInput}
use Rattle.htl_segment.specs.declared.fault.Fault.{Fault}
use Rattle.htl_segment.specs.declared.fault.Fault.TheVariants.{Magic}
use Rattle.htl_inputs.specs.Inputs.{AsksMemory, HasBytes, IsReportedOfInput, MayBeLeft, reported_of}
use Rattle.htl_inputs.specs.Sources.{IsReportedOfSource}
use Rattle.htl_inputs.proofs.InputLaws.{digits_asked}
use Rattle.htl_inputs.specs.declared.cuts.Accepted.{Accepted}
use Rattle.htl_inputs.specs.declared.fault.RunFault.{RunFault}
use Rattle.htl_inputs.specs.declared.fault.RunFault.TheVariants.{Segment}

-- ---- the last bytes

pub nothing_left : (partial : Bool) → MayBeLeft partial []
nothing_left false = refl
nothing_left true = (record { cut_off = inl (omega arith) }, refl)

-- what may be left has a fault, that of bytes which end too early
pub left_fault : (partial : Bool) (rest : List ℕ) → MayBeLeft partial rest → IsRest rest
left_fault false rest left = rw left (nothing_left true).0
left_fault true rest left = left.0

early_cut : (rest : List ℕ) (short : Bool) → nat_lt (length rest) 32 ≡ short → is_early_end (cut_off rest) ≡ true
early_cut rest true is = rw is refl
early_cut rest false is = rw is refl

-- the fault of bytes that end too early is one that more bytes may mend
pub cut_off_early : (rest : List ℕ) → is_early_end (cut_off rest) ≡ true
cut_off_early rest = early_cut rest (nat_lt (length rest) 32) refl

begun_of : (begun : Bool) → None ≡ (if begun then None else Some Magic) → begun ≡ true
begun_of true told = refl
begun_of false told = absurd (cc told)

-- bytes that end within a segment have no fault only where they may be left
pub no_fault_told : (partial : Bool) (rest : List ℕ) (first : Fault) → is_early_end first ≡ true → None ≡ reported_of partial rest first
    → (partial ≡ true) × (begins_header rest ≡ true)
no_fault_told false rest first early told = absurd (cc told)
no_fault_told true rest first early told = (refl, begun_of (begins_header rest) (rw early at told))

-- memory is asked for where an input is cut, as it may be
asks_cut : (hex partial : Bool) (input bytes rest : List ℕ) (segments : List Content) → HasBytes hex input bytes → Splits bytes segments rest
    → partial ≡ true → 0 < length rest → MayBeLeft true rest → AsksMemory hex partial input
asks_cut true partial input bytes rest segments has split may some left =
    digits_asked partial input bytes has (omega (arith, some, ap length split.parts, length-append (bundle segments) rest))
asks_cut false partial input bytes rest segments has split may some left = (
  length (bundle segments),
  inr (
    may,
    record {
      before = segments;
      rest = rest;
      splits = subst (λ (b : List ℕ). Splits b segments rest) has split;
      offset_is = refl;
      some = some;
      is_rest = left.0;
    },
    left,
  ),
)

-- the rest begins after the segments
pub rest_at : (bytes rest : List ℕ) (ss : List Content) → Splits bytes ss rest → length bytes - length rest ≡ length (bundle ss)
rest_at bytes rest ss split = omega (arith, ap length split.parts, length-append (bundle ss) rest)

-- ---- the input

module _ (form : InputForm) (input bytes rest : List ℕ) (segments : List Content) (has : HasBytes form.hex input bytes)
    (split : Splits bytes segments rest) where
  -- an input whose bytes are segments and a rest that may be left is these segments, and cut where the rest isn't empty
  pub input_of : (end : Option EarlyEnd) → IsEnd form segments rest end → IsInput form input segments end
  input_of (Some end) is =
      let left : MayBeLeft true rest = (early_end rest end.fault is.2.fault_is is.2.early, is.1) in
      record {
        decoded = record { bytes = bytes; has = has; rest = rest; splits = split; left = rw (is.0) left };
        ends = record { bytes = bytes; has = has; segments = segments; rest = rest; splits = split; within = is.2 };
        asks = λ some. asks_cut form.hex form.partial input bytes rest segments has split is.0 is.2.some left;
      }
  input_of None is = record {
    decoded = record { bytes = bytes; has = has; rest = rest; splits = split; left = rw is (nothing_left form.partial) };
    ends = (segments, record { bytes = bytes; has = has; rest = rest; splits = split; left = is });
    asks = λ some. absurd (some refl);
  }

  pub input_refused : (place : ℕ) (fault : RunFault) → IsEndRefused form place (length (bundle segments)) rest fault
      → IsReportedOfInput form place input fault
  input_refused place fault refused = rw (refused.is) (
    refl,
    record {
      bytes = bytes;
      has = has;
      before = segments;
      rest = rest;
      splits = split;
      offset_is = refl;
      some = refused.some;
      first = refused.first;
      first_is = refused.first_is;
      reported = refused.reported;
    },
  )

-- what is accepted of it, and why it isn't
pub accepted_input : (form : InputForm) (input bytes rest : List ℕ) (segments : List Content) (list : Vec Content Global)
    (result : Result (Accepted (Vec Content Global)) RunFault) → HasBytes form.hex input bytes → Splits bytes segments rest
    → list.items ≡ segments → IfOk result (λ it. it.segments ≡ list) → IfOk result (λ it. IsEnd form segments rest it.end)
    → IfOk result (λ it. IsInput form input it.segments.items it.end)
accepted_input form input bytes rest segments list (Ok it) has split same kept end =
    rw (kept, same) (input_of form input bytes rest segments has split it.end end)
accepted_input form input bytes rest segments list (Err fault) has split same kept end = tt

-- where the rest of an input may not be left, its fault is reported of the input
pub refused_input : {S : Type 0} (form : InputForm) (place : ℕ) (input bytes rest : List ℕ) (segments : List Content)
    (result : Result S RunFault) → HasBytes form.hex input bytes → Splits bytes segments rest
    → IfErr result (IsEndRefused form place (length (bundle segments)) rest) → IfErr result (IsReportedOfInput form place input)
refused_input form place input bytes rest segments (Ok it) has split refused = tt
refused_input form place input bytes rest segments (Err fault) has split refused =
    input_refused form input bytes rest segments has split place fault refused

-- of a source of bytes
source_reported : (form : InputForm) (left : Option (List ℕ)) (ended : Bool) (place : ℕ) (bytes : List ℕ) (fault : RunFault)
    {offset : ℕ} {rest : List ℕ} → IsEndRefused form place offset rest fault → IsReportedOfInput form place bytes fault
    → IsReportedOfSource form left ended place bytes fault
source_reported form left ended place bytes (Segment at offset fault) refused reported = reported
source_reported form left ended place bytes fault refused reported = absurd (cc (refused.is))

-- where the rest of a source of bytes may not be left, its fault is reported of the source
pub source_refused : (form : InputForm) (bytes rest : List ℕ) (segments : List Content) → form.hex ≡ false → Splits bytes segments rest
    → (left : Option (List ℕ)) (ended : Bool) (place : ℕ) (fault : RunFault)
    → IsEndRefused form place (length (bundle segments)) rest fault → IsReportedOfSource form left ended place bytes fault
source_refused form bytes rest segments is split left ended place fault refused =
    source_reported form left ended place bytes fault refused (input_refused form bytes bytes rest segments (rw is refl) split place fault refused)

-- a source whose bytes are segments and a rest that may be left is these segments, and cut where the rest isn't empty
pub source_of : (form : InputForm) (bytes rest : List ℕ) (segments : List Content) → form.hex ≡ false → Splits bytes segments rest
    → (end : Option EarlyEnd) → IsEnd form segments rest end → IsInput form bytes segments end
source_of form bytes rest segments is split end ends = input_of form bytes bytes rest segments (rw is refl) split end ends

-- what was read of it
abbrev WasRead : Bundle (Vec Content Global) → List ℕ → Type 0
WasRead read bytes = (rest : List ℕ) × Splits bytes read.segments.items rest × IsLeft read.segments.items rest read.early_end

-- what was read of a source of bytes, where its rest may be left, is accepted as its segments
pub accepted_source : (form : InputForm) (given : Option (List ℕ)) (read : Bundle (Vec Content Global))
    (result : Result (Accepted (Vec Content Global)) RunFault) → form.hex ≡ false → IfSome given (WasRead read)
    → IfOk result (λ it. it.segments ≡ read.segments)
    → ((segments : List Content) (rest : List ℕ) → IsLeft segments rest read.early_end → IfOk result (λ it. IsEnd form segments rest it.end))
    → IfOk result (λ it. IfSome given (λ bytes. IsInput form bytes it.segments.items it.end))
accepted_source form None read (Ok it) is of kept end = tt
accepted_source form (Some bytes) read (Ok it) is of kept end =
    rw kept (source_of form bytes of.0 read.segments.items is of.1 it.end (end read.segments.items of.0 of.2))
accepted_source form given read (Err fault) is of kept end = tt

-- what was read of a source of bytes, where its rest may not be left, is reported
pub refused_source : (form : InputForm) (given left : Option (List ℕ)) (ended : Bool) (place : ℕ) (read : Bundle (Vec Content Global))
    (result : Result (Accepted (Vec Content Global)) RunFault) → form.hex ≡ false → IfSome given (WasRead read)
    → ((segments : List Content) (rest : List ℕ) → IsLeft segments rest read.early_end
    → IfErr result (IsEndRefused form place (length (bundle segments)) rest))
    → IfErr result (λ fault. IfSome given (λ bytes. IsReportedOfSource form left ended place bytes fault))
refused_source form given left ended place read (Ok it) is of refused = tt
refused_source form None left ended place read (Err fault) is of refused = tt
refused_source form (Some bytes) left ended place read (Err fault) is of refused =
    source_refused form bytes of.0 read.segments.items is of.1 left ended place fault (refused read.segments.items of.0 of.2)
