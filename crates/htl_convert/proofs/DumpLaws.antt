-- The segments at the front of some bytes are dumped, and where no more of them is a segment, it is reported why.
use Rattle.std.proofs.Common.{◌≡◌, ◌+◌, ◌-◌, ◌<◌, ◌≤◌, ℕ, Bool, true, false, List, [], ◌∷◌, ◌++◌, length, drop, take, refl, sym, ap, ◌∙◌}
use Rattle.std.proofs.Common.{arith, inl, inr, subst, append_assoc, append-nil, Option, Some, None, IfSome, Result, Ok, Err, Vec, Global}
use Rattle.std.specs.Prelude.{is_err, slice_get, IfErr, IfOk}
use Rattle.std.specs.Io.KnownBytes.{Appends, Consumes, IsAtEnd, ReadConsumes}
use Rattle.std.proofs.KnownBytes.{Appends-nil, Appends-trans, Consumes-kept, Consumes-trans}
use Rattle.std.proofs.Math.Seq.{drop-append_seam, take-append_seam}
use Rattle.std.proofs.lemmas.Bool.{cases_lt}
use Rattle.std.proofs.lemmas.Grind.{flat_map-append}
use Rattle.std.proofs.lemmas.List.{flat_map_more, length-append, take_all, take-append-le}
use Rattle.std.proofs.lemmas.List.Elements.{All-append}
use Rattle.htl_device.specs.Devices.{AppendsPrefix}
use Rattle.htl_device.specs.States.{SourceState}
use Rattle.htl_device.specs.declared.source.TheConstants.{MAX_READ_LEN}
use Rattle.htl_device.specs.declared.whole.TheConstants.{MAX_READS}
use Rattle.htl_command.specs.declared.question.InputForm.{InputForm}
use Rattle.htl_segment.specs.Content.{Content, Fits}
use Rattle.htl_segment.specs.Encoding.{BeginsWith}
use Rattle.htl_segment.specs.Faults.{first_fault}
use Rattle.htl_segment.specs.Bundles.{bundle, is_early_end, IsRest, SegmentAt, Splits}
use Rattle.htl_segment.specs.declared.fault.Fault.{Fault}
use Rattle.htl_segment.proofs.BundleLaws.{late_stays, no_fault_stays, splits_one}
use Rattle.htl_text.specs.Texts.{segment_text}
use Rattle.htl_inputs.specs.Faults.{of_digits}
use Rattle.htl_inputs.specs.Inputs.{AsksMemory, HasBytes}
use Rattle.htl_inputs.specs.Sources.{EndsBefore}
use Rattle.htl_inputs.specs.Ends.{IsEnd, IsEndRefused}
use Rattle.htl_inputs.specs.declared.fault.RunFault.{RunFault}
use Rattle.htl_inputs.specs.declared.fault.RunFault.TheVariants.{Segment, Read, Memory, Write}
use Rattle.htl_inputs.proofs.DigitsLaws.{digits_reported}
use Rattle.htl_inputs.proofs.EndLaws.{input_of, rest_at}
use Rattle.htl_inputs.proofs.InputLaws.{asks_at, decode_next, late_reported}
use Rattle.htl_inputs.proofs.ReadingLaws.{ill}
use Rattle.htl_convert.specs.Dumps.{AreWritten, Dumps, InputStops, IsReportedOfDump, is_failed_write, texts_of}
use Rattle.htl_convert.specs.Dumping.{DumpedSoFar, DumpsInput, DumpEndsAt, FrontDumped, FrontStops, WholeStops}
use Rattle.htl_reading.specs.declared.outcome.EarlyEnd.{EarlyEnd}
use Rattle.htl_reading.specs.Digits.{ReadsDigits}
use Rattle.htl_reading.specs.declared.digits.DigitsFault.{DigitsFault}
use Rattle.htl_reading.specs.declared.digits.DigitsFault.TheVariants as digits_faults
use Rattle.htl_reading.specs.Keepers.{taken}
use Rattle.htl_reading.specs.Sources.{IsReadToFault}
use Rattle.htl_reading.proofs.FaultLaws.{read_more, read_without_fault, taken_splits}
use Rattle.htl_segment.proofs.PiecesLaws.{bundle-append}
use Rattle.htl_device.proofs.KnownBytes.{prefix_after}

-- ---- what was written

-- some first bytes of a part are some of the whole
pub prefix_more : (a b : Option (List ℕ)) (xs ys : List ℕ) → AppendsPrefix a b xs → AppendsPrefix a b (xs ++ ys)
prefix_more a b xs ys part =
    elim (cases_lt part.0 (length xs)) [
      | inl few ↦ (part.0, subst (Appends a b) (sym (take-append-le part.0 xs ys (omega (arith, few)))) part.1)
      | inr many ↦ (
        length xs,
        subst (Appends a b) (take_all part.0 xs (omega (arith, many)) ∙ sym (take-append_seam xs ys)) part.1,
      )
    ]

texts_more : (ss ts : List Content) → texts_of (ss ++ ts) ≡ texts_of ss ++ texts_of ts
texts_more ss ts = flat_map-append segment_text ss ts

appends_after : (a b c : Option (List ℕ)) (ss ts : List Content) → Appends a b (texts_of ss) → Appends b c (texts_of ts)
    → Appends a c (texts_of (ss ++ ts))
appends_after a b c ss ts first next =
    subst (Appends a c) (sym (texts_more ss ts)) (Appends-trans a b c (texts_of ss) (texts_of ts) first next)

-- what was written of some segments, and of more behind them before a fault, was written of both before it
pub written_after : (a b c : Option (List ℕ)) (ss ts : List Content) (fault : RunFault) → Appends a b (texts_of ss) → AreWritten fault b c ts
    → AreWritten fault a c (ss ++ ts)
written_after a b c ss ts Write first next =
    subst (AppendsPrefix a c) (sym (texts_more ss ts)) (prefix_after a b c (texts_of ss) (texts_of ts) first next)
written_after a b c ss ts fault first next = appends_after a b c ss ts first next

-- ---- the front of bytes

one_more : (bytes rest : List ℕ) (n : ℕ) (s : Content) (ss : List Content) → Splits bytes ss rest → BeginsWith rest n s
    → Splits bytes (ss ++ s ∷ []) (drop n rest)
one_more bytes rest n s ss split front =
    let next = splits_one bytes [] ss rest n s (record { more = ss; pushed = refl; splits = split }) front in
    subst (λ (all : List Content). Splits bytes all (drop n rest)) (sym next.pushed) next.splits

-- with the text of the segment at the front of the rest, one segment more was dumped
pub front_next : (bytes rest : List ℕ) (n : ℕ) (s : Content) (old mid new : Option (List ℕ)) → FrontDumped bytes rest old mid
    → BeginsWith rest n s → Appends mid new (segment_text s) → FrontDumped bytes (drop n rest) old new
front_next bytes rest n s old mid new so_far front written = record {
  segments = so_far.segments ++ s ∷ [];
  splits = one_more bytes rest n s so_far.segments so_far.splits front;
  written = subst (Appends old new) (flat_map_more segment_text [] so_far.segments s)
      (Appends-trans old mid new (texts_of so_far.segments) (segment_text s) so_far.written written);
}

-- no segment follows, whatever follows
pub front_refused : (place start : ℕ) (bytes rest : List ℕ) (old new : Option (List ℕ)) (fault : Fault) → FrontDumped bytes rest old new
    → first_fault rest ≡ Some fault → is_early_end fault ≡ false → 0 < length rest
    → FrontStops place start bytes old new (Segment place (start + (length bytes - length rest)) fault)
front_refused place start bytes rest old new fault so_far is late some = record {
  segments = so_far.segments;
  rest = rest;
  splits = so_far.splits;
  ends = λ partial more. (
    refl,
    ap (λ (n : ℕ). start + n) (rest_at bytes rest so_far.segments so_far.splits),
    omega (arith, some, length-append rest more),
    fault,
    late_stays rest more fault late is,
    late_reported partial (rest ++ more) fault late,
  );
  written = so_far.written;
}

-- memory was refused for the next segment
pub front_memory : (place start : ℕ) (bytes rest : List ℕ) (old new : Option (List ℕ)) → FrontDumped bytes rest old new
    → first_fault rest ≡ None → FrontStops place start bytes old new Memory
front_memory place start bytes rest old new so_far none = record {
  segments = so_far.segments;
  rest = rest;
  splits = so_far.splits;
  ends = λ partial more. no_fault_stays rest more none;
  written = so_far.written;
}

-- the next segment could not be written
pub front_unwritten : (place start : ℕ) (bytes rest : List ℕ) (n : ℕ) (s : Content) (old mid new : Option (List ℕ))
    → FrontDumped bytes rest old mid → BeginsWith rest n s → AppendsPrefix mid new (segment_text s)
    → FrontStops place start bytes old new Write
front_unwritten place start bytes rest n s old mid new so_far front part = record {
  segments = so_far.segments ++ s ∷ [];
  rest = drop n rest;
  splits = one_more bytes rest n s so_far.segments so_far.splits front;
  ends = λ partial more. tt;
  written = subst (AppendsPrefix old new) (flat_map_more segment_text [] so_far.segments s)
      (prefix_after old mid new (texts_of so_far.segments) (segment_text s) so_far.written part);
}

-- ---- all bytes of an input

-- a dump that stops whatever bytes follow stops for the whole bytes
whole_of_front : (form : InputForm) (place : ℕ) (bytes : List ℕ) (old new : Option (List ℕ)) (fault : RunFault)
    → FrontStops place 0 bytes old new fault → WholeStops form place bytes old new fault
whole_of_front form place bytes old new fault stops = record {
  segments = stops.segments;
  rest = stops.rest;
  splits = stops.splits;
  ends =
      let start : 0 + length (bundle stops.segments) ≡ length (bundle stops.segments) = omega arith in
      subst (λ (l : List ℕ). DumpEndsAt form.partial place (length (bundle stops.segments)) l fault) (append-nil stops.rest)
      (subst (λ (n : ℕ). DumpEndsAt form.partial place n (stops.rest ++ []) fault) start (stops.ends form.partial []));
  written = stops.written;
}

-- all bytes end within a segment and may not
pub whole_refused : (form : InputForm) (place : ℕ) (bytes rest : List ℕ) (old new : Option (List ℕ)) (fault : RunFault)
    (front : FrontDumped bytes rest old new) → IsEndRefused form place (length (bundle front.segments)) rest fault
    → WholeStops form place bytes old new fault
whole_refused form place bytes rest old new fault front refused = rw (refused.is) record {
  segments = front.segments;
  rest = rest;
  splits = front.splits;
  ends = (refl, refl, refused.some, refused.first, refused.first_is, refused.reported);
  written = front.written;
}

-- where the front was dumped and the rest is one that may be left, all bytes were dumped
pub dumped_whole : (form : InputForm) (bytes rest : List ℕ) (old new : Option (List ℕ)) (result : Result (Option EarlyEnd) RunFault)
    (front : FrontDumped bytes rest old new) → IfOk result (IsEnd form front.segments rest)
    → IfOk result (λ end. (rest : List ℕ) × (front : FrontDumped bytes rest old new) × IsEnd form front.segments rest end)
dumped_whole form bytes rest old new (Ok is_cut) front end = (rest, front, end)
dumped_whole form bytes rest old new (Err fault) front end = tt

-- where the rest ends within a segment and may not, the dump of all bytes ends there
pub refused_whole : (form : InputForm) (place : ℕ) (bytes rest : List ℕ) (old new : Option (List ℕ)) (offset : ℕ)
    (result : Result (Option EarlyEnd) RunFault) (front : FrontDumped bytes rest old new) → offset ≡ length (bundle front.segments)
    → IfErr result (IsEndRefused form place offset rest) → IfErr result (WholeStops form place bytes old new)
refused_whole form place bytes rest old new offset (Ok is_cut) front at refused = tt
refused_whole form place bytes rest old new offset (Err fault) front at refused =
    whole_refused form place bytes rest old new fault front
    (subst (λ (n : ℕ). IsEndRefused form place n rest fault) at refused)

-- an input of which all bytes were dumped, but for those that end within a segment and may
pub dumps_front : (form : InputForm) (input bytes rest : List ℕ) (end : Option EarlyEnd) (old new : Option (List ℕ)) → HasBytes form.hex input bytes
    → (front : FrontDumped bytes rest old new) → IsEnd form front.segments rest end → DumpsInput form input end old new
dumps_front form input bytes rest end old new has front ends =
    (front.segments, input_of form input bytes rest front.segments has front.splits end ends, front.written)

segment_at : (bytes rest : List ℕ) (ss : List Content) → Splits bytes ss rest → first_fault rest ≡ None → SegmentAt bytes (length (bundle ss))
segment_at bytes rest ss split none = record { before = ss; rest = rest; splits = split; offset_is = refl; no_fault = none }

-- what more is to be known where memory is refused or a write fails
abbrev Tells : InputForm → Option (List ℕ) → Bool → ℕ → List ℕ → RunFault → Type 0
Tells form left ended place input Memory = AsksMemory form.hex form.partial input → IsReportedOfDump form left ended place input Memory
Tells form left ended place input Write = form.hex ≡ false → ended ≡ false
Tells form left ended place input other = Unit {0}

input_stops : (form : InputForm) (left : Option (List ℕ)) (ended : Bool) (place : ℕ) (input bytes : List ℕ) (old new : Option (List ℕ))
    (fault : RunFault) → HasBytes form.hex input bytes → WholeStops form place bytes old new fault → Tells form left ended place input fault
    → InputStops form left ended place input old new fault
input_stops form left ended place input bytes old new (Segment at offset fault) has stops tells = record {
  reported = (
    stops.ends.0,
    record {
      bytes = bytes;
      has = has;
      before = stops.segments;
      rest = stops.rest;
      splits = stops.splits;
      offset_is = stops.ends.1;
      some = stops.ends.2;
      first = stops.ends.3;
      first_is = stops.ends.4;
      reported = stops.ends.5;
    },
  );
  segments = stops.segments;
  are = (bytes, stops.rest, has, stops.splits, stops.ends.1);
  written = stops.written;
}
input_stops form left ended place input bytes old new Memory has stops tells = record {
  reported = tells (asks_at form.hex form.partial input bytes _ has (segment_at bytes stops.rest stops.segments stops.splits stops.ends));
  segments = stops.segments;
  are = inr (bytes, stops.rest, has, stops.splits);
  written = stops.written;
}
input_stops form left ended place input bytes old new Write has stops tells = record {
  reported = tells;
  segments = stops.segments;
  are = inr (bytes, stops.rest, has, stops.splits);
  written = stops.written;
}
input_stops form left ended place input bytes old new fault has stops tells = absurd (stops.ends)

-- the input ends within a segment and may not
refused_stops : (form : InputForm) (left : Option (List ℕ)) (ended : Bool) (place offset : ℕ) (input bytes rest : List ℕ)
    (old new : Option (List ℕ)) (fault : RunFault) → HasBytes form.hex input bytes → IsEndRefused form place offset rest fault
    → WholeStops form place bytes old new fault → InputStops form left ended place input old new fault
refused_stops form left ended place offset input bytes rest old new fault has refused stops =
    rw (refused.is) (input_stops form left ended place input bytes old new (Segment place offset refused.told) has
    (subst (λ (f : RunFault). WholeStops form place bytes old new f) refused.is stops) tt)

tells_text : (form : InputForm) (left : Option (List ℕ)) (ended : Bool) (place : ℕ) (text : List ℕ) (fault : RunFault) → form.hex ≡ true
    → Tells form left ended place text fault
tells_text form left ended place text Memory hex = λ asks. inl (hex, subst (λ (b : Bool). AsksMemory b form.partial text) hex asks)
tells_text form left ended place text Write hex = λ bytes. absurd (cc (hex, bytes))
tells_text form left ended place text fault hex = tt

-- where all bytes that a text writes were dumped, the text was
pub text_dumped : (form : InputForm) (text bytes : List ℕ) (old new : Option (List ℕ)) (result : Result (Option EarlyEnd) RunFault)
    → HasBytes form.hex text bytes
    → IfOk result (λ end. (rest : List ℕ) × (front : FrontDumped bytes rest old new) × IsEnd form front.segments rest end)
    → IfOk result (λ end. DumpsInput form text end old new)
text_dumped form text bytes old new (Ok end) has dumped = dumps_front form text bytes dumped.0 end old new has dumped.1 dumped.2
text_dumped form text bytes old new (Err fault) has dumped = tt

-- where the dump of their front stops, that of the text does
pub front_stops_text : (form : InputForm) (left : Option (List ℕ)) (ended : Bool) (place : ℕ) (text bytes : List ℕ) (old new : Option (List ℕ))
    (fault : RunFault) → form.hex ≡ true → HasBytes form.hex text bytes → FrontStops place 0 bytes old new fault
    → InputStops form left ended place text old new fault
front_stops_text form left ended place text bytes old new fault hex has stops =
    input_stops form left ended place text bytes old new fault has (whole_of_front form place bytes old new fault stops)
    (tells_text form left ended place text fault hex)

-- where the dump of all of them stops, that of the text does
pub text_stops : (form : InputForm) (left : Option (List ℕ)) (ended : Bool) (place : ℕ) (text bytes : List ℕ) (old new : Option (List ℕ))
    (result : Result (Option EarlyEnd) RunFault) → form.hex ≡ true → HasBytes form.hex text bytes
    → IfErr result (WholeStops form place bytes old new) → IfErr result (InputStops form left ended place text old new)
text_stops form left ended place text bytes old new (Ok end) hex has stops = tt
text_stops form left ended place text bytes old new (Err fault) hex has stops =
    input_stops form left ended place text bytes old new fault has stops (tells_text form left ended place text fault hex)

abbrev unread : DigitsFault → Result (Vec ℕ Global) DigitsFault
unread fault = Err fault

-- nothing is dumped of a source whose digits can't be read
pub unread_dump : (old new : SourceState) (form : InputForm) (place : ℕ) (given : Option (List ℕ)) (fault : DigitsFault) (out : Option (List ℕ))
    → form.hex ≡ true → ReadsDigits MAX_READS given old new (unread fault)
    → IfSome given (λ input. InputStops form new.remaining new.ended place input out out (of_digits place fault))
unread_dump old new form place None fault out hex is = tt
unread_dump old new form place (Some input) (digits_faults.Foreign at) out hex is = record {
  reported = digits_reported old new form place (Some input) (digits_faults.Foreign at) hex is;
  segments = [];
  are = refl;
  written = Appends-nil out;
}
unread_dump old new form place (Some input) digits_faults.Odd out hex is = record {
  reported = digits_reported old new form place (Some input) digits_faults.Odd hex is;
  segments = [];
  are = refl;
  written = Appends-nil out;
}
unread_dump old new form place (Some input) digits_faults.Read out hex is =
    record { reported = refl; segments = []; are = rw hex refl; written = Appends-nil out }
unread_dump old new form place (Some input) digits_faults.NoMemory out hex is =
    let kept = is.memory refl in
    record { reported = inr (kept.0, kept.1, kept.2, rw hex (kept.3)); segments = []; are = inl refl; written = Appends-nil out }

-- ---- a source that is dumped as it is read

-- what was taken in, one piece more, and its segments
regrouped : (held piece rest : List ℕ) (ss ts : List Content) → Splits (held ++ piece) ts rest
    → (bundle ss ++ held) ++ piece ≡ bundle (ss ++ ts) ++ rest
regrouped held piece rest ss ts split =
    append_assoc (bundle ss) held piece ∙ ap (λ (l : List ℕ). bundle ss ++ l) split.parts ∙ sym (append_assoc (bundle ss) (bundle ts) rest)
    ∙ ap (λ (l : List ℕ). l ++ rest) (sym (bundle-append ss ts))

-- where the front of the held bytes and a piece was dumped, what a source gave was dumped but for the rest
pub so_far_next : (first mid last : Option (List ℕ)) (start : ℕ) (held piece rest : List ℕ) (old out new : Option (List ℕ))
    → DumpedSoFar first mid start held old out → Consumes mid last piece → FrontDumped (held ++ piece) rest out new → IsRest rest
    → DumpedSoFar first last (start + (length (held ++ piece) - length rest)) rest old new
so_far_next first mid last start held piece rest old out new so_far read next is_rest = record {
  segments = so_far.segments ++ next.segments;
  fits = All-append Fits so_far.segments next.segments so_far.fits next.splits.fits;
  start_is = omega (
    arith,
    so_far.start_is,
    rest_at (held ++ piece) rest next.segments next.splits,
    ap length (bundle-append so_far.segments next.segments),
    length-append (bundle so_far.segments) (bundle next.segments),
  );
  is_rest = is_rest;
  given = subst (Consumes first last) (regrouped held piece rest so_far.segments next.segments next.splits)
      (Consumes-trans first mid last (bundle so_far.segments ++ held) piece so_far.given read);
  written = appends_after old out new so_far.segments next.segments so_far.written next.written;
}

-- all bytes of a source whose next ones end the dump
stops_behind : (xs ys zs : List ℕ) (place start : ℕ) (held piece : List ℕ) (old out new : Option (List ℕ)) (fault : RunFault)
    → DumpedSoFar (Some xs) (Some ys) start held old out → ys ≡ piece ++ zs → FrontStops place start (held ++ piece) out new fault
    → (form : InputForm) → WholeStops form place xs old new fault
stops_behind xs ys zs place start held piece old out new fault so_far read stops form =
    let ss = so_far.segments in
    let ts = stops.segments in
    let whole : xs ≡ bundle (ss ++ ts) ++ (stops.rest ++ zs) =
    so_far.given ∙ ap (λ (l : List ℕ). (bundle ss ++ held) ++ l) read ∙ sym (append_assoc (bundle ss ++ held) piece zs)
    ∙ ap (λ (l : List ℕ). l ++ zs) (regrouped held piece stops.rest ss ts stops.splits) ∙ append_assoc (bundle (ss ++ ts)) stops.rest zs in
    let offset : start + length (bundle ts) ≡ length (bundle (ss ++ ts)) =
    omega (arith, so_far.start_is, ap length (bundle-append ss ts), length-append (bundle ss) (bundle ts)) in
    record {
      segments = ss ++ ts;
      rest = stops.rest ++ zs;
      splits = record { parts = whole; fits = All-append Fits ss ts so_far.fits stops.splits.fits };
      ends = subst (λ (n : ℕ). DumpEndsAt form.partial place n (stops.rest ++ zs) fault) offset (stops.ends form.partial zs);
      written = written_after old out new ss ts fault so_far.written stops.written;
    }

-- a source of bytes gave some, and its end isn't found
refused_bytes : (form : InputForm) (xs : List ℕ) (mid last : Option (List ℕ)) (ended : Bool) (place start : ℕ) (held piece : List ℕ)
    (old out : Option (List ℕ)) → form.hex ≡ false → DumpedSoFar (Some xs) mid start held old out → Consumes mid last piece → ended ≡ false
    → 0 < length piece → IsReportedOfDump form last ended place xs Memory
refused_bytes form xs mid last ended place start held piece old out is so_far read inside some =
    let before = taken so_far.segments held in
    inr (
      inside,
      before ++ piece,
      Consumes-trans (Some xs) mid last before piece so_far.given read,
      rw is (omega (arith, some, length-append before piece)),
    )

tells_bytes : (form : InputForm) (left : Option (List ℕ)) (ended : Bool) (place : ℕ) (bytes : List ℕ) (fault : RunFault)
    → IsReportedOfDump form left ended place bytes Memory → ended ≡ false → Tells form left ended place bytes fault
tells_bytes form left ended place bytes Memory refused inside = λ asks. refused
tells_bytes form left ended place bytes Write refused inside = λ is. inside
tells_bytes form left ended place bytes fault refused inside = tt

-- where the dump of the held bytes and a piece stops, that of the source does
pub so_far_stops : (form : InputForm) (first mid last : Option (List ℕ)) (ended : Bool) (place start : ℕ) (held piece : List ℕ)
    (old out new : Option (List ℕ)) (fault : RunFault) → form.hex ≡ false → DumpedSoFar first mid start held old out → Consumes mid last piece
    → ended ≡ false → 0 < length piece → FrontStops place start (held ++ piece) out new fault
    → IfSome first (λ bytes. InputStops form last ended place bytes old new fault)
so_far_stops form None mid last ended place start held piece old out new fault is so_far read inside some stops = tt
so_far_stops form (Some xs) None last ended place start held piece old out new fault is so_far read inside some stops = absurd (so_far.given)
so_far_stops form (Some xs) (Some ys) None ended place start held piece old out new fault is so_far read inside some stops = absurd read
so_far_stops form (Some xs) (Some ys) (Some zs) ended place start held piece old out new fault is so_far read inside some stops =
    input_stops form (Some zs) ended place xs xs old new fault (rw is refl)
    (stops_behind xs ys zs place start held piece old out new fault so_far read stops form) (tells_bytes form (Some zs) ended place xs fault
    (refused_bytes form xs (Some ys) (Some zs) ended place start held piece old out is so_far read inside some) inside)

-- the source has ended, and these are its bytes
record HasEnded (first last : Option (List ℕ)) (start : ℕ) (held : List ℕ) (old new : Option (List ℕ)) (bytes : List ℕ) : Type 0 where
  front : FrontDumped bytes held old new
  start_is : start ≡ length (bundle front.segments)

so_far_ended : (first mid last : Option (List ℕ)) (start : ℕ) (held : List ℕ) (old new : Option (List ℕ))
    → DumpedSoFar first mid start held old new → Consumes mid last [] → IsAtEnd last → IfSome first (HasEnded first last start held old new)
so_far_ended None mid last start held old new so_far none end = tt
so_far_ended (Some xs) None last start held old new so_far none end = absurd (so_far.given)
so_far_ended (Some xs) (Some ys) None start held old new so_far none end = absurd none
so_far_ended (Some xs) (Some ys) (Some zs) start held old new so_far none end =
    let whole : xs ≡ bundle so_far.segments ++ held =
    so_far.given ∙ ap (λ (l : List ℕ). (bundle so_far.segments ++ held) ++ l) (none ∙ end)
    ∙ append-nil (bundle so_far.segments ++ held) in
    record {
      front = record {
        segments = so_far.segments;
        splits = record { parts = whole; fits = so_far.fits };
        written = so_far.written;
      };
      start_is = so_far.start_is;
    }

-- the source could not be read on
pub so_far_unread : (form : InputForm) (first last : Option (List ℕ)) (ended : Bool) (place start : ℕ) (held : List ℕ)
    (old new : Option (List ℕ)) → form.hex ≡ false → DumpedSoFar first last start held old new
    → IfSome first (λ bytes. InputStops form last ended place bytes old new (Read place))
so_far_unread form None last ended place start held old new is so_far = tt
so_far_unread form (Some xs) last ended place start held old new is so_far = record {
  reported = refl;
  segments = so_far.segments;
  are = rw is (
    taken so_far.segments held,
    held,
    so_far.given,
    taken_splits so_far.segments held so_far.fits,
    so_far.is_rest,
  );
  written = so_far.written;
}

-- a read that failed gave nothing
pub so_far_failed : {E : Type 0} (first mid last : Option (List ℕ)) (start : ℕ) (held buffer : List ℕ) (old new : Option (List ℕ))
    (result : Result ℕ E) → is_err result ≡ true → ReadConsumes mid last result buffer → DumpedSoFar first mid start held old new
    → DumpedSoFar first last start held old new
so_far_failed first mid last start held buffer old new (Ok n) failed read so_far = absurd cc
so_far_failed first mid last start held buffer old new (Err e) failed read so_far = record {
  segments = so_far.segments;
  fits = so_far.fits;
  start_is = so_far.start_is;
  is_rest = so_far.is_rest;
  given = Consumes-kept first mid last (bundle so_far.segments ++ held) so_far.given read;
  written = so_far.written;
}

-- memory was refused for the bytes that were read last
pub so_far_memory : (form : InputForm) (first mid last : Option (List ℕ)) (ended : Bool) (place start : ℕ) (held piece : List ℕ) (old new : Option (List ℕ))
    → form.hex ≡ false → DumpedSoFar first mid start held old new → Consumes mid last piece → ended ≡ false → 0 < length piece
    → IfSome first (λ bytes. InputStops form last ended place bytes old new Memory)
so_far_memory form None mid last ended place start held piece old new is so_far read inside some = tt
so_far_memory form (Some xs) None last ended place start held piece old new is so_far read inside some = absurd (so_far.given)
so_far_memory form (Some xs) (Some ys) last ended place start held piece old new is so_far read inside some = record {
  reported = refused_bytes form xs (Some ys) last ended place start held piece old new is so_far read inside some;
  segments = so_far.segments;
  are = inr (
    xs,
    held ++ ys,
    rw is refl,
    record { parts = so_far.given ∙ append_assoc (bundle so_far.segments) held ys; fits = so_far.fits },
  );
  written = so_far.written;
}

-- what was dumped so far has no fault
pub so_far_read : (most : ℕ) (first now : Option (List ℕ)) (start : ℕ) (held : List ℕ) (old new : Option (List ℕ))
    → DumpedSoFar first now start held old new → IsReadToFault most first now
so_far_read most first now start held old new so_far =
    read_without_fault most first now so_far.segments held so_far.fits so_far.is_rest so_far.given

-- a source that gives one piece more is read no further than one read behind its fault
pub so_far_once_more : (first mid last : Option (List ℕ)) (start : ℕ) (held piece : List ℕ) (old new : Option (List ℕ))
    → DumpedSoFar first mid start held old new → Consumes mid last piece → length piece ≤ MAX_READ_LEN → IsReadToFault MAX_READ_LEN first last
so_far_once_more first mid last start held piece old new so_far read few =
    read_more MAX_READ_LEN first mid last so_far.segments held piece so_far.fits so_far.is_rest so_far.given read few

-- ---- which input a fault names

-- no fault of bytes at a front is a failed read
pub front_no_read : (place start : ℕ) (bytes : List ℕ) (old new : Option (List ℕ)) (fault : RunFault) → FrontStops place start bytes old new fault
    → (at : ℕ) → fault ≡ Read at → ⊥
front_no_read place start bytes old new fault stops at is =
    (subst (λ (f : RunFault). FrontStops place start bytes old new f) is stops).ends false []

-- a fault of bytes at a front names no input before the one at the place
pub front_named : (place start : ℕ) (bytes : List ℕ) (old new : Option (List ℕ)) (fault : RunFault) → FrontStops place start bytes old new fault
    → (later : ℕ) → EndsBefore fault later → place < later
front_named place start bytes old new (Segment at offset fault) stops later before = omega (arith, (stops.ends false []).0, before)
front_named place start bytes old new Memory stops later before = absurd before
front_named place start bytes old new Write stops later before = absurd before
front_named place start bytes old new fault stops later before = absurd (stops.ends false [])

-- ---- the end of a source

-- at the end of a source of bytes, its dump ends well where what is held is one that may be left
pub finished : (form : InputForm) (first mid last : Option (List ℕ)) (start : ℕ) (held : List ℕ) (old new : Option (List ℕ))
    (result : Result (Option EarlyEnd) RunFault) → form.hex ≡ false → DumpedSoFar first mid start held old new → Consumes mid last [] → IsAtEnd last
    → ((segments : List Content) → start ≡ length (bundle segments) → IfOk result (IsEnd form segments held))
    → IfOk result (λ end. IfSome first (λ bytes. DumpsInput form bytes end old new))
finished form None mid last start held old new (Ok is_cut) is so_far none end ends = tt
finished form (Some xs) mid last start held old new (Ok is_cut) is so_far none end ends =
    let at = so_far_ended (Some xs) mid last start held old new so_far none end in
    dumps_front form xs xs held is_cut old new (rw is refl) at.front (ends at.front.segments at.start_is)
finished form first mid last start held old new (Err fault) is so_far none end ends = tt

-- at the end of a source of bytes, its dump ends within a segment where that may not be left
pub finished_cut : (form : InputForm) (first mid last : Option (List ℕ)) (ended : Bool) (place start : ℕ) (held : List ℕ)
    (old new : Option (List ℕ)) (result : Result (Option EarlyEnd) RunFault) → form.hex ≡ false → DumpedSoFar first mid start held old new
    → Consumes mid last [] → IsAtEnd last
    → ((segments : List Content) → start ≡ length (bundle segments) → IfErr result (IsEndRefused form place start held))
    → IfErr result (λ fault. IfSome first (λ bytes. InputStops form last ended place bytes old new fault))
finished_cut form first mid last ended place start held old new (Ok is_cut) is so_far none end refused = tt
finished_cut form None mid last ended place start held old new (Err fault) is so_far none end refused = tt
finished_cut form (Some xs) mid last ended place start held old new (Err fault) is so_far none end refused =
    let at = so_far_ended (Some xs) mid last start held old new so_far none end in
    let told = refused so_far.segments so_far.start_is in
    refused_stops form last ended place start xs xs held old new fault (rw is refl) told (whole_refused form place xs held old new fault at.front
    (subst (λ (n : ℕ). IsEndRefused form place n held fault) at.start_is told))

-- the bytes that are kept are the rest
pub kept_last : (bytes rest : List ℕ) (old new : Option (List ℕ)) → FrontDumped bytes rest old new
    → drop (length bytes - length rest) bytes ≡ rest
kept_last bytes rest old new so_far =
    rw (rest_at bytes rest so_far.segments so_far.splits) (ap (drop (length (bundle so_far.segments))) so_far.splits.parts
    ∙ drop-append_seam (bundle so_far.segments) rest)

-- the rest is no longer than the bytes
pub rest_inside : (bytes rest : List ℕ) (old new : Option (List ℕ)) → FrontDumped bytes rest old new → length rest ≤ length bytes
rest_inside bytes rest old new so_far = omega (arith, ap length so_far.splits.parts, length-append (bundle so_far.segments) rest)

-- ---- inputs one after another

-- the dump of the inputs before a place, and that of the one there, is the dump of one input more
pub dumps_next : (form : InputForm) (texts : List (List ℕ)) (place : ℕ) (input : List ℕ) (end : Option EarlyEnd) (old mid new : Option (List ℕ))
    → slice_get texts place ≡ Some input → Dumps form (take place texts) old mid → DumpsInput form input end mid new
    → Dumps form (take (place + 1) texts) old new
dumps_next form texts place input end old mid new here so_far next = (
  so_far.0 ++ next.0,
  decode_next form texts place input so_far.0 next.0 here so_far.1 next.1.decoded,
  appends_after old mid new so_far.0 next.0 so_far.2 next.2,
)

-- whether a failed write is what is reported doesn't depend on what a call that ends well gives
pub same_failure : (S T : Type 0) (fault : RunFault) → is_failed_write (ill {S = S} fault) ≡ is_failed_write (ill {S = T} fault)
same_failure S T Write = refl
same_failure S T fault = refl
