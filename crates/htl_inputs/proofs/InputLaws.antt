-- Inputs are decoded one after another, and the first that is refused is reported.
use Rattle.std.proofs.Common.{◌≡◌, ◌≢◌, ◌⊎◌, ◌+◌, ◌<◌, ℕ, Bool, true, false, List, [], ◌∷◌, ◌++◌, length, map, take, refl, ap, ◌∙◌, sym}
use Rattle.std.proofs.Common.{append_assoc, inl, inr, Option, None, Some, Ok, arith, Vec, Global, length-append}
use Rattle.std.specs.Prelude.{slice_get}
use Rattle.std.proofs.lemmas.List.{append-nil, take_more}
use Rattle.std.proofs.lemmas.List.Elements.{All-nil, All-head}
use Rattle.std.proofs.lemmas.Option.{slice_get-map, slice_get_within, get_or_from_slice_get}
use Rattle.htl_command.specs.declared.question.InputForm.{InputForm}
use Rattle.hex.specs.Hex.{decode_of, decode_pairs}
use Rattle.htl_segment.specs.Content.{Content, Fits}
use Rattle.htl_segment.specs.Hexadecimal.{WritesBytes, digits_of}
use Rattle.htl_segment.specs.Encoding.{encoding}
use Rattle.htl_segment.specs.Faults.{first_fault}
use Rattle.htl_segment.specs.Bundles.{bundle, cut_off, is_early_end, IsRefused, SegmentAt, Splits}
use Rattle.htl_reading.specs.declared.outcome.EarlyEnd.{EarlyEnd}
use Rattle.htl_inputs.specs.Ends.{IsInput}
use Rattle.htl_segment.proofs.SegmentLaws.{segment_again}
use Rattle.htl_segment.proofs.BundleLaws.{first_fault-no_memory, nothing_short}
use Rattle.htl_segment.specs.Pieces.{is_memory}
use Rattle.htl_segment.specs.declared.fault.Fault.{Fault}
use Rattle.htl_segment.specs.declared.fault.Fault.TheVariants as faults
use Rattle.htl_inputs.specs.declared.fault.RunFault.TheVariants.{Segment}
use Rattle.htl_inputs.specs.Faults.{of_segment}
use Rattle.htl_inputs.specs.Inputs.{AsksMemory, Decodes, DecodeAll, HasBytes, IsReportedOfInput, reported_of}

-- out of memory is reported as itself, and every other fault by its input and offset
pub segment_fault : (input offset : ℕ) (fault : Fault) → is_memory fault ≡ false
    → of_segment input offset fault ≡ Segment input offset fault
segment_fault input offset faults.NoMemory other = absurd cc
segment_fault input offset fault other = refl

digits_of_bytes : (digits bytes : List ℕ) → decode_of digits ≡ Ok bytes → 0 < length bytes → 0 < length digits
unfolding decode_pairs
digits_of_bytes [] bytes decoded some =
    let none : Ok [] ≡ Ok bytes = decoded in
    let same : [] ≡ bytes = cc none in
    absurd (omega (arith, some, ap length same))
digits_of_bytes (digit ∷ more) bytes decoded some = omega arith

-- memory is asked for where digits write some bytes
pub digits_asked : (partial : Bool) (input bytes : List ℕ) → WritesBytes input bytes → 0 < length bytes → AsksMemory true partial input
digits_asked partial input bytes has some = (has.0, digits_of_bytes (digits_of input) bytes (has.1) some)

segment_some : (rest : List ℕ) → first_fault rest ≡ None → 0 < length rest
segment_some [] none = let short : None ≡ Some (cut_off []) = sym none ∙ nothing_short in absurd (cc short)
segment_some (byte ∷ more) none = omega arith

-- and where a segment begins
pub asks_at : (hex partial : Bool) (input bytes : List ℕ) (offset : ℕ) → HasBytes hex input bytes → SegmentAt bytes offset
    → AsksMemory hex partial input
asks_at true partial input bytes offset has there =
    digits_asked partial input bytes has
    (omega (arith, segment_some there.rest there.no_fault, ap length there.splits.parts, length-append (bundle there.before) there.rest))
asks_at false partial input bytes offset has there = (offset, inl (rw (← has) there))

-- a fault that more bytes don't mend is reported as it is
pub late_reported : (partial : Bool) (rest : List ℕ) (fault : Fault) → is_early_end fault ≡ false → reported_of partial rest fault ≡ Some fault
late_reported false rest fault late = refl
late_reported true rest fault late = rw late refl

-- why no more of an input's bytes are split is reported of it
pub refused_bytes : (form : InputForm) (place : ℕ) (input bytes : List ℕ) (offset : ℕ) (fault : Fault) → HasBytes form.hex input bytes
    → IsRefused bytes offset fault → IsReportedOfInput form place input (of_segment place offset fault)
refused_bytes form place input bytes offset fault has (inl found) =
    rw (segment_fault place offset fault (first_fault-no_memory found.0.rest fault found.0.fault_is)) (
      refl,
      record {
        bytes = bytes;
        has = has;
        before = found.0.before;
        rest = found.0.rest;
        splits = found.0.splits;
        offset_is = found.0.offset_is;
        some = found.0.some;
        first = fault;
        first_is = found.0.fault_is;
        reported = late_reported form.partial found.0.rest fault found.1;
      },
    )
refused_bytes form place input bytes offset fault has (inr asked) = rw (asked.0) (asks_at form.hex form.partial input bytes offset has asked.1)

-- one input more
pub decode_more : (form : InputForm) (inputs : List (List ℕ)) (input : List ℕ) (before after : List Content) → DecodeAll form inputs before
    → Decodes form input after → DecodeAll form (inputs ++ input ∷ []) (before ++ after)
decode_more form [] input before after none decoded =
    rw none (after, [], decoded, refl, sym (append-nil after))
decode_more form (first ∷ more) input before after all decoded =
    (all.0, all.1 ++ after, all.2, decode_more form more input all.1 after all.3 decoded, rw (all.4) (append_assoc all.0 all.1 after))

-- the input at a place
pub input_at : (inputs : List (Vec ℕ Global)) (place : ℕ) (input : Vec ℕ Global) → place < length inputs
    → slice_get inputs place ≡ Some input → slice_get (map (λ (v : Vec ℕ Global). v.items) inputs) place ≡ Some input.items
input_at inputs place input within here =
    slice_get-map (λ (v : Vec ℕ Global). v.items) inputs place ∙ rw here refl

-- one input more of a list
pub decode_next : (form : InputForm) (inputs : List (List ℕ)) (place : ℕ) (input : List ℕ) (before after : List Content)
    → slice_get inputs place ≡ Some input → DecodeAll form (take place inputs) before → Decodes form input after
    → DecodeAll form (take (place + 1) inputs) (before ++ after)
decode_next form inputs place input before after here all decoded =
    rw (take_more inputs place [] (slice_get_within inputs place input here), get_or_from_slice_get inputs place input [] here)
    (decode_more form (take place inputs) input before after all decoded)

-- bytes of some segments begin with one
first_at : (bytes : List ℕ) (t : Content) (ts : List Content) (rest : List ℕ) → bytes ≡ bundle (t ∷ ts) ++ rest → Fits t → SegmentAt bytes 0
first_at bytes t ts rest parts fits =
    let front : bytes ≡ encoding t ++ (bundle ts ++ rest) = parts ∙ append_assoc (encoding t) (bundle ts) rest in
    record {
      before = [];
      rest = bytes;
      splits = record { parts = refl; fits = All-nil Fits };
      offset_is = refl;
      no_fault = ap first_fault front ∙ (segment_again t (bundle ts ++ rest) fits).no_fault;
    }

-- where an input has segments, memory is asked for
asks : (hex partial : Bool) (input bytes rest : List ℕ) (segments : List Content) → HasBytes hex input bytes → Splits bytes segments rest
    → 0 < length segments → AsksMemory hex partial input
asks hex partial input bytes rest [] has split some = absurd (omega (arith, some))
asks hex partial input bytes rest (t ∷ ts) has split some =
    asks_at hex partial input bytes 0 has (first_at bytes t ts rest split.parts (All-head Fits t ts split.fits))

-- memory is asked for where an input has a segment
pub asked_for : (form : InputForm) (input : List ℕ) (segments : List Content) → Decodes form input segments → 0 < length segments
    → AsksMemory form.hex form.partial input
asked_for form input segments decoded some =
    asks form.hex form.partial input decoded.bytes decoded.rest segments decoded.has decoded.splits some

-- or one that is cut
pub asked_of : (form : InputForm) (input : List ℕ) (segments : List Content) (end : Option EarlyEnd) → IsInput form input segments end
    → (0 < length segments) ⊎ (end ≢ None) → AsksMemory form.hex form.partial input
asked_of form input segments end is (inl some) = asked_for form input segments is.decoded some
asked_of form input segments end is (inr cut) = is.asks cut
