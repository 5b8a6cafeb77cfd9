-- Bytes are written in hexadecimal digits, and texts one after another encode segments, or the first that is refused is reported.
use Rattle.std.proofs.Common.{◌≡◌, ◌≢◌, ◌+◌, ◌<◌, ℕ, Bool, true, false, List, [], ◌∷◌, ◌++◌, length, map, take, refl, sym, ap, ◌∙◌}
use Rattle.std.proofs.Common.{arith, subst, append_assoc, append-nil, Option, Some, Result, Ok, Err}
use Rattle.std.specs.Prelude.{slice_get, IfErr, IfSome, OnOk}
use Rattle.std.specs.Io.KnownBytes.{Appends}
use Rattle.std.proofs.KnownBytes.{Appends-nil, Appends-trans}
use Rattle.std.proofs.Math.ListN.{set}
use Rattle.std.proofs.lemmas.Grind.{flat_map-append}
use Rattle.std.proofs.lemmas.List.{take_more}
use Rattle.std.proofs.lemmas.Option.{slice_get_within, get_or_from_slice_get}
use Rattle.hex.specs.Hex.{encode_lower, encode_with}
use Rattle.htl_device.specs.Devices.{AppendsPrefix}
use Rattle.htl_device.specs.States.{SinkState, SourceState, ends, has_ended, lefts, remaining}
use Rattle.htl_segment.specs.Content.{Content}
use Rattle.htl_segment.specs.Encoding.{encoding}
use Rattle.htl_segment.specs.Bundles.{bundle}
use Rattle.htl_text.specs.Encoded.{begins, Encodes, kept}
use Rattle.htl_text.specs.Items.{segments_items}
use Rattle.htl_text.specs.Lines.{item_in, text_lines}
use Rattle.htl_inputs.specs.Reads.{NeverRead}
use Rattle.htl_inputs.specs.Sources.{EndsBefore}
use Rattle.htl_inputs.specs.declared.fault.RunFault.{RunFault}
use Rattle.htl_inputs.specs.declared.fault.RunFault.TheVariants.{Write}
use Rattle.htl_inputs.proofs.ReadingLaws.{Next, at_next, ended_there, ill, left_there}
use Rattle.htl_convert.specs.Dumps.{is_failed_write}
use Rattle.htl_convert.specs.Encodings.{EncodeAll, EncodingStops, IsReportedOfText, written_as, EndsEncoding}
use Rattle.htl_convert.specs.Writing.{Writes}
use Rattle.htl_device.proofs.KnownBytes.{prefix_after}
use Rattle.htl_convert.proofs.DumpLaws.{prefix_more}

-- ---- hexadecimal digits

-- the digits of the bytes before the rest were written
pub record DigitsWritten (bytes rest : List ℕ) (old new : Option (List ℕ)) : Type 0 where
  pub front : List ℕ
  pub parts : bytes ≡ front ++ rest
  pub written : Appends old new (encode_lower front)

digits_more : (table a b : List ℕ) → encode_with table (a ++ b) ≡ encode_with table a ++ encode_with table b
unfolding encode_with
digits_more table [] b = refl
digits_more table (x ∷ a) b = let rest = digits_more table a b in rw rest refl

-- before the first write, all bytes are left
pub digits_start : (bytes : List ℕ) (known : Option (List ℕ)) → DigitsWritten bytes bytes known known
unfolding encode_with
digits_start bytes known = record { front = []; parts = refl; written = Appends-nil known }

-- with the digits of the next bytes, those before the new rest were written
pub digits_next : (bytes rest step later : List ℕ) (old mid new : Option (List ℕ)) → DigitsWritten bytes rest old mid → rest ≡ step ++ later
    → Appends mid new (encode_lower step) → DigitsWritten bytes later old new
digits_next bytes rest step later old mid new so_far cut written = record {
  front = so_far.front ++ step;
  parts = so_far.parts ∙ ap (λ (l : List ℕ). so_far.front ++ l) cut ∙ sym (append_assoc so_far.front step later);
  written = subst (Appends old new) (sym (digits_more _ so_far.front step))
      (Appends-trans old mid new (encode_lower so_far.front) (encode_lower step) so_far.written written);
}

-- where a write of digits fails, some first part of all digits was written
pub digits_cut : (bytes rest step later : List ℕ) (old mid new : Option (List ℕ)) → DigitsWritten bytes rest old mid → rest ≡ step ++ later
    → AppendsPrefix mid new (encode_lower step) → AppendsPrefix old new (encode_lower bytes)
digits_cut bytes rest step later old mid new so_far cut part =
    let all : bytes ≡ (so_far.front ++ step) ++ later =
    so_far.parts ∙ ap (λ (l : List ℕ). so_far.front ++ l) cut ∙ sym (append_assoc so_far.front step later) in
    rw (all, digits_more, digits_more) (prefix_more old new (encode_lower so_far.front ++ encode_lower step) (encode_lower later)
    (prefix_after old mid new (encode_lower so_far.front) (encode_lower step) so_far.written part))

-- once the digits are written, and what follows them or some first part of it, all was written or some first part
pub feed_writes : (old mid new : SinkState) (xs ys : List ℕ) (result : Result (Unit {0}) RunFault) → Appends old.contents mid.contents xs
    → OnOk result (Appends mid.contents new.contents ys) → OnOk result (new.failed ≡ false)
    → IfErr result (λ fault. (fault ≡ Write) × (new.failed ≡ true) × AppendsPrefix mid.contents new.contents ys)
    → Writes (xs ++ ys) old new result
feed_writes old mid new xs ys (Ok done) first next fine failed = record {
  ok = Appends-trans old.contents mid.contents new.contents xs ys first next;
  err = tt;
  failed = fine;
}
feed_writes old mid new xs ys (Err fault) first next fine failed = record {
  ok = tt;
  err = (failed.0, prefix_after old.contents mid.contents new.contents xs ys first failed.2);
  failed = rw failed.0 failed.1;
}

-- ---- texts one after another

-- one text more
encode_more : (texts : List (List ℕ)) (text : List ℕ) (before after : List Content) → EncodeAll texts before → Encodes text after
    → EncodeAll (texts ++ text ∷ []) (before ++ after)
encode_more [] text before after none encoded = rw none (after, [], encoded, refl, sym (append-nil after))
encode_more (first ∷ more) text before after all encoded =
    (all.0, all.1 ++ after, all.2, encode_more more text all.1 after all.3 encoded, rw (all.4) (append_assoc all.0 all.1 after))

encode_next : (texts : List (List ℕ)) (place : ℕ) (text : List ℕ) (before after : List Content) → slice_get texts place ≡ Some text
    → EncodeAll (take place texts) before → Encodes text after → EncodeAll (take (place + 1) texts) (before ++ after)
encode_next texts place text before after here all encoded =
    rw (take_more texts place [] (slice_get_within texts place text here), get_or_from_slice_get texts place text [] here)
    (encode_more (take place texts) text before after all encoded)

-- these bytes are those of the segments that a text encodes
abbrev pub Gives : List ℕ → List ℕ → Type 0
Gives text bytes = (segments : List Content) × Encodes text segments × (bytes ≡ bundle segments)

-- or of those that texts encode
abbrev pub GiveAll : List (List ℕ) → List ℕ → Type 0
GiveAll texts bytes = (segments : List Content) × EncodeAll texts segments × (bytes ≡ bundle segments)

-- the bytes that the texts before a place give, and those of the text there, are what one text more gives
pub give_next : (texts : List (List ℕ)) (place : ℕ) (text before after : List ℕ) → slice_get texts place ≡ Some text
    → GiveAll (take place texts) before → Gives text after → GiveAll (take (place + 1) texts) (before ++ after)
give_next texts place text before after here all next = (
  all.0 ++ next.0,
  encode_next texts place text all.0 next.0 here all.1 next.1,
  rw (all.2, next.2) (sym (flat_map-append encoding all.0 next.0)),
)

begins_of : (lines : List (List (List ℕ))) (s : Content) (ss : List Content)
    → map item_in lines ≡ map (λ i. Ok i) (segments_items (s ∷ ss)) → begins lines ≡ true
begins_of [] s ss is = absurd (cc is)
begins_of (ws ∷ lines) s ss is = cc is

some_begin_of : (text bytes : List ℕ) (ss : List Content) → Encodes text ss → bytes ≡ bundle ss → 0 < length bytes
    → begins (kept (text_lines text)) ≡ true
some_begin_of text bytes [] encoded is some = absurd (omega (arith, some, ap length is))
some_begin_of text bytes (s ∷ ss) encoded is some = begins_of (kept (text_lines text)) s ss encoded.written

-- a text that gives some bytes begins with a segment
pub some_begin : (text bytes : List ℕ) → Gives text bytes → 0 < length bytes → begins (kept (text_lines text)) ≡ true
some_begin text bytes gives some = some_begin_of text bytes gives.0 gives.1 gives.2 some

-- the texts before one are encoded, and what is reported of that one is reported
pub stops_encoding : {R : Type 0} {state : R → SourceState} {is_text : Bool} {first now : List R} {place : ℕ} {x : R}
    (next : Next state is_text first now place x) (y : R) (texts : List (List ℕ)) (fault : RunFault) (segments : List Content)
    → map remaining (map state first) ≡ map (λ (t : List ℕ). Some t) texts → EncodeAll (take place texts) segments
    → IfSome (remaining (state x)) (λ text. IsReportedOfText (remaining (state y)) (has_ended (state y)) place text fault)
    → EncodingStops texts (lefts (map state (set now place y))) (ends (map state (set now place y))) fault
stops_encoding {state} {place} next y texts fault segments all encoded told =
    let one = at_next next texts all (λ text. IsReportedOfText (remaining (state y)) (has_ended (state y)) place text fault) told in
    record {
      place = place;
      text = one.text;
      here = one.here;
      left = remaining (state y);
      left_is = left_there next y;
      ended = has_ended (state y);
      ended_is = ended_there next y;
      segments = segments;
      before = encoded;
      reported = one.holds;
    }

-- ---- how a run that encodes ends

-- bytes of all texts that were written, or a first part of which was, are those that the texts encode
pub ends_written : {S : Type 0} (hex : Bool) (texts : List (List ℕ)) (new : List SourceState) (bytes : List ℕ) (old now : Option (List ℕ))
    (result : Result S RunFault) → GiveAll texts bytes → OnOk result (Appends old now (written_as hex bytes))
    → IfErr result (λ fault. (fault ≡ Write) × AppendsPrefix old now (written_as hex bytes)) → EndsEncoding hex texts new old now result
ends_written hex texts new bytes old now (Ok done) all written part = (all.0, all.1, rw (← all.2) written)
ends_written hex texts new bytes old now (Err fault) all written part = rw (part.0) (all.0, all.1, rw (← all.2) (part.1))

-- what can only end for a failed write
pub only_writes : {S : Type 0} (P Q : Type 0) (result : Result S RunFault) → IfErr result (λ fault. (fault ≡ Write) × P)
    → IfErr result (λ fault. fault ≢ Write → Q)
only_writes P Q (Ok done) part = tt
only_writes P Q (Err fault) part = λ other. absurd (other part.0)

-- before anything is written it ends for the fault of a text
pub ends_unwritten : (S : Type 0) (hex : Bool) (texts : List (List ℕ)) (new : List SourceState) (old now : Option (List ℕ)) (fault : RunFault)
    → fault ≢ Write → EncodingStops texts (lefts new) (ends new) fault → EndsEncoding hex texts new old now (ill {S = S} fault)
ends_unwritten S hex texts new old now Write other stops = absurd (other refl)
ends_unwritten S hex texts new old now fault other stops = stops

pub no_failure : (S : Type 0) (fault : RunFault) → fault ≢ Write → is_failed_write (ill {S = S} fault) ≡ false
no_failure S Write other = absurd (other refl)
no_failure S fault other = refl

-- a failed write is no failed read, and names no input
pub no_read_of_writes : {S : Type 0} (P : Type 0) (result : Result S RunFault) → IfErr result (λ fault. (fault ≡ Write) × P) → NeverRead result
no_read_of_writes P (Ok done) part at is = cc is
no_read_of_writes P (Err fault) part at is = cc (part.0, is)

pub no_input_of_writes : {S : Type 0} (P : Type 0) (result : Result S RunFault) → IfErr result (λ fault. (fault ≡ Write) × P)
    → IfErr result (λ fault. (place : ℕ) → EndsBefore fault place → ⊥)
no_input_of_writes P (Ok done) part = tt
no_input_of_writes P (Err fault) part = λ place. rw (part.0) (λ before. before)
