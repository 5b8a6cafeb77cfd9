-- What reads come to are the bytes held in a block, and the segments that keepers took before them.
use Rattle.std.proofs.Common.{◌≡◌, ◌+◌, ◌-◌, ◌<◌, ◌≤◌, ℕ, Bool, false, List, [], ◌∷◌, ◌++◌, length, drop, take, All, refl, sym, ap, ◌∙◌}
use Rattle.std.proofs.Common.{append-nil, append_assoc, arith, inr, subst, Option, Some, None, IfSome, Result, Ok, Err, true}
use Rattle.std.specs.Prelude.{is_err, OnErr}
use Rattle.std.proofs.KnownBytes.{Consumes-kept, Consumes-nil, Consumes-trans, Consumes-whole}
use Rattle.std.proofs.lemmas.List.{drop-append-le, drop-drop, drop-take, length-append, length-drop, length-take-le, nil_from_length}
use Rattle.std.proofs.lemmas.List.Elements.{All-nil}
use Rattle.std.proofs.lemmas.Option.{IfSome_then}
use Rattle.std.proofs.lemmas.Slice.{between_is}
use Rattle.std.proofs.Math.Seq.{take-append-add}
use Rattle.std.specs.Io.KnownBytes.{Consumes, IsAtEnd, Keeps, ReadConsumes}
use Rattle.htl_segment.specs.Content.{Content, Fits}
use Rattle.htl_segment.specs.Bundles.{bundle, IsRest, RestAt, SegmentAt, Splits}
use Rattle.htl_segment.specs.Keepers.{Took}
use Rattle.htl_segment.specs.declared.fault.Fault.TheVariants as faults
use Rattle.htl_reading.specs.declared.fault.SourceFault.{SourceFault}
use Rattle.htl_reading.specs.declared.fault.SourceFault.TheVariants.{NoMemory, Read}
use Rattle.htl_reading.specs.Keepers.{IsTakenOf, IsTakenOff, IsTakenTo, taken}
use Rattle.htl_reading.specs.Blocks.{IsKeptAt, IsReadBehind, IsRefusedAt}
use Rattle.htl_reading.specs.Sources.{AsksMemory, IsLeft, IsReadToFault, IsReportedOfBundle}
use Rattle.htl_reading.specs.Taking.{TookBefore, TookToEnd}
use Rattle.htl_reading.specs.declared.outcome.EarlyEnd.{EarlyEnd}
use Rattle.htl_reading.proofs.FaultLaws.{begins_none, first_begins, given_many, read_more, read_without_fault, refusal_reported}
use Rattle.htl_reading.proofs.FaultLaws.{taken_next, taken_splits}
use Rattle.htl_reading.proofs.KeptLaws.{kept_read, kept_refused}

-- ---- the bytes between two places of a block

-- those after some of them
pub held_after : (bytes : List ℕ) (start end n : ℕ) → start + n ≤ end
    → take (end - (start + n)) (drop (start + n) bytes) ≡ drop n (take (end - start) (drop start bytes))
held_after bytes start end n within =
    let split : end - start ≡ n + (end - (start + n)) = omega (arith, within) in
    rw (split, drop-take n (end - (start + n)) (drop start bytes), drop-drop n start bytes) refl

-- the same where those before their end are
pub held_same : (old new : List ℕ) (start end : ℕ) → take end new ≡ take end old
    → take (end - start) (drop start new) ≡ take (end - start) (drop start old)
held_same old new start end same = between_is new start end ∙ ap (drop start) same ∙ sym (between_is old start end)

-- and some that were put behind them
pub held_more : (old new piece : List ℕ) (start end stop : ℕ) → start ≤ end → end ≤ length old → take stop new ≡ take end old ++ piece
    → take (stop - start) (drop start new) ≡ take (end - start) (drop start old) ++ piece
held_more old new piece start end stop ordered inside grown =
    between_is new start stop ∙ ap (drop start) grown
    ∙ drop-append-le start (take end old) piece (omega (arith, ordered, length-take-le end old inside))
    ∙ ap (λ (l : List ℕ). l ++ piece) (sym (between_is old start end))

-- the first bytes of two lists
pub take_past : (xs ys : List ℕ) (n all : ℕ) → all ≡ length xs + n → take all (xs ++ ys) ≡ xs ++ take n ys
take_past xs ys n all is = rw is (take-append-add xs ys n)

-- ---- what is refused

-- where nothing was taken before it
pub first_refused : (given left : Option (List ℕ)) (piece : List ℕ) (ended : Bool) (fault : SourceFault) → Consumes given left piece
    → IsRefusedAt 0 piece fault
    → IfSome given (λ bytes. IsReportedOfBundle left ended bytes fault)
first_refused given left piece ended fault read refused =
    refusal_reported given left ended [] piece 0 fault (All-nil Fits) refl read refused

-- memory, while the end isn't found
pub asked : (given left : Option (List ℕ)) (ended : Bool) (segments : List Content) (rest : List ℕ) → All Fits segments → IsRest rest
    → Consumes given left (taken segments rest) → 0 < length (taken segments rest) → ended ≡ false
    → IfSome given (λ bytes. IsReportedOfBundle left ended bytes NoMemory)
asked None left ended segments rest fits is_rest read some not_ended = tt
asked (Some xs) left ended [] rest fits is_rest read some not_ended =
    let here : RestAt rest 0 = record {
      before = [];
      rest = rest;
      splits = taken_splits [] rest fits;
      offset_is = refl;
      some = some;
      is_rest = is_rest;
    } in
    inr (not_ended, rest, read, 0, here)
asked (Some xs) left ended (t ∷ ts) rest fits is_rest read some not_ended =
    let first : SegmentAt (taken (t ∷ ts) rest) 0 =
    first_begins (taken (t ∷ ts) rest) rest (t ∷ ts) (taken_splits (t ∷ ts) rest fits) (omega arith) in
    first_refused (Some xs) left (taken (t ∷ ts) rest) ended NoMemory read (0, faults.NoMemory, inr (refl, first), refl)

after_rest : (segments : List Content) (rest piece held : List ℕ) → held ≡ rest ++ piece
    → taken segments rest ++ piece ≡ taken segments held
after_rest segments rest piece held is = append_assoc (bundle segments) rest piece ∙ ap (λ (l : List ℕ). bundle segments ++ l) (sym is)

-- ---- the segments that were taken

module _ {S K : Type 0} {gathers : S → K → List Content → Type 0} {old new : K} {bytes : List ℕ} {left : Option (List ℕ)} {rest : List ℕ}
    {offset reads : ℕ} (at : IsTakenOf gathers old new bytes left rest offset reads) where
  -- ---- one read more

  read_behind : {last : Option (List ℕ)} {held : List ℕ} {count : ℕ} → IsReadBehind left last rest held count
      → Consumes (Some bytes) last (taken at.segments held)
  read_behind {last = last} {held = held} behind =
      subst (Consumes (Some bytes) last) (after_rest at.segments rest behind.more held behind.held)
      (Consumes-trans (Some bytes) left last (taken at.segments rest) behind.more at.read behind.read)

  -- that failed
  of_kept : {E : Type 0} {last : Option (List ℕ)} (result : Result ℕ E) → is_err result ≡ true → OnErr result (Keeps left last)
      → IsTakenOf gathers old new bytes last rest offset reads
  of_kept (Ok n) failed kept = absurd cc
  of_kept {last = last} (Err e) failed kept = record {
    segments = at.segments;
    fits = at.fits;
    offset_is = at.offset_is;
    is_rest = at.is_rest;
    read = Consumes-kept (Some bytes) left last (taken at.segments rest) at.read kept;
    each = at.each;
    took = at.took;
  }

  -- a call of the keeper that takes none
  of_still : {next : K} → Took gathers new next [] → IsTakenOf gathers old next bytes left rest offset reads
  of_still {next = next} still = record {
    segments = at.segments;
    fits = at.fits;
    offset_is = at.offset_is;
    is_rest = at.is_rest;
    read = at.read;
    each = at.each;
    took = λ kind before was. rw (← append-nil (before ++ at.segments)) (still kind (before ++ at.segments) (at.took kind before was));
  }

  -- that found the end
  of_ended : {last : Option (List ℕ)} {held : List ℕ} → IsReadBehind left last rest held 0
      → IsTakenOf gathers old new bytes last held offset reads
  of_ended {last = last} {held = held} behind =
      let none : behind.more ≡ [] = nil_from_length behind.more behind.count_is in
      let same : rest ≡ held = sym (behind.held ∙ ap (λ (l : List ℕ). rest ++ l) none ∙ append-nil rest) in
      record {
        segments = at.segments;
        fits = at.fits;
        offset_is = at.offset_is;
        is_rest = rw (← same) at.is_rest;
        read = read_behind behind;
        each = rw (← same) at.each;
        took = at.took;
      }

  -- that gave some bytes, of which segments were taken
  of_more : {next : K} {last : Option (List ℕ)} {held : List ℕ} (count len : ℕ) → IsReadBehind left last rest held count → 0 < count
      → IsTakenOff gathers new next held len → len ≤ length held
      → IsTakenOf gathers old next bytes last (drop len held) (offset + len) (reads + 1)
  of_more {last = last} {held = held} count len behind some off inside =
      let piece = behind.more in
      let left_of : List ℕ = drop len held in
      let split : Splits (rest ++ piece) off.segments left_of = rw (← behind.held) off.splits in
      let next = taken_next (Some bytes) left last at.segments off.segments rest left_of piece at.fits at.read behind.read split in
      let total : length (taken at.segments rest) + length piece ≡ length (taken (at.segments ++ off.segments) left_of) =
      sym (length-append (taken at.segments rest) piece) ∙ ap length next.0.parts in
      record {
        segments = at.segments ++ off.segments;
        fits = next.0.fits;
        offset_is = omega (
          arith,
          total,
          at.offset_is,
          inside,
          length-append (bundle at.segments) rest,
          length-append (bundle (at.segments ++ off.segments)) left_of,
          length-drop len held,
          ap length behind.held,
          length-append rest piece,
        );
        is_rest = off.is_rest;
        read = next.1;
        each = omega (arith, total, at.each, some, behind.count_is);
        took = λ kind before was. rw (← append_assoc before at.segments off.segments) (off.took kind (before ++ at.segments)
            (at.took kind before was));
      }

  -- ---- the end of a source

  of_to_end : (early_end : Option EarlyEnd) → IsAtEnd left
      → ((segments : List Content) → offset ≡ length (bundle segments) → IsRest rest → IsLeft segments rest early_end)
      → TookToEnd gathers old new early_end bytes
  of_to_end early_end end is_left =
      Consumes-whole (Some bytes) left (taken at.segments rest) (TookToEnd gathers old new early_end) at.read end
      (at.segments, rest, taken_splits at.segments rest at.fits, is_left at.segments at.offset_is at.is_rest, at.took)

  -- ---- what is reported

  -- what was held, and read after it, was refused
  of_refused : {last : Option (List ℕ)} {held : List ℕ} {count : ℕ} (ended : Bool) (fault : SourceFault)
      → IsReadBehind left last rest held count
      → IsRefusedAt offset held fault
      → IsReportedOfBundle last ended bytes fault
  of_refused {last = last} {held = held} ended fault behind refused =
      refusal_reported (Some bytes) last ended at.segments held offset fault at.fits at.offset_is (read_behind behind) refused

  -- memory is asked for where a segment begins, or to hold what was read last
  of_memory : (ended : Bool) → 0 < reads → ended ≡ false → IsReportedOfBundle left ended bytes NoMemory
  of_memory ended some not_ended =
      asked (Some bytes) left ended at.segments rest at.fits at.is_rest at.read (omega (arith, some, at.each)) not_ended

  -- or once some bytes were taken
  of_offset_memory : (ended : Bool) → 0 < offset → ended ≡ false → AsksMemory left ended bytes
  of_offset_memory ended some not_ended =
      asked (Some bytes) left ended at.segments rest at.fits at.is_rest at.read
      (omega (arith, some, at.offset_is, length-append (bundle at.segments) rest)) not_ended

  -- ---- what is kept

  -- where a read fails
  of_before : TookBefore gathers old new left bytes Read
  of_before = kept_read gathers old new (Some bytes) left at.segments rest at.fits at.is_rest at.read at.took

  -- where what was held, and read after it, was refused
  of_before_refused : {next : K} {last : Option (List ℕ)} {held : List ℕ} {count : ℕ} (fault : SourceFault)
      → IsReadBehind left last rest held count
      → IsKeptAt gathers new next offset held fault
      → TookBefore gathers old next last bytes fault
  of_before_refused {next = next} {last = last} {held = held} fault behind kept =
      kept_refused gathers old new next (Some bytes) last at.segments held offset fault at.fits at.offset_is (read_behind behind) at.took kept

  -- ---- how many bytes were read

  -- each read gave some bytes
  of_many : (most : ℕ) → most ≤ reads → most ≤ length bytes
  of_many most many = given_many (Some bytes) left (taken at.segments rest) most at.read (omega (arith, at.each, many))

  -- and the segments that were taken have theirs
  of_taken : (most : ℕ) → most ≤ offset → most ≤ length bytes
  of_taken most inside =
      given_many (Some bytes) left (taken at.segments rest) most at.read
      (omega (arith, inside, at.offset_is, length-append (bundle at.segments) rest))

  -- ---- how far a source is read

  -- no further than what was taken
  of_to_fault : (most : ℕ) → IsReadToFault most (Some bytes) left
  of_to_fault most = read_without_fault most (Some bytes) left at.segments rest at.fits at.is_rest at.read

  -- or by one read more
  of_and_more : {last : Option (List ℕ)} {held : List ℕ} {count : ℕ} (most : ℕ) → IsReadBehind left last rest held count
      → count ≤ most → IsReadToFault most (Some bytes) last
  of_and_more {last = last} most behind few =
      read_more most (Some bytes) left last at.segments rest behind.more at.fits at.is_rest at.read behind.read (omega (arith, behind.count_is, few))

-- how far a source is read, whether its bytes are known or not
known_or_not : (given left : Option (List ℕ)) (most : ℕ) {P : List ℕ → Type 0} → IfSome given P
    → ((bytes : List ℕ) → P bytes → IsReadToFault most (Some bytes) left) → IsReadToFault most given left
known_or_not None left most is by = read_without_fault most None left [] [] (All-nil Fits) begins_none tt
known_or_not (Some bytes) left most is by = by bytes is

-- ---- the same of what is known

module _ {S K : Type 0} {gathers : S → K → List Content → Type 0} {old new : K} {given left : Option (List ℕ)} {rest : List ℕ}
    {offset reads : ℕ} (at : IsTakenTo gathers old new given left rest offset reads) where
  -- a read failed
  pub taken_kept : {E : Type 0} {last : Option (List ℕ)} (result : Result ℕ E) → is_err result ≡ true → OnErr result (Keeps left last)
      → IsTakenTo gathers old new given last rest offset reads
  taken_kept result failed kept = record { known = IfSome_then given at.known (λ bytes is. of_kept is result failed kept) }

  -- the keeper was called, and took none
  pub taken_still : {next : K} → Took gathers new next [] → IsTakenTo gathers old next given left rest offset reads
  taken_still still = record { known = IfSome_then given at.known (λ bytes is. of_still is still) }

  -- a read found the end
  pub taken_ended : {last : Option (List ℕ)} {held : List ℕ} → IsReadBehind left last rest held 0
      → IsTakenTo gathers old new given last held offset reads
  taken_ended behind = record { known = IfSome_then given at.known (λ bytes is. of_ended is behind) }

  -- a read gave some bytes, of which segments were taken
  pub taken_more : {next : K} {last : Option (List ℕ)} {held : List ℕ} (count len : ℕ) → IsReadBehind left last rest held count → 0 < count
      → IsTakenOff gathers new next held len → len ≤ length held
      → IsTakenTo gathers old next given last (drop len held) (offset + len) (reads + 1)
  taken_more count len behind some off inside =
      record { known = IfSome_then given at.known (λ bytes is. of_more is count len behind some off inside) }

  -- at the end of a source the keeper took its segments, and what is left behind them is told
  pub taken_to_end : (early_end : Option EarlyEnd) → IsAtEnd left
      → ((segments : List Content) → offset ≡ length (bundle segments) → IsRest rest → IsLeft segments rest early_end)
      → IfSome given (TookToEnd gathers old new early_end)
  taken_to_end early_end end is_left = IfSome_then given at.known (λ bytes is. of_to_end is early_end end is_left)

  -- what is reported of the bytes held behind the segments that were taken is reported of the source
  pub taken_refused : {last : Option (List ℕ)} {held : List ℕ} {count : ℕ} (ended : Bool) (fault : SourceFault)
      → IsReadBehind left last rest held count → IsRefusedAt offset held fault
      → IfSome given (λ bytes. IsReportedOfBundle last ended bytes fault)
  taken_refused ended fault behind refused = IfSome_then given at.known (λ bytes is. of_refused is ended fault behind refused)

  -- once some bytes were read and the end isn't found, refused memory may be reported
  pub taken_memory : (ended : Bool) → 0 < reads → ended ≡ false → IfSome given (λ bytes. IsReportedOfBundle left ended bytes NoMemory)
  taken_memory ended some not_ended = IfSome_then given at.known (λ bytes is. of_memory is ended some not_ended)

  -- once some segments were taken and the end isn't found, memory may be asked for
  pub offset_memory : (ended : Bool) → 0 < offset → ended ≡ false → IfSome given (AsksMemory left ended)
  offset_memory ended some not_ended = IfSome_then given at.known (λ bytes is. of_offset_memory is ended some not_ended)

  -- before a read that failed the keeper took the segments of what was read
  pub taken_before : IfSome given (λ bytes. TookBefore gathers old new left bytes Read)
  taken_before = IfSome_then given at.known (λ bytes is. of_before is)

  -- before a fault of the bytes held the keeper took the segments before it
  pub taken_before_refused : {next : K} {last : Option (List ℕ)} {held : List ℕ} {count : ℕ} (fault : SourceFault)
      → IsReadBehind left last rest held count → IsKeptAt gathers new next offset held fault
      → IfSome given (λ bytes. TookBefore gathers old next last bytes fault)
  taken_before_refused fault behind kept = IfSome_then given at.known (λ bytes is. of_before_refused is fault behind kept)

  -- where so many reads gave bytes, the source has as many bytes
  pub taken_many : (most : ℕ) → most ≤ reads → IfSome given (λ bytes. most ≤ length bytes)
  taken_many most many = IfSome_then given at.known (λ bytes is. of_many is most many)

  -- where segments of so many bytes were taken, too
  pub taken_far : (most : ℕ) → most ≤ offset → IfSome given (λ bytes. most ≤ length bytes)
  taken_far most inside = IfSome_then given at.known (λ bytes is. of_taken is most inside)

  -- no further than what was taken
  pub taken_to_fault : (most : ℕ) → IsReadToFault most given left
  taken_to_fault most = known_or_not given left most at.known (λ bytes is. of_to_fault is most)

  -- or by one read more
  pub taken_and_more : {last : Option (List ℕ)} {held : List ℕ} {count : ℕ} (most : ℕ) → IsReadBehind left last rest held count
      → count ≤ most → IsReadToFault most given last
  taken_and_more {last = last} most behind few = known_or_not given last most at.known (λ bytes is. of_and_more is most behind few)

-- ---- the first read

-- no segment was taken before it
pub taken_none : {S K : Type 0} (gathers : S → K → List Content → Type 0) (old : K) (given : Option (List ℕ))
    → IsTakenTo gathers old old given given [] 0 0
taken_none gathers old None = record { known = tt }
taken_none gathers old (Some bytes) = record {
  known = record {
    segments = [];
    fits = All-nil Fits;
    offset_is = refl;
    is_rest = begins_none;
    read = Consumes-nil (Some bytes);
    each = omega arith;
    took = λ kind before was. rw (append-nil before) was;
  };
}

-- a read behind which no bytes are held
pub first_behind : {left last : Option (List ℕ)} (buffer : List ℕ) (count : ℕ) → count ≤ length buffer → 0 < length buffer
    → Consumes left last (take count buffer) × (count ≡ 0 → 0 < length buffer → IsAtEnd last)
    → IsReadBehind left last [] (take count buffer) count
first_behind buffer count inside some read = record {
  more = take count buffer;
  read = read.0;
  held = refl;
  count_is = length-take-le count buffer inside;
  end = λ none. read.1 none some;
}

-- and one that failed
pub first_kept : {E : Type 0} (left last : Option (List ℕ)) (buffer : List ℕ) (result : Result ℕ E) → ReadConsumes left last result buffer
    → OnErr result (Keeps left last)
first_kept left last buffer (Ok n) kept = tt
first_kept left last buffer (Err e) kept = kept
