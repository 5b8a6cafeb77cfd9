-- Several workers take the parts of some bytes, and what they took are the segments of all bytes, in order.
use Rattle.std.proofs.Common.{◌≡◌, ◌+◌, ◌<◌, ◌≤◌, ℕ, List, [], ◌∷◌, ◌++◌, length, drop, take, refl, sym, ap, ◌∙◌, append_assoc, append-nil}
use Rattle.std.proofs.Common.{All, arith, false, subst, Bool, Option, Some, None, IfSome, map, slice_index_or}
use native.Mathlib.Numerals.{unary_clauses}
use Rattle.std.proofs.Math.Seq.{take-add}
use Rattle.std.proofs.lemmas.List.{length-append, length-take-le, take-append-drop}
use Rattle.std.specs.Io.Take.{take_remaining}
use Rattle.htl_segment.specs.Content.{Content, Fits}
use Rattle.htl_segment.specs.Bundles.{Splits, bundle}
use Rattle.htl_segment.proofs.PiecesLaws.{splits_after}
use Rattle.std.specs.Io.KnownBytes.{Consumes}
use Rattle.htl_device.specs.Devices.{tail_of}
use Rattle.htl_reading.specs.Keepers.{IsTakenOf, IsTakenTo, TookAll, taken}
use Rattle.htl_reading.specs.Sources.{AsksMemory, IsReadToFault}
use Rattle.htl_reading.proofs.FaultLaws.{begins_none, read_without_fault, taken_next}
use Rattle.htl_reading.proofs.TakenLaws.{asked}
use Rattle.std.proofs.lemmas.List.Elements.{All-nil}
use Rattle.htl_reading.specs.Parts.{ArePartsOf, IsAnother, IsPartOf, TookInOrder}
use Rattle.htl_reading.specs.declared.parts.SourcePart.{SourcePart}

module _ {K R : Type 0} (gathers : K → K → List Content → Type 0) (remaining : R → Option (List ℕ)) (keeper : K) where
  -- one part more
  parts_more : (parts : List (SourcePart R K)) (part : SourcePart R K) (bytes piece : List ℕ) → ArePartsOf gathers remaining keeper parts bytes
      → IsPartOf gathers remaining keeper part piece → ArePartsOf gathers remaining keeper (parts ++ part ∷ []) (bytes ++ piece)
  parts_more [] part bytes piece are is = (piece, [], rw are (sym (append-nil piece)), is, refl)
  parts_more (first ∷ parts) part bytes piece are is = (
    are.0,
    are.1 ++ piece,
    rw (are.2) (append_assoc are.0 are.1 piece),
    are.3,
    parts_more parts part are.1 piece are.4 is,
  )

  -- no part has no bytes
  pub first_parts : (given : Option (List ℕ)) → IfSome given (λ bytes. ArePartsOf gathers remaining keeper [] (take 0 bytes))
  first_parts None = tt
  first_parts (Some bytes) = refl

  -- the parts up to a place, and the one behind it
  pub part_behind : (given : Option (List ℕ)) (parts : List (SourcePart R K)) (part : SourcePart R K) (from len to : ℕ) → to ≡ from + len
      → IfSome given (λ bytes. ArePartsOf gathers remaining keeper parts (take from bytes))
      → IfSome given (λ bytes. IsPartOf gathers remaining keeper part (take len (drop from bytes)))
      → IfSome given (λ bytes. ArePartsOf gathers remaining keeper (parts ++ part ∷ []) (take to bytes))
  part_behind None parts part from len to is are behind = tt
  part_behind (Some bytes) parts part from len to is are behind =
      rw (is, take-add from len bytes) (parts_more parts part (take from bytes) (take len (drop from bytes)) are behind)

  -- the worker of a part took its segments, or none
  abbrev pub Gathers : SourcePart R K → Option K → Type 0
  Gathers part outcome = IfSome outcome (λ new. IfSome (take_remaining remaining part.bytes) (TookAll gathers part.keeper new))

  -- where the worker of each part did, the keepers have the segments of all in order
  pub gathered_in_order : (parts : List (SourcePart R K)) (keepers : List K) (bytes : List ℕ)
      → ((i : ℕ) (part : SourcePart R K) (outcome : Option K) → i < length parts
      → Gathers (slice_index_or parts i part) (slice_index_or (map (λ keeper. Some keeper) keepers) i outcome))
      → length keepers ≡ length parts → ArePartsOf gathers remaining keeper parts bytes → TookInOrder gathers keeper keepers bytes
  gathered_in_order [] [] bytes each len are = are
  gathered_in_order [] (new ∷ keepers) bytes each len are = absurd (omega (arith, len))
  gathered_in_order (part ∷ parts) [] bytes each len are = absurd (omega (arith, len))
  gathered_in_order (part ∷ parts) (new ∷ keepers) bytes each len are =
      let first : Gathers part (Some new) = each 0 part None (omega arith) in
      let piece : TookAll gathers part.keeper new are.0 = rw (are.3.bytes_are) at first in (
        are.0,
        are.1,
        piece.0,
        are.2,
        piece.1,
        λ kind before was. piece.2 kind [] (are.3.fresh kind before was),
        gathered_in_order parts keepers are.1 (λ i p o inside. simp unary_clauses at (each (i + 1) p o (omega (arith, inside)))) (omega (arith, len)) are.4,
      )

-- ---- what the keepers took

module _ {P : Type 0} (gathers : P → P → List Content → Type 0) (part : P) where
  -- all but the last took the bytes before those of the last
  order_last : (before : List P) (last : P) (bytes : List ℕ) → TookInOrder gathers part (before ++ last ∷ []) bytes
      → (front : List ℕ) × (piece : List ℕ) × (segments : List Content) × (bytes ≡ front ++ piece) × TookInOrder gathers part before front
      × Splits piece segments [] × IsAnother gathers part last segments
  order_last [] last bytes took =
      ([], took.0, took.2, took.3 ∙ ap (λ (l : List ℕ). took.0 ++ l) took.6 ∙ append-nil took.0, refl, took.4, took.5)
  order_last (first ∷ before) last bytes took =
      let more = order_last before last took.1 took.6 in (
        took.0 ++ more.0,
        more.1,
        more.2,
        took.3 ∙ ap (λ (l : List ℕ). took.0 ++ l) more.3 ∙ sym (append_assoc took.0 more.0 more.1),
        (took.0, more.0, took.2, refl, took.4, took.5, more.4),
        more.5,
        more.6,
      )

  -- so they took the segments that the bytes are
  pub order_splits : (keepers : List P) (bytes : List ℕ) → TookInOrder gathers part keepers bytes
      → (segments : List Content) × Splits bytes segments []
  order_splits [] bytes took = ([], record { parts = took; fits = All-nil Fits })
  order_splits (first ∷ keepers) bytes took =
      let more = order_splits keepers took.1 took.6 in
      let all : Splits (took.0 ++ took.1) (took.2 ++ more.0) [] = splits_after took.0 took.1 [] took.2 more.0 took.4 more.1 in
      (took.2 ++ more.0, subst (λ (l : List ℕ). Splits l (took.2 ++ more.0) []) (sym took.3) all)

  -- a keeper that takes over the segments of one more has those of all
  pub took_last : {K : Type 0} (all : K → K → List Content → Type 0) (start mid new : K) (before : List P) (last : P)
      → ((bytes : List ℕ) → TookInOrder gathers part before bytes → TookAll all start mid bytes)
      → ((kind : K) (was segments more : List Content) → all kind start was → all kind mid segments → IsAnother gathers part last more
      → all kind new (segments ++ more))
      → (bytes : List ℕ) → TookInOrder gathers part (before ++ last ∷ []) bytes → TookAll all start new bytes
  took_last all start mid new before last so_far put bytes took =
      let parts = order_last before last bytes took in
      let had = so_far parts.0 parts.4 in
      let whole : Splits (parts.0 ++ parts.1) (had.0 ++ parts.2) [] = splits_after parts.0 parts.1 [] had.0 parts.2 had.1 parts.5 in (
        had.0 ++ parts.2,
        subst (λ (l : List ℕ). Splits l (had.0 ++ parts.2) []) (sym parts.3) whole,
        λ kind was is. rw (← append_assoc was had.0 parts.2) (put kind was (was ++ had.0) parts.2 is (had.2 kind was is) parts.6),
      )

-- ---- skipping segments

-- these are the segments of the bytes that a source gave, skipped to the end of others
skipped_all : (segments more : List Content) (bytes ys : List ℕ) (len : ℕ) → All Fits segments
    → Consumes (Some bytes) (Some ys) (taken segments []) → len ≤ length ys → Splits (take len ys) more []
    → Splits (taken segments [] ++ take len ys) (segments ++ more) []
    × Consumes (Some bytes) (Some (drop len ys)) (taken (segments ++ more) [])
skipped_all segments more bytes ys len fits given few split =
    taken_next (Some bytes) (Some ys) (Some (drop len ys)) segments more [] [] (take len ys) fits given (sym (take-append-drop len ys)) split

-- so many bytes are left, and are segments
abbrev pub AreThere : ℕ → Option (List ℕ) → Type 0
AreThere len left = IfSome left (λ bytes. (len ≤ length bytes) × (segments : List Content) × Splits (take len bytes) segments [])

module _ {S K : Type 0} (gathers : S → K → List Content → Type 0) (start mid : K) (offset len : ℕ) where
  of_skipped : {new : K} {bytes ys : List ℕ} → IsTakenOf gathers start mid bytes (Some ys) [] offset 0 → len ≤ length ys
      → TookAll gathers mid new (take len ys) → IsTakenOf gathers start new bytes (Some (drop len ys)) [] (offset + len) 0
  of_skipped {bytes = bytes} {ys = ys} at few took =
      let next = skipped_all at.segments took.0 bytes ys len at.fits at.read few took.1 in
      record {
        segments = at.segments ++ took.0;
        fits = next.0.fits;
        offset_is = omega (
          arith,
          few,
          at.offset_is,
          ap length next.0.parts,
          length-append (taken at.segments []) (take len ys),
          length-append (bundle at.segments) [],
          length-append (bundle (at.segments ++ took.0)) [],
          length-take-le len ys few,
        );
        is_rest = begins_none;
        read = next.1;
        each = omega arith;
        took = λ kind before was. rw (← append_assoc before at.segments took.0) (took.2 kind (before ++ at.segments)
            (at.took kind before was));
      }

  -- what is left of a source that skipped them
  abbrev pub Skipped : K → Option (List ℕ) → Type 0
  Skipped new left = IfSome left (λ bytes. (len ≤ length bytes) × TookAll gathers mid new (take len bytes))

  known_skipped : (new : K) (given left : Option (List ℕ))
      → IfSome given (λ bytes. IsTakenOf gathers start mid bytes left [] offset 0) → Skipped new left
      → IfSome given (λ bytes. IsTakenOf gathers start new bytes (tail_of len left) [] (offset + len) 0)
  known_skipped new None left at took = tt
  known_skipped new (Some bytes) None at took = absurd at.read
  known_skipped new (Some bytes) (Some ys) at took = of_skipped at took.0 took.1

  -- where a source skips the segments that were taken of it, they were taken up to the offset behind them
  pub taken_skipped : (new : K) {given left : Option (List ℕ)} → IsTakenTo gathers start mid given left [] offset 0 → Skipped new left
      → IsTakenTo gathers start new given (tail_of len left) [] (offset + len) 0
  taken_skipped new {given = given} {left = left} at took = record { known = known_skipped new given left at.known took }

  -- memory to take them is asked for where the first one begins
  known_memory : (given left : Option (List ℕ)) (ended : Bool) → 0 < len → ended ≡ false
      → IfSome given (λ bytes. IsTakenOf gathers start mid bytes left [] offset 0) → AreThere len left
      → IfSome given (AsksMemory (tail_of len left) ended)
  known_memory None left ended some not_ended at there = tt
  known_memory (Some bytes) None ended some not_ended at there = absurd at.read
  known_memory (Some bytes) (Some ys) ended some not_ended at there =
      let next = skipped_all at.segments there.1 bytes ys len at.fits at.read there.0 there.2 in
      asked (Some bytes) (Some (drop len ys)) ended (at.segments ++ there.1) [] next.0.fits begins_none next.1 (omega (
        arith,
        some,
        ap length next.0.parts,
        length-append (taken at.segments []) (take len ys),
        length-append (bundle (at.segments ++ there.1)) [],
        length-take-le len ys there.0,
      )) not_ended

  -- where segments stand before an end that wasn't found, memory may be asked for to take them
  pub skipped_memory : {given left : Option (List ℕ)} (ended : Bool) → 0 < len → ended ≡ false
      → IsTakenTo gathers start mid given left [] offset 0 → AreThere len left → IfSome given (AsksMemory (tail_of len left) ended)
  skipped_memory {given = given} {left = left} ended some not_ended at there = known_memory given left ended some not_ended at.known there

  -- and no fault was read
  known_read : (given left : Option (List ℕ)) (most : ℕ) → IfSome given (λ bytes. IsTakenOf gathers start mid bytes left [] offset 0)
      → AreThere len left → IsReadToFault most given (tail_of len left)
  known_read None left most at there = read_without_fault most None (tail_of len left) [] [] (All-nil Fits) begins_none tt
  known_read (Some bytes) None most at there = absurd at.read
  known_read (Some bytes) (Some ys) most at there =
      let next = skipped_all at.segments there.1 bytes ys len at.fits at.read there.0 there.2 in
      read_without_fault most (Some bytes) (Some (drop len ys)) (at.segments ++ there.1) [] next.0.fits begins_none next.1

  -- where a source skips segments, it is read without a fault
  pub skipped_read : {given left : Option (List ℕ)} (most : ℕ) → IsTakenTo gathers start mid given left [] offset 0 → AreThere len left
      → IsReadToFault most given (tail_of len left)
  skipped_read {given = given} {left = left} most at there = known_read given left most at.known there
