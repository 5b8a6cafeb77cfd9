-- For the clauses of private functions: the parts of a source's bytes, and what the keepers of its workers took.
use Rattle.std.specs.Prelude.{◌≡◌, ◌≤◌, ◌+◌, ◌^◌, nat_lt, if◌then◌else◌, ℕ, Bool, List, [], ◌∷◌, ◌++◌, All}
use Rattle.std.specs.Prelude.{Option, Some, IfOk, IfSome, OnErr, Result}
use Rattle.std.specs.Io.Take.{take_remaining}
use Rattle.htl_segment.specs.Content.{Content}
use Rattle.htl_segment.specs.Bundles.{Splits}
use Rattle.htl_segment.specs.declared.keeper.Segments.{Segments}
use Rattle.htl_device.specs.States.{IsOpen, SourceState}
use Rattle.htl_device.specs.declared.source.TheConstants.{MAX_READ_LEN}
use Rattle.htl_reading.specs.Keepers.{IsTakenTo}
use Rattle.htl_reading.specs.Sources.{AsksMemory, IsReadToFault}
use Rattle.htl_reading.specs.declared.parts.SourcePart.{SourcePart}

-- the new keeper is of this keeper's kind, and took these segments
abbrev pub IsAnother : {K : Type 0} → (K → K → List Content → Type 0) → K → K → List Content → Type 0
IsAnother {K} gathers keeper new segments = (kind : K) (before : List Content) → gathers kind keeper before → gathers kind new segments

-- Keepers of this one's kind took the segments of the bytes in order: each keeper took the segments of one piece of the bytes.
abbrev pub TookInOrder : {K : Type 0} → (K → K → List Content → Type 0) → K → List K → List ℕ → Type 0
TookInOrder gathers keeper [] bytes = bytes ≡ []
TookInOrder gathers keeper (new ∷ more) bytes =
    (piece : List ℕ) × (rest : List ℕ) × (segments : List Content) × (bytes ≡ piece ++ rest) × Splits piece segments []
    × IsAnother gathers keeper new segments × TookInOrder gathers keeper more rest

-- keepers that took no segment
abbrev pub AreEmpty : List Segments → Type 0
AreEmpty keepers = All (λ keeper. keeper.list.items ≡ []) keepers

-- the part has these bytes, and a keeper that took no segment
pub record IsPartOf {K R : Type 0} (gathers : K → K → List Content → Type 0) (remaining : R → Option (List ℕ)) (keeper : K)
    (part : SourcePart R K) (piece : List ℕ) : Type 0 where
  pub bytes_are : take_remaining remaining part.bytes ≡ Some piece
  pub fresh : IsAnother gathers keeper part.keeper []

-- the parts have all of these bytes, one part after the other
abbrev pub ArePartsOf : {K R : Type 0} → (K → K → List Content → Type 0) → (R → Option (List ℕ)) → K → List (SourcePart R K) → List ℕ
    → Type 0
ArePartsOf gathers remaining keeper [] bytes = bytes ≡ []
ArePartsOf gathers remaining keeper (part ∷ parts) bytes =
    (piece : List ℕ) × (rest : List ℕ) × (bytes ≡ piece ++ rest) × IsPartOf gathers remaining keeper part piece
    × ArePartsOf gathers remaining keeper parts rest

-- ---- other readers

-- so many workers cut a source into at most so many parts
abbrev pub most_parts : ℕ → ℕ
most_parts workers = if nat_lt workers 2 then 0 else workers

-- other readers of the source were asked for, at most so many
pub record AsksFew (most : ℕ) (old new : SourceState) : Type 0 where
  pub none : most ≡ 0 → new.tails ≡ old.tails
  pub few : new.tails ≤ old.tails + most

-- and nothing else of it changed
pub record IsTailed {R : Type 0} (state : R → SourceState) (is_parted : R → Bool) (most : ℕ) (old new : R) : Type 0 where
  pub asks : AsksFew most (state old) (state new)
  pub same : state new ≡ record (state old) { tails = (state new).tails }
  pub parted : is_parted new ≡ is_parted old

-- ---- skipping what workers took

-- a source skips the segments behind an offset, and a keeper took them, up to the offset that is given. Or memory is refused, which
-- was asked for where a segment begins.
pub record Skips {S K E : Type 0} (gathers : S → K → List Content → Type 0) (old new : SourceState) (before after : K) (offset : ℕ)
    (result : Result ℕ E)
    : Type 0 where
  pub ready : IsOpen new
  pub counts : new.good_reads ≤ old.good_reads
  pub few : IfOk result (λ end. (offset ≤ end) × (end ≤ 2 ^ 62))
  pub taken : (start : K) (given : Option (List ℕ)) → IsTakenTo gathers start before given old.remaining [] offset 0
      → IfOk result (λ end. IsTakenTo gathers start after given new.remaining [] end 0)
  pub memory : (start : K) (given : Option (List ℕ)) → IsTakenTo gathers start before given old.remaining [] offset 0
      → OnErr result (IfSome given (AsksMemory new.remaining new.ended))
  pub to_fault : (start : K) (given : Option (List ℕ)) → IsTakenTo gathers start before given old.remaining [] offset 0
      → IsReadToFault MAX_READ_LEN given new.remaining
