-- For the clauses of private functions: what keepers took.
use Rattle.std.specs.Prelude.{◌≡◌, ◌≤◌, ℕ, List, ◌++◌, [], length, drop, All, Option, Some, IfSome}
use Rattle.std.specs.Io.KnownBytes.{Consumes}
use Rattle.htl_segment.specs.Content.{Content, Fits}
use Rattle.htl_segment.specs.Bundles.{IsRest, Splits, bundle}
use Rattle.htl_segment.specs.Keepers.{Took}

-- the bytes that were taken in: those of the segments, and others after them
abbrev pub taken : List Content → List ℕ → List ℕ
taken segments bytes = bundle segments ++ bytes

-- the keeper took the segments that these bytes are
abbrev pub TookAll : {S K : Type 0} → (S → K → List Content → Type 0) → K → K → List ℕ → Type 0
TookAll gathers old new bytes = (segments : List Content) × Splits bytes segments [] × Took gathers old new segments

-- the keeper took the segments that the first `len` bytes are, and the other bytes begin no whole segment
pub record IsTakenOff {S K : Type 0} (gathers : S → K → List Content → Type 0) (old new : K) (bytes : List ℕ) (len : ℕ) : Type 0 where
  pub segments : List Content
  pub splits : Splits bytes segments (drop len bytes)
  pub is_rest : IsRest (drop len bytes)
  pub took : Took gathers old new segments

-- the keeper took the segments that reads gave of a source of these bytes, up to an offset; the bytes after them begin no whole one
pub record IsTakenOf {S K : Type 0} (gathers : S → K → List Content → Type 0) (old new : K) (bytes : List ℕ) (left : Option (List ℕ))
    (rest : List ℕ) (offset reads : ℕ) : Type 0 where
  pub segments : List Content
  pub fits : All Fits segments
  pub offset_is : offset ≡ length (bundle segments)
  pub is_rest : IsRest rest
  pub read : Consumes (Some bytes) left (taken segments rest)
  pub each : reads ≤ length (taken segments rest)
  pub took : Took gathers old new segments

-- where the bytes of the source are known, the keeper took the segments that reads gave of them, as `IsTakenOf` says
pub record IsTakenTo {S K : Type 0} (gathers : S → K → List Content → Type 0) (old new : K) (given left : Option (List ℕ)) (rest : List ℕ)
    (offset reads : ℕ) : Type 0 where
  pub known : IfSome given (λ bytes. IsTakenOf gathers old new bytes left rest offset reads)
