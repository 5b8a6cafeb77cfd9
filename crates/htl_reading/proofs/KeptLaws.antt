-- After a fault, keepers have the segments before it.
use Rattle.std.proofs.Common.{◌≡◌, ◌≢◌, ◌+◌, ℕ, List, ◌++◌, length, All, Option, Some, None, IfSome}
use Rattle.std.specs.Prelude.{⊤}
use Rattle.std.specs.Io.KnownBytes.{Consumes}
use Rattle.htl_segment.specs.Content.{Content, Fits}
use Rattle.htl_segment.specs.Bundles.{bundle, IsRest}
use Rattle.htl_segment.specs.Keepers.{Took, TookUpTo}
use Rattle.htl_segment.specs.declared.fault.Fault.{Fault}
use Rattle.htl_segment.specs.declared.fault.Fault.TheVariants as faults
use Rattle.htl_segment.proofs.KeeperLaws.{took_after, took_more}
use Rattle.htl_reading.specs.declared.fault.SourceFault.{SourceFault}
use Rattle.htl_reading.specs.declared.fault.SourceFault.TheVariants.{Read}
use Rattle.htl_reading.specs.Keepers.{taken}
use Rattle.htl_reading.specs.Blocks.{IsKeptAt, of_segment}
use Rattle.htl_reading.specs.Taking.{TookBefore}
use Rattle.htl_reading.proofs.FaultLaws.{taken_splits}

-- nothing is promised of refused memory
pub kept_nothing : (given : Option (List ℕ)) → IfSome given (λ bytes. ⊤)
kept_nothing None = tt
kept_nothing (Some xs) = tt

module _ {S K : Type 0} (gathers : S → K → List Content → Type 0) (old : K) where
  -- where a read fails, those that were read
  pub kept_read : (new : K) (given left : Option (List ℕ)) (segments : List Content) (rest : List ℕ) → All Fits segments → IsRest rest
      → Consumes given left (taken segments rest) → Took gathers old new segments
      → IfSome given (λ bytes. TookBefore gathers old new left bytes Read)
  kept_read new None left segments rest fits is_rest read took = tt
  kept_read new (Some xs) left segments rest fits is_rest read took = record {
    segments = segments;
    read = taken segments rest;
    rest = rest;
    gave = read;
    splits = taken_splits segments rest fits;
    is_rest = is_rest;
    took = took;
  }

  kept_of : (new : K) (left : Option (List ℕ)) (bytes : List ℕ) (offset : ℕ) (fault : Fault)
      → (fault ≢ faults.NoMemory → TookUpTo gathers old new bytes offset) → TookBefore gathers old new left bytes (of_segment offset fault)
  kept_of new left bytes offset faults.NoMemory kept = tt
  kept_of new left bytes offset fault kept = kept (λ is. cc is)

  -- where bytes are refused behind segments, these and those before the refused one
  pub kept_refused : (mid new : K) (first last : Option (List ℕ)) (segments : List Content) (held : List ℕ) (offset : ℕ) (reported : SourceFault)
      → All Fits segments → offset ≡ length (bundle segments) → Consumes first last (taken segments held) → Took gathers old mid segments
      → IsKeptAt gathers mid new offset held reported → IfSome first (λ bytes. TookBefore gathers old new last bytes reported)
  kept_refused mid new None last segments held offset reported fits offset_is given took kept = tt
  kept_refused mid new (Some xs) None segments held offset reported fits offset_is given took kept = absurd given
  kept_refused mid new (Some xs) (Some ys) segments held offset reported fits offset_is given took kept =
      rw (given, kept.3, offset_is) (kept_of new (Some ys) (taken segments held ++ ys) (length (bundle segments) + kept.0) kept.1
      (λ other. took_more gathers old new (taken segments held) ys (length (bundle segments) + kept.0)
      (took_after gathers old mid new segments held kept.0 fits took (kept.2 other))))
