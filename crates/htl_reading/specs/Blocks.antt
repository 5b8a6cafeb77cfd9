-- For the clauses of private functions: a block of bytes that are read and taken, and how their faults are reported.
use Rattle.std.specs.Prelude.{◌≡◌, ◌≢◌, ◌+◌, ◌≤◌, ℕ, List, ◌++◌, length, drop, Option}
use Rattle.std.specs.Io.KnownBytes.{Consumes, IsAtEnd}
use Rattle.htl_segment.specs.declared.fault.Fault.{Fault}
use Rattle.htl_segment.specs.declared.fault.Fault.TheVariants as faults
use Rattle.htl_segment.specs.Content.{Content}
use Rattle.htl_segment.specs.Bundles.{IsRefused}
use Rattle.htl_segment.specs.Keepers.{TookUpTo}
use Rattle.htl_reading.specs.Keepers.{IsTakenOff}
use Rattle.htl_reading.specs.declared.fault.SourceFault.{SourceFault}
use Rattle.htl_reading.specs.declared.fault.SourceFault.TheVariants.{Segment, NoMemory}

-- how a fault of the bytes at an offset is reported
abbrev pub of_segment : ℕ → Fault → SourceFault
of_segment offset faults.NoMemory = NoMemory
of_segment offset fault = Segment offset fault

-- the fault is that memory was refused
abbrev pub IsNoMemory : SourceFault → Type 0
IsNoMemory fault = fault ≡ NoMemory

-- ---- a block

-- the bytes that are held, and how many more fit behind them
pub record BlockState : Type 0 where
  pub held : List ℕ
  pub room : ℕ

-- a read put `count` bytes behind those that were held; where that is 0, the source has ended
pub record IsReadBehind (first last : Option (List ℕ)) (old new : List ℕ) (count : ℕ) : Type 0 where
  pub more : List ℕ
  pub read : Consumes first last more
  pub held : new ≡ old ++ more
  pub count_is : length more ≡ count
  pub end : count ≡ 0 → IsAtEnd last

-- the segments that the bytes held at an offset begin with were taken, and the rest is held at a later offset
pub record IsTakenIn {S K : Type 0} (gathers : S → K → List Content → Type 0) (old new : K) (held rest : List ℕ) (offset later : ℕ)
    : Type 0 where
  pub len : ℕ
  pub inside : len ≤ length held
  pub rest_is : rest ≡ drop len held
  pub later_is : later ≡ offset + len
  pub off : IsTakenOff gathers old new held len

-- what is reported of the bytes at an offset, which are refused
abbrev pub IsRefusedAt : ℕ → List ℕ → SourceFault → Type 0
IsRefusedAt offset bytes reported =
    (inside : ℕ) × (fault : Fault) × IsRefused bytes inside fault × (reported ≡ of_segment (offset + inside) fault)

-- what was taken of the bytes at an offset where this is reported of them: the segments before the refused one, unless memory was refused
abbrev pub IsKeptAt : {S K : Type 0} → (S → K → List Content → Type 0) → K → K → ℕ → List ℕ → SourceFault → Type 0
IsKeptAt gathers old new offset bytes reported =
    (inside : ℕ) × (fault : Fault) × (fault ≢ faults.NoMemory → TookUpTo gathers old new bytes inside)
    × (reported ≡ of_segment (offset + inside) fault)
