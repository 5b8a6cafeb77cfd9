-- Bundles (this project's own): segments one after another.
use Rattle.std.specs.Prelude.{◌≡◌, ◌⊎◌, ℕ, ◌<◌, List, ◌++◌, length, Bool, true, false, All, Some, None, nat_lt, if◌then◌else◌}
use Rattle.std.specs.List.{flat_map}
use Rattle.htl_segment.specs.declared.fault.Fault.{Fault}
use Rattle.htl_segment.specs.declared.fault.Fault.TheVariants as faults
use Rattle.htl_segment.specs.Content.{Content, Fits}
use Rattle.htl_segment.specs.Encoding.{encoding}
use Rattle.htl_segment.specs.Reading.{length_in}
use Rattle.htl_segment.specs.Faults.{header_fault, first_fault}

-- the bytes of segments one after another
abbrev pub bundle : List Content → List ℕ
bundle segments = flat_map encoding segments

-- the bytes are those of these segments, and then the rest
pub record Splits (bytes : List ℕ) (segments : List Content) (rest : List ℕ) : Type 0 where
  pub parts : bytes ≡ bundle segments ++ rest
  pub fits : All Fits segments

-- at this offset some whole segments end
pub record IsBoundary (bytes : List ℕ) (offset : ℕ) : Type 0 where
  pub before : List Content
  pub rest : List ℕ
  pub splits : Splits bytes before rest
  pub offset_is : offset ≡ length (bundle before)

-- some segments, and then at this offset bytes that begin with none: their first fault
pub record BundleFault (bytes : List ℕ) (offset : ℕ) (fault : Fault) : Type 0 where
  pub before : List Content
  pub rest : List ℕ
  pub splits : Splits bytes before rest
  pub offset_is : offset ≡ length (bundle before)
  pub some : 0 < length rest
  pub fault_is : first_fault rest ≡ Some fault

-- some segments, and then at this offset bytes that begin with one more
pub record SegmentAt (bytes : List ℕ) (offset : ℕ) : Type 0 where
  pub before : List Content
  pub rest : List ℕ
  pub splits : Splits bytes before rest
  pub offset_is : offset ≡ length (bundle before)
  pub no_fault : first_fault rest ≡ None

-- the fault of bytes that end too early
abbrev pub cut_off : List ℕ → Fault
cut_off rest = if nat_lt (length rest) 32 then faults.Short else faults.Cut

-- No header yet, or one without a fault that states a greater length: more bytes may complete it to a segment.
pub record IsRest (rest : List ℕ) : Type 0 where
  pub cut_off : (length rest < 32) ⊎ ((header_fault rest ≡ None) × (length rest < length_in rest))

-- some segments, and then at this offset the last bytes, which more bytes may complete to a segment
pub record RestAt (bytes : List ℕ) (offset : ℕ) : Type 0 where
  pub before : List Content
  pub rest : List ℕ
  pub splits : Splits bytes before rest
  pub offset_is : offset ≡ length (bundle before)
  pub some : 0 < length rest
  pub is_rest : IsRest rest

-- bytes with this fault only end too early: more bytes may complete them to a segment
abbrev pub is_early_end : Fault → Bool
is_early_end faults.Short = true
is_early_end faults.Cut = true
is_early_end fault = false

-- Why nothing is split off at the offset: no more bytes complete those that begin there to a segment, or a
-- segment begins there, for which memory was refused.
abbrev pub IsRefused : List ℕ → ℕ → Fault → Type 0
IsRefused bytes offset fault =
    (BundleFault bytes offset fault × (is_early_end fault ≡ false)) ⊎ ((fault ≡ faults.NoMemory) × SegmentAt bytes offset)

-- Why a piece is refused: nothing is split off at the offset, or the last bytes begin there, and memory to keep them was refused.
abbrev pub IsPieceRefused : List ℕ → ℕ → Fault → Type 0
IsPieceRefused bytes offset fault = IsRefused bytes offset fault ⊎ ((fault ≡ faults.NoMemory) × RestAt bytes offset)
