-- How the reading of one source ends, and how far it is read (this project's own). What a source gives is known where it reports its bytes.
use Rattle.std.specs.Prelude.{◌≡◌, ◌<◌, ◌≤◌, ◌+◌, ◌*◌, ◌⊎◌, ⊤, ℕ, Bool, true, false, List, [], ◌++◌, length, Option, Some, None, IfSome}
use Rattle.std.specs.Prelude.{OnOk, Result, Err, codes, min, nat_eq, nat_lt, take, if◌then◌else◌}
use Rattle.std.specs.List.{starts_with}
use Rattle.std.specs.Io.KnownBytes.{Consumes}
use Rattle.htl_device.specs.States.{SourceState}
use Rattle.htl_device.specs.declared.source.TheConstants.{MAX_READ_LEN}
use Rattle.htl_segment.specs.Content.{Content}
use Rattle.htl_segment.specs.Bundles.{BundleFault, IsRest, RestAt, SegmentAt, Splits, bundle, is_early_end}
use Rattle.htl_segment.specs.Faults.{first_fault}
use Rattle.htl_reading.specs.declared.ends.TheConstants.{MIN_PART_LEN}
use Rattle.htl_reading.specs.declared.fault.SourceFault.{SourceFault}
use Rattle.htl_reading.specs.declared.fault.SourceFault.TheVariants.{Segment, Read, NoMemory}
use Rattle.htl_segment.specs.Numbers.{number}
use Rattle.htl_reading.specs.declared.outcome.EarlyEnd.{EarlyEnd}
use Rattle.htl_reading.specs.declared.outcome.SegmentName.{SegmentName}

-- Bytes begin as a header does, as far as they go: their first four, or all where they are fewer, are those of its magic.
abbrev pub begins_header : List ℕ → Bool
begins_header bytes = starts_with nat_eq (codes "HLS1") (take (min (length bytes) 4) bytes)

-- which segment the bytes are of, where its header is whole
abbrev pub name_in : List ℕ → Option SegmentName
name_in bytes =
    if nat_lt (length bytes) 32 then None
    else Some (record {
      trace_id = number 16 8 bytes;
      processors = number 6 2 bytes;
      processor = number 8 2 bytes;
      number = number 12 4 bytes;
    })

-- Behind these segments bytes are left that end within one more: its offset, and their first fault, which more bytes may mend; whether they
-- begin as a header does; and which segment it is, where its header is whole.
pub record EndsWithin (segments : List Content) (rest : List ℕ) (end : EarlyEnd) : Type 0 where
  pub some : 0 < length rest
  pub offset_is : end.offset ≡ length (bundle segments)
  pub fault_is : first_fault rest ≡ Some end.fault
  pub early : is_early_end end.fault ≡ true
  pub begun : end.is_begun ≡ begins_header rest
  pub named : end.name ≡ name_in rest

-- what is left behind these segments: nothing, or bytes that end within one more
abbrev pub IsLeft : List Content → List ℕ → Option EarlyEnd → Type 0
IsLeft segments rest None = rest ≡ []
IsLeft segments rest (Some end) = EndsWithin segments rest end

-- Memory may be asked for where a segment begins, or to keep the last bytes that were read while the end isn't found.
abbrev pub AsksMemory : Option (List ℕ) → Bool → List ℕ → Type 0
AsksMemory left ended bytes =
    ((offset : ℕ) × SegmentAt bytes offset)
    ⊎ ((ended ≡ false) × (read : List ℕ) × Consumes (Some bytes) left read × (offset : ℕ) × RestAt read offset)

-- What is reported of a source that gave some of these bytes, has others left, and whose end was found or not. It is
-- never that the bytes end within a segment.
abbrev pub IsReportedOfBundle : Option (List ℕ) → Bool → List ℕ → SourceFault → Type 0
IsReportedOfBundle left ended bytes (Segment offset fault) = BundleFault bytes offset fault × (is_early_end fault ≡ false)
IsReportedOfBundle left ended bytes Read = ⊤
IsReportedOfBundle left ended bytes NoMemory = AsksMemory left ended bytes

-- a failed read is reported only where one failed, or where `most` reads gave bytes
abbrev pub FailsOnly : {S : Type 0} → Bool → ℕ → Option (List ℕ) → ℕ → Result S SourceFault → Type 0
FailsOnly failed reads known most result =
    result ≡ Err Read → (failed ≡ true) ⊎ ((most ≤ reads) × IfSome known (λ bytes. most ≤ length bytes))

-- What was read of a source: segments and the beginning of one more, and then at most `most` bytes. So it is read no
-- further once a fault was read.
pub record IsReadToFault (most : ℕ) (given left : Option (List ℕ)) : Type 0 where
  pub before : List ℕ
  pub segments : List Content
  pub rest : List ℕ
  pub splits : Splits before segments rest
  pub is_rest : IsRest rest
  pub last : List ℕ
  pub few : length last ≤ most
  pub read : Consumes given left (before ++ last)

-- How many other readers of a source of these bytes so many workers asked for: one worker for none, and several for at most three each in
-- one round. Each round but the last takes 4,194,304 bytes or more.
pub record AsksReaders (workers : ℕ) (given : Option (List ℕ)) (old new : SourceState) : Type 0 where
  pub alone : workers < 2 → new.tails ≡ old.tails
  pub rounds : ℕ
  pub few : new.tails ≤ old.tails + (rounds + 1) * (3 * workers)
  pub long : IfSome given (λ bytes. rounds * MIN_PART_LEN ≤ length bytes)

-- How a source of these bytes is read by so many workers, in a call that ends with this result, and in which at most `most` reads give
-- bytes.
pub record IsSourceRead {S : Type 0} (workers most : ℕ) (given : Option (List ℕ)) (old new : SourceState) (result : Result S SourceFault)
    : Type 0
  where
    -- A call that ends well has found the end.
    pub ended : OnOk result (new.ended ≡ true)
    -- A read that failed is reported.
    pub reported : new.failed ≡ true → result ≡ Err Read
    pub read : FailsOnly new.failed new.good_reads given most result
    -- A failed read is reported only where what was read has no fault.
    pub no_fault : result ≡ Err Read → IsReadToFault 0 given new.remaining
    pub bounded : new.good_reads ≤ old.good_reads + most
    pub to_fault : IsReadToFault MAX_READ_LEN given new.remaining
    pub readers : AsksReaders workers given old new
