-- How a run reads its sources (this project's own): one after another, each to its end, and no further than a fault.
use Rattle.std.specs.Prelude.{◌≡◌, ◌⊎◌, ℕ, Bool, true, false, List, All, length, map, slice_get, Result, Err, IfErr, OnOk, Some}
use Rattle.htl_device.specs.States.{SourceState, good_reads, has_ended, has_failed, remaining}
use Rattle.htl_device.specs.declared.source.TheConstants.{MAX_READ_LEN}
use Rattle.htl_inputs.specs.Sources.{AreReadInOrder, AreReadToFault, AreReadWithin, EndsBefore, IsEndless, IsTrueAt, ReadsNoFault}
use Rattle.htl_inputs.specs.Sources.{ReportsFailed}
use Rattle.htl_inputs.specs.declared.fault.RunFault.{RunFault}
use Rattle.htl_inputs.specs.declared.fault.RunFault.TheVariants.{Read}
use Rattle.htl_reading.specs.Sources.{AsksReaders}

-- Sources before and after a run that ends with this result. Each source gives a text, which is gathered before it is decoded, or bytes,
-- which are decoded as they come.
pub record AreRead {S : Type 0} (is_text : Bool) (old new : List SourceState) (result : Result S RunFault) : Type 0 where
  -- The sources are the same ones.
  pub same_length : length new ≡ length old
  -- A run that ends well has read each source to its end.
  pub ended : OnOk result (All (λ source. has_ended source ≡ true) new)
  -- A source is read only after those before it have ended.
  pub in_order : AreReadInOrder has_ended old new
  -- A read that failed is reported.
  pub reported : ReportsFailed (map has_failed new) result
  -- A failed read is reported only where a read failed, or after too many reads.
  pub read :
      (place : ℕ) → result ≡ Err (Read place)
      → IsTrueAt (map has_failed new) place ⊎ IsEndless (map good_reads new) (map remaining old) place
  -- And only where the bytes before it have no fault.
  pub no_fault : (place : ℕ) → result ≡ Err (Read place) → is_text ≡ false → ReadsNoFault (map remaining old) (map remaining new) place
  -- No source gives bytes to more than 2^32 reads.
  pub bounded : AreReadWithin (map good_reads old) (map good_reads new)
  -- A source after the one that has the fault isn't read.
  pub unread : IfErr result (λ fault. (place : ℕ) → EndsBefore fault place → slice_get new place ≡ slice_get old place)
  -- Of bytes that have a fault no more than one read has bytes after it.
  pub to_fault : is_text ≡ false → AreReadToFault MAX_READ_LEN (map remaining old) (map remaining new)

-- so many workers read a source: one a text, which it gathers
abbrev pub readers_of : Bool → ℕ → ℕ
readers_of true workers = 1
readers_of false workers = workers

-- How often workers asked for other readers of sources, each of which opens a file once more.
abbrev pub AskForReaders : Bool → ℕ → List SourceState → List SourceState → Type 0
AskForReaders is_text workers old new =
    (place : ℕ) (before after : SourceState) → slice_get old place ≡ Some before → slice_get new place ≡ Some after
    → AsksReaders (readers_of is_text workers) before.remaining before after
