-- What a keeper took of one source: all that it gives, or what stands before a fault (this project's own).
use Rattle.std.specs.Prelude.{⊤, ℕ, List, [], IfErr, IfOk, IfSome, OnOk, Option, Result, Some}
use Rattle.std.specs.Borrow.{MutBor}
use Rattle.std.specs.Io.KnownBytes.{Consumes}
use Rattle.htl_device.specs.States.{SourceState}
use Rattle.htl_segment.specs.Content.{Content}
use Rattle.htl_segment.specs.Bundles.{IsRest, Splits}
use Rattle.htl_segment.specs.Keepers.{Took, TookUpTo}
use Rattle.htl_reading.specs.Sources.{IsLeft, IsReportedOfBundle, IsSourceRead}
use Rattle.htl_reading.specs.declared.fault.SourceFault.{SourceFault}
use Rattle.htl_reading.specs.declared.fault.SourceFault.TheVariants.{Segment, Read, NoMemory}
use Rattle.htl_reading.specs.declared.outcome.Bundle.{Bundle}
use Rattle.htl_reading.specs.declared.outcome.EarlyEnd.{EarlyEnd}

-- the keeper took the segments that these bytes begin with, and what is left behind them is told
abbrev pub TookToEnd : {S K : Type 0} → (S → K → List Content → Type 0) → K → K → Option EarlyEnd → List ℕ → Type 0
TookToEnd gathers old new early_end bytes =
    (segments : List Content) × (rest : List ℕ) × Splits bytes segments rest × IsLeft segments rest early_end
    × Took gathers old new segments

-- Some of these bytes were read, and the others are left. The keeper took the whole segments at the front of what was read, and what
-- stands behind them begins no whole one.
pub record TookRead {S K : Type 0} (gathers : S → K → List Content → Type 0) (old new : K) (left : Option (List ℕ)) (bytes : List ℕ)
    : Type 0 where
  pub segments : List Content
  pub read : List ℕ
  pub rest : List ℕ
  pub gave : Consumes (Some bytes) left read
  pub splits : Splits read segments rest
  pub is_rest : IsRest rest
  pub took : Took gathers old new segments

-- What a keeper took before this fault of a source that gave some of these bytes, and has others left: the segments before the bytes
-- that are no segment, and where a read failed the segments that were read. After refused memory nothing is promised.
abbrev pub TookBefore : {S K : Type 0} → (S → K → List Content → Type 0) → K → K → Option (List ℕ) → List ℕ → SourceFault → Type 0
TookBefore gathers old new left bytes (Segment offset fault) = TookUpTo gathers old new bytes offset
TookBefore gathers old new left bytes Read = TookRead gathers old new left bytes
TookBefore gathers old new left bytes NoMemory = ⊤

-- How a keeper takes the segments of a source of these bytes, by so many workers and at most `most` reads that give bytes: what it has
-- after a call that ends well, and after each fault; which fault is reported; and how the source is read.
pub record TakesSource {S K : Type 0} (workers most : ℕ) (gathers : S → K → List Content → Type 0) (given : Option (List ℕ))
    (start after : K)
    (old new : SourceState)
    (result : Result (Option EarlyEnd) SourceFault) : Type 0 where
  pub ok : IfOk result (λ early_end. IfSome given (TookToEnd gathers start after early_end))
  pub err : IfErr result (λ fault. IfSome given (λ bytes. IsReportedOfBundle new.remaining new.ended bytes fault))
  pub kept : IfErr result (λ fault. IfSome given (λ bytes. TookBefore gathers start after new.remaining bytes fault))
  pub reading : IsSourceRead workers most given old new result

-- How the segments of such a source are gathered, by a call that gives back the keeper that takes them.
pub record GathersSource {S K : Type 0} (workers most : ℕ) (gathers : S → K → List Content → Type 0) (given : Option (List ℕ)) (start : K)
    (old new : SourceState)
    (result : Result (Bundle K) SourceFault) : Type 0 where
  pub ok : IfOk result (λ bundle. IfSome given (TookToEnd gathers start bundle.segments bundle.early_end))
  pub err : IfErr result (λ fault. IfSome given (λ bytes. IsReportedOfBundle new.remaining new.ended bytes fault))
  pub reading : IsSourceRead workers most given old new result

-- Between two reads something is done to a keeper. It then has taken what it had, unless memory is refused. What is done is given by
-- what may come of a call.
abbrev pub LeavesTaken : {S K T E : Type 0} → (S → K → List Content → Type 0) → (MutBor K → Result T E → MutBor K → Type 0) → Type 0
LeavesTaken {K = K} {T = T} {E = E} gathers may_leave =
    (old : MutBor K) (result : Result T E) (new : MutBor K) → may_leave old result new → OnOk result (Took gathers old.now new.now [])
