-- For the clauses of steps of a run: how the reading of the source at a place may end, and that of all sources.
use Rattle.std.specs.Prelude.{◌≡◌, ◌≢◌, ◌<◌, ◌≤◌, ◌+◌, ◌⊎◌, ℕ, Bool, true, false, List, length, Option, IfSome, IfErr, OnOk, MatchResult}
use Rattle.std.specs.Prelude.{Result, Err}
use Rattle.htl_device.specs.States.{IfKnown, SourceState, ends, good_reads, has_ended, has_failed, lefts, remaining}
use Rattle.htl_device.specs.declared.source.TheConstants.{MAX_READ_LEN}
use Rattle.htl_reading.specs.Sources.{IsReadToFault}
use Rattle.htl_segment.specs.declared.hexadecimal.HexFault.{HexFault}
use Rattle.htl_command.specs.declared.question.InputForm.{InputForm}
use Rattle.htl_inputs.specs.Inputs.{StopsAtInput}
use Rattle.htl_inputs.specs.Readings.{AreRead, AskForReaders}
use Rattle.htl_inputs.specs.Sources.{EndsBefore, IsReportedAt}
use Rattle.htl_inputs.specs.declared.fault.RunFault.{RunFault}
use Rattle.htl_inputs.specs.declared.fault.RunFault.TheVariants.{Hex, Memory, Read, Write}

-- a failed read is reported of this source, and only where one failed, or so many reads gave bytes
abbrev pub FailsOnly : {S : Type 0} → ℕ → Bool → ℕ → Option (List ℕ) → ℕ → Result S RunFault → Type 0
FailsOnly place failed reads known most result =
    (at : ℕ) → result ≡ Err (Read at)
    → (at ≡ place) × ((failed ≡ true) ⊎ ((most ≤ reads) × IfSome known (λ bytes. most ≤ length bytes)))

-- a fault that names an input names this one
abbrev pub NamesOnly : {S : Type 0} → ℕ → Result S RunFault → Type 0
NamesOnly place result = IfErr result (λ fault. (later : ℕ) → EndsBefore fault later → place < later)

-- memory was refused for the digits of the input at a place, or they are no bytes
abbrev pub IsOfDigits : ℕ → RunFault → Type 0
IsOfDigits place fault = (fault ≡ Memory) ⊎ ((why : HexFault) × (fault ≡ Hex place why))

-- no failed read is reported
abbrev pub NeverRead : {S : Type 0} → Result S RunFault → Type 0
NeverRead result = (at : ℕ) → result ≡ Err (Read at) → ⊥

-- no failed write is reported
abbrev pub NeverWrite : {S : Type 0} → Result S RunFault → Type 0
NeverWrite result = IfErr result (λ fault. fault ≢ Write)

-- How one source is read, as `AreRead` says it of all: the one at a place, of which at most so many reads give bytes. It has the state
-- `new` after that.
pub record IsRead {S : Type 0} (is_text : Bool) (most : ℕ) (place : ℕ) (old new : SourceState) (result : Result S RunFault) : Type 0 where
  pub ended : OnOk result (has_ended new ≡ true)
  -- A read that failed is reported.
  pub reported : has_failed new ≡ true → result ≡ Err (Read place)
  pub read : FailsOnly place (has_failed new) (good_reads new) (remaining old) most result
  pub no_fault : (at : ℕ) → result ≡ Err (Read at) → is_text ≡ false → IsReadToFault 0 (remaining old) (remaining new)
  pub bounded : good_reads new ≤ good_reads old + most
  pub named : NamesOnly place result
  pub to_fault : is_text ≡ false → IsReadToFault MAX_READ_LEN (remaining old) (remaining new)

-- How all sources are read by so many workers, and what they give, or why the reading stops, where their bytes are known.
pub record ReadsAll {S : Type 0} (is_text : Bool) (workers : ℕ) (old new : List SourceState) (Gives : List (List ℕ) → S → Type 0)
    (Stops : List (List ℕ) → RunFault → Type 0) (result : Result S RunFault) : Type 0 where
  pub outcome : IfKnown old (λ texts. MatchResult result (Gives texts) (Stops texts))
  pub reading : AreRead is_text old new result
  pub readers : AskForReaders is_text workers old new

-- the sources before one are decoded, and this is reported of that one
abbrev pub StopsIn : InputForm → List SourceState → List (List ℕ) → RunFault → Type 0
StopsIn form new inputs fault = StopsAtInput form (IsReportedAt form (lefts new) (ends new)) inputs fault
