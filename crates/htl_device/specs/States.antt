-- What is known of a source and of a sink, and what a read and a write change of it (this project's own).
use Rattle.std.specs.Prelude.{◌==◌, ◌&&◌, ◌+◌, ◌-◌, ◌^◌, ◌≡◌, ◌≤◌, not, min, ℕ, Bool, true, false, List, Option, Result, Ok, Err, length}
use Rattle.std.specs.Prelude.{if◌then◌else◌, is_err, drop, option_map, map, All, IfOk, Some}
use Rattle.std.specs.Io.KnownBytes.{ReadConsumes, WriteAppends}

-- What is known of a source: whether a read of it failed, which stays so; whether the last read found the end; how many reads gave bytes,
-- and how often another reader of it was asked for, as far as 64 bits count; and the bytes that reads will give, where they are known.
pub record SourceState : Type 0 where
  pub failed : Bool
  pub ended : Bool
  pub good_reads : ℕ
  pub tails : ℕ
  pub remaining : Option (List ℕ)

-- The source can be read: no read failed, and the end was not found.
pub record IsOpen (source : SourceState) : Type 0 where
  pub fine : source.failed ≡ false
  pub inside : source.ended ≡ false

-- The same of each of them.
abbrev pub AreOpen : List SourceState → Type 0
AreOpen sources = All IsOpen sources

-- what is known of a source, as functions
abbrev pub has_failed : SourceState → Bool
has_failed source = source.failed

abbrev pub has_ended : SourceState → Bool
has_ended source = source.ended

abbrev pub good_reads : SourceState → ℕ
good_reads source = source.good_reads

abbrev pub remaining : SourceState → Option (List ℕ)
remaining source = source.remaining

-- which bytes each has left, and of which the end was found
abbrev pub lefts : List SourceState → List (Option (List ℕ))
lefts sources = map remaining sources

abbrev pub ends : List SourceState → List Bool
ends sources = map has_ended sources

-- this holds of their bytes, where those of all of them are known
abbrev pub IfKnown : List SourceState → (List (List ℕ) → Type 0) → Type 0
IfKnown sources P = (texts : List (List ℕ)) → map remaining sources ≡ map Some texts → P texts

-- one more, as far as 64 bits count
abbrev pub one_more : ℕ → ℕ
one_more n = min (n + 1) (2 ^ 64 - 1)

-- how many reads gave bytes after one more read with this result
abbrev pub reads_after : {E : Type 0} → ℕ → Result ℕ E → ℕ
reads_after reads (Ok n) = if n == 0 then reads else one_more reads
reads_after reads (Err e) = reads

-- a read finds the end where it gives none
abbrev pub finds_end : {E : Type 0} → Result ℕ E → Bool
finds_end (Ok n) = n == 0
finds_end (Err e) = false

-- what one read into this buffer leaves
pub record IsRead {E : Type 0} (old new : SourceState) (buffer : List ℕ) (result : Result ℕ E) : Type 0 where
  pub bound : IfOk result (λ n. n ≤ length buffer)
  pub bytes : ReadConsumes old.remaining new.remaining result buffer
  pub fails : new.failed ≡ is_err result
  pub counts : new.good_reads ≡ reads_after old.good_reads result
  pub ends : new.ended ≡ finds_end result
  pub tails : new.tails ≡ old.tails

-- What is known of a sink: whether a write failed, or was given bytes and took none, which stays so; and the bytes that it holds, where
-- they are known.
pub record SinkState : Type 0 where
  pub failed : Bool
  pub contents : Option (List ℕ)

-- a write fails where it says so, and where it has bytes to take and takes none
abbrev pub write_fails : {E : Type 0} → Result ℕ E → List ℕ → Bool
write_fails (Ok n) bytes = (n == 0) && not (length bytes == 0)
write_fails (Err e) bytes = true

-- what one write of these bytes leaves
pub record IsWritten {E : Type 0} (old new : SinkState) (text : List ℕ) (result : Result ℕ E) : Type 0 where
  pub bound : IfOk result (λ n. n ≤ length text)
  pub bytes : WriteAppends old.contents new.contents result text
  pub fails : new.failed ≡ write_fails result text

-- a source of these bytes of which nothing was read
abbrev pub fresh : Option (List ℕ) → SourceState
fresh bytes = record { failed = false; ended = false; good_reads = 0; tails = 0; remaining = bytes }

-- the source once another reader of it was asked for
abbrev pub tailed : SourceState → SourceState
tailed source = record source { tails = one_more source.tails }

-- the next bytes were skipped
pub record IsSkipped (len : ℕ) (old new : SourceState) : Type 0 where
  pub bytes : new.remaining ≡ option_map (drop len) old.remaining
  pub ready : IsOpen new
  pub counts : new.good_reads ≤ old.good_reads
  pub tails : new.tails ≡ old.tails
