-- What reads of a source and writes to a sink leave (this project's own).
use Rattle.std.specs.Prelude.{◌+◌, ℕ, true, false, List, Option, Result, Err, take, length}
use Rattle.std.specs.Prelude.{drop, option_map, ◌≡◌, ◌<◌, ◌≤◌, ◌⊎◌, IfErr, IfOk, IfSome, OnOk, is_err}
use Rattle.std.specs.Global.{Vec}
use Rattle.std.specs.Io.KnownBytes.{Appends, Consumes}
use Rattle.htl_device.specs.States.{SinkState, SourceState}
use Rattle.htl_device.specs.declared.whole.ReadFault.{ReadFault}
use Rattle.htl_device.specs.declared.whole.ReadFault.TheVariants.{Failed, NoMemory}

-- the first n bytes of the text, for some n, were added to the known bytes
abbrev pub AppendsPrefix : Option (List ℕ) → Option (List ℕ) → List ℕ → Type 0
AppendsPrefix old new text = (n : ℕ) × Appends old new (take n text)

-- the known bytes from an offset on
abbrev pub tail_of : ℕ → Option (List ℕ) → Option (List ℕ)
tail_of offset known = option_map (drop offset) known

-- The text was written whole, or some first part of it if the sink failed.
pub record WritesWhole {E : Type 0} (old new : SinkState) (text : List ℕ) (result : Result (Unit {0}) E) : Type 0 where
  pub ok : OnOk result (Appends old.contents new.contents text)
  pub err : IfErr result (λ e. AppendsPrefix old.contents new.contents text)
  pub failed : new.failed ≡ is_err result

-- How a source of these bytes is read whole by a call that ends with this result, and in which at most `most` reads give bytes.
pub record ReadsWhole (most : ℕ) (given : Option (List ℕ)) (old new : SourceState) (result : Result (Vec ℕ) ReadFault) : Type 0 where
  pub ok : IfOk result (λ bytes. IfSome given (λ known. bytes.items ≡ known))
  pub fine : OnOk result (new.failed ≡ false)
  pub ended : OnOk result (new.ended ≡ true)
  pub reported : new.failed ≡ true → result ≡ Err Failed
  -- Memory was refused: some bytes came, and the end was not found.
  pub memory : result ≡ Err NoMemory → (new.ended ≡ false) × (read : List ℕ) × (0 < length read) × Consumes given new.remaining read
  pub failed : IfErr result (λ fault. (fault ≡ NoMemory) ⊎ ((new.failed ≡ true)
      ⊎ ((most ≤ new.good_reads) × IfSome given (λ known. most ≤ length known))))
  pub bounded : new.good_reads ≤ old.good_reads + most
  pub tails : new.tails ≡ old.tails
