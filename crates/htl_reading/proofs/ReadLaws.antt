-- How a source is read doesn't depend on the value that a call ends with, and so it is for one fault. One worker asks for no other reader.
use Rattle.std.proofs.Common.{◌≡◌, ◌≢◌, ◌≤◌, ◌+◌, ℕ, false, true, List, Option, Some, None, Result, Ok, Err, ◌<◌, ◌*◌, ◌∙◌, ap, arith}
use Rattle.std.specs.Prelude.{IfSome, OnOk, length}
use Rattle.htl_device.specs.declared.source.TheConstants.{MAX_READ_LEN}
use Rattle.htl_device.specs.States.{SourceState}
use Rattle.htl_reading.specs.Parts.{AsksFew, most_parts}
use Rattle.htl_reading.specs.Sources.{AsksReaders, IsReadToFault, IsSourceRead}
use Rattle.htl_reading.specs.declared.ends.TheConstants.{MIN_PART_LEN}
use Rattle.htl_reading.specs.declared.fault.SourceFault.{SourceFault}
use Rattle.htl_reading.specs.declared.fault.SourceFault.TheVariants.{Read}

abbrev pub well : {S : Type 0} → S → Result S SourceFault
well value = Ok value

abbrev pub ill : {S : Type 0} → SourceFault → Result S SourceFault
ill fault = Err fault

same_fault : {S T : Type 0} (fault other : SourceFault) → ill {S = S} fault ≡ Err other → ill {S = T} fault ≡ Err other
same_fault {S} {T} fault other is = ap (ill {S = T}) (cc is)

-- ---- other readers

long_enough : (given : Option (List ℕ)) → IfSome given (λ bytes. 0 * MIN_PART_LEN ≤ length bytes)
long_enough None = tt
long_enough (Some bytes) = omega arith

-- a source of which no other reader was asked for
pub asks_none : (workers : ℕ) (given : Option (List ℕ)) (old new : SourceState) → new.tails ≡ old.tails → AsksReaders workers given old new
asks_none workers given old new same = record {
  alone = λ one. same;
  rounds = 0;
  few = omega (arith, same);
  long = long_enough given;
}

-- and behind others that were
pub asks_then : (workers : ℕ) (given : Option (List ℕ)) (old mid new : SourceState) → AsksReaders workers given old mid → new.tails ≡ mid.tails
    → AsksReaders workers given old new
asks_then workers given old mid new asks same = record {
  alone = λ one. same ∙ asks.alone one;
  rounds = asks.rounds;
  few = rw same asks.few;
  long = asks.long;
}

-- a source of which one round of workers asked for others
pub asks_once : (workers : ℕ) (given : Option (List ℕ)) (old new : SourceState) → AsksFew (3 * most_parts workers) old new
    → AsksReaders workers given old new
asks_once workers given old new asks = record {
  alone = λ one. asks.none (grind (arith, one));
  rounds = 0;
  few = (let few = asks.few in grind (arith, few));
  long = long_enough given;
}

pub asked_again : (workers rounds : ℕ) (old mid new : SourceState) → mid.tails ≤ old.tails + rounds * (3 * workers)
    → AsksFew (3 * most_parts workers) mid new → new.tails ≤ old.tails + (rounds + 1) * (3 * workers)
asked_again workers rounds old mid new few asks = let one = asks.few in grind (arith, one, few)

-- or one round more
pub asks_again : (workers rounds : ℕ) (given : Option (List ℕ)) (old mid new : SourceState) → (workers < 2 → mid.tails ≡ old.tails)
    → mid.tails ≤ old.tails + rounds * (3 * workers) → AsksFew (3 * most_parts workers) mid new
    → IfSome given (λ bytes. rounds * MIN_PART_LEN ≤ length bytes) → AsksReaders workers given old new
asks_again workers rounds given old mid new alone few asks long = record {
  alone = λ one. asks.none (grind (arith, one)) ∙ alone one;
  rounds = rounds;
  few = asked_again workers rounds old mid new few asks;
  long = long;
}

-- ---- reading

module _ {S T : Type 0} (workers most : ℕ) (given : Option (List ℕ)) (old new : SourceState) where
  -- a source that is read by a call that ends well is read so whatever value the call gives
  pub read_well : (value : S) (other : T) → IsSourceRead workers most given old new (well value)
      → IsSourceRead workers most given old new (well other)
  read_well value other is = record {
    ended = is.ended;
    reported = λ failed. absurd (cc (is.reported failed));
    read = λ same. absurd (cc same);
    no_fault = λ same. absurd (cc same);
    bounded = is.bounded;
    to_fault = is.to_fault;
    readers = is.readers;
  }

  -- a source that is read by a call that ends with a fault is read so by each that ends with this fault
  pub read_ill : (fault : SourceFault) → IsSourceRead workers most given old new (ill {S = S} fault)
      → IsSourceRead workers most given old new (ill {S = T} fault)
  read_ill fault is = record {
    ended = tt;
    reported = λ failed. same_fault {S = S} {T = T} fault Read (is.reported failed);
    read = λ same. is.read (same_fault {S = T} {T = S} fault Read same);
    no_fault = λ same. is.no_fault (same_fault {S = T} {T = S} fault Read same);
    bounded = is.bounded;
    to_fault = is.to_fault;
    readers = is.readers;
  }

module _ {S : Type 0} (workers most : ℕ) (given : Option (List ℕ)) (old new : SourceState) where
  -- where no read failed
  pub read_fine : (result : Result S SourceFault) → result ≢ Err Read → new.failed ≡ false → OnOk result (new.ended ≡ true)
      → new.good_reads ≤ old.good_reads + most → IsReadToFault MAX_READ_LEN given new.remaining
      → AsksReaders workers given old new → IsSourceRead workers most given old new result
  read_fine result other fine ended bounded to_fault readers = record {
    ended = ended;
    reported = λ failed. absurd (cc (failed, fine));
    read = λ same. absurd (other same);
    no_fault = λ same. absurd (other same);
    bounded = bounded;
    to_fault = to_fault;
    readers = readers;
  }

  -- where a source had skipped bytes before it was read so
  pub read_later : (mid : SourceState) (result : Result S SourceFault) → mid.good_reads ≤ old.good_reads
      → AsksReaders workers given old mid → IsSourceRead 1 most given mid new result
      → IsSourceRead workers most given old new result
  read_later mid result fewer readers is = record {
    ended = is.ended;
    reported = is.reported;
    read = is.read;
    no_fault = is.no_fault;
    bounded = (let bounded = is.bounded in omega (arith, bounded, fewer));
    to_fault = is.to_fault;
    readers = asks_then workers given old mid new readers (is.readers.alone (omega arith));
  }
