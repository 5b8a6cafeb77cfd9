-- Where no other reader of the next source was asked for, none more was of all.
use Rattle.std.proofs.Common.{◌≡◌, ℕ, Bool, List, map}
use Rattle.std.proofs.Math.ListN.{set}
use Rattle.htl_device.specs.States.{SourceState, remaining}
use Rattle.htl_inputs.specs.Readings.{AskForReaders, readers_of}
use Rattle.htl_inputs.proofs.ReadingLaws.{Next, asks_more}
use Rattle.htl_reading.proofs.ReadLaws.{asks_none}

pub asks_no_more : {R : Type 0} {state : R → SourceState} {is_text : Bool} {first now : List R} {place : ℕ} {x : R}
    → Next state is_text first now place x → (y : R) (workers : ℕ) → AskForReaders is_text workers (map state first) (map state now)
    → (state y).tails ≡ (state x).tails → AskForReaders is_text workers (map state first) (map state (set now place y))
asks_no_more {state = state} {is_text = is_text} {x = x} next y workers before same =
    asks_more next y workers before (asks_none (readers_of is_text workers) (remaining (state x)) (state x) (state y) same)
