-- What a call of `collect` or `post` says of the desk.
use Rattle.std.specs.Prelude.{◌≡◌, ◌≢◌, ℕ, Bool, List, Option, Some, None, Result, Ok, Err, Contains}
use Rattle.htl_event.specs.declared.memory.NoMemory.{NoMemory}
use Rattle.htl_segment.specs.Content.{Content}
use Rattle.htl_analyst.specs.States.{State}
use Rattle.htl_analyst.specs.Keys.{HasTaken}
use Rattle.htl_exchange.specs.declared.parcel.Parcel.{Parcel}
use Rattle.htl_exchange.specs.declared.parcel.Parcel.TheVariants as parcels
use Rattle.htl_exchange.specs.declared.desk.Collected.{Collected}
use Rattle.htl_exchange.specs.declared.desk.Collected.TheVariants as collected
use Rattle.htl_exchange.specs.declared.pass.Known.{Known}
use Rattle.htl_exchange.specs.Runs.{has, one, runs_of}
use Rattle.htl_exchange.specs.Parcels.{named}
use Rattle.htl_exchange.specs.Rule.{all_parts}
use Rattle.htl_exchange.specs.Moves.{popped}

-- What was in hand before the call decides. A parcel in hand is taken in, and nothing is popped. With none in hand, `Run`
-- says that the run of one processor was popped, `State` that a state of some runs was, out of memory that one of both
-- was, and `Nothing` that nothing was.
abbrev pub CollectsAs : Option Parcel → Result Collected NoMemory → Known → Known → Type 0
CollectsAs (Some x) (Ok c) v w = (c ≡ named x) × (w ≡ v)
CollectsAs (Some x) (Err e) v w = w ≡ v
CollectsAs None (Ok collected.Run) v w = (p : ℕ) × (w ≡ popped v collected.Run (one p))
CollectsAs None (Ok collected.State) v w = (runs : List Bool) × (w ≡ popped v collected.State runs)
CollectsAs None (Ok collected.Nothing) v w = w ≡ v
CollectsAs None (Err e) v w = (name : Collected) × (runs : List Bool) × (name ≢ collected.Nothing) × (w ≡ popped v name runs)

-- What is in hand after a refusal wasn't taken in. If it is a run, the analyst hasn't taken all of its segments; if it is a
-- state, the analyst is as it was. So nothing is in hand where only the compaction was refused.
abbrev pub IsLeftInHand : State → State → Option Parcel → Type 0
IsLeftInHand before after None = Unit {0}
IsLeftInHand before after (Some (parcels.Run segments of)) =
    (s : Content) × Contains segments.items s × (HasTaken after s.processor s.number → ⊥)
IsLeftInHand before after (Some (parcels.State a)) = after ≡ before

-- a pass with every part has got all runs of its trace
abbrev pub HasRest : Known → Type 0
HasRest v = v.parts ≡ all_parts → (p : ℕ) → has v.got p ≡ has (runs_of v.trace.segments) p
