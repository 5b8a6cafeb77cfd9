-- Parcels (this project's own word): what the queue of an exchange holds, and what a desk has in hand.
use Rattle.std.specs.Prelude.{◌≡◌, ℕ, Bool, true, List, [], Contains, ◌↔◌}
use Rattle.htl_segment.specs.Content.{Content}
use Rattle.htl_segment.specs.Traces.{Trace, trace, HasKey}
use Rattle.htl_analyst.specs.Keys.{HasTaken}
use Rattle.htl_analyst.specs.Right.{IsRight}
use Rattle.htl_exchange.specs.declared.parcel.Parcel.{Parcel}
use Rattle.htl_exchange.specs.declared.parcel.Parcel.TheVariants as parcels
use Rattle.htl_exchange.specs.declared.desk.Collected.{Collected}
use Rattle.htl_exchange.specs.declared.desk.Collected.TheVariants as collected
use Rattle.htl_exchange.specs.Runs.{has, one, runs_of, runs_taken}

-- the name of a parcel in the answer of `collect`
abbrev pub named : Parcel → Collected
named (parcels.Run segments of) = collected.Run
named (parcels.State a) = collected.State

-- a trace of no segments, which is that of no case
abbrev pub no_trace : Trace
no_trace = trace 0 0 []

-- the trace of which a run was copied
abbrev pub trace_of : Parcel → Trace
trace_of (parcels.Run segments of) = of.value
trace_of (parcels.State a) = no_trace

abbrev pub runs_in : Parcel → List Bool
runs_in (parcels.Run segments of) = runs_of segments.items
runs_in (parcels.State a) = runs_taken a

-- one of these segments has this key
abbrev pub HasSegment : List Content → ℕ → ℕ → Type 0
HasSegment segments p n = (s : Content) × Contains segments s × (s.processor ≡ p) × (s.number ≡ n)

-- the parcel has the segment of this key, or a state that has taken it
abbrev pub Brings : Parcel → ℕ → ℕ → Type 0
Brings (parcels.Run segments of) p n = HasSegment segments.items p n
Brings (parcels.State a) p n = HasTaken a p n

-- the parcel has segments of the trace, or a state that is right about it
abbrev pub IsOf : Trace → Parcel → Type 0
IsOf T (parcels.Run segments of) = (s : Content) → Contains segments.items s → Contains T.segments s
IsOf T (parcels.State a) = IsRight a T

-- these are all keys that the trace has in these runs, and no others
abbrev pub AreWholeRuns : Trace → (ℕ → ℕ → Type 0) → List Bool → Type 0
AreWholeRuns T Has runs = (p n : ℕ) → Has p n ↔ ((has runs p ≡ true) × HasKey T p n)

-- if the parcel has segments, they are of one run
abbrev pub IsOneRun : Parcel → Type 0
IsOneRun (parcels.Run segments of) = (p : ℕ) × (runs_of segments.items ≡ one p)
IsOneRun (parcels.State a) = Unit {0}

-- A parcel of the trace: one whole run, or a state that is right and has taken whole runs.
pub record IsParcelOf (T : Trace) (x : Parcel) : Type 0 where
  pub of : IsOf T x
  pub whole : AreWholeRuns T (Brings x) (runs_in x)
  pub one_run : IsOneRun x
