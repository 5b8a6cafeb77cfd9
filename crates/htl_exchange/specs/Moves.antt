-- The five atomic steps of an exchange: what each makes of what a pass knows.
use Rattle.std.specs.Prelude.{◌≡◌, ℕ, ◌+◌, ◌-◌, ◌≤◌, Bool, ◌||◌, List, [], ◌∷◌, ◌++◌, length}
use Rattle.crossbeam_queue.specs.Passes.{Pass, view}
use Rattle.htl_segment.specs.Content.{Content}
use Rattle.htl_segment.specs.Traces.{Trace}
use Rattle.htl_exchange.specs.declared.parcel.Parcel.{Parcel}
use Rattle.htl_exchange.specs.declared.desk.Collected.{Collected}
use Rattle.htl_exchange.specs.declared.pass.Known.{Known}
use Rattle.htl_exchange.specs.declared.pass.Move.TheVariants.{Pop, Push}
use Rattle.htl_exchange.specs.Runs.{has, union, without, runs_of}
use Rattle.htl_exchange.specs.Parcels.{named, no_trace, trace_of, runs_in, IsParcelOf}
use Rattle.htl_exchange.specs.Rule.{all_parts, any_in}

-- what a pass knows
abbrev pub known_of : Pass Parcel Known → Known
known_of pass = view pass

-- the runs that aren't in the queue yet: before the first push all of the trace
abbrev pub left_of : Trace → List Content → List Bool → List Bool
left_of T [] got = runs_of T.segments
left_of T (s ∷ ss) got = got

-- 1. A filling push: the pass loses the parcel's run. The first one brings the trace.
abbrev pub Filled : Known → Parcel → Known → Type 0
Filled v x w =
    w ≡ record v {
      trace = trace_of x;
      got = without (left_of (trace_of x) v.trace.segments v.got) (runs_in x);
      pushes = v.pushes + 1;
    }

-- 2. A push of a parcel with just the runs that the pass has got: the log gains it.
abbrev pub pushed : Known → Known
pushed v = record v { log = v.log ++ Push v.got ∷ []; pushes = v.pushes + 1 }

abbrev pub Pushed : Known → Parcel → Known → Type 0
Pushed v x w = (w ≡ pushed v) × ((p : ℕ) → has (runs_in x) p ≡ has v.got p)

-- 3. A pop: the pass gets the parcel's runs, and the log gains it.
abbrev pub popped : Known → Collected → List Bool → Known
popped v name runs = record v { got = union v.got runs; log = v.log ++ Pop name runs ∷ [] }

abbrev pub Popped : Known → Parcel → Known → Type 0
Popped v x w = IsParcelOf v.trace x × (w ≡ popped v (named x) (runs_in x))

-- 4. Splitting: the new pass has one part, and has got nothing. (The first pass is made blank.)
abbrev pub split : Known → Known
split v = record v { parts = v.parts - 1 }

abbrev pub part : Known → Known
part v = record { trace = v.trace; parts = 1; got = []; log = []; pushes = 0 }

-- 5. Joining: the pass gets the other's runs and parts, its pushes are counted here, and the other is spent.
abbrev pub joined : Known → Known → Known
joined v u = record v { parts = v.parts + u.parts; got = union v.got u.got; pushes = v.pushes + u.pushes }

abbrev pub spent : Known
spent = record { trace = no_trace; parts = 0; got = []; log = []; pushes = 0 }

-- Who has every part knows that what it has got and what the queue holds make up the trace.
abbrev pub KnowsRest : Known → List Parcel → Type 0
KnowsRest v items = v.parts ≡ all_parts → (p : ℕ) → (any_in p items || has v.got p) ≡ has (runs_of v.trace.segments) p

-- Who has every part counts every push.
abbrev pub CountsPushes : Known → List Parcel → Type 0
CountsPushes v items = v.parts ≡ all_parts → length items ≤ v.pushes
