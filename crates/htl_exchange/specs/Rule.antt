-- Rule of the exchange (this project's own): whatever the desks do, the parcels in the queue and what the
-- desks have got make up the trace.
use Rattle.std.specs.Prelude.{◌≡◌, ℕ, ◌+◌, ◌<◌, ◌≤◌, Bool, false, ◌||◌, List, [], ◌∷◌, length}
use mathlib.Core.Option.{some}
use lib.ListN.{get_elem?}
use Rattle.htl_segment.specs.Traces.{Trace}
use Rattle.htl_exchange.specs.declared.parcel.Parcel.{Parcel}
use Rattle.htl_exchange.specs.declared.pass.Known.{Known}
use Rattle.htl_exchange.specs.Runs.{has, runs_of}
use Rattle.htl_exchange.specs.Parcels.{no_trace, runs_in, IsParcelOf}

-- how many parts all passes have together
abbrev pub all_parts : ℕ
all_parts = 8

-- the first pass, before the first run is put into the queue
abbrev pub blank : Known
blank = record { trace = no_trace; parts = all_parts; got = []; log = []; pushes = 0 }

-- the sum of a number of each pass
abbrev pub total : (Known → ℕ) → List Known → ℕ
total number [] = 0
total number (v ∷ vs) = number v + total number vs

abbrev pub parts_of : List Known → ℕ
parts_of vs = total (λ v. v.parts) vs

abbrev pub pushes_of : List Known → ℕ
pushes_of vs = total (λ v. v.pushes) vs

-- some pass has got the run
abbrev pub any_got : ℕ → List Known → Bool
any_got p [] = false
any_got p (v ∷ vs) = has v.got p || any_got p vs

-- some parcel has the run
abbrev pub any_in : ℕ → List Parcel → Bool
any_in p [] = false
any_in p (x ∷ xs) = has (runs_in x) p || any_in p xs

-- a pass with a part knows the trace, and one with none has got and pushed nothing
pub record IsPassAbout (T : Trace) (v : Known) : Type 0 where
  pub trace : 0 < v.parts → v.trace ≡ T
  pub spent : v.parts ≡ 0 → (p : ℕ) → has v.got p ≡ false
  pub idle : v.parts ≡ 0 → v.pushes ≡ 0

-- The rule: there are eight parts, each parcel and each pass is about one trace, and a run is in a parcel or was
-- got by a pass exactly where the trace has it. There are no more parcels than were pushed. Before the first push
-- there is no trace, and no parcel.
pub record MakesUp (items : List Parcel) (passes : List Known) : Type 0 where
  pub trace : Trace
  pub parts : parts_of passes ≡ all_parts
  pub parcels : (k : ℕ) (x : Parcel) → get_elem? items k ≡ some x → IsParcelOf trace x
  pub about : (k : ℕ) (v : Known) → get_elem? passes k ≡ some v → IsPassAbout trace v
  pub runs : (p : ℕ) → (any_in p items || any_got p passes) ≡ has (runs_of trace.segments) p
  pub few : length items ≤ pushes_of passes
  pub begins : trace.segments ≡ [] → items ≡ []
