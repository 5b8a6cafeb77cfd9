-- What is written of a trace (this project's own): segments of it, one after the other.
use Rattle.std.specs.Prelude.{◌≡◌, ℕ, zero, suc, List, [], ◌∷◌, ◌++◌, Option, All, map}
use Rattle.std.specs.Io.KnownBytes.{Appends}
use Rattle.htl_segment.specs.Content.{Content, Fits}
use Rattle.htl_segment.specs.Bundles.{bundle}
use Rattle.htl_samples.specs.Samples.{IsOfTrace}
use Rattle.htl_samples.specs.declared.trace.Trace.{Trace}

-- known bytes grow by those of these segments, which are of the trace
pub record Writes (trace : Trace) (segments : List Content) (old new : Option (List ℕ)) : Type 0 where
  pub of_trace : All (IsOfTrace trace) segments
  pub fit : All Fits segments
  pub bytes : Appends old new (bundle segments)

-- a processor and a number
abbrev pub key_of : Content → ℕ × ℕ
key_of s = (s.processor, s.number)

-- the keys of the first processors at a number
abbrev pub turn : ℕ → ℕ → List (ℕ × ℕ)
turn zero number = []
turn (suc processor) number = turn processor number ++ (processor, number) ∷ []

-- those of all processors at number 0, then at number 1, and so on, so many times
abbrev pub turns : ℕ → ℕ → List (ℕ × ℕ)
turns processors zero = []
turns processors (suc number) = turns processors number ++ turn processors number

-- by those of segments with these keys, in this order
abbrev pub WritesKeys : Trace → List (ℕ × ℕ) → Option (List ℕ) → Option (List ℕ) → Type 0
WritesKeys trace keys old new = (segments : List Content) × Writes trace segments old new × (map key_of segments ≡ keys)
