-- Reached keys (this project's own): the keys of the segments that reached each analyst by a list of steps, on plain sets.
use Rattle.std.specs.Prelude.{ℕ, Bool, false, ◌==◌, ◌&&◌, ◌||◌, List, fold, slice_get}
use Rattle.std.specs.Option.{option_map_or}
use Rattle.htl_segment.specs.Traces.{Trace}
use Rattle.htl_case.specs.declared.step.Step.{Step}
use Rattle.htl_case.specs.declared.step.Step.TheVariants.{Take, Merge, Compact}

-- the segment at this place of the trace has the key
abbrev pub is_key_at : Trace → ℕ → ℕ → ℕ → Bool
is_key_at T place p n = option_map_or (λ s. (p == s.processor) && (n == s.number)) (slice_get T.segments place) false

-- A set of keys for each analyst: `sets i p n` says whether segment n of processor p reached analyst i. A take adds its
-- segment's key, a merge unites the source's set into the target's, and a compaction changes nothing.
abbrev pub after_step : Trace → (ℕ → ℕ → ℕ → Bool) → Step → ℕ → ℕ → ℕ → Bool
after_step T sets (Take analyst segment) i p n = sets i p n || ((i == analyst) && is_key_at T segment p n)
after_step T sets (Merge target source) i p n = sets i p n || ((i == target) && sets source p n)
after_step T sets (Compact analyst) i p n = sets i p n

-- All sets begin empty, and the steps are done one after another.
abbrev pub reached : Trace → List Step → ℕ → ℕ → ℕ → Bool
reached T steps = fold (after_step T) (λ i p n. false) steps
