-- What segments made for tests are of.
use Rattle.std.specs.Prelude.{◌≡◌}
use Rattle.htl_segment.specs.Content.{Content}
use Rattle.htl_samples.specs.declared.trace.Trace.{Trace}

-- the segment is of this trace
abbrev pub IsOfTrace : Trace → Content → Type 0
IsOfTrace trace s = (s.trace_id ≡ trace.id) × (s.processors ≡ trace.processors)
