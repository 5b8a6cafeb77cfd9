-- Cases (this project's own word): all segments of one trace in hand, whose sequences rise along each processor.
use Rattle.std.specs.Prelude.{◌≢◌, List, [], Contains, ◌↔◌}
use Rattle.htl_segment.specs.Content.{Content}
use Rattle.htl_segment.specs.Traces.{Trace, IsTrace}
use Rattle.htl_segment.specs.Rising.{SequencesRise}

pub record IsCase (T : Trace) : Type 0 where
  pub some : T.segments ≢ []
  pub trace : IsTrace T
  pub rising : SequencesRise T.segments

-- The case of a list of segments: its segments are those of the list, equal repeats dropped. (A trace has
-- each once, in order of their keys.)
pub record IsCaseOf (segments : List Content) (T : Trace) : Type 0 where
  pub is_case : IsCase T
  pub members : (s : Content) → Contains T.segments s ↔ Contains segments s
