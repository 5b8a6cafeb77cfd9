-- For the clauses of private functions: outlines of segments.
use Rattle.std.specs.Prelude.{◌≡◌, ◌≢◌, ℕ, nat_le, Bool, false, ◌==◌, ◌&&◌, List, [], Contains, count_by, Option, None, Some}
use Rattle.htl_event.specs.declared.growth.Span.{Span}
use Rattle.htl_segment.specs.Content.{Content}
use Rattle.htl_segment.specs.Outlines.{outline_of}
use Rattle.htl_segment.specs.Rising.{IsKeyBefore}
use Rattle.htl_segment.specs.declared.outline.Outline.{Outline}

abbrev pub outline_key : Outline → ℕ × ℕ
outline_key o = (o.processor, o.number)

abbrev pub IsOutlineBefore : Outline → Outline → Type 0
IsOutlineBefore o p = IsKeyBefore (outline_key o) (outline_key p)

abbrev pub has_key : ℕ × ℕ → Outline → Bool
has_key key o = (o.processor == key.0) && (o.number == key.1)

-- at how many places of the list the key is
abbrev pub times_key : ℕ × ℕ → List Outline → ℕ
times_key key outlines = count_by (has_key key) outlines

abbrev pub is_of : ℕ → ℕ → Outline → Bool
is_of trace_id processors o = (o.trace_id == trace_id) && (o.processors == processors)

-- the outlines have one trace id and one processor count, which is this
pub record AreOfOne (outlines : List Outline) (processors : ℕ) : Type 0 where
  pub some : outlines ≢ []
  pub trace_id : ℕ
  pub trace : (o : Outline) → Contains outlines o → o.trace_id ≡ trace_id
  pub count : (o : Outline) → Contains outlines o → o.processors ≡ processors

-- the sequences from the first to the last of the outline meet those of the span
abbrev pub meets : Option Span → Outline → Bool
meets None o = false
meets (Some span) o = nat_le o.first span.last && nat_le span.first o.last

-- the segment may have an event within the span
abbrev pub may_have : Option Span → Content → Bool
may_have span s = meets span (outline_of s)
