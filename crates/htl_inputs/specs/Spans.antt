-- For the clauses of steps of a run: which input each of the decoded segments is of.
use Rattle.std.specs.Prelude.{◌≡◌, ℕ, ◌≤◌, nat_lt, List, All, length, slice_get, Option, Some}
use Rattle.std.specs.List.{find}
use Rattle.htl_command.specs.declared.question.InputForm.{InputForm}
use Rattle.htl_segment.specs.Content.{Content}
use Rattle.htl_inputs.specs.CutInputs.{IsDecoding, decoding}
use Rattle.htl_inputs.specs.Inputs.{HasSegment}
use Rattle.htl_inputs.specs.declared.decoded.Decoded.{Decoded}
use Rattle.htl_inputs.specs.declared.decoded.InputSpan.{InputSpan}

-- the first span that ends behind a place
abbrev pub span_at : List InputSpan → ℕ → Option InputSpan
span_at spans place = find (λ span. nat_lt place span.end) spans

-- the span of each segment names an input that has the segment
pub record AreSpans (form : InputForm) (inputs : List (List ℕ)) (segments : List Content) (spans : List InputSpan) : Type 0 where
  pub within : All (λ span. span.end ≤ length segments) spans
  pub each :
      (place : ℕ) (s : Content) → slice_get segments place ≡ Some s
      → (span : InputSpan) × (span_at spans place ≡ Some span) × HasSegment form inputs span.input s

-- what inputs are decoded to: their segments and where they are cut, and the input of each segment
pub record AreDecoded (form : InputForm) (inputs : List (List ℕ)) (decoded : Decoded) : Type 0 where
  pub given : IsDecoding form inputs (decoding decoded.segments.items decoded.cuts.items)
  pub spans : AreSpans form inputs decoded.segments.items decoded.spans.items
