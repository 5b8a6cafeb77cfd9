-- The spans of the segments so far, with that of one input more, tell of each segment which input it is of; and so all inputs are decoded.
use Rattle.std.proofs.Common.{◌≡◌, ◌⊎◌, ◌<◌, ◌≤◌, ◌+◌, ℕ, zero, suc, List, [], ◌∷◌, ◌++◌, All, false, length, take, Option, Some, None}
use Rattle.std.proofs.Common.{refl, arith, inl, inr, subst}
use Rattle.std.specs.Prelude.{Contains, nat_lt, slice_get}
use Rattle.std.proofs.lemmas.Bool.{le-ltb, lt-ltb}
use Rattle.std.proofs.lemmas.List.Elements.{All-append, All-cons, All-head, All-nil, All-tail}
use Rattle.std.proofs.lemmas.List.Folds.{find-append}
use Rattle.std.proofs.lemmas.Option.{slice_get_within}
use Rattle.htl_command.specs.declared.question.InputForm.{InputForm}
use Rattle.htl_segment.specs.Content.{Content}
use Rattle.htl_segment.proofs.Spans.{at_place}
use Rattle.htl_reading.specs.declared.outcome.EarlyEnd.{EarlyEnd}
use Rattle.htl_inputs.specs.CutInputs.{AreCutEnds, cut_ends_at}
use Rattle.htl_inputs.specs.Ends.{IsInput}
use Rattle.htl_inputs.specs.Inputs.{DecodeAll, Decodes}
use Rattle.htl_inputs.specs.Spans.{AreDecoded, AreSpans, span_at}
use Rattle.htl_inputs.specs.declared.decoded.Decoded.{Decoded}
use Rattle.htl_inputs.specs.declared.decoded.InputSpan.{InputSpan}
use Rattle.htl_inputs.proofs.CutLaws.{ends_next, no_ends}
use Rattle.htl_inputs.proofs.InputLaws.{decode_next}

-- no spans tell of no segments
pub no_spans : (form : InputForm) (inputs : List (List ℕ)) → AreSpans form inputs [] []
no_spans form inputs = record { within = All-nil _; each = λ place s at. absurd cc }

-- an element of two lists is one of the first, or stands behind it and is one of the second
at_append : {X : Type 0} (xs ys : List X) (i : ℕ) (x : X) → slice_get (xs ++ ys) i ≡ Some x
    → (slice_get xs i ≡ Some x) ⊎ ((length xs ≤ i) × Contains ys x)
at_append [] ys i x at = inr (omega arith, at_place ys i x at)
at_append (z ∷ xs) ys zero x at = inl at
at_append (z ∷ xs) ys (suc i) x at = elim (at_append xs ys i x at) [
  | inl here ↦ inl here
  | inr there ↦ inr (let behind = there.0 in omega (arith, behind), there.1)
]

-- no span ends behind a place that none reaches
span_none : (spans : List InputSpan) (n place : ℕ) → All (λ span. span.end ≤ n) spans → n ≤ place → span_at spans place ≡ None
span_none [] n place within behind = refl
span_none (span ∷ spans) n place within behind =
    let here : span.end ≤ n = All-head (λ (p : InputSpan). p.end ≤ n) span spans within in
    let fails : nat_lt place span.end ≡ false = le-ltb place span.end (omega (arith, here, behind)) in
    rw fails (span_none spans n place (All-tail (λ (p : InputSpan). p.end ≤ n) span spans within) behind)

reach_more : (spans : List InputSpan) (n m : ℕ) → n ≤ m → All (λ span. span.end ≤ n) spans → All (λ span. span.end ≤ m) spans
reach_more [] n m below within = All-nil _
reach_more (span ∷ spans) n m below within =
    let here : span.end ≤ n = All-head (λ (p : InputSpan). p.end ≤ n) span spans within in
    All-cons (λ (p : InputSpan). p.end ≤ m) span spans (omega (arith, here, below))
    (reach_more spans n m below (All-tail (λ (p : InputSpan). p.end ≤ n) span spans within))

-- the span of one input more, behind the others, tells of its segments
pub spans_more : (form : InputForm) (inputs : List (List ℕ)) (segments more : List Content) (spans : List InputSpan) (span : InputSpan) (text : List ℕ)
    → slice_get inputs span.input ≡ Some text → Decodes form text more → span.end ≡ length (segments ++ more)
    → length (segments ++ more) ≡ length segments + length more
    → AreSpans form inputs segments spans → AreSpans form inputs (segments ++ more) (spans ++ span ∷ [])
spans_more form inputs segments more spans span text here decoded end long are =
    record {
      within = All-append (λ (p : InputSpan). p.end ≤ length (segments ++ more)) spans (span ∷ [])
          (reach_more spans (length segments) (length (segments ++ more)) (omega (arith, long)) are.within)
          (All-cons (λ (p : InputSpan). p.end ≤ length (segments ++ more)) span [] (omega (arith, end))
          (All-nil (λ (p : InputSpan). p.end ≤ length (segments ++ more))));
      each = λ place s at. elim (at_append segments more place s at) [
        | inl before ↦
            let old = are.each place s before in
            (old.0, rw (find-append (λ (p : InputSpan). nat_lt place p.end) spans (span ∷ []), old.1) refl, old.2)
        | inr behind ↦
            let none = span_none spans (length segments) place are.within behind.0 in
            let below : place < span.end = (let within = slice_get_within (segments ++ more) place s at in omega (arith, within, end)) in (
              span,
              rw (find-append (λ (p : InputSpan). nat_lt place p.end) spans (span ∷ []), none, lt-ltb place span.end below) refl,
              record { input = text; here = here; own = more; decoded = decoded; has = behind.1 },
            )
      ];
    }

-- ---- one input after another

-- what the inputs before a place are decoded to
pub record IsSoFar (form : InputForm) (texts : List (List ℕ)) (place : ℕ) (decoded : Decoded) : Type 0 where
  pub segments : DecodeAll form (take place texts) decoded.segments.items
  pub spans : AreSpans form texts decoded.segments.items decoded.spans.items
  pub cuts : AreCutEnds form.hex (take place texts) decoded.cuts.items

module _ (form : InputForm) (texts : List (List ℕ)) where
  -- before the first
  pub none_so_far : (new : Decoded) → new.segments.items ≡ [] → AreSpans form texts new.segments.items new.spans.items → new.cuts.items ≡ []
      → IsSoFar form texts 0 new
  none_so_far new segments spans cuts = record { segments = segments; spans = spans; cuts = rw cuts (no_ends form.hex texts) }

  -- one more
  pub one_so_far : (place : ℕ) (text : List ℕ) (old new : Decoded) (more : List Content) (end : Option EarlyEnd)
      → slice_get texts place ≡ Some text → IsInput form text more end → IsSoFar form texts place old
      → new.segments.items ≡ old.segments.items ++ more
      → (slice_get texts place ≡ Some text → Decodes form text more → AreSpans form texts old.segments.items old.spans.items
      → AreSpans form texts new.segments.items new.spans.items)
      → new.cuts.items ≡ old.cuts.items ++ cut_ends_at place end → IsSoFar form texts (place + 1) new
  one_so_far place text old new more end here is before segments spans cuts = record {
    segments = rw segments (decode_next form texts place text old.segments.items more here before.segments is.decoded);
    spans = spans here is.decoded before.spans;
    cuts = rw cuts (ends_next form.hex texts place text end old.cuts.items here before.cuts is.ends);
  }

  -- behind the last
  pub all_so_far : (place : ℕ) (decoded : Decoded) → take place texts ≡ texts → IsSoFar form texts place decoded → AreDecoded form texts decoded
  all_so_far place decoded whole is = record {
    given = record {
      segments = subst (λ (ts : List (List ℕ)). DecodeAll form ts decoded.segments.items) whole is.segments;
      cuts = subst (λ (ts : List (List ℕ)). AreCutEnds form.hex ts decoded.cuts.items) whole is.cuts;
    };
    spans = is.spans;
  }
