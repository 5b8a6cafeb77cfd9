-- A coverage is touched exactly where the case isn't complete up to the moment.
use Rattle.std.proofs.Common.{◌≡◌, Bool, true, false, ◌&&◌, not, List, [], ◌∷◌, Option, Some, None, inl, inr, ◌⊎◌, length, ap, sym, refl, ◌∙◌, arith}
use Rattle.std.specs.Prelude.{◌==◌, ◌↔◌, Contains, nat_lt}
use Rattle.std.proofs.lemmas.List.Elements.{All-nil}
use Rattle.std.proofs.lemmas.Bool.{cases_Bool, eqb-true, le-ltb, ltb-false}
use Rattle.htl_event.proofs.Members.{Contains-nil, Contains-here}
use Rattle.htl_segment.specs.Traces.{Trace}
use Rattle.htl_taken.specs.Gaps.{processor_of}
use Rattle.htl_taken.specs.declared.gap.Gap.{Gap}
use Rattle.htl_command.specs.declared.question.Moment.{Moment}
use Rattle.htl_command.specs.declared.question.Moment.TheVariants.{Sequence, Complete}
use Rattle.htl_main.specs.Completeness.{IsComplete, IsKnown}
use Rattle.htl_main.specs.Coverages.{IsCoverage}
use Rattle.htl_main.specs.Moments.{IsCompleteUntil, is_touched}
use Rattle.htl_main.specs.declared.coverage.Coverage.{Coverage}
use Rattle.htl_evidence.proofs.OneAnswer.{one_complete}

empty : (gaps : List Gap) → length gaps ≡ 0 → (gap : Gap) → Contains gaps gap → ⊥
empty [] none gap here = Contains-nil gap here
empty (first ∷ more) none gap here = absurd cc

no_gap_listed : (gaps : List Gap) → ((gap : Gap) → Contains gaps gap → ⊥) → length gaps ≡ 0
no_gap_listed [] none = refl
no_gap_listed (first ∷ more) none = absurd (none first (Contains-here first more))

module _ (T : Trace) (coverage : Coverage) (is : IsCoverage T coverage) where
  whole : coverage.gaps ≡ 0 → IsComplete T []
  whole none = record {
    whole = λ p misses. elim misses [
      | inl gap ↦ empty is.gaps (sym is.counted ∙ none) gap.0 ((is.are_gaps.members gap.0).1 gap.1)
      | inr cut ↦ Contains-nil cut.0 cut.1
    ];
    known = All-nil (IsKnown T);
  }

  no_gaps : IsComplete T [] → coverage.gaps ≡ 0
  no_gaps complete = is.counted ∙ no_gap_listed is.gaps (λ gap here.
      complete.whole (processor_of gap) (inl (gap, (is.are_gaps.members gap).0 here, refl)))

  -- a coverage without a gap is touched by no moment
  untouched : (until : Option Moment) → coverage.gaps ≡ 0 → is_touched coverage until ≡ false
  untouched until none = rw none refl

  -- where a moment isn't touched, there is no gap, or the moment isn't above what the case is complete to
  either : (above : Bool) → (not (coverage.gaps == 0) && above) ≡ false → (coverage.gaps ≡ 0) ⊎ (above ≡ false)
  either above none = elim (cases_Bool (coverage.gaps == 0)) [
    | inl no_gap ↦ inl (eqb-true coverage.gaps 0 no_gap)
    | inr some ↦ inr (sym (ap (λ (t : Bool). not t && above) some) ∙ none)
  ]

  never : (t : Bool) → (t && false) ≡ false
  never true = refl
  never false = refl

  pub touched : (until : Option Moment) → (is_touched coverage until ≡ false) ↔ IsCompleteUntil T [] until
  touched None = (
    (λ none. elim (either true none) [ inl no_gap ↦ whole no_gap | inr above ↦ absurd cc ]),
    (λ complete. untouched None (no_gaps complete)),
  )
  touched (Some (Sequence moment)) = (
    (λ none. elim (either (nat_lt coverage.complete_to moment) none) [
      | inl no_gap ↦ inl (whole no_gap)
      | inr below ↦ inr (coverage.complete_to, is.complete_to, ltb-false coverage.complete_to moment below)
    ]),
    (λ complete. elim complete [
      | inl all ↦ untouched (Some (Sequence moment)) (no_gaps all)
      | inr to ↦
          let same : to.0 ≡ coverage.complete_to = one_complete T to.0 coverage.complete_to to.1 is.complete_to in
          let le = to.2 in
          let below : nat_lt coverage.complete_to moment ≡ false = le-ltb coverage.complete_to moment (omega (arith, same, le)) in
          ap (λ (t : Bool). not (coverage.gaps == 0) && t) below ∙ never (not (coverage.gaps == 0))
    ]),
  )
  touched (Some Complete) = ((λ none. tt), (λ complete. never (not (coverage.gaps == 0))))
