-- A job names one moment, and what a case misses says whether it is complete up to it.
use Rattle.std.proofs.Common.{◌≡◌, ℕ, true, false, List, [], ◌∷◌, ◌++◌, All, Option, Some, None, inl, inr, ap, sym, subst, ◌∙◌, arith}
use Rattle.std.proofs.lemmas.List.Elements.{All-head, All-tail}
use Rattle.std.proofs.lemmas.Bool.{ltb-true, ltb-false}
use Rattle.htl_segment.specs.Traces.{Trace}
use Rattle.htl_command.specs.declared.question.Moment.{Moment}
use Rattle.htl_command.specs.declared.question.Moment.TheVariants.{Sequence, Complete}
use Rattle.htl_inputs.specs.declared.cuts.CutEnd.{CutEnd}
use Rattle.htl_inputs.specs.declared.fault.RunFault.{RunFault}
use Rattle.htl_inputs.specs.declared.fault.RunFault.TheVariants.{Incomplete, UnknownCut}
use Rattle.htl_main.specs.CaseOutlines.{IsMissed}
use Rattle.htl_main.specs.Completeness.{IsComplete, IsKnown, ReportsMissing}
use Rattle.htl_main.specs.Picking.{EndsAnswer, NamesMissing}
use Rattle.htl_main.specs.Moments.{IsCompleteUntil, IsNamedMoment, is_above}
use Rattle.htl_main.specs.declared.coverage.Missed.{Missed}
use Rattle.htl_evidence.proofs.OneAnswer.{one_complete}

-- a job's moment over a trace is one
pub one_moment : (T : Trace) (named : Option Moment) (a b : Option ℕ) → IsNamedMoment T named a → IsNamedMoment T named b → a ≡ b
one_moment T None a b p q = p ∙ sym q
one_moment T (Some (Sequence n)) a b p q = p ∙ sym q
one_moment T (Some Complete) a b p q = p.2 ∙ ap (λ (n : ℕ). Some n) (one_complete T p.0 q.0 p.1 q.1) ∙ sym q.2

-- a complete trace is complete up to a moment
pub complete_until : (T : Trace) (cuts : List CutEnd) (until : Option Moment) → IsComplete T cuts → IsCompleteUntil T cuts until
complete_until T cuts None whole = whole
complete_until T cuts (Some (Sequence n)) whole = inl whole
complete_until T cuts (Some Complete) whole = tt

-- so is one that is complete to the moment
pub not_above : (T : Trace) (missed : Missed) (cuts : List CutEnd) (until : Option Moment) → IsMissed T missed
    → is_above until missed.extent.complete_to ≡ false → IsCompleteUntil T cuts until
not_above T missed cuts None is low = absurd (cc low)
not_above T missed cuts (Some (Sequence n)) is low = inr (missed.extent.complete_to, is.extent.is.complete_to, ltb-false missed.extent.complete_to n low)
not_above T missed cuts (Some Complete) is low = tt

at_seam : (P : CutEnd → Type 0) (earlier : List CutEnd) (cut : CutEnd) (later : List CutEnd) → All P (earlier ++ cut ∷ later) → P cut
at_seam P [] cut later all = All-head P cut later all
at_seam P (x ∷ earlier) cut later all = at_seam P earlier cut later (All-tail P x (earlier ++ cut ∷ later) all)

-- what is reported as missing keeps a trace from being complete
not_complete : (T : Trace) (cuts : List CutEnd) (fault : RunFault) → ReportsMissing T cuts fault → IsComplete T cuts → ⊥
not_complete T cuts (Incomplete p n) missing whole = whole.whole p missing.there
not_complete T cuts (UnknownCut input) missing whole =
    missing.unknown (at_seam (IsKnown T) missing.earlier missing.cut missing.later (subst (All (IsKnown T)) missing.parts whole.known))
not_complete T cuts fault missing whole = missing

-- and up to a moment to which it isn't complete
pub still_missing : (T : Trace) (missed : Missed) (cuts : List CutEnd) (until : Option Moment) (fault : RunFault) → IsMissed T missed
    → is_above until missed.extent.complete_to ≡ true → ReportsMissing T cuts fault → IsCompleteUntil T cuts until → ⊥
still_missing T missed cuts None fault is above missing whole = not_complete T cuts fault missing whole
still_missing T missed cuts (Some (Sequence m)) fault is above missing (inl whole) = not_complete T cuts fault missing whole
still_missing T missed cuts (Some (Sequence m)) fault is above missing (inr up) =
    let same = one_complete T missed.extent.complete_to up.0 is.extent.is.complete_to up.1 in
    let low = ltb-true missed.extent.complete_to m above in
    let le = up.2 in
    omega (arith, same, low, le)
still_missing T missed cuts (Some Complete) fault is above missing whole = absurd (cc above)

-- what is missing ends an answer
pub ends_answer : (fault : RunFault) → NamesMissing fault → EndsAnswer fault
ends_answer (Incomplete p n) names = tt
ends_answer (UnknownCut input) names = tt
ends_answer fault names = absurd names
