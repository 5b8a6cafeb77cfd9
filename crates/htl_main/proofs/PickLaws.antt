-- What is asked about of one source more is picked, or its fault is reported.
use Rattle.std.proofs.Common.{◌≡◌, ◌≢◌, ◌+◌, ℕ, Bool, false, List, [], ◌++◌, length, take, refl, sym, subst, Option, None, Some}
use Rattle.std.proofs.Common.{IfErr, IfOk, IfSome, Result, Ok, Err}
use Rattle.std.specs.Prelude.{slice_get}
use Rattle.htl_command.specs.declared.question.InputForm.{InputForm}
use Rattle.htl_event.specs.declared.interest.Interest.{Interest}
use Rattle.htl_segment.specs.Bundles.{bundle, Splits}
use Rattle.htl_segment.specs.Content.{Content}
use Rattle.htl_segment.specs.Picks.{ArePicksOf}
use Rattle.htl_segment.specs.declared.picks.Picks.{Picks}
use Rattle.htl_case.specs.declared.fault.CaseFault.{CaseFault}
use Rattle.htl_reading.specs.Sources.{IsLeft}
use Rattle.htl_reading.specs.declared.outcome.Bundle.{Bundle}
use Rattle.htl_reading.specs.declared.fault.SourceFault.{SourceFault}
use Rattle.htl_reading.specs.declared.fault.SourceFault.TheVariants.{Segment, Read, NoMemory}
use Rattle.htl_inputs.specs.Ends.{IsEnd, IsEndRefused}
use Rattle.htl_inputs.specs.Faults.{of_source}
use Rattle.htl_inputs.specs.Sources.{IsReportedOfSource}
use Rattle.htl_inputs.specs.declared.cuts.Accepted.{Accepted}
use Rattle.htl_inputs.specs.declared.fault.RunFault.{RunFault}
use Rattle.htl_inputs.specs.declared.fault.RunFault.TheVariants.{Case}
use Rattle.htl_inputs.proofs.EndLaws.{input_of, source_refused}
use Rattle.htl_inputs.proofs.InputLaws.{decode_next}
use Rattle.htl_main.specs.Picking.{ArePicksMore, ArePicksOfAll}
use Rattle.htl_reading.specs.declared.outcome.EarlyEnd.{EarlyEnd}

abbrev gathers : Picks → Picks → List Content → Type 0
gathers start now segments = ArePicksOf start.interest now segments

picks_more : (form : InputForm) (old new : Picks) (bytes rest : List ℕ) (more : List Content) (end : Option EarlyEnd) → form.hex ≡ false
    → Splits bytes more rest
    → ((kind : Picks) (before : List Content) → gathers kind old before → gathers kind new (before ++ more)) → IsEnd form more rest end
    → ArePicksMore form old new bytes end
picks_more form old new bytes rest more end is split took ends = record {
  more = more;
  are = input_of form bytes bytes rest more (rw is refl) split end ends;
  picks = λ interest segments are.
      subst (λ (i : Interest). ArePicksOf i new (segments ++ more)) are.about
      (took old segments (subst (λ (i : Interest). ArePicksOf i old segments) (sym are.about) are));
}

-- what gathering says of a keeper of picks
abbrev Gathered : Picks → Bundle Picks → List ℕ → Type 0
Gathered old new bytes =
    (more : List Content) × (rest : List ℕ) × Splits bytes more rest × IsLeft more rest new.early_end
    × ((kind : Picks) (before : List Content) → gathers kind old before → gathers kind new.segments (before ++ more))

-- what was gathered of a source, where its rest may be left, is picked of one source more
pub accepted_more : (form : InputForm) (given : Option (List ℕ)) (old : Picks) (new : Bundle Picks)
    (result : Result (Accepted Picks) RunFault) → form.hex ≡ false → IfSome given (Gathered old new)
    → IfOk result (λ it. it.segments ≡ new.segments)
    → ((segments : List Content) (rest : List ℕ) → IsLeft segments rest new.early_end → IfOk result (λ it. IsEnd form segments rest it.end))
    → IfOk result (λ it. IfSome given (λ bytes. ArePicksMore form old it.segments bytes it.end))
accepted_more form None old new (Ok it) is of kept end = tt
accepted_more form (Some bytes) old new (Ok it) is of kept end =
    rw kept (picks_more form old new.segments bytes of.1 of.0 it.end is of.2 of.4 (end of.0 of.1 of.3))
accepted_more form given old new (Err fault) is of kept end = tt

-- what was gathered of a source, where its rest may not be left, is reported
pub refused_more : (form : InputForm) (given left : Option (List ℕ)) (ended : Bool) (place : ℕ) (old : Picks) (new : Bundle Picks)
    (result : Result (Accepted Picks) RunFault) → form.hex ≡ false → IfSome given (Gathered old new)
    → ((segments : List Content) (rest : List ℕ) → IsLeft segments rest new.early_end
    → IfErr result (IsEndRefused form place (length (bundle segments)) rest))
    → IfErr result (λ fault. IfSome given (λ bytes. IsReportedOfSource form left ended place bytes fault))
refused_more form given left ended place old new (Ok it) is of refused = tt
refused_more form None left ended place old new (Err fault) is of refused = tt
refused_more form (Some bytes) left ended place old new (Err fault) is of refused =
    source_refused form bytes of.1 of.0 is of.2 left ended place fault (refused of.0 of.1 of.3)

-- before the first input nothing was picked
pub none_picked : (form : InputForm) (interest : Interest) (inputs : List (List ℕ)) (picks : Picks) → ArePicksOf interest picks []
    → ArePicksOfAll form interest (take 0 inputs) picks
none_picked form interest inputs picks are = record { segments = []; decoded = refl; picks_of = are }

-- what was picked of the inputs before a place, with that of the one there, is picked of one input more
pub one_picked : (form : InputForm) (interest : Interest) (inputs : List (List ℕ)) (place : ℕ) (input : List ℕ) (old new : Picks)
    (end : Option EarlyEnd) → slice_get inputs place ≡ Some input → ArePicksOfAll form interest (take place inputs) old
    → ArePicksMore form old new input end → ArePicksOfAll form interest (take (place + 1) inputs) new
one_picked form interest inputs place input old new end here before one = record {
  segments = _;
  decoded = decode_next form inputs place input before.segments one.more here before.decoded one.are.decoded;
  picks_of = one.picks interest before.segments before.picks_of;
}

-- a fault of a source is none of a case
pub never_case : (place : ℕ) (fault : SourceFault) (broken : CaseFault) → of_source place fault ≢ Case broken
never_case place (Segment offset fault) broken is = cc is
never_case place Read broken is = cc is
never_case place NoMemory broken is = cc is
