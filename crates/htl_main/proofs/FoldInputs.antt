-- A folder takes inputs one after another, and a reading that forgets ends for a fault of theirs or of what was taken.
use Rattle.std.proofs.Common.{◌≡◌, ◌≢◌, ◌⊎◌, ◌<◌, ◌≤◌, ℕ, Bool, true, false, List, [], ◌∷◌, ◌++◌, length, take}
use Rattle.std.proofs.Common.{refl, sym, ap, ◌∙◌, subst, arith, inl, inr, append_assoc, append-nil, length-append}
use Rattle.std.proofs.Common.{Option, Some, None, IfErr, IfOk, IfSome, MatchResult, Result, Ok, Err, Vec, Global}
use Rattle.std.specs.Prelude.{⊤, Contains, OnOk, slice_get}
use Rattle.std.proofs.lemmas.Result.{on_ok_weaker}
use Rattle.htl_event.proofs.Members.{Contains-here}
use Rattle.htl_analyst.specs.States.{State}
use Rattle.htl_analyst.specs.TakenAll.{IsFirstOf}
use Rattle.htl_case.specs.declared.fault.CaseFault.{CaseFault}
use Rattle.htl_case.specs.declared.fault.CaseFault.TheVariants as cases
use Rattle.htl_command.specs.declared.question.InputForm.{InputForm}
use Rattle.htl_command.specs.declared.question.Setting.{Setting}
use Rattle.htl_device.specs.States.{SourceState, lefts}
use Rattle.htl_reading.specs.declared.digits.DigitsFault.{DigitsFault}
use Rattle.htl_reading.specs.declared.digits.DigitsFault.TheVariants as reads
use Rattle.htl_reading.specs.Sources.{IsLeft}
use Rattle.htl_reading.specs.Taking.{TookBefore, TookToEnd}
use Rattle.htl_reading.specs.declared.fault.SourceFault.{SourceFault}
use Rattle.htl_reading.specs.declared.fault.SourceFault.TheVariants as sources
use Rattle.htl_reading.specs.declared.outcome.EarlyEnd.{EarlyEnd}
use Rattle.htl_segment.specs.Bundles.{Splits, bundle}
use Rattle.htl_segment.specs.Content.{Content}
use Rattle.htl_segment.specs.Keepers.{Took, TookUpTo}
use Rattle.htl_segment.specs.Traces.{Trace}
use Rattle.htl_segment.specs.declared.fault.Fault.{Fault}
use Rattle.htl_segment.specs.declared.fault.Fault.TheVariants as segments
use Rattle.htl_inputs.specs.CutInputs.{AreCutEnds}
use Rattle.htl_inputs.specs.Ends.{IsEnd, IsEndRefused, IsInput}
use Rattle.htl_inputs.specs.Faults.{of_case, of_digits, of_segment, of_source}
use Rattle.htl_inputs.specs.Inputs.{DecodeAll, HasBytes}
use Rattle.htl_inputs.specs.Readings.{AreRead}
use Rattle.htl_inputs.specs.Sources.{IsReportedOfSource}
use Rattle.htl_inputs.specs.declared.cuts.CutEnd.{CutEnd}
use Rattle.htl_inputs.specs.declared.fault.RunFault.{RunFault}
use Rattle.htl_inputs.specs.declared.fault.RunFault.TheVariants as faults
use Rattle.htl_inputs.proofs.EndLaws.{input_of, source_of, source_refused}
use Rattle.htl_inputs.proofs.ReadingLaws.{ends_too, ill}
use Rattle.htl_main.specs.Completeness.{ReportsMissing}
use Rattle.htl_main.specs.Folders.{AreAllTaken, Folds, GaveOwn, IsAddedToFolded, IsMissingOf, IsNotAdded, IsOfInput, IsSymbolsFault, KeepsAll}
use Rattle.htl_main.specs.Folders.{IsBegun, TookInputs, TookToFault, folds_of, number_of}
use Rattle.htl_main.specs.Folding.{AreAccepted, AreFolded, AreGiven, AreReadToFold, AreRising, AreTaken, AsksFoldsMemory, Folding}
use Rattle.htl_main.specs.Folding.{IsBeginningRefused}
use Rattle.htl_main.specs.Folding.{IsCollectionOf, IsFolded, IsFoldedFar, IsFoldedUpTo, IsFoldingRefused, IsFoldsFault, IsHalfKnown, IsMissingOfFirsts}
use Rattle.htl_main.specs.Folding.{StopsFolding, TakesUpTo, counted, folding}
use Rattle.htl_main.specs.Printed.{WorkersFit}
use Rattle.htl_main.specs.declared.loading.adding.Added.{Added}
use Rattle.htl_main.specs.declared.folding.folder.Folder.{Folder}
use Rattle.htl_main.specs.declared.origin.Between.TheVariants.{Nothing}
use Rattle.htl_main.proofs.FoldLaws.{all_counted}
use Rattle.htl_main.proofs.LateFaults.{IsLate, read_late}
use Rattle.htl_main.proofs.RisingLaws.{accepted_rise}

-- ---- what a keeper took

module _ {S K : Type 0} (gathers : S → K → List Content → Type 0) where
  -- a keeper that stays as it is took no segments
  pub took_none : (k : K) → Took gathers k k []
  took_none k kind before was = subst (gathers kind k) (sym (append-nil before)) was

  -- a keeper that took some segments, and then more, took both in order
  pub took_both : (a b c : K) (first more : List Content) → Took gathers a b first → Took gathers b c more → Took gathers a c (first ++ more)
  took_both a b c first more one two kind before was =
      subst (gathers kind c) (append_assoc before first more) (two kind (before ++ first) (one kind before was))

  -- of an input it took these, or those before its fault
  abbrev pub TookInput : K → K → InputForm → List ℕ → Option EarlyEnd → Type 0
  TookInput old new form text end = (given : List Content) × IsInput form text given end × Took gathers old new given

  -- a keeper took the segments that an input gave before its fault
  abbrev pub TookOwn : K → K → InputForm → Option (List ℕ) → List ℕ → RunFault → Type 0
  TookOwn old new form left text fault =
      fault ≢ faults.Memory → (given : List Content) × GaveOwn form left text fault given × Took gathers old new given

  module _ (old new : K) (form : InputForm) (place : ℕ) where
    -- ---- a text

    own_of_end : (left : Option (List ℕ)) (text bytes rest : List ℕ) (segments : List Content) (fault : RunFault)
        → HasBytes form.hex text bytes → Splits bytes segments rest → IsEndRefused form place (length (bundle segments)) rest fault
        → GaveOwn form left text fault segments
    own_of_end left text bytes rest segments fault has split refused = rw (refused.is) (bytes, rest, has, split, refl)

    -- an input whose bytes were taken, and whose rest may be left, was taken
    pub text_ok : (text bytes rest : List ℕ) (segments : List Content) (result : Result (Option EarlyEnd) RunFault) → HasBytes form.hex text bytes
        → Splits bytes segments rest → Took gathers old new segments → IfOk result (IsEnd form segments rest)
        → IfOk result (λ is_cut. TookInput old new form text is_cut)
    text_ok text bytes rest segments (Ok is_cut) has split took end =
        (segments, input_of form text bytes rest segments has split is_cut end, took)
    text_ok text bytes rest segments (Err fault) has split took end = tt

    -- where the rest of an input's bytes may not be left, the segments before it were taken before its fault
    pub text_kept : (left : Option (List ℕ)) (text bytes rest : List ℕ) (segments : List Content) (result : Result (Option EarlyEnd) RunFault)
        → HasBytes form.hex text bytes → Splits bytes segments rest → Took gathers old new segments
        → IfErr result (IsEndRefused form place (length (bundle segments)) rest)
        → IfErr result (λ fault. TookOwn old new form left text fault)
    text_kept left text bytes rest segments (Ok is_cut) has split took refused = tt
    text_kept left text bytes rest segments (Err fault) has split took refused =
        λ other. (segments, own_of_end left text bytes rest segments fault has split refused, took)

    -- bytes that are no segment
    pub kept_before : (left : Option (List ℕ)) (text bytes : List ℕ) (offset : ℕ) (fault : Fault) → HasBytes form.hex text bytes
        → (fault ≢ segments.NoMemory → TookUpTo gathers old new bytes offset)
        → TookOwn old new form left text (of_segment place offset fault)
    kept_before left text bytes offset segments.NoMemory has kept other = absurd (other refl)
    kept_before left text bytes offset fault has kept other =
        let took = kept (λ is. cc is) in
        (took.0.before, (bytes, took.0.rest, has, took.0.splits, took.0.offset_is), took.1)

    -- ---- a source of bytes

    -- a source of bytes that was taken to its end, and whose rest may be left, was taken as an input
    pub source_ok : (first : Option (List ℕ)) (end : Option EarlyEnd) (result : Result (Option EarlyEnd) RunFault) → form.hex ≡ false
        → IfSome first (TookToEnd gathers old new end)
        → ((segments : List Content) (rest : List ℕ) → IsLeft segments rest end → IfOk result (IsEnd form segments rest))
        → IfOk result (λ is_cut. IfSome first (λ text. TookInput old new form text is_cut))
    source_ok None end (Ok is_cut) is took ends = tt
    source_ok (Some text) end (Ok is_cut) is took ends =
        (took.0, source_of form text took.1 took.0 is took.2 is_cut (ends took.0 took.1 took.3), took.4)
    source_ok first end (Err fault) is took ends = tt

    -- where the rest of a source may not be left, its fault is reported
    pub source_err : (first left : Option (List ℕ)) (ended : Bool) (end : Option EarlyEnd) (result : Result (Option EarlyEnd) RunFault)
        → form.hex ≡ false → IfSome first (TookToEnd gathers old new end)
        → ((segments : List Content) (rest : List ℕ) → IsLeft segments rest end
        → IfErr result (IsEndRefused form place (length (bundle segments)) rest))
        → IfErr result (λ fault. IfSome first (λ text. IsReportedOfSource form left ended place text fault))
    source_err first left ended end (Ok is_cut) is took refused = tt
    source_err None left ended end (Err fault) is took refused = tt
    source_err (Some text) left ended end (Err fault) is took refused =
        source_refused form text took.1 took.0 is took.2 left ended place fault (refused took.0 took.1 took.3)

    -- where the rest of a source may not be left, the segments before it were taken before its fault
    pub source_kept : (first left : Option (List ℕ)) (end : Option EarlyEnd) (result : Result (Option EarlyEnd) RunFault) → form.hex ≡ false
        → IfSome first (TookToEnd gathers old new end)
        → ((segments : List Content) (rest : List ℕ) → IsLeft segments rest end
        → IfErr result (IsEndRefused form place (length (bundle segments)) rest))
        → IfErr result (λ fault. IfSome first (λ text. TookOwn old new form left text fault))
    source_kept first left end (Ok is_cut) is took refused = tt
    source_kept None left end (Err fault) is took refused = tt
    source_kept (Some text) left end (Err fault) is took refused = λ other. (
      took.0,
      own_of_end left text text took.1 took.0 fault (rw is refl) took.2 (refused took.0 took.1 took.3),
      took.4,
    )

    at_fault : (left : Option (List ℕ)) (text : List ℕ) (fault : SourceFault) → form.hex ≡ false
        → TookBefore gathers old new left text fault → TookOwn old new form left text (of_source place fault)
    at_fault left text (sources.Segment offset fault) is took other =
        (took.0.before, (text, took.0.rest, rw is refl, took.0.splits, took.0.offset_is), took.1)
    at_fault left text sources.Read is took other =
        (took.segments, rw is (took.read, took.rest, took.gave, took.splits, took.is_rest), took.took)
    at_fault left text sources.NoMemory is took other = absurd (other refl)

    -- what was taken of a source before its fault was taken before the fault of the run
    pub fault_kept : (first left : Option (List ℕ)) (fault : SourceFault) → form.hex ≡ false
        → IfSome first (λ text. TookBefore gathers old new left text fault)
        → IfSome first (λ text. TookOwn old new form left text (of_source place fault))
    fault_kept None left fault is took = tt
    fault_kept (Some text) left fault is took = at_fault left text fault is took

  -- ---- digits

  -- nothing was taken of digits that give no bytes
  pub unread_kept : (k : K) (form : InputForm) (place : ℕ) (first left : Option (List ℕ)) (fault : DigitsFault) → form.hex ≡ true
      → IfSome first (λ text. TookOwn k k form left text (of_digits place fault))
  unread_kept k form place None left fault is = tt
  unread_kept k form place (Some text) left reads.NoMemory is = λ other. absurd (other refl)
  unread_kept k form place (Some text) left reads.Read is = λ other. ([], rw is refl, took_none k)
  unread_kept k form place (Some text) left reads.Odd is = λ other. ([], refl, took_none k)
  unread_kept k form place (Some text) left (reads.Foreign at) is = λ other. ([], refl, took_none k)

-- ---- one input after another

-- what the inputs gave before the fault of one: those of the inputs before it, and its own
module _ (form : InputForm) (inputs : List (List ℕ)) (lefts : List (Option (List ℕ))) (place : ℕ) (text : List ℕ)
    (earlier own : List Content) (before : DecodeAll form (take place inputs) earlier) (here : slice_get inputs place ≡ Some text) where
  -- the segments of the inputs before a place, and those that the one there gave before its fault, were given
  pub given_before : (left : Option (List ℕ)) (ended : Bool) (fault : RunFault) → slice_get lefts place ≡ Some left
      → IsReportedOfSource form left ended place text fault → fault ≢ faults.Memory → GaveOwn form left text fault own
      → AreGiven form inputs lefts fault (earlier ++ own)
  given_before left ended (faults.Segment at offset fault) left_is told other gave =
      rw (told.0) (earlier, own, text, before, here, gave, refl)
  given_before left ended (faults.Hex at fault) left_is told other gave =
      rw (told.0, gave) (subst (DecodeAll form (take place inputs)) (sym (append-nil earlier)) before)
  given_before left ended (faults.Read at) left_is told other gave =
      rw told (left, left_is, (earlier, own, text, before, here, gave, refl))
  given_before left ended faults.Memory left_is told other gave = absurd (other refl)
  given_before left ended fault left_is told other gave = absurd gave

-- ---- what was taken of all inputs

module _ (first now : Option State) (n : ℕ) (given before : List Content) (was : AreFolded first before) where
  taken_all : Folds first now None n given → (form : InputForm) (texts : List (List ℕ)) (cuts : List CutEnd)
      → DecodeAll form texts given → IsFoldedFar now → AreCutEnds form.hex texts cuts → AreAllTaken form before texts first now n cuts
  taken_all folds form texts cuts decoded far cut_ends =
      let takes = folds.takes before was in
      let all : given ≡ folds.taken = takes.cut ∙ ap (λ (l : List Content). folds.taken ++ l) takes.ends ∙ append-nil folds.taken in
      record {
        given = given;
        decoded = decoded;
        accepted = subst (AreAccepted before) (sym all) takes.accepted;
        folded = record {
          taken = subst (λ (l : List Content). AreTaken (before ++ l) now) (sym all) (folds.kept before was);
          rising = subst (λ (l : List Content). AreRising (before ++ l)) (sym all) (accepted_rise before folds.taken was.rising takes.accepted);
          far = far;
        };
        number = folds.number ∙ ap counted (sym all);
        cut_ends = cut_ends;
        keeps = folds.keeps;
      }

  -- a folder that took all segments of the inputs, and folded all that it can, has taken the inputs
  pub all_taken : {U E : Type 0} (ended : Result U E) → Folds first now None n given → (form : InputForm) (texts : List (List ℕ))
      (cuts : List CutEnd) → DecodeAll form texts given → OnOk ended (IsFoldedFar now) → AreCutEnds form.hex texts cuts
      → OnOk ended (AreAllTaken form before texts first now n cuts)
  all_taken ended folds form texts cuts decoded far cut_ends =
      on_ok_weaker ended (λ is_far. taken_all folds form texts cuts decoded is_far cut_ends) far

  pub some_given : (unfit : Option CaseFault) → Folds first now unfit n given → 0 < n → given ≢ []
  some_given unfit folds some none =
      let takes = folds.takes before was in
      let long = length-append folds.taken takes.later in
      let cut : length given ≡ length (folds.taken ++ takes.later) = ap length takes.cut in
      let nothing : length given ≡ 0 = ap length none in
      let number = folds.number in
      absurd (omega (arith, some, long, cut, nothing, number))

-- what a folder took since it was made
pub since : (analyst : Option State) (old new : Folder) (given : List Content) → IsBegun analyst old → Took folds_of old new given
    → Folds analyst new.analyst new.unfit new.segments given
since analyst old new given begun took =
    subst (λ (a : Option State). Folds a new.analyst new.unfit new.segments given) begun.same
    (took old [] (subst (λ (a : Option State). Folds a old.analyst old.unfit old.segments []) (sym begun.same) begun.none))

memory_or_not : (fault : RunFault) → (fault ≡ faults.Memory) ⊎ (fault ≢ faults.Memory)
memory_or_not faults.Memory = inl refl
memory_or_not fault = inr (λ is. cc is)

-- ---- how many segments

fewer : (old new : Option State) → KeepsAll old new → number_of old ≤ number_of new
fewer None new keeps = omega arith
fewer (Some old) None keeps = absurd keeps
fewer (Some old) (Some new) keeps = keeps.number

no_members : (ss : List Content) → ((s : Content) → Contains ss s → ⊥) → length ss ≡ 0
no_members [] none = refl
no_members (s ∷ ss) none = absurd (none s (Contains-here s ss))

-- as many were counted as the first of each key are
pub counted_before : (before : List Content) (old : Option State) (T : Trace) → AreTaken before old → IsCollectionOf before T
    → number_of old ≡ length T.segments
counted_before before None T taken all =
    sym (no_members T.segments (λ s has. subst (λ (ss : List Content). IsFirstOf ss s) taken ((all.members s).0 has)))
counted_before before (Some a) T taken all = all_counted before a T taken.1 taken.0 all

-- ---- why a reading ends

module _ (of : Folding) where
  abbrev pub Refuses : Option State → RunFault → Type 0
  Refuses now fault = IsFoldingRefused of (AreFolded now) fault

  -- before the first read
  pub no_workers : (now : Option State) → AreFolded now of.before → (WorkersFit of.setting.workers → ⊥) → Refuses now faults.Workers
  no_workers now was unfit = record {
    given = [];
    are_given = refl;
    taken = [];
    unfit = None;
    takes = record { later = []; cut = refl; accepted = tt; ends = refl };
    kept = subst (AreFolded now) (sym (append-nil of.before)) was;
    why = unfit;
  }

  module _ (fit : WorkersFit of.setting.workers) (first : Option State) (was : AreFolded first of.before) {U E : Type 0} (ended : Result U E) where
    -- what was taken is known where it was folded
    abbrev pub Ends : Option State → RunFault → Type 0
    Ends now fault = IsFoldingRefused of (λ taken. OnOk ended (AreFolded now taken)) fault

    up_to : (now : Option State) (unfit : Option CaseFault) (n : ℕ) (fault : RunFault) (given : List Content)
        → AreGiven of.setting.form of.inputs (lefts of.after) fault given → (folds : Folds first now unfit n given) → OnOk ended (IsFoldedFar now)
        → IsFoldsFault of folds.taken unfit fault
        → IsFoldedUpTo of (λ taken. OnOk ended (AreFolded now taken)) fault
    up_to now unfit n fault given are folds far why = record {
      given = given;
      are_given = are;
      taken = folds.taken;
      unfit = unfit;
      takes = folds.takes of.before was;
      kept = on_ok_weaker ended (λ is_far. record {
        taken = folds.kept of.before was;
        rising = accepted_rise of.before folds.taken was.rising (folds.takes of.before was).accepted;
        far = is_far;
      }) far;
      why = why;
    }

    -- for a segment that is unfit
    pub refused_unfit : (now : Option State) (n : ℕ) (given : List Content) (fault : CaseFault) → Folds first now (Some fault) n given
        → OnOk ended (IsFoldedFar now) → DecodeAll of.setting.form of.inputs given → Ends now (of_case fault)
    refused_unfit now n given cases.Empty folds far decoded = absurd ((folds.takes of.before was).ends.3)
    refused_unfit now n given cases.NoMemory folds far decoded = absurd ((folds.takes of.before was).ends.3)
    refused_unfit now n given fault folds far decoded =
        up_to now (Some fault) n (faults.Case fault) given decoded folds far (fit, refl)

    module _ (old mid : Folder) (begun : IsBegun first old) where
      -- for refused memory, after the last read
      pub refused_fold : (result : Result (Vec CutEnd Global) RunFault) → 0 < mid.segments
          → MatchResult result (λ cuts. TookInputs old mid of.setting.form of.inputs cuts.items)
          (TookToFault old mid of.setting.form of.after of.inputs) → AsksFoldsMemory of
      refused_fold (Ok done) some took = (
        fit,
        inr (inl (
          took.given,
          some_given first mid.analyst mid.segments took.given of.before was mid.unfit (since first old mid took.given begun took.took) some,
          faults.Memory,
          took.decoded,
        )),
      )
      refused_fold (Err fault) some took =
          elim (memory_or_not fault) [
            | inl is ↦ (fit, inl (subst (StopsFolding of) is took.stops))
            | inr other ↦
                let own = took.kept other in (
                  fit,
                  inr (inl (
                    own.0,
                    some_given first mid.analyst mid.segments own.0 of.before was mid.unfit
                        (since first old mid own.0 begun own.2) some,
                    fault,
                    own.1,
                  )),
                )
          ]

      -- for the fault of an input
      pub refused_read : (now : Option State) (unfit : Option CaseFault) (n : ℕ) (fault : RunFault)
          → ((a : Option State) (given : List Content) → Folds a mid.analyst mid.unfit mid.segments given → Folds a now unfit n given)
          → ((given : List Content) → Folds first mid.analyst mid.unfit mid.segments given → OnOk ended (IsFoldedFar now))
          → TookToFault old mid of.setting.form of.after of.inputs fault → IsOfInput fault → Ends now fault
      refused_read now unfit n faults.Memory carry far told is = (fit, inl told.stops)
      refused_read now unfit n (faults.Segment at offset fault) carry far told is =
          let own = told.kept (λ e. cc e) in
          let since_then = since first old mid own.0 begun own.2 in
          up_to now unfit n (faults.Segment at offset fault) own.0 own.1 (carry first own.0 since_then) (far own.0 since_then)
          (fit, told.stops)
      refused_read now unfit n (faults.Hex at fault) carry far told is =
          let own = told.kept (λ e. cc e) in
          let since_then = since first old mid own.0 begun own.2 in
          up_to now unfit n (faults.Hex at fault) own.0 own.1 (carry first own.0 since_then) (far own.0 since_then) (fit, told.stops)
      refused_read now unfit n (faults.Read at) carry far told is =
          let own = told.kept (λ e. cc e) in
          let since_then = since first old mid own.0 begun own.2 in
          up_to now unfit n (faults.Read at) own.0 own.1 (carry first own.0 since_then) (far own.0 since_then) (fit, told.stops)
      refused_read now unfit n fault carry far told is = absurd is

  -- ---- once all segments were taken

  module _ (fit : WorkersFit of.setting.workers) (old new : Option State) (n : ℕ) (cuts : List CutEnd)
      (all : AreAllTaken of.setting.form of.before of.inputs old new n cuts) where
    takes_all : TakesUpTo of.before all.given all.given None
    takes_all = record { later = []; cut = sym (append-nil all.given); accepted = all.accepted; ends = refl }

    folded_in : (a : Option State) → new ≡ a → AreFolded a (of.before ++ all.given)
    folded_in a is = subst (λ (x : Option State). AreFolded x (of.before ++ all.given)) is all.folded

    -- there is none
    none_there : new ≡ None → Refuses new (faults.Case cases.Empty)
    none_there is = record {
      given = all.given;
      are_given = all.decoded;
      taken = all.given;
      unfit = None;
      takes = takes_all;
      kept = all.folded;
      why = (fit, (folded_in None is).taken);
    }

    missing_there : (a : State) → new ≡ Some a → (fault : RunFault) → AreGiven of.setting.form of.inputs (lefts of.after) fault all.given
        → IsFoldsFault of all.given None fault → IsFoldedUpTo of (AreFolded new) fault
    missing_there a is fault given why = record {
      given = all.given;
      are_given = given;
      taken = all.given;
      unfit = None;
      takes = takes_all;
      kept = all.folded;
      why = why;
    }

    reports : (a : State) → new ≡ Some a → (fault : RunFault) → of.setting.complete ≡ true
        → ((segments : List Content) (T : Trace) → AreFolded (Some a) segments → IsCollectionOf segments T → ReportsMissing T cuts fault)
        → IsMissingOfFirsts of.setting (of.before ++ all.given) of.inputs fault
    reports a is fault complete missing =
        (complete, cuts, all.cut_ends, λ T case. missing (of.before ++ all.given) T (folded_in (Some a) is) case)

    -- one is missing, or memory was refused
    not_covered : (a : State) (fault : RunFault) → new ≡ Some a → IsMissingOf of.setting.complete cuts a fault → Refuses new fault
    not_covered a fault is (inl memory) = rw memory (fit, inr (inr (all.given, all.decoded, (folded_in (Some a) is).taken.0)))
    not_covered a (faults.Incomplete processor number) is (inr missing) =
        missing_there a is (faults.Incomplete processor number) all.decoded
        (fit, refl, reports a is (faults.Incomplete processor number) missing.1 missing.2)
    not_covered a (faults.UnknownCut input) is (inr missing) =
        missing_there a is (faults.UnknownCut input) all.decoded (fit, refl, reports a is (faults.UnknownCut input) missing.1 missing.2)
    not_covered a fault is (inr missing) = absurd (missing.0)

    not_added_to : (now : Option State) → new ≡ now → (fault : RunFault) → IsNotAdded of.setting.complete cuts now fault → Refuses new fault
    not_added_to None is fault told = rw told (none_there is)
    not_added_to (Some a) is fault told = not_covered a fault is told

    -- a reading that brings no segment, or misses one, is refused for that
    pub not_added : (fault : RunFault) → IsNotAdded of.setting.complete cuts new fault → Refuses new fault
    not_added fault told = not_added_to new refl fault told

    -- all is well
    pub is_folded : (added : Added) → AreFolded old of.before → IsAddedToFolded of.setting.complete new (number_of old) n cuts added
        → IsFolded of.setting of.before of.inputs (AreFolded new) added
    is_folded added was is =
        let now = folded_in (Some is.analyst) is.there in
        record {
          workers = fit;
          given = all.given;
          decoded = all.decoded;
          accepted = all.accepted;
          kept = all.folded;
          some = now.taken.0;
          segments = is.segments_are ∙ all.number;
          new = λ T U all_before all_after.
              (let first = counted_before of.before old T was.taken all_before in
              let last : number_of new ≡ length U.segments = ap number_of is.there
              ∙ all_counted (of.before ++ all.given) is.analyst U now.taken.1 now.taken.0 all_after in
              let more = fewer old new all.keeps in
              let new_are = is.new_are in
              omega (arith, first, last, more, new_are));
          coverage = λ T case. (is.covered (of.before ++ all.given) T now case).0;
          cuts = cuts;
          cut_ends = all.cut_ends;
          whole = λ asked T case. (is.covered (of.before ++ all.given) T now case).1 asked;
          cut = is.cut_is of.setting.form.hex of.inputs all.cut_ends;
        }

-- ---- faults after the reading

-- a gap is a late fault
pub gap_late : (complete : Bool) (cuts : List CutEnd) (now : Option State) (fault : RunFault) → IsNotAdded complete cuts now fault → IsLate fault
gap_late complete cuts None fault is = rw is tt
gap_late complete cuts (Some a) fault (inl memory) = rw memory tt
gap_late complete cuts (Some a) (faults.Incomplete processor number) (inr missing) = tt
gap_late complete cuts (Some a) (faults.UnknownCut input) (inr missing) = tt
gap_late complete cuts (Some a) fault (inr missing) = absurd (missing.0)

-- and so is one of the symbols
pub symbols_late : (symbols : Option (List ℕ)) (fault : RunFault) → IsSymbolsFault symbols fault → IsLate fault
symbols_late symbols faults.Memory is = tt
symbols_late symbols (faults.Symbols fault) is = tt
symbols_late symbols fault is = absurd is

-- both are about no two segments, and are no failed write
pub gap_about_none : (complete : Bool) (cuts : List CutEnd) (now : Option State) (fault : RunFault) → IsNotAdded complete cuts now fault
    → IsHalfKnown fault Nothing
gap_about_none complete cuts None fault is = rw is refl
gap_about_none complete cuts (Some a) fault (inl memory) = rw memory refl
gap_about_none complete cuts (Some a) (faults.Case fault) (inr missing) = absurd (missing.0)
gap_about_none complete cuts (Some a) fault (inr missing) = refl

pub gap_no_write : (complete : Bool) (cuts : List CutEnd) (now : Option State) (fault : RunFault) → IsNotAdded complete cuts now fault
    → fault ≢ faults.Write
gap_no_write complete cuts None fault is told = cc (is, told)
gap_no_write complete cuts (Some a) fault (inl memory) told = cc (memory, told)
gap_no_write complete cuts (Some a) faults.Write (inr missing) told = missing.0
gap_no_write complete cuts (Some a) fault (inr missing) told = cc told

pub symbols_about_none : (symbols : Option (List ℕ)) (fault : RunFault) → IsSymbolsFault symbols fault → IsHalfKnown fault Nothing
symbols_about_none symbols (faults.Case fault) is = absurd is
symbols_about_none symbols fault is = refl

pub symbols_no_write : (symbols : Option (List ℕ)) (fault : RunFault) → IsSymbolsFault symbols fault → fault ≢ faults.Write
symbols_no_write symbols faults.Write is told = is
symbols_no_write symbols fault is told = cc told

-- ---- how the sources are read

-- memory was refused to fold what was read
pub read_to_fold : {S T : Type 0} (is_text : Bool) (old new : List SourceState) (result : Result S RunFault) → AreRead is_text old new result
    → AreReadToFold is_text old new (ill {S = T} faults.Memory)
read_to_fold is_text old new (Ok value) read = inl (read_late is_text old new value (ill faults.Memory) read tt)
read_to_fold is_text old new (Err fault) read = inr (refl, fault, ends_too is_text old new fault read)

-- ---- what holds of all that were taken

module _ (setting : Setting) (before : List Content) (texts : List (List ℕ)) (Keeps : List Content → Type 0) (added : Added)
    (is : IsFolded setting before texts Keeps added) where
  -- what was read was read whatever else holds of all that were taken
  pub keeps_too : (Holds : List Content → Type 0) → Holds (before ++ is.given) → IsFolded setting before texts Holds added
  keeps_too Holds kept = record {
    workers = is.workers;
    given = is.given;
    decoded = is.decoded;
    accepted = is.accepted;
    kept = kept;
    some = is.some;
    segments = is.segments;
    new = is.new;
    coverage = is.coverage;
    cuts = is.cuts;
    cut_ends = is.cut_ends;
    whole = is.whole;
    cut = is.cut;
  }

  -- and they are one list of segments, of which what is kept holds
  pub took_all : (taken : List Content) × Keeps taken × IsFolded setting before texts (λ all. all ≡ taken) added
  took_all = (before ++ is.given, is.kept, keeps_too (λ all. all ≡ before ++ is.given) refl)

-- ---- at the beginning

-- before the first reading nothing is folded
pub nothing_folded : AreFolded None []
nothing_folded = record { taken = refl; rising = λ s t first. absurd first; far = tt }

module _ (setting : Setting) (symbols : Option (List ℕ)) (before : List Content) (texts : List (List ℕ)) (after : List SourceState)
    (Keeps : List Content → Type 0) where
  -- the refusal of a reading is one of a beginning
  pub begins_refused : (fault : RunFault) → IsFoldingRefused (folding setting before texts after) Keeps fault
      → IsBeginningRefused setting symbols before texts after fault
  begins_refused faults.Memory refused = refused
  begins_refused (faults.Symbols fault) refused = absurd (refused.why)
  begins_refused fault refused = record {
    given = refused.given;
    are_given = refused.are_given;
    taken = refused.taken;
    unfit = refused.unfit;
    takes = refused.takes;
    kept = tt;
    why = refused.why;
  }

  -- a fault of the symbols, once all was read, is a refusal of a beginning
  pub symbols_refused : (added : Added) (fault : RunFault) → IsFolded setting before texts Keeps added → IsSymbolsFault symbols fault
      → IsBeginningRefused setting symbols before texts after fault
  symbols_refused added faults.Memory folded told = (folded.workers, inr (inr (folded.given, folded.decoded, folded.some)))
  symbols_refused added (faults.Symbols fault) folded told =
      (told, added, keeps_too setting before texts Keeps added folded (λ taken. ⊤) tt)
  symbols_refused added fault folded told = absurd told
