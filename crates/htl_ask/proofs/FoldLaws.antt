-- What is said of what was folded is said of the segments that were taken, also once more files are folded.
use Rattle.std.proofs.Common.{◌≡◌, ◌≢◌, ◌∙◌, ℕ, List, [], ◌++◌, None, Option, Some, map, refl, inl, inr, true}
use Rattle.std.specs.Prelude.{IfErr, IfSome, Result, Ok, Err, Vec}
use Rattle.htl_analyst.specs.States.{State as Analyst}
use Rattle.htl_segment.specs.Content.{Content}
use Rattle.htl_command.specs.declared.question.Setting.{Setting}
use Rattle.htl_device.specs.States.{SourceState, remaining}
use Rattle.htl_inputs.specs.Readings.{AreRead}
use Rattle.htl_inputs.specs.declared.fault.RunFault.{RunFault}
use Rattle.htl_inputs.specs.declared.fault.RunFault.TheVariants as faults
use Rattle.htl_main.specs.Folding.{AreFolded, AreReadToFold, Folding, IsFoldedUpTo, IsFoldingRefused, IsHalfKnown, folding}
use Rattle.htl_main.specs.Origins.{by_fault}
use Rattle.htl_main.specs.Runs.{BeginsAs, EndsFolding, FoldsAs}
use Rattle.htl_main.specs.declared.loading.adding.Added.{Added}
use Rattle.htl_main.specs.declared.folding.Folded.{Folded}
use Rattle.htl_main.specs.declared.refused.Refused.{Refused}
use Rattle.htl_main.proofs.FoldInputs.{took_all}
use Rattle.htl_world.specs.Openings.{AreOpened}
use Rattle.htl_world.specs.Readings.{IsUnopenedFor}
use Rattle.htl_world.specs.Worlds.{Known, WorldChange}
use Rattle.htl_world.proofs.FirstAbsent.{held_memory}
use Rattle.htl_world.proofs.NamesRead.{lefts_of}
use Rattle.htl_ask.specs.Asking.{GoesOn, IsFolding, segments}
use Rattle.htl_ask.specs.Beginnings.{IsBeginsBetween, IsBeginsCause}
use Rattle.htl_ask.specs.Loads.{FoldsFiles, IsBegun}
use Rattle.htl_ask.specs.declared.kept.Kept.TheVariants.{State}
use Rattle.htl_ask.proofs.LinesRead.{none_is_absent, all_read, none_read}

-- What holds of all that were taken holds of a list that these are.
module _ (setting : Setting) (before : List Content) (texts : List (List ℕ)) (Keeps : List Content → Type 0) where
  module _ (sources : List SourceState) where
    abbrev of : Folding
    of = folding setting before texts sources

    took_part : (fault : RunFault) → IsFoldedUpTo of Keeps fault
        → (taken : List Content) × Keeps taken × IsFoldedUpTo of (λ all. all ≡ taken) fault
    took_part fault is = (
      before ++ is.taken,
      is.kept,
      record {
        given = is.given;
        are_given = is.are_given;
        taken = is.taken;
        unfit = is.unfit;
        takes = is.takes;
        kept = refl;
        why = is.why;
      },
    )

    took_before : (fault : RunFault) → fault ≢ faults.Memory → IsFoldingRefused of Keeps fault
        → (taken : List Content) × Keeps taken × IsFoldingRefused of (λ all. all ≡ taken) fault
    took_before faults.Workers known is = took_part faults.Workers is
    took_before (faults.Segment place offset fault) known is = took_part (faults.Segment place offset fault) is
    took_before (faults.Hex place fault) known is = took_part (faults.Hex place fault) is
    took_before (faults.Text place line fault event) known is = took_part (faults.Text place line fault event) is
    took_before (faults.Case fault) known is = took_part (faults.Case fault) is
    took_before (faults.Incomplete processor number) known is = took_part (faults.Incomplete processor number) is
    took_before faults.NoSubject known is = took_part faults.NoSubject is
    took_before (faults.Symbols fault) known is = took_part (faults.Symbols fault) is
    took_before (faults.Read place) known is = took_part (faults.Read place) is
    took_before faults.SymbolsRead known is = took_part faults.SymbolsRead is
    took_before faults.Write known is = took_part faults.Write is
    took_before faults.Memory known is = absurd (known refl)
    took_before faults.NoThread known is = took_part faults.NoThread is
    took_before (faults.UnknownCut input) known is = took_part (faults.UnknownCut input) is
    took_before (faults.State state offset fault) known is = took_part (faults.State state offset fault) is
    took_before (faults.Unbounded state processor) known is = took_part (faults.Unbounded state processor) is
    took_before (faults.StateRead state) known is = took_part (faults.StateRead state) is
    took_before faults.StateWrite known is = took_part faults.StateWrite is
    took_before faults.StateStacks known is = took_part faults.StateStacks is

    -- what came of folding, where it goes on, is of one list of segments of which what is kept holds
    pub took : (ended : Result Added Refused) → GoesOn ended → IsFolding of Keeps ended
        → (taken : List Content) × Keeps taken × IsFolding of (λ all. all ≡ taken) ended
    took (Ok added) known is = took_all setting before texts Keeps added is
    took (Err refused) known is =
        let part = took_before refused.fault known is.0 in (part.0, part.1, (part.2, is.1))

-- ---- how files are folded

module _ (world : WorldChange) (setting : Setting) (before : Folded) (names : List (List ℕ)) where
  abbrev known : Known
  known = world.old.known

  -- Files were not opened, and nothing was taken.
  pub none_folded : (refused : Refused) → IsUnopenedFor (map known.holds names) (map known.is_absent names) refused.fault
      → FoldsFiles known setting before names before (Err refused)
  none_folded refused unopened = record {
    sources = [];
    reads = λ goes_on. none_read known setting names refused.fault unopened;
    folds = λ goes_on taken texts folded held.
        absurd (goes_on (held_memory (map known.holds names) (map known.is_absent names) texts refused.fault held unopened));
    unopened = λ absent. refl;
    symbols = refl;
  }

  -- Files were opened, and what was folded is what came of them.
  pub opened_and_folded : {R A : Type 0} (state : R → SourceState) (after : Folded) (sources : Vec R A) (now : List R)
      (ended : Result Added Refused) → AreOpened state world names (Ok sources)
      → FoldsAs setting (map state sources.items) (map state now) before after ended → FoldsFiles known setting before names after ended
  opened_and_folded state after sources now ended are is = record {
    sources = map state now;
    reads = λ goes_on.
        all_read world setting names state sources now (by_fault ended) are (as_a_run ended goes_on is.reading) is.readers;
    folds = λ goes_on taken texts folded held.
        as_folding ended taken texts (is.outcome taken folded texts (lefts_of are.sources ∙ held)) is.between;
    unopened = λ absent. absurd (none_is_absent known names are.there absent);
    symbols = is.symbols;
  }
    where
      as_a_run : (ended : Result Added Refused) → GoesOn ended
          → AreReadToFold setting.form.hex (map state sources.items) (map state now) (by_fault ended)
          → AreRead setting.form.hex (map state sources.items) (map state now) (by_fault ended)
      as_a_run ended goes_on (inl read) = read
      as_a_run (Ok added) goes_on (inr refused) = absurd (cc refused.0)
      as_a_run (Err refused) goes_on (inr memory) = absurd (goes_on (cc memory.0))

      as_folding : (ended : Result Added Refused) (taken : List Content) (texts : List (List ℕ))
          → EndsFolding (folding setting taken texts (map state now)) after.analyst ended
          → IfErr ended (λ refused. IsHalfKnown refused.fault refused.between)
          → IsFolding (folding setting taken texts (map state now)) (AreFolded after.analyst) ended
      as_folding (Ok added) taken texts folded between = folded
      as_folding (Err refused) taken texts why between = (why, between)

-- ---- how a dialogue begins that folds

module _ {setting : Setting} {symbols : Option (List ℕ)} {first : Option Analyst} {old new : List SourceState} where
  -- Inputs were folded behind what states tell, where this is known.
  pub begun_folded : {folded : Folded} {added : Added} → BeginsAs setting symbols first old new (Ok (folded, added))
      → (told : Option (List Content)) → IfSome told (AreFolded first) → (texts : List (List ℕ))
      → map remaining old ≡ map (λ text. Some text) texts
      → IsBegun true setting told symbols texts (record { kept = State folded; coverage = added.coverage; cut = added.cut })
  begun_folded {folded = folded} {added = added} is None are texts all =
      record { read = None; kept = tt; opens = (folded.symbols, is.symbols) }
  begun_folded {folded = folded} {added = added} is (Some before) are texts all =
      let now = took_all setting before texts (AreFolded folded.analyst) added (is.outcome before are texts all) in
      record {
        read = Some (segments now.0);
        kept = (now.1, is.symbols);
        opens = record {
          added = added;
          folded = now.2;
          names = folded.symbols;
          named = is.symbols;
          coverage = refl;
          cut = refl;
        };
      }

  -- Or there is a reason why not.
  pub not_begun : {refused : Refused} → BeginsAs setting symbols first old new (Err refused)
      → (told : Option (List Content)) → IfSome told (AreFolded first) → (texts : List (List ℕ))
      → map remaining old ≡ map (λ text. Some text) texts
      → IsBeginsCause true setting told symbols texts new refused.fault × IsBeginsBetween true setting texts refused.fault refused.between
  not_begun is None are texts all = (tt, is.between)
  not_begun is (Some before) are texts all = (is.outcome before are texts all, is.between)
