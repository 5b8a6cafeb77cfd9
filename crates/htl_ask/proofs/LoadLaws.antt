-- What is said of what was loaded is said of runs of their own over all inputs, also once files are added.
use Rattle.std.proofs.Common.{◌≡◌, ◌⊎◌, ◌∙◌, ℕ, List, [], ◌∷◌, ◌++◌, Option, None, Some, map, refl, sym, ap, subst, inl, inr}
use Rattle.std.proofs.Common.{append_assoc, length, ◌+◌}
use Rattle.std.specs.Prelude.{IfOk, Result, Ok, Err, Vec}
use Rattle.std.proofs.lemmas.List.Elements.{Contains-append_cases, Contains-append_left, Contains-append_right}
use Rattle.htl_case.specs.Cases.{IsCaseOf}
use Rattle.htl_segment.specs.Content.{Content}
use Rattle.htl_segment.specs.Traces.{Trace}
use Rattle.htl_symbols.specs.Ranges.{Range}
use Rattle.htl_command.specs.declared.question.InputForm.{InputForm}
use Rattle.htl_command.specs.declared.question.Job.{Job}
use Rattle.htl_command.specs.declared.question.Setting.{Setting}
use Rattle.htl_device.specs.States.{SourceState}
use Rattle.htl_inputs.specs.CutInputs.{decoding}
use Rattle.htl_inputs.specs.Inputs.{DecodeAll}
use Rattle.htl_inputs.proofs.CutLaws.{ends_both, ends_moved}
use Rattle.htl_main.specs.Coverages.{IsCoverage}
use Rattle.htl_main.specs.Loading.{AreLoadedOf}
use Rattle.htl_main.specs.Origins.{by_fault}
use Rattle.htl_main.specs.Printed.{HasSymbols, IsText}
use Rattle.htl_main.specs.Runs.{AddsAs, RunsOut}
use Rattle.htl_main.specs.Subjects.{HasAbsence}
use Rattle.htl_main.specs.declared.loading.adding.Added.{Added}
use Rattle.htl_main.specs.declared.completed.Absence.{Absence}
use Rattle.htl_main.specs.declared.loading.Loaded.{Loaded}
use Rattle.htl_main.specs.declared.printing.AnswerText.{AnswerText}
use Rattle.htl_main.specs.declared.origin.Between.TheVariants.{Nothing}
use Rattle.htl_main.specs.declared.refused.Refused.{Refused}
use Rattle.htl_main.proofs.AfterLoading.{as_of, runs_absence, runs_remarks, runs_text}
use Rattle.htl_main.proofs.CompleteLaws.{complete_both}
use Rattle.htl_world.specs.Openings.{AreOpened}
use Rattle.htl_world.specs.Readings.{IsUnopenedFor}
use Rattle.htl_world.specs.Worlds.{Known, WorldChange}
use Rattle.htl_world.proofs.FirstAbsent.{held_memory}
use Rattle.htl_world.proofs.NamesRead.{lefts_of}
use Rattle.htl_ask.specs.Asking.{AddsTo, AreRunsRemarks, IsAnswerText, IsRunsAbsence, IsRunsText, own_run}
use Rattle.htl_ask.specs.Loads.{AddsFiles}
use Rattle.htl_ask.proofs.LinesRead.{all_read, none_read}

module _ (setting : Setting) (inputs : List (List ℕ)) (symbols : Option (List ℕ)) (T : Trace) (table : List Range)
    (loaded : AreLoadedOf inputs symbols setting None T table) where
  -- a text over what was loaded is one of a run of its own
  loaded_text : (job : Job) (text : List ℕ) → IsText T table job text → IsRunsText setting symbols inputs job text
  loaded_text job text is =
      let own = own_run setting job in
      runs_text setting inputs symbols T table own (as_of inputs symbols setting own T table loaded) text (λ coded. absurd (cc coded)) is

  -- and what is told of an answer over it is told by a run of its own
  pub loaded_answer : (job : Job) (answer : AnswerText) → IsAnswerText T table job answer
      → IsRunsText setting symbols inputs job answer.lines.items × AreRunsRemarks setting symbols inputs job answer.remarks
  loaded_answer job answer is =
      let own = own_run setting job in (
        loaded_text job answer.lines.items is.text,
        runs_remarks setting inputs symbols T table own (as_of inputs symbols setting own T table loaded) answer.remarks is.remarks,
      )

  -- why nothing can be found in what was loaded is what a run of its own reports
  pub loaded_absence : (job : Job) (absence : Option Absence) → HasAbsence T job absence → IsRunsAbsence setting inputs job absence
  loaded_absence job absence is =
      let own = own_run setting job in
      runs_absence setting inputs symbols T table own (as_of inputs symbols setting own T table loaded) absence is

-- ---- over time

-- the segments of inputs and of others after them
decode_both : (form : InputForm) (inputs others : List (List ℕ)) (segments more : List Content) → DecodeAll form inputs segments
    → DecodeAll form others more → DecodeAll form (inputs ++ others) (segments ++ more)
decode_both form [] others segments more decoded then = rw decoded then
decode_both form (input ∷ inputs) others segments more decoded then = (
  decoded.0,
  decoded.1 ++ more,
  decoded.2,
  decode_both form inputs others decoded.1 more decoded.3 then,
  ap (λ l. l ++ more) decoded.4 ∙ append_assoc decoded.0 decoded.1 more,
)

-- what is a case of a case's segments and others is one of all segments that the first case is of
case_both : (segments more : List Content) (T after : Trace) → IsCaseOf segments T → IsCaseOf (more ++ T.segments) after
    → IsCaseOf (segments ++ more) after
case_both segments more T after case then = record {
  is_case = then.is_case;
  members = λ s. (
    λ has. elim (Contains-append_cases more T.segments s ((then.members s).0 has)) [
      | inl new ↦ Contains-append_right segments more s new
      | inr old ↦ Contains-append_left segments more s ((case.members s).0 old)
    ],
    λ has. (then.members s).1 (elim (Contains-append_cases segments more s has) [
      | inl old ↦ Contains-append_right more T.segments s ((case.members s).1 old)
      | inr new ↦ Contains-append_left more T.segments s new
    ]),
  );
}

-- Files were added to what was loaded of inputs, or were not.
module _ (world : Known) (setting : Setting) (symbols : Option (List ℕ)) (before after : Loaded)
    (names : List (List ℕ)) (inputs : List (List ℕ)) (old : AreLoadedOf inputs symbols setting None before.case before.symbols) where
  -- what is loaded once files were added is loaded of the inputs and these files
  pub loaded_then : (texts : List (List ℕ)) (added : Added) → map world.holds names ≡ map (λ t. Some t) texts
      → AddsFiles world setting before names after (Ok added)
      → AreLoadedOf (inputs ++ texts) symbols setting None after.case after.symbols
  loaded_then texts added held adds =
      let new = only_added (adds.adds texts held) in
      let ends = ends_moved setting.form.hex 0 (0 + length inputs) texts new.cuts new.cut_ends in
      record {
        workers = old.workers;
        given = decoding (old.given.segments ++ new.segments) (old.given.cuts ++ ends.0);
        decoded = record {
          segments = decode_both setting.form inputs texts old.given.segments new.segments old.decoded.segments new.decoded;
          cuts = ends_both setting.form.hex 0 inputs texts old.given.cuts ends.0 old.decoded.cuts ends.1;
        };
        loaded = record {
          case = case_both old.given.segments new.segments before.case after.case old.loaded.case new.case;
          whole = λ complete. complete_both old.given.segments new.segments before.case after.case old.given.cuts new.cuts ends.0 ends.2
              old.loaded.case new.case (old.loaded.whole complete) (new.whole complete);
          named = subst (HasSymbols symbols) (sym adds.symbols) old.loaded.named;
        };
      }
    where
      only_added : {A : Type 0} → A ⊎ ⊥ → A
      only_added (inl is) = is
      only_added (inr is) = absurd is

  -- what came of adding files is an addition of their texts to the inputs, or memory ran out
  pub adds_to : (texts : List (List ℕ)) (ended : Result Added Refused) (adds : AddsFiles world setting before names after ended)
      → map world.holds names ≡ map (λ t. Some t) texts
      → AddsTo setting inputs texts adds.sources ended ⊎ RunsOut ended
  adds_to texts ended adds held =
      elim (adds.adds texts held) [
        | inl is ↦ inl (record {
          segments = old.given.segments;
          decoded = old.decoded.segments;
          before = before.case;
          case = old.loaded.case;
          after = after.case;
          adds = is;
        })
        | inr out ↦ inr out
      ]

-- ---- how files are added

module _ (world : WorldChange) (setting : Setting) (before : Loaded) (names : List (List ℕ)) where
  abbrev known : Known
  known = world.old.known

  -- Files were not opened, and nothing was added.
  pub not_opened : (refused : Refused) → IsUnopenedFor (map known.holds names) (map known.is_absent names) refused.fault
      → refused.between ≡ Nothing → AddsFiles known setting before names before (Err refused)
  not_opened refused unopened alone = record {
    sources = [];
    reads = none_read known setting names refused.fault unopened;
    adds = λ texts held. inr (held_memory (map known.holds names) (map known.is_absent names) texts refused.fault held unopened, alone);
    coverage = tt;
    symbols = refl;
    same = refl;
  }

  -- Files were opened, and what was added is what came of them.
  pub opened_and_added : {R A : Type 0} (state : R → SourceState) (after : Loaded) (sources : Vec R A) (now : List R)
      (ended : Result Added Refused) → AreOpened state world names (Ok sources)
      → AddsAs setting (map state sources.items) (map state now) before after ended → AddsFiles known setting before names after ended
  opened_and_added state after sources now ended are is = record {
    sources = map state now;
    reads = all_read world setting names state sources now (by_fault ended) are is.reading is.readers;
    adds = λ texts held. inl (is.outcome texts (lefts_of are.sources ∙ held));
    coverage = known_coverage ended is.coverage;
    symbols = is.symbols;
    same = is.same;
  }
    where
      known_coverage : (ended : Result Added Refused)
          → IfOk ended (λ added. (after.coverage ≡ added.coverage) × IsCoverage after.case after.coverage)
          → IfOk ended (λ added. IsCoverage after.case after.coverage)
      known_coverage (Ok added) covered = covered.1
      known_coverage (Err refused) covered = tt
