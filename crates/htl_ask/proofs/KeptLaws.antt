-- What is said of what is kept is said of what was read, as far as that is known, also once more files are read.
use Rattle.std.proofs.Common.{◌≡◌, ℕ, Bool, false, true, List, [], ◌∷◌, Option, None, Some, ap, map, refl, subst, sym}
use Rattle.std.specs.Prelude.{IfSome, Result, Ok, Err}
use Rattle.htl_command.specs.declared.question.Job.{Job}
use Rattle.htl_command.specs.declared.question.Setting.{Setting}
use Rattle.htl_device.specs.States.{SourceState}
use Rattle.htl_inputs.specs.declared.fault.RunFault.{RunFault}
use Rattle.htl_inputs.specs.declared.fault.RunFault.TheVariants.{Incomplete}
use Rattle.htl_main.specs.Folding.{AreFolded}
use Rattle.htl_main.specs.Loading.{AreLoadedOf}
use Rattle.htl_main.specs.Printed.{HasSymbols}
use Rattle.htl_main.specs.declared.loading.adding.Added.{Added}
use Rattle.htl_main.specs.declared.completed.Absence.{Absence}
use Rattle.htl_main.specs.declared.folding.Folded.{Folded}
use Rattle.htl_main.specs.declared.loading.Loaded.{Loaded}
use Rattle.htl_main.specs.declared.printing.AnswerText.{AnswerText}
use Rattle.htl_main.specs.declared.refused.Refused.{Refused}
use Rattle.htl_world.specs.Worlds.{Known}
use Rattle.htl_ask.specs.Asking.{Found, GoesOn, IfAllHold, IsAbsenceOver, IsOutcomeOver, LeadsTo, ReadsMore, Taken, all_hold, found, found_with, inputs}
use Rattle.htl_ask.specs.Asking.{inputs_then, one_is_absent, segments, unknown}
use Rattle.htl_ask.specs.Loads.{AddsFiles, AreKept, FoldsFiles, HasAbsenceIn, HasOutcomeIn, IsCovered, ReadsFiles}
use Rattle.htl_ask.specs.declared.kept.Kept.{Kept}
use Rattle.htl_ask.specs.declared.kept.Kept.TheVariants.{Case, State}
use Rattle.htl_ask.proofs.FoldLaws.{took}
use Rattle.htl_ask.proofs.LoadLaws.{adds_to, loaded_absence, loaded_answer, loaded_then}

-- What is kept is of what was read, where that is known.
pub record Holds (setting : Setting) (symbols : Option (List ℕ)) (kept : Kept) (read : Option Taken) : Type 0 where
  pub covered : IsCovered kept
  pub are : IfSome read (AreKept setting symbols kept)

module _ (setting : Setting) (symbols : Option (List ℕ)) where
  -- an answer over what is kept is one over what was read, and so is a gap for which it isn't answered
  pub holds_outcome : (kept : Kept) (read : Option Taken) (job : Job) (outcome : Result AnswerText RunFault) → Holds setting symbols kept read
      → HasOutcomeIn setting.complete kept job outcome → IsOutcomeOver setting symbols read job outcome
  holds_outcome kept None job outcome holds has = tt
  holds_outcome (Case loaded) (Some (inputs texts)) job (Ok answer) holds has =
      loaded_answer setting texts symbols loaded.case loaded.symbols holds.are job answer (has holds.covered)
  holds_outcome (Case loaded) (Some (inputs texts)) job (Err fault) holds has = has
  holds_outcome (Case loaded) (Some (segments taken)) job outcome holds has = absurd holds.are
  holds_outcome (State folded) (Some (inputs texts)) job outcome holds has = absurd holds.are
  holds_outcome (State folded) (Some (segments taken)) job (Ok answer) holds has =
      let are : AreFolded folded.analyst taken × HasSymbols symbols folded.symbols = holds.are in
      λ T case. ((folded.symbols, are.1, (has taken T are.0 case).0), (has taken T are.0 case).1)
  holds_outcome (State folded) (Some (segments taken)) job (Err (Incomplete processor number)) holds has =
      let are : AreFolded folded.analyst taken × HasSymbols symbols folded.symbols = holds.are in
      (has.0, λ T all. has.1 taken T are.0 all)
  holds_outcome (State folded) (Some (segments taken)) job (Err fault) holds has = absurd has

  -- why nothing can be found in what is kept is what a run over what was read reports
  pub holds_absence : (kept : Kept) (read : Option Taken) (job : Job) (absence : Option Absence) → Holds setting symbols kept read
      → HasAbsenceIn kept job absence → IsAbsenceOver setting read job absence
  holds_absence kept None job absence holds has = tt
  holds_absence (Case loaded) (Some (inputs texts)) job absence holds has =
      loaded_absence setting texts symbols loaded.case loaded.symbols holds.are job absence (has holds.covered)
  holds_absence (Case loaded) (Some (segments taken)) job absence holds has = absurd holds.are
  holds_absence (State folded) (Some (inputs texts)) job absence holds has = absurd holds.are
  holds_absence (State folded) (Some (segments taken)) job absence holds has = has

-- ---- over time

-- what names hold, where that is known of all of them
known_texts : (world : Known) (names : List (List ℕ))
    → IfAllHold (found world names) (λ texts. map world.holds names ≡ map (λ text. Some text) texts)
known_texts world [] = refl
known_texts world (name ∷ more) = one_more (world.holds name) (world.is_absent name) (found world more) (known_texts world more)
  where
    one_more : (held : Option (List ℕ)) (absent : Bool) (rest : Found)
        → IfAllHold rest (λ texts. map world.holds more ≡ map (λ t. Some t) texts)
        → IfAllHold (found_with held absent rest) (λ texts. (held ∷ map world.holds more) ≡ map (λ t. Some t) texts)
    one_more (Some text) absent (all_hold texts) is = ap (λ l. Some text ∷ l) is
    one_more (Some text) absent one_is_absent is = tt
    one_more (Some text) absent unknown is = tt
    one_more None true rest is = tt
    one_more None false rest is = tt

module _ (world : Known) (setting : Setting) (symbols : Option (List ℕ)) (names : List (List ℕ)) where
  -- these texts are those of the names
  abbrev AreHeld : Found → Type 0
  AreHeld rest = IfAllHold rest (λ texts. map world.holds names ≡ map (λ t. Some t) texts)

  -- what was read then, which is what is kept then, and to which that led which was read before
  abbrev Then : Option Taken → Found → List SourceState → Kept → Result Added Refused → Type 0
  Then read rest sources after ended =
      (then : Option Taken) × Holds setting symbols after then × LeadsTo setting read rest sources then ended

  module _ (before after : Loaded) (texts : List (List ℕ)) (old : AreLoadedOf texts symbols setting None before.case before.symbols) where
    added_kept : (rest : Found) (ended : Result Added Refused) → AreHeld rest → AddsFiles world setting before names after ended
        → IfSome (inputs_then texts rest ended) (AreKept setting symbols (Case after))
    added_kept one_is_absent (Ok added) held adds = tt
    added_kept unknown (Ok added) held adds = tt
    added_kept (all_hold more) (Ok added) held adds =
        loaded_then world setting symbols before after names texts old more added held adds
    added_kept rest (Err refused) held adds =
        subst (λ (loaded : Loaded). AreLoadedOf texts symbols setting None loaded.case loaded.symbols) (sym adds.same) old

    added_leads : (rest : Found) (ended : Result Added Refused) → AreHeld rest
        → (adds : AddsFiles world setting before names after ended)
        → LeadsTo setting (Some (inputs texts)) rest adds.sources (inputs_then texts rest ended) ended
    added_leads one_is_absent ended held adds = (refl, tt)
    added_leads unknown ended held adds = (refl, tt)
    added_leads (all_hold more) ended held adds = (refl, adds_to world setting symbols before after names texts old more ended adds held)

  -- Files were added to what is known by what was read, or were not.
  module _ (before after : Loaded) where
    covered_then : (read : Option Taken) (ended : Result Added Refused) → Holds setting symbols (Case before) read
        → AddsFiles world setting before names after ended → IsCovered (Case after)
    covered_then read (Ok added) holds adds = adds.coverage
    covered_then read (Err refused) holds adds = subst (λ (loaded : Loaded). IsCovered (Case loaded)) (sym adds.same) holds.covered

    case_then : (read : Option Taken) (rest : Found) (ended : Result Added Refused)
        → Holds setting symbols (Case before) read → AreHeld rest → (adds : AddsFiles world setting before names after ended)
        → Then read rest adds.sources (Case after) ended
    case_then None rest ended holds held adds =
        (None, record { covered = covered_then None ended holds adds; are = tt }, refl)
    case_then (Some (segments taken)) rest ended holds held adds = absurd holds.are
    case_then (Some (inputs texts)) rest ended holds held adds = (
      inputs_then texts rest ended,
      record {
        covered = covered_then (Some (inputs texts)) ended holds adds;
        are = added_kept before after texts holds.are rest ended held adds;
      },
      added_leads before after texts holds.are rest ended held adds,
    )

  -- Files were folded behind what was folded, or some of what they have.
  module _ (before after : Folded) where
    state_then : (read : Option Taken) (rest : Found) (ended : Result Added Refused)
        → Holds setting symbols (State before) read → AreHeld rest → found world names ≡ rest
        → (folds : FoldsFiles world setting before names after ended) → GoesOn ended → Then read rest folds.sources (State after) ended
    state_then None rest ended holds held is folds fine = (None, record { covered = tt; are = tt }, refl)
    state_then (Some (inputs texts)) rest ended holds held is folds fine = absurd holds.are
    state_then (Some (segments earlier)) unknown ended holds held is folds fine = (None, record { covered = tt; are = tt }, (fine, refl))
    state_then (Some (segments earlier)) one_is_absent ended holds held is folds fine = (
      Some (segments earlier),
      record {
        covered = tt;
        are = subst (λ (folded : Folded). AreFolded folded.analyst earlier × HasSymbols symbols folded.symbols)
            (sym (folds.unopened is)) holds.are;
      },
      (fine, refl),
    )
    state_then (Some (segments earlier)) (all_hold texts) ended holds held is folds fine =
        let are : AreFolded before.analyst earlier × HasSymbols symbols before.symbols = holds.are in
        let now = took setting earlier texts (AreFolded after.analyst) folds.sources ended fine (folds.folds fine earlier texts are.0 held) in (
          Some (segments now.0),
          record { covered = tt; are = (now.1, subst (HasSymbols symbols) (sym folds.symbols) are.1) },
          (fine, now.0, refl, now.2),
        )

  -- where files are read into what is kept, what is kept then is of what was read then
  pub reading_more : (before : Kept) (read : Option Taken) (after : Kept) (ended : Result Added Refused)
      → Holds setting symbols before read → ReadsFiles world setting before names after ended
      → (then : Option Taken) × Holds setting symbols after then × ReadsMore world setting read names then ended
  reading_more (Case before) read (Case after) ended holds adds =
      let now = case_then before after read (found world names) ended holds (known_texts world names) adds in
      (now.0, now.1, record { sources = adds.sources; reads = adds.reads; leads = now.2 })
  reading_more (State before) read (State after) ended holds reads =
      let folds = reads.0 in
      let now = state_then before after read (found world names) ended holds (known_texts world names) refl folds reads.1 in
      (now.0, now.1, record { sources = folds.sources; reads = folds.reads reads.1; leads = now.2 })
  reading_more (Case before) read (State after) ended holds reads = absurd reads
  reading_more (State before) read (Case after) ended holds reads = absurd reads
