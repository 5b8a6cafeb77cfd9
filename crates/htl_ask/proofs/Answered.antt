-- An answer over what is kept is one over what was read, as far as that is known; and why it isn't printed is said of what was read too.
use Rattle.std.proofs.Common.{◌≡◌, ◌≢◌, ◌∙◌, ℕ, false, true, List, None, Option, inl, inr, refl, sym}
use Rattle.std.specs.Prelude.{◌⊎◌, Result, Ok, Err}
use Rattle.htl_case.specs.declared.fault.CaseFault.TheVariants as cases
use Rattle.htl_command.specs.declared.command.Run.{Run}
use Rattle.htl_command.specs.declared.question.Job.{Job}
use Rattle.htl_device.specs.States.{SourceState}
use Rattle.htl_inputs.specs.declared.fault.RunFault.{RunFault}
use Rattle.htl_inputs.specs.declared.fault.RunFault.TheVariants as faults
use Rattle.htl_main.specs.Folding.{IsHalfKnown}
use Rattle.htl_main.specs.declared.completed.Completed.{Completed}
use Rattle.htl_main.specs.declared.origin.Between.TheVariants.{Nothing}
use Rattle.htl_main.specs.declared.printing.AnswerText.{AnswerText}
use Rattle.htl_main.proofs.LateFaults.{IsLate}
use Rattle.htl_world.specs.Worlds.{Known}
use Rattle.htl_ask.specs.Asking.{IsMergesFault, KnownStates, Taken}
use Rattle.htl_ask.specs.Beginnings.{EndsAtState, placed}
use Rattle.htl_ask.specs.Loads.{AnswersBegun, HasOutcomeIn, IsBegun, IsCovered, IsUnprintedIn, opening_of}
use Rattle.htl_ask.specs.OverStates.{AnswersStates, BeganOver, IsUnanswered, IsUnprinted, told_of_states}
use Rattle.htl_ask.specs.declared.kept.Begun.{Begun}
use Rattle.htl_ask.specs.declared.kept.Kept.{Kept}
use Rattle.htl_ask.specs.declared.kept.Kept.TheVariants.{Case, State}
use Rattle.htl_ask.proofs.KeptLaws.{Holds, holds_outcome}

-- ---- why nothing is printed of what is kept

-- how what is kept answers, where memory isn't refused
abbrev Answers : Kept → Job → RunFault → Type 0
Answers kept job fault =
    ◌≢◌ {A = Result AnswerText RunFault} (Err fault) (Err faults.Memory) → HasOutcomeIn job.setting.complete kept job (Err fault)

-- why it isn't answered
pub unprinted_in : (kept : Kept) (job : Job) (old new : Option (List ℕ)) (fault : RunFault) → Answers kept job fault
    → IsUnprintedIn kept job old new fault
unprinted_in kept job old new faults.Memory has = tt
unprinted_in (Case loaded) job old new faults.Write has = absurd (has (λ e. cc e))
unprinted_in (State folded) job old new faults.Write has = absurd (has (λ e. cc e))
unprinted_in kept job old new fault has = has (λ e. cc e)

-- that is no failed write
pub unwritten_in : (kept : Kept) (job : Job) (fault : RunFault) → Answers kept job fault → fault ≢ faults.Write
unwritten_in (Case loaded) job faults.Write has is = has (λ e. cc e)
unwritten_in (State folded) job faults.Write has is = has (λ e. cc e)
unwritten_in kept job fault has is = cc is

-- it is about no two segments
pub about_none : (kept : Kept) (job : Job) (old new : Option (List ℕ)) (fault : RunFault) → IsUnprintedIn kept job old new fault
    → IsHalfKnown fault Nothing
about_none kept job old new faults.Write is = refl
about_none kept job old new faults.Memory is = refl
about_none (State folded) job old new (faults.Incomplete processor number) is = refl
about_none (Case loaded) job old new fault is = absurd is
about_none (State folded) job old new fault is = absurd is

-- and comes once all sources were read
pub comes_late : (kept : Kept) (job : Job) (old new : Option (List ℕ)) (fault : RunFault) → IsUnprintedIn kept job old new fault → IsLate fault
comes_late kept job old new faults.Write is = tt
comes_late kept job old new faults.Memory is = tt
comes_late (State folded) job old new (faults.Incomplete processor number) is = tt
comes_late (Case loaded) job old new fault is = absurd is
comes_late (State folded) job old new fault is = absurd is

-- ---- what was read

-- why nothing is printed is said of what was read
unprinted_over : (run : Run) (symbols : Option (List ℕ)) (kept : Kept) (read : Option Taken) → Holds run.job.setting symbols kept read
    → (old new : Option (List ℕ)) (fault : RunFault) → IsUnprintedIn kept run.job old new fault
    → (fault ≡ faults.Memory) ⊎ IsUnprinted run symbols old new fault read
unprinted_over run symbols kept read holds old new faults.Write (answer, has, written) =
    inr (answer, holds_outcome run.job.setting symbols kept read run.job (Ok answer) holds has, written)
unprinted_over run symbols kept read holds old new faults.Memory is = inl refl
unprinted_over run symbols (State folded) read holds old new (faults.Incomplete processor number) is =
    inr (is.0, holds_outcome run.job.setting symbols (State folded) read run.job (Err (faults.Incomplete processor number)) holds is)
unprinted_over run symbols (Case loaded) read holds old new fault is = absurd is
unprinted_over run symbols (State folded) read holds old new fault is = absurd is

-- It was begun with states and inputs, and this was to be printed over what was read of them.
module _ (run : Run) (symbols : Option (List ℕ)) (begun : Begun) (covered : IsCovered begun.kept) (old new : Option (List ℕ)) (world : Known)
    (states : KnownStates world.holds) (texts : List (List ℕ))
    (are : IsBegun true run.job.setting (told_of_states states run) symbols texts begun) where
  holds : Holds run.job.setting symbols begun.kept are.read
  holds = record { covered = covered; are = are.kept }

  -- it was
  pub answered_over : (completed : Completed) → AnswersBegun begun run.job old new completed
      → BeganOver run (told_of_states states run) texts symbols (AnswersStates run symbols old new completed)
  answered_over completed is = (
    are.read,
    opening_of true begun,
    are.opens,
    record {
      answer = is.answer;
      is = holds_outcome run.job.setting symbols begun.kept are.read run.job (Ok is.answer) holds is.is;
      printed = is.printed;
      coverage = is.coverage;
      cut = is.cut;
      absence = is.absence;
      remarks = is.remarks;
    },
  )

  -- or there is a reason why the question isn't answered
  pub refused_over : (inputs : List SourceState) (fault : RunFault) → IsUnprintedIn begun.kept run.job old new fault
      → IsUnanswered world states inputs run texts symbols old new fault
  refused_over inputs fault is =
      elim (unprinted_over run symbols begun.kept are.read holds old new fault is) [
        | inl memory ↦ inr (inl (inr memory))
        | inr why ↦ inr (inr (are.read, opening_of true begun, are.opens, why))
      ]

-- ---- failed writes

-- no state is refused for one
never_write : (held : Option (List ℕ)) (place : ℕ) (fault : RunFault) → IsMergesFault held fault → placed place fault ≢ faults.Write
never_write held place (faults.State state offset fault) why is = cc is
never_write held place (faults.Unbounded state processor) why is = cc is
never_write held place (faults.StateRead state) why is = cc is
never_write held place (faults.Case (cases.OtherTrace segment)) why is = cc is
never_write held place (faults.Case (cases.OtherProcessors segment)) why is = cc is
never_write held place (faults.Case fault) why is = cc is
never_write held place (faults.Incomplete processor number) why is = cc is
never_write held place fault why is = why

-- nothing need be known of saved states
abbrev none_known : (holds : List ℕ → Option (List ℕ)) → KnownStates holds
none_known holds = record {
  tells = λ name. None;
  are_of_one = λ before told. false;
  states = λ name. tt;
  sound = λ before told is. absurd (cc is);
}

pub state_unwritten : (world : Known) (names : List (List ℕ)) (fault : RunFault)
    → ((states : KnownStates world.holds) → EndsAtState world states names fault) → fault ≢ faults.Write
state_unwritten world names fault ends is =
    elim (ends (none_known world.holds)) [
      | inl refuses ↦ never_write (world.holds refuses.name) refuses.place refuses.fault refuses.why (sym refuses.is ∙ is)
      | inr memory ↦ absurd (cc (memory, is))
    ]
