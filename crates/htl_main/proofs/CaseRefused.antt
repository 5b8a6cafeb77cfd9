-- A fault of all segments is one of the run, about two of them, and no other fault is about two segments.
use Rattle.std.proofs.Common.{◌≡◌, ℕ, List, Option, refl, inl, inr}
use Rattle.std.specs.Prelude.{Err}
use Rattle.htl_command.specs.declared.question.InputForm.{InputForm}
use Rattle.htl_segment.specs.Content.{Content}
use Rattle.htl_segment.specs.Traces.{Trace}
use Rattle.htl_case.specs.Cases.{IsCaseOf}
use Rattle.htl_case.specs.Faults.{IsRefusal}
use Rattle.htl_case.specs.declared.fault.CaseFault.{CaseFault}
use Rattle.htl_case.specs.declared.fault.CaseFault.TheVariants.{NoMemory}
use Rattle.htl_case.proofs.Outcomes.{exact_case}
use Rattle.htl_command.specs.declared.question.Job.{Job}
use Rattle.htl_inputs.specs.Faults.{of_case}
use Rattle.htl_inputs.specs.CutInputs.{Decoding, decoding}
use Rattle.htl_inputs.specs.Inputs.{DecodeAll}
use Rattle.htl_inputs.specs.declared.cuts.CutEnd.{CutEnd}
use Rattle.htl_inputs.specs.declared.fault.RunFault.{RunFault}
use Rattle.htl_inputs.specs.declared.fault.RunFault.TheVariants.{Case}
use Rattle.htl_main.specs.Causes.{IsCauseAfter}
use Rattle.htl_main.specs.Origins.{IsBetween, IsBetweenOf}
use Rattle.htl_main.specs.declared.origin.Between.{Between}
use Rattle.htl_main.specs.declared.origin.Between.TheVariants.{Nothing, Two, Unknown}

-- why segments are refused as a case is why nothing is printed of them
pub cause_of_case : (segments : List Content) (fault : CaseFault) → IsRefusal segments fault
    → (cuts : List CutEnd) (symbols : Option (List ℕ)) (job : Job) → IsCauseAfter (decoding segments cuts) symbols job (of_case fault)
cause_of_case segments NoMemory refusal cuts symbols job = inl refusal
cause_of_case segments fault refusal cuts symbols job = ((λ same. cc), refusal)

no_memory_between : (form : InputForm) (inputs : List (List ℕ)) (segments : List Content) (between : Between)
    → IsBetweenOf form inputs segments NoMemory between → between ≡ Nothing
no_memory_between form inputs segments Nothing is = refl
no_memory_between form inputs segments (Two first second) is = absurd is.broken
no_memory_between form inputs segments Unknown is = absurd cc

-- where the two segments of a case's fault are told of the decoded segments, they are told of the inputs
pub between_of_case : (form : InputForm) (inputs : List (List ℕ)) (segments : List Content) (fault : CaseFault) (between : Between)
    → DecodeAll form inputs segments → IsBetweenOf form inputs segments fault between → IsBetween form inputs (of_case fault) between
between_of_case form inputs segments NoMemory between decoded is = no_memory_between form inputs segments between is
between_of_case form inputs segments fault between decoded is = (segments, decoded, is)

-- what ends a run after the case was made is about no two segments
pub none_after : (form : InputForm) (all : List (List ℕ)) (given : Decoding) (T : Trace) (symbols : Option (List ℕ)) (job : Job)
    (fault : RunFault) → IsCaseOf given.segments T → IsCauseAfter given symbols job fault
    → IsBetween form all fault Nothing
none_after form all given T symbols job (Case fault) is cause = absurd (elim (exact_case given.segments T (Err fault) is cause) [
  | inl same ↦ cc
  | inr same ↦ cc
])
none_after form all given T symbols job fault is cause = refl
