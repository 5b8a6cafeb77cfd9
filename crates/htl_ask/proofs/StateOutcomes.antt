-- What was folded answers a job, or isn't asked for a gap, as the clauses of that call say.
use Rattle.std.proofs.Common.{◌≡◌, ◌≢◌, Bool, false, true, List, [], None, Ok, Err, ap, refl, sym, ◌∙◌}
use Rattle.std.specs.Prelude.{IfErr, IfOk, OnOk, Result}
use Rattle.htl_command.specs.declared.question.Job.{Job}
use Rattle.htl_segment.specs.Content.{Content}
use Rattle.htl_segment.specs.Traces.{Trace}
use Rattle.htl_inputs.specs.declared.fault.RunFault.{RunFault}
use Rattle.htl_inputs.specs.declared.fault.RunFault.TheVariants.{Incomplete, Memory}
use Rattle.htl_main.specs.Asked.{IsUnasked}
use Rattle.htl_main.specs.Completeness.{IsComplete}
use Rattle.htl_main.specs.Folding.{AreFolded, IsAskedOver, IsCollectionOf}
use Rattle.htl_main.specs.Printed.{IsText}
use Rattle.htl_main.specs.Remarks.{RemarksOver}
use Rattle.htl_main.specs.declared.folding.Folded.{Folded}
use Rattle.htl_main.specs.declared.printing.AnswerText.{AnswerText}
use Rattle.htl_dialogue.specs.Notes.{AreToldOf}
use Rattle.htl_ask.specs.Loads.{HasAbsenceIn, HasOutcomeIn, is_memory}
use Rattle.htl_ask.specs.declared.kept.Kept.{Kept}
use Rattle.htl_ask.specs.declared.kept.Kept.TheVariants.{Case, State}

pub state_outcome : (complete : Bool) (folded : Folded) (job : Job) (result : Result AnswerText RunFault)
    → IfOk result (λ text. (taken : List Content) (T : Trace) → AreFolded folded.analyst taken → IsAskedOver job.question taken T
    → IsText T folded.symbols job text.lines.items)
    → IfOk result (λ text. (taken : List Content) (T : Trace) → AreFolded folded.analyst taken → IsAskedOver job.question taken T
    → RemarksOver T folded.symbols job text.remarks)
    → OnOk result (complete ≡ true → (taken : List Content) (T : Trace) → AreFolded folded.analyst taken → taken ≢ [] → IsCollectionOf taken T
    → IsComplete T [])
    → IfErr result (IsUnasked complete folded.analyst) → result ≢ Err Memory → HasOutcomeIn complete (State folded) job result
state_outcome complete folded job (Ok answer) text remarks whole err other = λ taken T are asked. (
  record { text = text taken T are asked; remarks = remarks taken T are asked },
  λ needed. whole needed taken T are asked.some asked.all,
)
state_outcome complete folded job (Err (Incomplete processor number)) text remarks whole err other = err
state_outcome complete folded job (Err Memory) text remarks whole err other = absurd (other refl)
state_outcome complete folded job (Err fault) text remarks whole err other = absurd err

-- of a question that isn't answered nothing is told after its reply
pub late_refused : (complete wanted has_table : Bool) (kept : Kept) (job : Job) (fault : RunFault) → HasOutcomeIn complete kept job (Err fault)
    → AreToldOf has_table (HasOutcomeIn complete kept) (HasAbsenceIn kept) wanted job []
late_refused complete false has_table kept job fault has = refl
late_refused complete true has_table (Case loaded) job fault has = absurd has
late_refused complete true has_table (State folded) job fault has = (Err fault, has, None, refl, refl)

fault_is : (x y : RunFault) → ◌≡◌ {A = Result AnswerText RunFault} (Err x) (Err y) → x ≡ y
fault_is x y e = cc

-- a fault for which a question isn't answered isn't refused memory, where it is told apart
pub not_memory : (fault : RunFault) → is_memory fault ≡ false → ◌≢◌ {A = Result AnswerText RunFault} (Err fault) (Err Memory)
not_memory fault other e =
    let same : is_memory fault ≡ true = ap is_memory (fault_is fault Memory e) in
    cc (sym same ∙ other)
