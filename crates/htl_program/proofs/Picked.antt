-- A run of picks that lacks nothing is a run.
use Rattle.std.proofs.Common.{◌≡◌, ◌∙◌, false, List, Err, Ok, ap, refl, sym}
use Rattle.std.specs.Prelude.{ℕ, Option}
use Rattle.htl_command.specs.declared.question.Job.{Job}
use Rattle.htl_device.specs.States.{SinkState, SourceState}
use Rattle.htl_event.specs.declared.interest.Interest.{Interest}
use Rattle.htl_inputs.specs.declared.fault.RunFault.{RunFault}
use Rattle.htl_main.specs.Runs.{IsPicked, IsRun}
use Rattle.htl_main.specs.declared.completed.Completed.{Completed}
use Rattle.htl_main.specs.declared.origin.Between.TheVariants.{Nothing}
use Rattle.htl_main.specs.declared.picks.Unpicked.TheVariants as unpicked
use Rattle.htl_main.specs.declared.refused.Refused.{Refused}
use Rattle.htl_world.proofs.PassedOn.{no_fault, same_fault}
use Rattle.htl_program.proofs.SourcesRead.{about_none, as_answered, as_refused}

module _ (job : Job) (interest : Interest) (table : Option (List ℕ)) (old new : List SourceState) (before after : SinkState) where
  -- one that ended well is a run that did
  pub picked_answer : (completed : Completed) → job.setting.form.hex ≡ false
      → IsPicked interest job table old new before after (Ok completed) → IsRun job table old new before after (Ok completed)
  picked_answer completed bytes is = record {
    outcome = is.outcome;
    reading = rw bytes (as_answered false old new _ completed is.reading);
    readers = rw bytes is.readers;
    sink = record { untouched = tt; failed = λ told. absurd (no_fault _ _ told); fine = is.sink.fine };
  }

  -- and one that is refused is a run whose fault is about no two segments
  pub picked_refusal : (fault : RunFault) (refused : Refused) → job.setting.form.hex ≡ false → refused.fault ≡ fault
      → refused.between ≡ Nothing → IsPicked interest job table old new before after (Err (unpicked.Refused fault))
      → IsRun job table old new before after (Err refused)
  picked_refusal fault refused bytes same nothing is = record {
    outcome = λ texts all.
        let why = is.outcome texts all in
        record {
          cause = rw same (why.0);
          between = rw (same, nothing) (about_none job.setting.form texts fault is.no_case);
          written = λ told. why.1 (sym same ∙ told);
        };
    reading = rw (same, bytes) (as_refused false old new fault is.reading);
    readers = rw bytes is.readers;
    sink = record {
      untouched = rw same (is.sink.untouched);
      failed = λ told. is.sink.failed (ap Err (sym same ∙ same_fault _ _ _ refl told));
      fine = tt;
    };
  }
