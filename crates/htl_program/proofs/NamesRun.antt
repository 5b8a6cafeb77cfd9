-- A run over opened inputs is one over their names, and where not all could be opened there was none.
use Rattle.std.proofs.Common.{◌≡◌, ◌∙◌, Bool, ℕ, List, [], ap, inl, inr, map, refl, subst, sym}
use Rattle.std.specs.Prelude.{Option, Result, Err}
use Rattle.htl_command.specs.declared.command.Run.{Run}
use Rattle.htl_device.specs.States.{SinkState, SourceState, fresh}
use Rattle.htl_inputs.specs.declared.fault.RunFault.{RunFault}
use Rattle.htl_inputs.specs.declared.fault.RunFault.TheVariants.{Memory}
use Rattle.htl_main.specs.Origins.{by_fault}
use Rattle.htl_main.specs.Runs.{IsRun, LeavesSink, RunsOut}
use Rattle.htl_main.specs.declared.completed.Completed.{Completed}
use Rattle.htl_main.specs.declared.origin.Between.TheVariants.{Nothing}
use Rattle.htl_main.specs.declared.refused.Refused.{Refused}
use Rattle.htl_world.specs.Readings.{IsUnopenedFor}
use Rattle.htl_world.specs.Worlds.{Known, of_each, of_inputs}
use Rattle.htl_world.proofs.FirstAbsent.{only_memory}
use Rattle.htl_world.proofs.NamesRead.{inputs_read, inputs_unread, lefts_of, unread_asks}
use Rattle.htl_program.specs.Runs.{IsRunOfNames}

-- memory was refused, if that is the fault
pub ran_out : {S : Type 0} (ended : Result S Refused) (refused : Refused) → ended ≡ Err refused → refused.fault ≡ Memory
    → refused.between ≡ Nothing → RunsOut ended
ran_out {S} ended refused is memory nothing = subst (λ e. RunsOut e) (sym is) (memory, nothing)

-- nothing is written before all inputs are opened
unwritten : {S : Type 0} (holds : List (Option (List ℕ))) (absences : List Bool) (sink : SinkState) (fault : RunFault)
    → IsUnopenedFor holds absences fault → LeavesSink {S = S} sink sink (Err fault)
unwritten holds absences sink fault (inl memory) =
    record { untouched = λ other. refl; failed = λ told. absurd (cc (memory, told)); fine = tt }
unwritten holds absences sink fault (inr (place, is, first)) =
    record { untouched = λ other. refl; failed = λ told. absurd (cc (is, told)); fine = tt }

module _ (world : Known) (run : Run) (table : Option (List ℕ)) where
  -- a run over opened inputs is one over their names
  pub run_of_names : {R : Type 0} (state : R → SourceState) (opened now : List R) (before after : SinkState)
      (result : Result Completed Refused) → map state opened ≡ map fresh (of_inputs world.holds world.standard run.files.items)
      → IsRun run.job table (map state opened) (map state now) before after result
      → IsRunOfNames world (map state now) run table before after result
  run_of_names state opened now before after result sources is = record {
    ends = λ texts held. inl (is.outcome texts (lefts_of sources ∙ held));
    reads = inputs_read world run.job.setting.form.hex run.files.items state opened now (by_fault result) sources is.reading;
    readers = rw sources at is.readers;
    sink = is.sink;
  }

  -- where not all inputs could be opened no run was made
  pub none_run : (inputs : List SourceState) (sink : SinkState) (result : Result Completed Refused) (refused : Refused) (fault : RunFault)
      → result ≡ Err refused → refused.fault ≡ fault → refused.between ≡ Nothing → inputs ≡ []
      → IsUnopenedFor (of_each world.holds run.files.items) (of_each world.is_absent run.files.items) fault
      → IsRunOfNames world inputs run table sink sink result
  none_run inputs sink result refused fault is same nothing none unopened =
      let holds = of_each world.holds run.files.items in
      let absences = of_each world.is_absent run.files.items in
      let ended : by_fault result ≡ Err fault = ap by_fault is ∙ ap Err same in
      record {
        ends = λ texts all. inr (ran_out result refused is
            (same ∙ only_memory world.holds world.standard run.files.items texts absences fault all unopened) nothing);
        reads = inputs_unread world run.job.setting.form.hex run.files.items inputs (by_fault result) fault ended (inl (none, unopened));
        readers = unread_asks run.job.setting (of_inputs world.holds world.standard run.files.items) holds absences inputs fault
            (inl (none, unopened));
        sink = subst (λ r. LeavesSink sink sink r) (sym ended) (unwritten holds absences sink fault unopened);
      }
