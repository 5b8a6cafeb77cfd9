-- For the clauses of private functions: what a run over the names of a command did, whose inputs were opened once or more often.
use Rattle.std.specs.Prelude.{◌⊎◌, ℕ, List, Option, Result, map, string_bytes}
use Rattle.htl_command.specs.declared.command.Run.{Run}
use Rattle.htl_device.specs.States.{SinkState, SourceState}
use Rattle.htl_main.specs.Origins.{by_fault}
use Rattle.htl_main.specs.Runs.{LeavesSink, RunsOut}
use Rattle.htl_main.specs.declared.completed.Completed.{Completed}
use Rattle.htl_main.specs.declared.refused.Refused.{Refused}
use Rattle.htl_world.specs.Rounds.{Asks, Rounds}
use Rattle.htl_world.specs.Worlds.{HaveTexts, Known, WorldChange, of_inputs}
use Rattle.htl_world.specs.Readings.{AreAskedFor, ReadsInputs}
use Rattle.htl_program.specs.Outcomes.{EndsRun}

-- `inputs` are those of the last time.
pub record IsRunOfNames (world : Known) (inputs : List SourceState) (run : Run) (table : Option (List ℕ)) (before after : SinkState)
    (result : Result Completed Refused) : Type 0 where
  pub ends : (texts : List (List ℕ)) → HaveTexts world run.files.items texts
      → EndsRun run.job texts table inputs before.contents after.contents result ⊎ RunsOut result
  pub reads : ReadsInputs world run.job.setting.form.hex run.files.items inputs (by_fault result)
  pub readers : AreAskedFor run.job.setting (of_inputs world.holds world.standard run.files.items) inputs
  pub sink : LeavesSink before after (by_fault result)

-- The same of a run that opens its inputs anew, at most so many times.
pub record IsRunAgain (most : ℕ) (world : WorldChange) (inputs : List SourceState) (run : Run) (table : Option (List ℕ))
    (before after : SinkState) (result : Result Completed Refused) : Type 0 where
  pub is : IsRunOfNames world.old.known inputs run table before after result
  pub asked : Asks world (Rounds most (map string_bytes run.files.items) (by_fault result))
