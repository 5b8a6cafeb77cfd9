-- What is loaded before a question is answered (this project's own): the case of all segments, and the names of its addresses.
use Rattle.std.specs.Prelude.{◌≡◌, ℕ, Bool, true, List, Option}
use Rattle.htl_segment.specs.Traces.{Trace}
use Rattle.htl_case.specs.Cases.{IsCaseOf}
use Rattle.htl_symbols.specs.Ranges.{Range}
use Rattle.htl_command.specs.declared.question.Job.{Job}
use Rattle.htl_command.specs.declared.question.Moment.{Moment}
use Rattle.htl_command.specs.declared.question.Setting.{Setting}
use Rattle.htl_inputs.specs.CutInputs.{Decoding, IsDecoding}
use Rattle.htl_main.specs.Moments.{IsCompleteUntil}
use Rattle.htl_main.specs.Printed.{HasSymbols, WorkersFit}

-- the job, in this setting
abbrev pub in_setting : Setting → Job → Job
in_setting setting job = record job { setting = setting }

-- This is the case of what was decoded, complete up to a moment where a complete one is asked for, with the symbols of the table.
pub record AreLoaded (given : Decoding) (symbols : Option (List ℕ)) (complete : Bool) (until : Option Moment) (T : Trace)
    (table : List Range) : Type 0 where
  pub case : IsCaseOf given.segments T
  pub whole : complete ≡ true → IsCompleteUntil T given.cuts until
  pub named : HasSymbols symbols table

-- This is the case of all segments of the inputs, with the symbols of the table.
pub record AreLoadedOf (inputs : List (List ℕ)) (symbols : Option (List ℕ)) (setting : Setting) (until : Option Moment) (T : Trace)
    (table : List Range) : Type 0 where
  pub workers : WorkersFit setting.workers
  pub given : Decoding
  pub decoded : IsDecoding setting.form inputs given
  pub loaded : AreLoaded given symbols setting.complete until T table
