-- A run over the inputs that were opened for a question answers it.
use Rattle.std.proofs.Common.{List, [], inl, inr, map, refl, string_bytes}
use Rattle.std.specs.Prelude.{ℕ, Option, Result, Ok, Vec, option_map}
use Rattle.htl_command.specs.declared.command.Run.{Run}
use Rattle.htl_device.specs.States.{SinkState, SourceState}
use Rattle.htl_inputs.specs.declared.fault.RunFault.{RunFault}
use Rattle.htl_main.specs.Origins.{by_fault}
use Rattle.htl_main.specs.declared.completed.Completed.{Completed}
use Rattle.htl_main.specs.declared.refused.Refused.{Refused}
use Rattle.htl_world.specs.Openings.{OpensAll}
use Rattle.htl_world.specs.Rounds.{Asks, OpensAgain, Rounds}
use Rattle.htl_world.specs.Worlds.{Ask, WorldState, change}
use Rattle.htl_world.proofs.Asked.{all_then, asked_none}
use Rattle.htl_world.proofs.PassedOn.{no_end}
use Rattle.htl_program.specs.Outcomes.{IsAnswered}
use Rattle.htl_program.specs.Runs.{IsRunOfNames}

module _ {A : Type 0} (run : Run) (before opened : WorldState) (table : Option (Vec ℕ A)) (there now : List SourceState)
    (old new : SinkState) (result : Result Completed Refused)
    (all : OpensAll (change before opened) run.files.items run.symbols there (Ok table))
    (is : IsRunOfNames before.known now run (option_map (λ v. v.items) table) old new result) where
  -- it does where more was asked of the world
  pub answered_then : (after : WorldState)
      → Asks (change opened after) (OpensAgain before.known run.job.setting.form.hex (map string_bytes run.files.items) (by_fault result))
      → IsAnswered (change before after) now run old new result
  answered_then after asked = record {
    ends = λ texts of held has. rw (all.read of has) (is.ends texts held);
    absent = λ place gone. no_end table (all.absent place gone);
    untabled = λ texts held gone. no_end table (all.untabled texts held gone);
    reads = is.reads;
    readers = is.readers;
    sink = is.sink;
    asked = all_then (map string_bytes run.files.items) (option_map string_bytes run.symbols) (by_fault result) _ before opened after table
        all.asked asked;
  }

  -- and where nothing was
  pub answered_once : IsAnswered (change before opened) now run old new result
  answered_once = answered_then opened ([], asked_none opened, inl refl)

-- at most one round is at most two
pub two_rounds : {S : Type 0} (names : List (List ℕ)) (ended : Result S RunFault) (asks : List Ask) → Rounds 1 names ended asks
    → Rounds 2 names ended asks
two_rounds names ended asks (inl none) = inl none
two_rounds names ended asks (inr (inl (more, is, none))) = inr (inl (more, is, inl none))
two_rounds names ended asks (inr (inr early)) = inr (inr early)
