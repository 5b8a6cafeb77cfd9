-- A run that opens its inputs once more: where not all could be opened there was none, and else one over them is one over their names.
use Rattle.std.proofs.Common.{◌≡◌, ◌∙◌, ℕ, zero, suc, List, [], ap, inl, map, refl, string_bytes}
use Rattle.std.specs.Prelude.{Option, Result, Err, Ok}
use Rattle.htl_command.specs.declared.command.Run.{Run}
use Rattle.htl_device.specs.States.{SinkState, SourceState}
use Rattle.htl_inputs.specs.declared.fault.RunFault.{RunFault}
use Rattle.htl_main.specs.Origins.{by_fault}
use Rattle.htl_main.specs.declared.completed.Completed.{Completed}
use Rattle.htl_main.specs.declared.origin.Between.TheVariants.{Nothing}
use Rattle.htl_main.specs.declared.refused.Refused.{Refused}
use Rattle.htl_world.specs.Openings.{OpensInputsOf}
use Rattle.htl_world.specs.Rounds.{Rounds}
use Rattle.htl_world.specs.Worlds.{WorldState, change}
use Rattle.htl_world.proofs.Asked.{asked_none, last_round, one_round}
use Rattle.htl_program.specs.Runs.{IsRunAgain, IsRunOfNames}
use Rattle.htl_program.proofs.NamesRun.{none_run}

-- none is no more than any number
no_round : {S : Type 0} (most : ℕ) (names : List (List ℕ)) (ended : Result S RunFault) → Rounds most names ended []
no_round zero names ended = refl
no_round (suc most) names ended = inl refl

module _ (most : ℕ) (before after : WorldState) (run : Run) (table : Option (List ℕ)) (inputs : List SourceState) where
  -- where not all inputs could be opened no run was made
  pub none_again : (sink : SinkState) (result : Result Completed Refused) (refused : Refused) (fault : RunFault) → result ≡ Err refused
      → refused.fault ≡ fault → refused.between ≡ Nothing → OpensInputsOf (change before after) run.files.items inputs (Err fault)
      → IsRunAgain (suc most) (change before after) inputs run table sink sink result
  none_again sink result refused fault is same nothing opened = record {
    is = none_run before.known run table inputs sink result refused fault is same nothing opened.none opened.refused;
    asked = last_round (map string_bytes run.files.items) (by_fault result) most before after fault (ap by_fault is ∙ ap Err same) opened.asked;
  }

  -- one over the inputs that were opened is one over their names, with no other round
  pub once_again : {done : Unit {0}} (opened : List SourceState) (old new : SinkState) (result : Result Completed Refused)
      → OpensInputsOf (change before after) run.files.items opened (Ok done) → IsRunOfNames before.known inputs run table old new result
      → IsRunAgain (suc most) (change before after) inputs run table old new result
  once_again {done = done} opened old new result all is = record {
    is = is;
    asked =
        let names = map string_bytes run.files.items in
        let ended = by_fault result in
        one_round names ended most before after after done all.asked ([], asked_none after, no_round most names ended);
  }
