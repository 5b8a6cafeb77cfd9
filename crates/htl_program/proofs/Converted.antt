-- A conversion of inputs that were opened is one of their names, and where not all could be opened there was none.
use Rattle.std.proofs.Common.{◌≡◌, false, List, inl, inr, refl}
use Rattle.std.specs.Prelude.{Result, Ok, Err, String}
use Rattle.htl_device.specs.States.{SinkState, SourceState}
use Rattle.htl_inputs.specs.declared.fault.RunFault.{RunFault}
use Rattle.htl_main.specs.declared.origin.Between.TheVariants.{Nothing}
use Rattle.htl_main.specs.declared.refused.Refused.{Refused}
use Rattle.htl_world.specs.Openings.{OpensInputsOf}
use Rattle.htl_world.specs.Worlds.{WorldState, change}
use Rattle.htl_program.specs.Messages.{alone}
use Rattle.htl_program.specs.Outcomes.{IsConverted}

module _ {A S E : Type 0} (refusal : RunFault → E)
    (Converts : List SourceState → List SourceState → SinkState → SinkState → Result S E → Type 0)
    (before after : WorldState) (names : List (String A)) (result : Result S E) where
  -- nothing was converted, since not all could be opened
  pub none_converted : (inputs : List SourceState) (sink : SinkState) (fault : RunFault) → sink.failed ≡ false
      → result ≡ Err (refusal fault) → OpensInputsOf (change before after) names inputs (Err fault)
      → IsConverted refusal Converts (change before after) inputs names sink sink result
  none_converted inputs sink fault fine is opened = inr (record {
    fault = fault;
    reported = is;
    unopened = opened.refused;
    asked = opened.asked;
    none = opened.none;
    unwritten = refl;
    fine = fine;
  })

  -- all inputs were opened and converted
  pub all_converted : (opened now : List SourceState) (old new : SinkState) → OpensInputsOf (change before after) names opened (Ok (tt {0}))
      → Converts opened now old new result → IsConverted refusal Converts (change before after) now names old new result
  all_converted opened now old new all converts =
      inl (record { there = all.there; asked = all.asked; converted = rw all.sources at converts })

-- a refusal that is about no two segments is that of its fault alone
pub is_alone : (refused : Refused) (fault : RunFault) → refused.fault ≡ fault → refused.between ≡ Nothing → refused ≡ alone fault
is_alone refused fault same nothing = rw (← same, ← nothing) refl
