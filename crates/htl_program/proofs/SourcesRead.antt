-- How sources were read doesn't depend on what a run that ended well answers, or on what a run that ended by a fault would have. A fault
-- that isn't of all segments is about no two of them.
use Rattle.std.proofs.Common.{◌≢◌, Bool, List, ℕ, ap, refl}
use Rattle.std.specs.Prelude.{Ok, Err}
use Rattle.htl_case.specs.declared.fault.CaseFault.{CaseFault}
use Rattle.htl_command.specs.declared.question.InputForm.{InputForm}
use Rattle.htl_device.specs.States.{SourceState}
use Rattle.htl_inputs.specs.Readings.{AreRead}
use Rattle.htl_inputs.specs.declared.fault.RunFault.{RunFault}
use Rattle.htl_inputs.specs.declared.fault.RunFault.TheVariants.{Case}
use Rattle.htl_main.specs.Origins.{IsBetween}
use Rattle.htl_main.specs.declared.origin.Between.TheVariants.{Nothing}
use Rattle.htl_world.proofs.PassedOn.{no_fault, same_fault}

-- sources that a run read that ended well were read so whatever it answers
pub as_answered : {S T : Type 0} (is_text : Bool) (old new : List SourceState) (done : S) (other : T)
    → AreRead is_text old new (Ok done)
    → AreRead is_text old new (Ok other)
as_answered is_text old new done other read = record {
  same_length = read.same_length;
  ended = read.ended;
  in_order = read.in_order;
  reported = λ place failed. absurd (no_fault done _ (read.reported place failed));
  read = λ place is. absurd (no_fault other _ is);
  no_fault = λ place is. absurd (no_fault other _ is);
  bounded = read.bounded;
  unread = tt;
  to_fault = read.to_fault;
}

-- sources that a run read that ended for a fault were read so whatever it would have answered
pub as_refused : {S T : Type 0} (is_text : Bool) (old new : List SourceState) (fault : RunFault)
    → AreRead {S = S} is_text old new (Err fault)
    → AreRead {S = T} is_text old new (Err fault)
as_refused is_text old new fault read = record {
  same_length = read.same_length;
  ended = tt;
  in_order = read.in_order;
  reported = λ place failed. ap Err (same_fault _ _ _ refl (read.reported place failed));
  read = λ place is. read.read place (ap Err (same_fault _ _ _ refl is));
  no_fault = λ place is. read.no_fault place (ap Err (same_fault _ _ _ refl is));
  bounded = read.bounded;
  unread = read.unread;
  to_fault = read.to_fault;
}

-- a fault that isn't of all segments is about no two of them
pub about_none : (form : InputForm) (inputs : List (List ℕ)) (fault : RunFault) → ((broken : CaseFault) → fault ≢ Case broken)
    → IsBetween form inputs fault Nothing
about_none form inputs (Case broken) never = absurd (never broken refl)
about_none form inputs fault never = refl
