-- For the clauses of private functions: what a write of bytes to a sink comes to.
use Rattle.std.specs.Prelude.{◌≡◌, List, ℕ, IfErr, OnOk, Result}
use Rattle.std.specs.Io.KnownBytes.{Appends}
use Rattle.htl_device.specs.Devices.{AppendsPrefix}
use Rattle.htl_device.specs.States.{SinkState}
use Rattle.htl_inputs.specs.declared.fault.RunFault.{RunFault}
use Rattle.htl_inputs.specs.declared.fault.RunFault.TheVariants.{Write}
use Rattle.htl_convert.specs.Dumps.{is_failed_write}

-- The sink got these bytes, or some first part of them if it failed, and this is what is reported.
pub record Writes {S : Type 0} (bytes : List ℕ) (old new : SinkState) (result : Result S RunFault) : Type 0 where
  pub ok : OnOk result (Appends old.contents new.contents bytes)
  pub err : IfErr result (λ fault. (fault ≡ Write) × AppendsPrefix old.contents new.contents bytes)
  pub failed : new.failed ≡ is_failed_write result
