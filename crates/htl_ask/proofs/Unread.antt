-- What could not be opened is about no two segments, and is no failed write.
use Rattle.std.proofs.Common.{◌≡◌, ◌≢◌, Bool, List, Option, inl, inr, refl, ℕ}
use Rattle.htl_device.specs.States.{SourceState}
use Rattle.htl_inputs.specs.declared.fault.RunFault.{RunFault}
use Rattle.htl_inputs.specs.declared.fault.RunFault.TheVariants.{Write}
use Rattle.htl_main.specs.Folding.{IsHalfKnown}
use Rattle.htl_main.specs.declared.origin.Between.TheVariants.{Nothing}
use Rattle.htl_world.specs.Readings.{AreUnread}

module _ (known holds : List (Option (List ℕ))) (absences : List Bool) (now : List SourceState) (fault : RunFault) where
  pub about_no_two : AreUnread known holds absences now fault → IsHalfKnown fault Nothing
  about_no_two (inl (none, inl memory)) = rw memory refl
  about_no_two (inl (none, inr (place, told, first))) = rw told refl
  about_no_two (inr (same, inl symbols)) = rw symbols refl
  about_no_two (inr (same, inr memory)) = rw memory refl

  pub no_failed_write : AreUnread known holds absences now fault → fault ≢ Write
  no_failed_write (inl (none, inl memory)) is = absurd (cc (memory, is))
  no_failed_write (inl (none, inr (place, told, first))) is = absurd (cc (told, is))
  no_failed_write (inr (same, inl symbols)) is = absurd (cc (symbols, is))
  no_failed_write (inr (same, inr memory)) is = absurd (cc (memory, is))
