-- The names of a line aren't read at all where one could not be opened, and otherwise as any run reads its sources.
use Rattle.std.proofs.Common.{◌≡◌, ◌∷◌, [], ℕ, suc, Bool, false, true, List, All, arith, map, refl, inl, inr}
use Rattle.std.specs.Prelude.{None, Option, Some, Result, Ok, Err, Vec}
use Rattle.htl_device.specs.States.{SourceState}
use Rattle.htl_inputs.specs.Readings.{AreRead, AskForReaders}
use Rattle.htl_inputs.specs.declared.fault.RunFault.{RunFault}
use Rattle.htl_inputs.specs.declared.fault.RunFault.TheVariants.{Read}
use Rattle.htl_command.specs.declared.question.Setting.{Setting}
use Rattle.htl_world.specs.Worlds.{Known, WorldChange}
use Rattle.htl_world.specs.Openings.{AreOpened}
use Rattle.htl_world.specs.Readings.{IsUnopenedFor}
use Rattle.htl_world.proofs.PassedOn.{same_fault}
use Rattle.htl_world.proofs.FirstAbsent.{first_or_memory, none_absent}
use Rattle.htl_world.proofs.NamesRead.{first_refused, lefts_of, none_there}
use Rattle.htl_ask.specs.Asking.{Found, ReadsNames, all_hold, found, found_with, one_is_absent, unknown}

-- where no name is absent, none is known to be
pub none_is_absent : (world : Known) (names : List (List ℕ)) → All (λ absent. absent ≡ false) (map world.is_absent names)
    → found world names ≡ one_is_absent → ⊥
none_is_absent world [] there is = absurd (cc is)
none_is_absent world (name ∷ more) there is =
    with_first (world.holds name) (world.is_absent name) (found world more) (there 0 true (omega arith))
    (none_is_absent world more (λ k d lt. there (suc k) d (omega (arith, lt)))) is
  where
    with_first : (held : Option (List ℕ)) (absent : Bool) (rest : Found) → absent ≡ false → (rest ≡ one_is_absent → ⊥)
        → found_with held absent rest ≡ one_is_absent → ⊥
    with_first (Some text) absent (all_hold texts) opens later is = absurd (cc is)
    with_first (Some text) absent one_is_absent opens later is = later refl
    with_first (Some text) absent unknown opens later is = absurd (cc is)
    with_first None true rest opens later is = absurd (cc opens)
    with_first None false rest opens later is = absurd (cc is)

module _ {S : Type 0} (world : Known) (setting : Setting) (names : List (List ℕ)) where
  -- where a name could not be opened, no source was read
  pub none_read : (fault : RunFault) → IsUnopenedFor (map world.holds names) (map world.is_absent names) fault
      → ReadsNames {S = S} world setting names [] (Err fault)
  none_read fault unopened = record {
    absent = λ place absent. first_or_memory (Err fault) (map world.holds names) (map world.is_absent names) fault place refl unopened absent;
    reading = inr (fault, refl, inl (refl, unopened));
    readers = none_there setting (map world.holds names);
    read = λ place told.
        inl (first_refused (map world.holds names) (map world.is_absent names) fault place (same_fault fault (Read place) _ refl told) unopened);
  }

-- where all names were opened, they were read as the sources of a run
pub all_read : {S R A : Type 0} (world : WorldChange) (setting : Setting) (names : List (List ℕ)) (state : R → SourceState) (sources : Vec R A)
    (now : List R) (result : Result S RunFault) → AreOpened state world names (Ok sources)
    → AreRead setting.form.hex (map state sources.items) (map state now) result
    → AskForReaders setting.form.hex setting.workers (map state sources.items) (map state now)
    → ReadsNames world.old.known setting names (map state now) result
all_read world setting names state sources now result are read readers = record {
  absent = λ place absent.
      absurd (none_absent (map world.old.known.holds names) (map world.old.known.is_absent names) place are.there absent);
  reading = inl (rw (are.sources) at read);
  readers = rw (are.sources) at readers;
  read = λ place told. inr (rw (lefts_of are.sources) at read.read place told);
}
