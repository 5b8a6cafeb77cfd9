-- Names are opened and then the table of symbols is read, or there is a reason why not: the same of inputs and of files alone.
use Rattle.std.proofs.Common.{◌≡◌, [], ℕ, All, List, ap, false, inl, inr, map, refl}
use Rattle.std.specs.Prelude.{Err, Ok, OnOk, Option, Result, Some, String, Vec, option_map, string_bytes}
use Rattle.std.proofs.lemmas.Result.{IfErr-weaker}
use Rattle.htl_device.specs.States.{AreOpen, SourceState, fresh}
use Rattle.htl_inputs.specs.declared.fault.RunFault.{RunFault}
use Rattle.htl_inputs.specs.declared.fault.RunFault.TheVariants.{Memory}
use Rattle.htl_world.specs.Openings.{IsTableRead, OpensAllBy}
use Rattle.htl_world.specs.Readings.{IsUnopenedFor}
use Rattle.htl_world.specs.Rounds.{Asks, EndsEarly}
use Rattle.htl_world.specs.Worlds.{Ask, IsAsked, WorldState, change, of_each}
use Rattle.htl_world.proofs.Asked.{names_given, names_refused}
use Rattle.htl_world.proofs.FirstAbsent.{first_or_memory, none_absent}
use Rattle.htl_world.proofs.NamesRead.{known_table, no_table, of_table}

always : {S E X : Type 0} (result : Result S E) → X → OnOk result X
always (Ok value) x = x
always (Err fault) x = tt

-- Names that these asks open, of whose inputs this is known. Where all these have known bytes, only memory is refused.
module _ {A B C : Type 0} (old : WorldState) (opened : List Ask) (known : List (Option (List ℕ))) (names : List (String A))
    (symbols : Option (String B)) (only : (texts : List (List ℕ)) (fault : RunFault) → known ≡ map Some texts
    → IsUnopenedFor (of_each old.known.holds names) (of_each old.known.is_absent names) fault → fault ≡ Memory) where
  -- one of them could not be opened
  pub ends_unopened : (new : WorldState) (inputs : List SourceState) (fault : RunFault) → inputs ≡ []
      → IsUnopenedFor (of_each old.known.holds names) (of_each old.known.is_absent names) fault
      → Asks (change old new) (EndsEarly (map string_bytes names) opened fault)
      → OpensAllBy {C = C} (change old new) opened known names symbols inputs (Err fault)
  ends_unopened new inputs fault none refused asked = record {
    ready = tt;
    sources = tt;
    unread = inl (none, refused);
    read = tt;
    known = λ texts table all has. only texts fault all refused;
    absent = λ place gone. first_or_memory (Err fault) (of_each old.known.holds names) (of_each old.known.is_absent names) fault place refl
        refused gone;
    untabled = λ texts all gone. inr (ap Err (only texts fault all refused));
    asked = names_refused (map string_bytes names) (option_map string_bytes symbols) old new fault asked;
  }

  -- all of them were opened
  pub ends_opened : (mid new : WorldState) (inputs : List SourceState) (result : Result (Option (Vec ℕ C)) RunFault) → AreOpen inputs
      → inputs ≡ map fresh known → All (λ absent. absent ≡ false) (of_each old.known.is_absent names) → IsAsked old mid opened
      → IsTableRead (change mid new) symbols result → OpensAllBy (change old new) opened known names symbols inputs result
  ends_opened mid new inputs result ready sources there first table =
      let refused = rw first.known at table.refused in
      record {
        ready = always result ready;
        sources = always result sources;
        unread = IfErr-weaker result _ _ (λ fault refused. inr (sources, of_table refused)) refused;
        read = rw first.known at table.bytes;
        known = λ texts bytes all has. known_table old.known.holds symbols bytes result refused has;
        absent = λ place gone. absurd (none_absent (of_each old.known.holds names) (of_each old.known.is_absent names) place there gone);
        untabled = λ texts all gone. no_table old.known symbols result (rw first.known at table.there) refused gone;
        asked = names_given (map string_bytes names) (option_map string_bytes symbols) old mid new result first table.asked;
      }
