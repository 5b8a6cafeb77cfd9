-- Inputs aren't read at all where one could not be opened, and otherwise as any run reads its sources.
use Rattle.std.proofs.Common.{◌≡◌, ◌⊎◌, ◌∙◌, ◌∷◌, ℕ, Bool, List, [], ap, inl, inr, map, refl, sym}
use Rattle.std.specs.Prelude.{IfErr, None, OnOk, Option, Some, Result, Ok, Err, String}
use Rattle.std.proofs.lemmas.Option.{none-some}
use Rattle.htl_device.specs.States.{SourceState, lefts, fresh}
use Rattle.htl_inputs.specs.Readings.{AreRead}
use Rattle.htl_inputs.specs.declared.fault.RunFault.{RunFault}
use Rattle.htl_inputs.specs.declared.fault.RunFault.TheVariants.{Memory, Read, SymbolsRead}
use Rattle.htl_command.specs.declared.question.Setting.{Setting}
use Rattle.htl_world.specs.Endings.{IsUntabled}
use Rattle.htl_world.specs.Readings.{AreAskedFor, AreUnread, IsUnopenedFor, ReadsKnown}
use Rattle.htl_world.specs.Worlds.{IsFirstRefused, IsTable, IsTableAbsent, IsTableUnknown, Known, of_each}
use Rattle.htl_inputs.proofs.SourceLaws.{none_asked}
use Rattle.htl_world.proofs.PassedOn.{same_fault}

-- sources of which nothing was read have all their bytes left
left_fresh : (known : List (Option (List ℕ))) → lefts (map fresh known) ≡ known
left_fresh [] = refl
left_fresh (bytes ∷ more) = ap (λ l. bytes ∷ l) (left_fresh more)

pub lefts_of : {states : List SourceState} {known : List (Option (List ℕ))} → states ≡ map fresh known → lefts states ≡ known
lefts_of {states} {known} is = ap (λ l. lefts l) is ∙ left_fresh known

-- of no source another reader was asked for
pub none_there : (setting : Setting) (known : List (Option (List ℕ))) → AreAskedFor setting known []
none_there setting known place before after was is = absurd cc

-- nor of those that were opened alone
pub unread_asks : (setting : Setting) (known holds : List (Option (List ℕ))) (absences : List Bool) (now : List SourceState) (fault : RunFault)
    → AreUnread known holds absences now fault → AreAskedFor setting known now
unread_asks setting known holds absences now fault (inl unopened) = rw (unopened.0) (none_there setting known)
unread_asks setting known holds absences now fault (inr opened) =
    rw (opened.0) (none_asked setting.form.hex setting.workers (map fresh known))

same_place : (one other : ℕ) → Read one ≡ Read other → one ≡ other
same_place one other is = cc is

-- where a name was refused, it is the first one
pub first_refused : (holds : List (Option (List ℕ))) (absences : List Bool) (fault : RunFault) (place : ℕ) → fault ≡ Read place
    → IsUnopenedFor holds absences fault → IsFirstRefused holds absences place
first_refused holds absences fault place told (inl memory) = absurd (cc (memory, told))
first_refused holds absences fault place told (inr (at, is, unopened)) = rw (← same_place at place (sym is ∙ told)) unopened

-- where none was read, a failed read is reported of the first name that was refused
unread_first : (known holds : List (Option (List ℕ))) (absences : List Bool) (now : List SourceState) (fault : RunFault) (place : ℕ)
    → fault ≡ Read place → AreUnread known holds absences now fault → IsFirstRefused holds absences place
unread_first known holds absences now fault place told (inl unopened) = first_refused holds absences fault place told unopened.1
unread_first known holds absences now fault place told (inr (same, inl symbols)) = absurd (cc (symbols, told))
unread_first known holds absences now fault place told (inr (same, inr memory)) = absurd (cc (memory, told))

-- a table of symbols wasn't read, whose bytes may be unknown
pub of_table : {X : Type 0} {fault : RunFault} → (fault ≡ Memory) ⊎ ((fault ≡ SymbolsRead) × X)
    → (fault ≡ SymbolsRead) ⊎ (fault ≡ Memory)
of_table (inl memory) = inr memory
of_table (inr symbols) = inl symbols.0

-- a table whose bytes are known could not be read for want of memory alone
pub known_table : {A X : Type 0} (holds : List ℕ → Option (List ℕ)) (name : Option (String A)) (table : Option (List ℕ))
    (result : Result X RunFault) → IfErr result (λ fault. (fault ≡ Memory) ⊎ ((fault ≡ SymbolsRead) × IsTableUnknown holds name))
    → IsTable holds name table → IfErr result (λ fault. fault ≡ Memory)
known_table holds name table (Ok read) refused has = tt
known_table holds name table (Err fault) (inl memory) has = memory
known_table holds None table (Err fault) (inr unknown) has = absurd unknown.1
known_table holds (Some name) table (Err fault) (inr unknown) has = absurd (none-some _ (sym unknown.1 ∙ has.1))

-- a table that is absent wasn't read
pub no_table : {A X : Type 0} (world : Known) (name : Option (String A)) (result : Result X RunFault)
    → OnOk result (IsTableAbsent world.is_absent name → ⊥)
    → IfErr result (λ fault. (fault ≡ Memory) ⊎ ((fault ≡ SymbolsRead) × IsTableUnknown world.holds name))
    → IsTableAbsent world.is_absent name → IsUntabled result
no_table world name (Ok read) there refused gone = absurd (there gone)
no_table world name (Err fault) there (inl memory) gone = inr (ap Err memory)
no_table world name (Err fault) there (inr symbols) gone = inl (ap Err symbols.0)

-- The inputs of a command's names, of which this is known.
module _ {S A : Type 0} (world : Known) (is_text : Bool) {known : List (Option (List ℕ))} (names : List (String A)) where
  -- none of them was read
  pub inputs_unread : (now : List SourceState) (result : Result S RunFault) (fault : RunFault) → result ≡ Err fault
      → AreUnread known (of_each world.holds names) (of_each world.is_absent names) now fault → ReadsKnown world is_text known names now result
  inputs_unread now result fault is unread = record {
    reading = inr (fault, is, unread);
    read = λ place told.
        inl (unread_first known (of_each world.holds names) (of_each world.is_absent names) now fault place
        (same_fault fault (Read place) result is told) unread);
  }

  -- all of them were opened, and read as the sources of a run
  pub inputs_read : {R : Type 0} (state : R → SourceState) (opened now : List R) (result : Result S RunFault)
      → map state opened ≡ map fresh known → AreRead is_text (map state opened) (map state now) result
      → ReadsKnown world is_text known names (map state now) result
  inputs_read state opened now result sources read = record {
    reading = inl (rw sources at read);
    read = λ place told. inr (rw (lefts_of sources) at read.read place told);
  }
