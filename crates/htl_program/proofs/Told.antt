-- A person is told of a run that it begins, and then that it has ended.
use Rattle.std.proofs.Common.{◌≡◌, ◌++◌, ◌∷◌, [], List, append_assoc, refl}
use Rattle.std.specs.Prelude.{Option, Some, None}
use Rattle.htl_command.specs.declared.command.Command.{Command}
use Rattle.htl_program.specs.Messages.{Hears, HearsAll, HearsRun, Said}
use Rattle.htl_program.specs.declared.saying.message.Message.TheVariants as say

-- a person that is told of the beginning and then of the end was told of the run
pub run_told : (old within new : Option (List Said)) (command : Command) → Hears old within (say.Begins command) → Hears within new say.Ends
    → HearsRun command old new
run_told None within new command first last = tt
run_told (Some said) within new command first last =
    let ended : new ≡ Some ((said ++ say.Begins command ∷ []) ++ say.Ends ∷ []) = rw first at last in
    rw (ended, append_assoc said (say.Begins command ∷ []) (say.Ends ∷ [])) refl

-- a person that is told these messages and then those was told all of them
pub all_told : (old within new : Option (List Said)) (first more : List Said) → HearsAll old within first → HearsAll within new more
    → HearsAll old new (first ++ more)
all_told None within new first more one other = tt
all_told (Some said) within new first more one other =
    let ended : new ≡ Some ((said ++ first) ++ more) = rw one at other in rw (ended, append_assoc said first more) refl
