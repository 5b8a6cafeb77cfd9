-- The fault for which files or a state are refused is the first one of the note on them.
use Rattle.std.proofs.Common.{◌≡◌, ◌∷◌, ℕ, List, [], Ok, Err, refl}
use Rattle.std.specs.Prelude.{Result}
use Rattle.htl_dialogue.specs.Notes.{first_fault}
use Rattle.htl_dialogue.specs.Replying.{fault_of}
use Rattle.htl_dialogue.specs.declared.note.Note.TheVariants as hear
use Rattle.htl_main.specs.declared.loading.adding.Added.{Added}
use Rattle.htl_main.specs.declared.refused.Refused.{Refused}

pub fault_is_first : (files : List (List ℕ)) (ended : Result Added Refused) → fault_of ended ≡ first_fault (hear.Reads files ended ∷ [])
fault_is_first files (Ok added) = refl
fault_is_first files (Err refused) = refl
