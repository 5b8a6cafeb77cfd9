-- What is said of a dialogue by the notes after its beginning is said of it by all notes.
use Rattle.std.proofs.Common.{◌≡◌, ◌⊎◌, ℕ, Bool, false, List, [], ◌∷◌, ◌++◌, Option, inl, inr, take}
use Rattle.htl_dialogue.specs.Dialogues.{Answers, Converses, Gets, GotAt, DialogueStops, last_wait}
use Rattle.htl_dialogue.specs.Notes.{OwnNote}
use Rattle.htl_dialogue.specs.Sayings.{Turn}
use Rattle.htl_dialogue.specs.declared.dialogue.Conversed.{Conversed}
use Rattle.htl_dialogue.specs.declared.dialogue.DialogueFault.{DialogueFault}
use Rattle.htl_dialogue.specs.declared.dialogue.DialogueFault.TheVariants.{Questions, Write, NoMemory}
use Rattle.htl_dialogue.specs.declared.note.Note.TheVariants as hear
use Rattle.htl_dialogue.specs.declared.note.Opening.{Opening}
use Rattle.htl_ask.specs.Beginnings.{BeginsAndGets}

module _ {S Speaker : Type 0} (answers : Answers S) (wanted : Bool) (before : S) (text : List ℕ) (old new : Option (List ℕ))
    (told : Speaker → OwnNote → Speaker) (speaker begun after : Speaker) (names : List (List ℕ)) (opening : Opening)
    (is : begun ≡ told speaker (hear.Begins names opening)) where
  gets : (replies : List ℕ) (notes : List OwnNote) → Gets old new told begun after replies notes
      → BeginsAndGets names old new told speaker after opening replies notes
  gets replies notes got = (got.0, rw is at got.1)

  -- a dialogue that gets the notes after its beginning gets all its notes, with that of the beginning first
  pub converses_begun : (conversed : Conversed) → Converses answers wanted before text (Gets old new told begun after) conversed
      → Converses answers wanted before text (BeginsAndGets names old new told speaker after opening) conversed
  converses_begun conversed all = record {
    after = all.after;
    replies = all.replies;
    notes = all.notes;
    exchanged = all.exchanged;
    got = gets all.replies (all.notes ++ last_wait text) all.got;
    any = all.any;
    first = all.first;
  }

  waited : (failed : Bool) (replies : List ℕ) (notes : List OwnNote)
      → Gets old new told begun after replies (notes ++ hear.Awaits ∷ []) ⊎ ((failed ≡ false) × Gets old new told begun after replies notes)
      → BeginsAndGets names old new told speaker after opening replies (notes ++ hear.Awaits ∷ [])
      ⊎ ((failed ≡ false) × BeginsAndGets names old new told speaker after opening replies notes)
  waited failed replies notes (inl got) = inl (gets replies (notes ++ hear.Awaits ∷ []) got)
  waited failed replies notes (inr got) = inr (got.0, gets replies notes got.1)

  got_at : (state : S) (failed : Bool) (fault : DialogueFault) (later : List Turn) (replies : List ℕ) (notes : List OwnNote)
      → GotAt answers state failed (Gets old new told begun after) fault later replies notes
      → GotAt answers state failed (BeginsAndGets names old new told speaker after opening) fault later replies notes
  got_at state failed Write [] replies notes got = got
  got_at state failed Write (line ∷ more) replies notes got =
      (got.0, got.1, got.2, got.3, got.4, gets (replies ++ take got.2 got.1) (notes ++ hear.Awaits ∷ got.3) got.5)
  got_at state failed Questions later replies notes got = waited failed replies notes got
  got_at state failed NoMemory later replies notes got = waited failed replies notes got

  -- a dialogue that stops with the notes after its beginning stops with all its notes, that of the beginning first
  pub stops_begun : (left : Option (List ℕ)) (failed : Bool) (fault : DialogueFault)
      → DialogueStops answers wanted before text left failed (Gets old new told begun after) fault
      → DialogueStops answers wanted before text left failed (BeginsAndGets names old new told speaker after opening) fault
  stops_begun left failed fault at = record {
    earlier = at.earlier;
    later = at.later;
    cut = at.cut;
    state = at.state;
    replies = at.replies;
    notes = at.notes;
    exchanged = at.exchanged;
    got = got_at at.state failed fault at.later at.replies at.notes at.got;
    in_time = at.in_time;
  }
