-- The notes that a person reads beside an answer (this project's own).
use Rattle.std.specs.Fmt.{decimal}
use Rattle.std.specs.Prelude.{◌==◌, ◌&&◌, ◌++◌, [], ℕ, Bool, List, Option, None, Some, codes, if◌then◌else◌, not}
use Rattle.htl_inputs.specs.declared.cuts.CutInputs.{CutInputs}
use Rattle.htl_main.specs.declared.coverage.Coverage.{Coverage}
use Rattle.htl_program.specs.AskedAbout.{subject_text}
use Rattle.htl_program.specs.declared.saying.lack.Lack.{Lack}
use Rattle.htl_program.specs.declared.saying.lack.Lack.TheVariants as lacks
use Rattle.hleak.specs.Shown.{shown_name}
use Rattle.hleak.specs.Subjects.{input_name}
use Rattle.hleak.specs.declared.explaining.task.Task.{Task}
use Rattle.hleak.specs.declared.note.InputsNote.{InputsNote}
use Rattle.hleak.specs.declared.note.InputsNote.TheVariants.{Gaps, Unnamed}

-- one gap, or several
abbrev pub gap_word : ℕ → List ℕ
gap_word gaps = if gaps == 1 then codes "gap" else codes "gaps"

-- how many inputs are cut beside the first
abbrev pub others_text : ℕ → List ℕ
others_text others = if others == 0 then [] else codes ", and " ++ (decimal others ++ codes " more")

-- as of which moment questions can be asked, unless events are forgotten
abbrev pub moment_advice : Bool → List ℕ
moment_advice forgets = if forgets then [] else codes "; ask with --until complete"

-- that segments are missing, or that the symbols have none of the addresses
abbrev pub note_text : InputsNote → List ℕ
note_text (Gaps coverage forgets) =
    codes "hleak: note: " ++ (decimal coverage.gaps ++ (codes " " ++ (gap_word coverage.gaps
    ++ (codes ": segments are missing (summary lists them)" ++ (moment_advice forgets
    ++ (codes ": answers are complete to " ++ decimal coverage.complete_to))))))
note_text Unnamed = codes "hleak: note: the symbol table has none of the addresses: is it of this build?"

-- that segments are missing, where there is a gap and there was none before
abbrev pub gaps_noted : ℕ → Coverage → Bool → Option InputsNote
gaps_noted before coverage forgets = if before == 0 && not (coverage.gaps == 0) then Some (Gaps coverage forgets) else None

-- that inputs end within a segment
abbrev pub cut_text : Task → CutInputs → List ℕ
cut_text task inputs =
    codes "hleak: note: " ++ (shown_name (input_name task inputs.first) ++ (codes " ends within a segment" ++ others_text inputs.others))

-- that a moment may be the cause, where one was given
abbrev pub or_moment : Bool → List ℕ
or_moment has_moment = if has_moment then codes ", or none up to --until" else []

-- what a question lacks
abbrev pub lack_text : Lack → List ℕ
lack_text (lacks.Event subject has_moment) =
    codes "hleak: note: " ++ (subject_text subject ++ (codes " has no event in these segments" ++ or_moment has_moment))
lack_text (lacks.Later since) = codes "hleak: note: no event that counts is above --since " ++ decimal since
lack_text (lacks.Snapshot subject has_moment) =
    codes "hleak: note: " ++ (subject_text subject ++ (codes " has no snapshot" ++ (or_moment has_moment
    ++ codes ", so all its open handles count")))
