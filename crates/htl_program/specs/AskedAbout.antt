-- What a question is about, as a person reads it (this project's own).
use Rattle.std.specs.Prelude.{◌++◌, ℕ, List, Option, Some, None, codes, if◌then◌else◌, is_some, option_map}
use Rattle.std.specs.Fmt.{decimal}
use Rattle.htl_event.specs.Slots.{base_of}
use Rattle.htl_numbers.specs.Written.{hex, padded}
use Rattle.htl_report.specs.Parts.{shown_tag}
use Rattle.htl_command.specs.declared.question.Job.{Job}
use Rattle.htl_question.specs.Questions.{subject_of}
use Rattle.htl_question.specs.declared.subject.Subject.{Subject}
use Rattle.htl_question.specs.declared.subject.Subject.TheVariants.{Process, Object, Tag, TagOfAll, Handle}
use Rattle.htl_main.specs.Subjects.{since_of}
use Rattle.htl_main.specs.declared.completed.Absence.{Absence}
use Rattle.htl_main.specs.declared.completed.Absence.TheVariants as absences
use Rattle.htl_main.specs.declared.remarks.Remarks.{Remarks}
use Rattle.htl_program.specs.declared.saying.lack.Lack.{Lack}
use Rattle.htl_program.specs.declared.saying.lack.Lack.TheVariants as lacks

-- an object in all of its 16 digits, a tag in display order, and a handle without its low two bits
abbrev pub subject_text : Subject → List ℕ
subject_text (Process process) = codes "process " ++ decimal process
subject_text (Object object) = codes "object 0x" ++ padded 16 object
subject_text (Tag object tag) = codes "tag " ++ (shown_tag tag ++ (codes " of object 0x" ++ padded 16 object))
subject_text (TagOfAll tag) = codes "tag " ++ shown_tag tag
subject_text (Handle process handle) = codes "handle 0x" ++ (hex (base_of handle) ++ (codes " of process " ++ decimal process))

-- What a question lacks: an event of what it is about, where a moment may be the cause; an event after the sequence since which it asks; or
-- the snapshot since which it asks.
abbrev pub event_lack : Job → Option Lack
event_lack job = option_map (λ subject. lacks.Event subject (is_some job.until)) (subject_of job.question)

abbrev pub later_lack : Job → Option Lack
later_lack job = option_map (λ since. lacks.Later since) (since_of job.question)

abbrev pub snapshot_lack : Job → Option Lack
snapshot_lack job = option_map (λ subject. lacks.Snapshot subject (is_some job.until)) (subject_of job.question)

-- by why nothing can be found, and by what is told of the answer
abbrev pub lack_of : Job → Option Absence → Remarks → Option Lack
lack_of job (Some absences.Subject) remarks = event_lack job
lack_of job (Some absences.Later) remarks = later_lack job
lack_of job None remarks = if remarks.is_unmarked then snapshot_lack job else None
