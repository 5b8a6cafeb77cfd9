-- Whether anything can be found of what a question is about (this project's own): a number that was mistyped looks like one without a leak.
use Rattle.std.specs.Prelude.{◌≡◌, ℕ, Bool, true, false, ◌&&◌, ◌||◌, nat_lt, if◌then◌else◌, List, Option, Some, None}
use Rattle.std.specs.List.{list_any}
use Rattle.htl_event.specs.Events.{Event}
use Rattle.htl_event.specs.Moments.{counted_events}
use Rattle.htl_event.specs.declared.since.Since.{Since}
use Rattle.htl_event.specs.declared.since.Since.TheVariants.{Sequence}
use Rattle.htl_segment.specs.Content.{Content}
use Rattle.htl_segment.specs.Traces.{Trace, all_events}
use Rattle.htl_case.specs.Cases.{IsCaseOf}
use Rattle.htl_command.specs.declared.question.Job.{Job}
use Rattle.htl_question.specs.Questions.{asks_since, is_of_all_handles, subject_of}
use Rattle.htl_question.specs.Subjects.{is_about}
use Rattle.htl_question.specs.declared.question.Question.{Question}
use Rattle.htl_question.specs.declared.question.Question.TheVariants.{Growth}
use Rattle.htl_inputs.specs.Inputs.{DecodeAll}
use Rattle.htl_main.specs.Moments.{IsNamedMoment}
use Rattle.htl_main.specs.declared.completed.Absence.{Absence}
use Rattle.htl_main.specs.declared.completed.Absence.TheVariants.{Subject, Later}

-- the sequence after which the question asks, where it is given as a number
abbrev pub given_sequence : Option Since → Option ℕ
given_sequence (Some (Sequence since)) = Some since
given_sequence since = None

abbrev pub since_of : Question → Option ℕ
since_of question = given_sequence (asks_since question)

-- a sequence comes before the moment, as each does where none is given
abbrev pub is_before : Option ℕ → ℕ → Bool
is_before None n = true
is_before (Some moment) n = nat_lt n moment

-- The sequence is below the last that counts: an event comes after it, and so does the moment, where one is given.
abbrev pub is_below_last : Option ℕ → List Event → ℕ → Bool
is_below_last until events n = is_before until n && list_any (λ e. nat_lt n e.sequence) events

-- Nothing that counts comes after the sequence since which is asked.
abbrev pub later_absence : Option ℕ → Option ℕ → List Event → Option Absence
later_absence None until events = None
later_absence (Some since) until events = if is_below_last until events since then None else Some Later

-- What a question asks about is among the events: one is about it. The open handles of all processes are, if only none.
abbrev pub has_subject : Question → List Event → Bool
has_subject question events = is_of_all_handles question || list_any (is_about (subject_of question)) events

-- What there is not of what a question asks about, as of a moment: where that isn't among the events that count, itself, and else what
-- comes later than the sequence since which it asks.
abbrev pub absence_by : Bool → Question → Option ℕ → List Event → Option Absence
absence_by is_there question until events =
    if is_there then later_absence (since_of question) until events else Some Subject

abbrev pub absence_in : Question → Option ℕ → List Event → Option Absence
absence_in question until events = absence_by (has_subject question (counted_events until events)) question until events

-- the question asks how a number grows: its answer has a row for each moment, also where there is nothing
abbrev pub is_growth : Question → Bool
is_growth (Growth process count) = true
is_growth question = false

-- what there is not of what the job asks about in a trace
abbrev pub HasAbsence : Trace → Job → Option Absence → Type 0
HasAbsence T job absence =
    (until : Option ℕ) × IsNamedMoment T job.until until × (absence ≡ absence_in job.question until (all_events T.segments))

-- the same of the case of decoded segments
abbrev pub HasAbsenceIn : List Content → Job → Option Absence → Type 0
HasAbsenceIn segments job absence = (T : Trace) × IsCaseOf segments T × HasAbsence T job absence

-- the same of the case of all segments of the inputs
abbrev pub ReportsAbsence : List (List ℕ) → Job → Option Absence → Type 0
ReportsAbsence inputs job absence =
    (segments : List Content) × DecodeAll job.setting.form inputs segments × HasAbsenceIn segments job absence
