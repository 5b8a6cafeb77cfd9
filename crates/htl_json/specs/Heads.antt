-- The value of an answer's first line, with the fields of the text's first line.
use Rattle.std.specs.Prelude.{◌++◌, ◌∷◌, [], ℕ, List, Option, Some, None, codes, if◌then◌else◌}
use Rattle.htl_event.specs.Slots.{base_of}
use Rattle.json.specs.Json.{Json, string}
use Rattle.htl_question.specs.Questions.{is_since_snapshots, subject_of, word_of}
use Rattle.htl_question.specs.declared.answer.Totals.{Totals}
use Rattle.htl_question.specs.declared.question.Question.{Question}
use Rattle.htl_question.specs.declared.subject.Subject.{Subject}
use Rattle.htl_question.specs.declared.subject.Subject.TheVariants.{Process, Object, Tag, TagOfAll, Handle}
use Rattle.htl_json.specs.Records.{Field, field_of, quantity, record_of, shown_address, shown_handle, tag_fields}

-- ---- what was asked

unfoldable pub word_field : Question → List Field
word_field question = (codes "answer", string (word_of question)) ∷ []

-- what it is about; a handle by its base
unfoldable pub subject_fields : Option Subject → List Field
subject_fields None = []
subject_fields (Some (Process process)) = (codes "process", quantity process) ∷ []
subject_fields (Some (Object object)) = (codes "object", shown_address object) ∷ []
subject_fields (Some (Tag object tag)) = (codes "object", shown_address object) ∷ tag_fields tag
subject_fields (Some (TagOfAll tag)) = tag_fields tag
subject_fields (Some (Handle process handle)) =
    (codes "process", quantity process) ∷ (codes "handle", shown_handle (base_of handle)) ∷ []

-- the sequence after which handles count, where it was asked since when, or that they count since the snapshot of their own process
unfoldable pub since_fields : Question → Option ℕ → List Field
since_fields question since =
    if is_since_snapshots question then (codes "since", string (codes "snapshot")) ∷ [] else field_of (codes "since") since

abbrev pub question_fields : Question → Option ℕ → List Field
question_fields question since = word_field question ++ (subject_fields (subject_of question) ++ since_fields question since)

-- ---- the numbers

-- of balances how many objects they are over, the moment up to which events count, where one was given, and how many rows the answer has
unfoldable pub numbers_fields : Option ℕ → Option ℕ → ℕ → List Field
numbers_fields objects until count =
    field_of (codes "objects") objects ++ (field_of (codes "until") until ++ (codes "count", quantity count) ∷ [])

abbrev pub head : Question → Option ℕ → Option ℕ → Option ℕ → ℕ → Json
head question since objects until count = record_of (question_fields question since ++ numbers_fields objects until count)

-- how much was traced, up to which moment nothing is missing, and how many gaps, processes, objects, and objects with an unbalanced tag
-- there are
unfoldable pub totals_fields : Totals → ℕ → ℕ → ℕ → List Field
totals_fields t gaps processes unbalanced =
    (codes "processors", quantity t.processors) ∷ (codes "segments", quantity t.segments) ∷ (codes "events", quantity t.events)
    ∷ (codes "complete_to", quantity t.complete_to) ∷ (codes "gaps", quantity gaps) ∷ (codes "processes", quantity processes)
    ∷ (codes "objects", quantity t.objects) ∷ (codes "unbalanced", quantity unbalanced) ∷ []

-- the first line of a summary
abbrev pub summary_head : Question → Option ℕ → Option ℕ → Totals → ℕ → ℕ → ℕ → Json
summary_head question since until t gaps processes unbalanced =
    record_of (question_fields question since ++ (totals_fields t gaps processes unbalanced ++ field_of (codes "until") until))
