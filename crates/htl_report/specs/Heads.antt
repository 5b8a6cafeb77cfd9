-- The first line of an answer up to its numbers, as bytes: the question's word, what it is about, and since when handles count.
use Rattle.std.specs.Prelude.{◌++◌, [], ℕ, List, Option, Some, None, codes, if◌then◌else◌}
use Rattle.std.specs.Fmt.{decimal}
use Rattle.htl_event.specs.Slots.{base_of}
use Rattle.htl_numbers.specs.Written.{hex}
use Rattle.htl_question.specs.Questions.{is_since_snapshots, subject_of, word_of}
use Rattle.htl_question.specs.declared.question.Question.{Question}
use Rattle.htl_question.specs.declared.subject.Subject.{Subject}
use Rattle.htl_question.specs.declared.subject.Subject.TheVariants.{Process, Object, Tag, TagOfAll, Handle}
use Rattle.htl_report.specs.Parts.{object_part, shown_tag}

unfoldable pub process_part : ℕ → List ℕ
process_part process = codes " process=" ++ decimal process

abbrev pub tag_part : List ℕ → List ℕ
tag_part tag = codes " tag=" ++ shown_tag tag

-- the base handle
unfoldable pub handle_part : ℕ → List ℕ
handle_part handle = codes " handle=0x" ++ hex (base_of handle)

abbrev pub subject_part : Option Subject → List ℕ
subject_part None = []
subject_part (Some (Process process)) = process_part process
subject_part (Some (Object object)) = object_part object
subject_part (Some (Tag object tag)) = object_part object ++ tag_part tag
subject_part (Some (TagOfAll tag)) = tag_part tag
subject_part (Some (Handle process handle)) = process_part process ++ handle_part handle

-- the sequence after which handles count, where it was asked since when
unfoldable pub sequence_part : Option ℕ → List ℕ
sequence_part None = []
sequence_part (Some since) = codes " since=" ++ decimal since

-- or that handles count since the snapshot of their own process
abbrev pub since_part : Question → Option ℕ → List ℕ
since_part question since = if is_since_snapshots question then codes " since=snapshot" else sequence_part since

abbrev pub head_part : Question → Option ℕ → List ℕ
head_part question since = word_of question ++ (subject_part (subject_of question) ++ since_part question since)
