-- The answers to an analyst's questions, by the definitions: over the segments of a trace whose keys are in a set.
use Rattle.std.specs.Prelude.{◌≡◌, ℕ, Bool, true, List, length, Contains, count_by}
use Rattle.htl_event.specs.Events.{Event}
use Rattle.htl_event.specs.Slots.{base_of}
use Rattle.htl_event.specs.Handles.{LatestIs, IsMark, IsOutstanding, IsDiff}
use Rattle.htl_event.specs.Tallies.{tally, under, IsTags, IsBad, IsLeaks, IsStacks}
use Rattle.htl_event.specs.Summaries.{IsProcesses, IsNumberOfObjects, IsUnbalanced}
use Rattle.htl_taken.specs.Gaps.{IsGaps}
use Rattle.htl_segment.specs.Traces.{Trace, IsTrace, key_is_in, events_of}
use Rattle.htl_case.specs.declared.question.AnalystQuestion.{AnalystQuestion}
use Rattle.htl_case.specs.declared.question.AnalystQuestion.TheVariants as questions
use Rattle.htl_case.specs.declared.question.AnalystAnswer.{AnalystAnswer}
use Rattle.htl_case.specs.declared.question.AnalystAnswer.TheVariants as answers

-- The definition's value over a list of events. What answers another question is no answer.
abbrev pub IsAnswerOver : List Event → AnalystQuestion → AnalystAnswer → Type 0
IsAnswerOver events questions.Events (answers.Events number) = number ≡ length events
IsAnswerOver events (questions.Latest process handle) (answers.Latest event) = LatestIs (Contains events) process (base_of handle) event
IsAnswerOver events (questions.Mark process) (answers.Mark sequence) = IsMark (Contains events) process sequence
IsAnswerOver events (questions.Outstanding process) (answers.Outstanding rows) = IsOutstanding (Contains events) process rows.items
IsAnswerOver events (questions.Diff process since) (answers.Diff rows) = IsDiff (Contains events) process since rows.items
IsAnswerOver events (questions.Leaks process) (answers.Leaks rows) = IsLeaks (Contains events) process rows.items
IsAnswerOver events (questions.Bad process) (answers.Bad rows) = IsBad events process rows.items
IsAnswerOver events (questions.Tags object) (answers.Tags rows) = IsTags events object rows.items
IsAnswerOver events (questions.Stacks object tag) (answers.Stacks rows) = IsStacks events object tag rows.items
IsAnswerOver events (questions.Tally slot stack) (answers.Tally count) = count ≡ tally events slot stack
IsAnswerOver events (questions.Under path slot) (answers.Under count) = count ≡ under events path.items slot
IsAnswerOver events questions.Processes (answers.Processes rows) = IsProcesses events rows.items
IsAnswerOver events questions.Objects (answers.Objects number unbalanced) =
    IsNumberOfObjects events number × IsUnbalanced events unbalanced.items
IsAnswerOver events question answer = ⊥

-- The definition's value over the segments of the trace whose keys are in the set: over their events, or the keys themselves.
abbrev pub IsAnswer : Trace → (ℕ → ℕ → Bool) → AnalystQuestion → AnalystAnswer → Type 0
IsAnswer T S (questions.Has processor number) (answers.Has is) = is ≡ S processor number
IsAnswer T S questions.Taken (answers.Taken number) = number ≡ count_by (key_is_in S) T.segments
IsAnswer T S questions.Gaps (answers.Gaps gaps) = IsGaps (λ p n. S p n ≡ true) T.processors gaps.items
IsAnswer T S question answer = IsAnswerOver (events_of S T.segments) question answer

-- The answers say the same: numbers and counts are equal, and so are the rows of lists.
abbrev pub IsSameAnswer : AnalystAnswer → AnalystAnswer → Type 0
IsSameAnswer (answers.Has a) (answers.Has b) = a ≡ b
IsSameAnswer (answers.Taken a) (answers.Taken b) = a ≡ b
IsSameAnswer (answers.Events a) (answers.Events b) = a ≡ b
IsSameAnswer (answers.Gaps a) (answers.Gaps b) = a.items ≡ b.items
IsSameAnswer (answers.Latest a) (answers.Latest b) = a ≡ b
IsSameAnswer (answers.Mark a) (answers.Mark b) = a ≡ b
IsSameAnswer (answers.Outstanding a) (answers.Outstanding b) = a.items ≡ b.items
IsSameAnswer (answers.Diff a) (answers.Diff b) = a.items ≡ b.items
IsSameAnswer (answers.Leaks a) (answers.Leaks b) = a.items ≡ b.items
IsSameAnswer (answers.Bad a) (answers.Bad b) = a.items ≡ b.items
IsSameAnswer (answers.Tags a) (answers.Tags b) = a.items ≡ b.items
IsSameAnswer (answers.Stacks a) (answers.Stacks b) = a.items ≡ b.items
IsSameAnswer (answers.Tally a) (answers.Tally b) = a ≡ b
IsSameAnswer (answers.Under a) (answers.Under b) = a ≡ b
IsSameAnswer (answers.Processes a) (answers.Processes b) = a.items ≡ b.items
IsSameAnswer (answers.Objects n a) (answers.Objects m b) = (n ≡ m) × (a.items ≡ b.items)
IsSameAnswer one other = ⊥

-- A question has one answer over the segments of a trace whose keys are in a set, however the set is given.
abbrev pub AnswersAreDetermined : Type 0
AnswersAreDetermined = (T : Trace) → IsTrace T → (S R : ℕ → ℕ → Bool) → ((p n : ℕ) → S p n ≡ R p n)
    → (question : AnalystQuestion) (one other : AnalystAnswer) → IsAnswer T S question one → IsAnswer T R question other
    → IsSameAnswer one other
