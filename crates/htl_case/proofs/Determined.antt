-- A question has one answer over a set of keys of a trace.
use Rattle.std.proofs.Common.{◌≡◌, ℕ, Bool, true, List, Option, None, Vec, Global, refl, sym, subst, ◌∙◌}
use Rattle.std.specs.Prelude.{Contains, count_by, length}
use Rattle.std.proofs.Math.Path.{fun_ext}
use Rattle.std.proofs.lemmas.List.Sorted.{IsPermutation-refl}
use Rattle.htl_event.specs.Events.{Event}
use Rattle.htl_event.specs.declared.slot.Slot.{Slot}
use Rattle.htl_event.specs.declared.slot.Count.{Count}
use Rattle.htl_event.specs.declared.summary.ProcessRow.{ProcessRow}
use Rattle.htl_event.specs.declared.summary.ObjectRow.{ObjectRow}
use Rattle.htl_event.specs.Slots.{base_of}
use Rattle.htl_event.specs.Handles.{HaveOwnSequences, LatestIs, IsMark, IsOutstanding, IsDiff}
use Rattle.htl_event.specs.Tallies.{tally, under, IsTags, IsBad, IsLeaks, IsStacks}
use Rattle.htl_event.specs.Summaries.{IsProcesses, IsNumberOfObjects, IsUnbalanced, SummariesAreDetermined}
use Rattle.htl_event.specs.Laws.{HandlesAreDetermined, CountsAreDetermined}
use Rattle.htl_event.proofs.Determined.{handles_are_determined}
use Rattle.htl_event.proofs.Counts.{counts_are_determined}
use Rattle.htl_event.proofs.Summarized.{summaries_are_determined}
use Rattle.htl_segment.specs.Traces.{Trace, IsTrace, key_is_in, events_of}
use Rattle.htl_segment.proofs.Traces.{sequences_stay_apart}
use Rattle.htl_taken.specs.declared.gap.Gap.{Gap}
use Rattle.htl_taken.specs.Gaps.{IsGaps}
use Rattle.htl_taken.proofs.Gaps.{gaps_are_determined}
use Rattle.htl_case.specs.declared.question.AnalystQuestion.{AnalystQuestion}
use Rattle.htl_case.specs.declared.question.AnalystQuestion.TheVariants as questions
use Rattle.htl_case.specs.declared.question.AnalystAnswer.{AnalystAnswer}
use Rattle.htl_case.specs.declared.question.AnalystAnswer.TheVariants as answers
use Rattle.htl_case.specs.Answers.{AnswersAreDetermined, IsAnswer, IsSameAnswer}
use Rattle.htl_case.specs.Questions.{IsStated}

-- of a trace the answer to each question is stated
pub stated : (q : AnalystQuestion) (T : Trace) → IsTrace T → IsStated q T
stated (questions.Outstanding process) T trace = trace
stated (questions.Diff process since) T trace = trace
stated (questions.Leaks process) T trace = trace
stated questions.Processes T trace = trace
stated other T trace = tt

module _ (T : Trace) (trace : IsTrace T) (S : ℕ → ℕ → Bool) where
  abbrev events : List Event
  events = events_of S T.segments

  own : HaveOwnSequences events
  own = sequences_stay_apart T trace S

  handles : HandlesAreDetermined events events
  handles = handles_are_determined events events (λ e. ((λ h. h), (λ h. h)))

  counts : CountsAreDetermined events events
  counts = counts_are_determined events events (IsPermutation-refl events)

  summaries : SummariesAreDetermined events events
  summaries = summaries_are_determined events events (IsPermutation-refl events)

  -- ---- another answer to each question

  same_has : (processor number : ℕ) (a : Bool) → a ≡ S processor number
      → (y : AnalystAnswer) → IsAnswer T S (questions.Has processor number) y → IsSameAnswer (answers.Has a) y
  same_has processor number a is (answers.Has b) other = is ∙ sym other
  same_has processor number a is y other = absurd other

  same_taken : (a : ℕ) → a ≡ count_by (key_is_in S) T.segments
      → (y : AnalystAnswer) → IsAnswer T S questions.Taken y → IsSameAnswer (answers.Taken a) y
  same_taken a is (answers.Taken b) other = is ∙ sym other
  same_taken a is y other = absurd other

  same_events : (a : ℕ) → a ≡ length events
      → (y : AnalystAnswer) → IsAnswer T S questions.Events y → IsSameAnswer (answers.Events a) y
  same_events a is (answers.Events b) other = is ∙ sym other
  same_events a is y other = absurd other

  same_gaps : (a : Vec Gap Global) → IsGaps (λ p n. S p n ≡ true) T.processors a.items
      → (y : AnalystAnswer) → IsAnswer T S questions.Gaps y → IsSameAnswer (answers.Gaps a) y
  same_gaps a is (answers.Gaps b) other = gaps_are_determined S S T.processors a.items b.items (λ p n lt. refl) is other
  same_gaps a is y other = absurd other

  same_latest : (process handle : ℕ) (a : Option Event) → LatestIs (Contains events) process (base_of handle) a
      → (y : AnalystAnswer) → IsAnswer T S (questions.Latest process handle) y → IsSameAnswer (answers.Latest a) y
  same_latest process handle a is (answers.Latest b) other = handles.latest process (base_of handle) a b own is other
  same_latest process handle a is y other = absurd other

  same_mark : (process : ℕ) (a : ℕ) → IsMark (Contains events) process a
      → (y : AnalystAnswer) → IsAnswer T S (questions.Mark process) y → IsSameAnswer (answers.Mark a) y
  same_mark process a is (answers.Mark b) other = handles.mark process a b is other
  same_mark process a is y other = absurd other

  same_outstanding : (process : ℕ) (a : Vec Event Global) → IsOutstanding (Contains events) process a.items
      → (y : AnalystAnswer) → IsAnswer T S (questions.Outstanding process) y → IsSameAnswer (answers.Outstanding a) y
  same_outstanding process a is (answers.Outstanding b) other = handles.outstanding process a.items b.items is other
  same_outstanding process a is y other = absurd other

  same_diff : (process since : ℕ) (a : Vec Event Global) → IsDiff (Contains events) process since a.items
      → (y : AnalystAnswer) → IsAnswer T S (questions.Diff process since) y → IsSameAnswer (answers.Diff a) y
  same_diff process since a is (answers.Diff b) other = handles.diff process since a.items b.items is other
  same_diff process since a is y other = absurd other

  same_leaks : (process : ℕ) (a : Vec (List ℕ × ℕ) Global) → IsLeaks (Contains events) process a.items
      → (y : AnalystAnswer) → IsAnswer T S (questions.Leaks process) y → IsSameAnswer (answers.Leaks a) y
  same_leaks process a is (answers.Leaks b) other = handles.leaks process None 1 a.items b.items is other
  same_leaks process a is y other = absurd other

  same_bad : (process : ℕ) (a : Vec (ℕ × List ℕ × ℕ) Global) → IsBad events process a.items
      → (y : AnalystAnswer) → IsAnswer T S (questions.Bad process) y → IsSameAnswer (answers.Bad a) y
  same_bad process a is (answers.Bad b) other = counts.bad process a.items b.items is other
  same_bad process a is y other = absurd other

  same_tags : (object : ℕ) (a : Vec (List ℕ × Count) Global) → IsTags events object a.items
      → (y : AnalystAnswer) → IsAnswer T S (questions.Tags object) y → IsSameAnswer (answers.Tags a) y
  same_tags object a is (answers.Tags b) other = counts.tags object a.items b.items is other
  same_tags object a is y other = absurd other

  same_stacks : (object : ℕ) (tag : List ℕ) (a : Vec (List ℕ × Count) Global) → IsStacks events object tag a.items
      → (y : AnalystAnswer) → IsAnswer T S (questions.Stacks object tag) y → IsSameAnswer (answers.Stacks a) y
  same_stacks object tag a is (answers.Stacks b) other = counts.stacks object tag a.items b.items is other
  same_stacks object tag a is y other = absurd other

  same_tally : (slot : Slot) (stack : List ℕ) (a : Count) → a ≡ tally events slot stack
      → (y : AnalystAnswer) → IsAnswer T S (questions.Tally slot stack) y → IsSameAnswer (answers.Tally a) y
  same_tally slot stack a is (answers.Tally b) other = is ∙ sym other
  same_tally slot stack a is y other = absurd other

  same_under : (path : Vec ℕ Global) (slot : Slot) (a : Count) → a ≡ under events path.items slot
      → (y : AnalystAnswer) → IsAnswer T S (questions.Under path slot) y → IsSameAnswer (answers.Under a) y
  same_under path slot a is (answers.Under b) other = is ∙ sym other
  same_under path slot a is y other = absurd other

  same_processes : (a : Vec ProcessRow Global) → IsProcesses events a.items
      → (y : AnalystAnswer) → IsAnswer T S questions.Processes y → IsSameAnswer (answers.Processes a) y
  same_processes a is (answers.Processes b) other = summaries.processes a.items b.items is other
  same_processes a is y other = absurd other

  same_objects : (n : ℕ) (a : Vec ObjectRow Global) → IsNumberOfObjects events n × IsUnbalanced events a.items
      → (y : AnalystAnswer) → IsAnswer T S questions.Objects y → IsSameAnswer (answers.Objects n a) y
  same_objects n a is (answers.Objects m b) other =
      (summaries.objects n m is.0 other.0, summaries.unbalanced a.items b.items is.1 other.1)
  same_objects n a is y other = absurd other

  -- ---- two answers to any question

  -- two answers to one question over one set of keys say the same
  pub one_answer : (q : AnalystQuestion) (x y : AnalystAnswer) → IsAnswer T S q x → IsAnswer T S q y → IsSameAnswer x y
  one_answer (questions.Has processor number) (answers.Has a) y is other = same_has processor number a is y other
  one_answer questions.Taken (answers.Taken a) y is other = same_taken a is y other
  one_answer questions.Events (answers.Events a) y is other = same_events a is y other
  one_answer questions.Gaps (answers.Gaps a) y is other = same_gaps a is y other
  one_answer (questions.Latest process handle) (answers.Latest a) y is other = same_latest process handle a is y other
  one_answer (questions.Mark process) (answers.Mark a) y is other = same_mark process a is y other
  one_answer (questions.Outstanding process) (answers.Outstanding a) y is other = same_outstanding process a is y other
  one_answer (questions.Diff process since) (answers.Diff a) y is other = same_diff process since a is y other
  one_answer (questions.Leaks process) (answers.Leaks a) y is other = same_leaks process a is y other
  one_answer (questions.Bad process) (answers.Bad a) y is other = same_bad process a is y other
  one_answer (questions.Tags object) (answers.Tags a) y is other = same_tags object a is y other
  one_answer (questions.Stacks object tag) (answers.Stacks a) y is other = same_stacks object tag a is y other
  one_answer (questions.Tally slot stack) (answers.Tally a) y is other = same_tally slot stack a is y other
  one_answer (questions.Under path slot) (answers.Under a) y is other = same_under path slot a is y other
  one_answer questions.Processes (answers.Processes a) y is other = same_processes a is y other
  one_answer questions.Objects (answers.Objects n a) y is other = same_objects n a is y other
  one_answer q x y is other = absurd is

-- a question has one answer over the segments whose keys are in a set, however the set is given
pub answers_are_determined : AnswersAreDetermined
answers_are_determined T trace S R same q x y is other =
    let one : R ≡ S = fun_ext λ p. fun_ext λ n. sym (same p n) in
    one_answer T trace S q x y is (subst (λ (keys : ℕ → ℕ → Bool). IsAnswer T keys q y) one other)
