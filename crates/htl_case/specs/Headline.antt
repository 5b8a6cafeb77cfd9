-- The headline. Take a trace, and any number of analysts that begin with nothing. They take its segments, merge one another or
-- themselves, and compact, as often and in whatever order they like. S is the set of segments that reached one of them.
use Rattle.std.specs.Prelude.{◌≡◌, ℕ, ◌<◌, ◌≤◌, Bool, true, ◌||◌, List, length, fold}
use Rattle.std.specs.List.{AllByRecursion}
use Rattle.htl_segment.specs.Traces.{Trace, IsTrace, HasKey}
use Rattle.htl_analyst.specs.States.{State}
use Rattle.htl_analyst.specs.Keys.{keys}
use Rattle.htl_analyst.specs.Right.{IsRight, IsBelow}
use Rattle.htl_analyst.specs.Steps.{IsMerge}
use Rattle.htl_analyst.specs.Same.{IsSame}
use Rattle.htl_case.specs.declared.question.AnalystQuestion.{AnalystQuestion}
use Rattle.htl_case.specs.declared.question.AnalystAnswer.{AnalystAnswer}
use Rattle.htl_case.specs.Answers.{IsAnswer, IsSameAnswer}
use Rattle.htl_case.specs.Questions.{AnalystAnswers}
use Rattle.htl_case.specs.Histories.{History, begun, took, Leaves, IsReachedBy, IsCompacted}

pub record Headline : Type 0 where
  -- 1. It has taken S: nothing is lost, nothing counted twice.
  pub taken : (T : Trace) (S : ℕ → ℕ → Bool) (a : State) → IsReachedBy T S a → (p n : ℕ) → keys a p n ≡ S p n
  -- 2. Each answer is the definition's over the events of S.
  pub answers : (T : Trace) (S : ℕ → ℕ → Bool) (a : State) → IsReachedBy T S a
      → (question : AnalystQuestion) (answer : AnalystAnswer) → AnalystAnswers a question answer → IsAnswer T S question answer
  -- 3. So analysts with one S answer alike, however the segments came.
  pub alike : (T : Trace) (S : ℕ → ℕ → Bool) (a b : State) → IsReachedBy T S a → IsReachedBy T S b
      → (question : AnalystQuestion) (one other : AnalystAnswer) → AnalystAnswers a question one → AnalystAnswers b question other
      → IsSameAnswer one other
  -- 4. Once compacted they are equal.
  pub equal : (T : Trace) (S : ℕ → ℕ → Bool) (a b : State) (ra : IsReachedBy T S a) (rb : IsReachedBy T S b)
      → IsCompacted ra.history → IsCompacted rb.history → IsSame a b
  -- 5. A merge of S and R has S and R together; its order, grouping and repetition don't matter.
  pub united : (T : Trace) (S R : ℕ → ℕ → Bool) (a b c : State) → IsReachedBy T S a → IsReachedBy T R b → IsMerge a b c
      → (p n : ℕ) → keys c p n ≡ (S p n || R p n)
  pub order : (T : Trace) (S R : ℕ → ℕ → Bool) (a b ab ba : State) → IsReachedBy T S a → IsReachedBy T R b
      → IsMerge a b ab → IsMerge b a ba → IsSame ab ba
  pub grouping : (T : Trace) (S R Q : ℕ → ℕ → Bool) (a b c ab bc left right : State) → IsReachedBy T S a → IsReachedBy T R b
      → IsReachedBy T Q c → IsMerge a b ab → IsMerge b c bc → IsMerge ab c left → IsMerge a bc right → IsSame left right
  pub repetition : (T : Trace) (S : ℕ → ℕ → Bool) (a c : State) → IsReachedBy T S a → IsMerge a a c → IsSame c a
  -- A merge is above both, and below every state that is above both: of all that is right about the trace.
  pub above : (T : Trace) (S R : ℕ → ℕ → Bool) (a b c : State) → IsReachedBy T S a → IsReachedBy T R b → IsMerge a b c
      → IsBelow T a c × IsBelow T b c
  pub least : (T : Trace) (S R : ℕ → ℕ → Bool) (a b c d : State) → IsReachedBy T S a → IsReachedBy T R b → IsMerge a b c
      → IsBelow T a d → IsBelow T b d → IsBelow T c d
  -- 6. Compacted analysts each of which is below the other are equal.
  pub below_both_ways : (T : Trace) (S R : ℕ → ℕ → Bool) (a b : State) (ra : IsReachedBy T S a) (rb : IsReachedBy T R b)
      → IsCompacted ra.history → IsCompacted rb.history → IsBelow T a b → IsBelow T b a → IsSame a b

-- ---- that there are such analysts

-- the history of an analyst that takes the segments at these places, one after another
abbrev pub takes : List ℕ → History
takes places = fold took begun places

-- Any segments can be taken, in any order and with repeats.
abbrev pub AnySegmentsCanBeTaken : Type 0
AnySegmentsCanBeTaken = (T : Trace) → IsTrace T → 0 < T.processors → T.processors ≤ 256
    → (places : List ℕ) → AllByRecursion (λ place. place < length T.segments) places → (a : State) × Leaves T (takes places) a

-- Any two analysts can be merged. (`Histories` of `htl_main` says so of a compaction, and of any history.)
abbrev pub AnyCanBeMerged : Type 0
AnyCanBeMerged = (T : Trace) (a b : State) → IsRight a T → IsRight b T → (c : State) × IsMerge a b c

-- ---- what follows where all is known

-- every segment of the trace is in the set
abbrev pub HasAll : Trace → (ℕ → ℕ → Bool) → Type 0
HasAll T S = (p n : ℕ) → HasKey T p n → S p n ≡ true

-- Analysts that every segment reached are the same once compacted, whatever their histories.
abbrev pub AreSameOnceWhole : Type 0
AreSameOnceWhole = (T : Trace) (S R : ℕ → ℕ → Bool) (a b : State) (ra : IsReachedBy T S a) (rb : IsReachedBy T R b)
    → HasAll T S → HasAll T R → IsCompacted ra.history → IsCompacted rb.history → IsSame a b
