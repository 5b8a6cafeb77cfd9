-- When what is kept of a trace tells the answer to a question.
use Rattle.std.specs.Prelude.{◌≡◌, ℕ, Bool, true, false, List, [], ◌∷◌, length, Option}
use Rattle.htl_event.specs.Events.{Event}
use Rattle.htl_event.specs.Handles.{HaveOwnSequences}
use Rattle.htl_event.specs.Moments.{counted_events}
use Rattle.htl_event.specs.declared.growth.Span.{Span}
use Rattle.htl_segment.specs.Traces.{Trace, all_events}
use Rattle.htl_tree.specs.Trees.{Tree}
use Rattle.htl_answers.specs.Parts.{Contents, AreEventsOf}
use Rattle.htl_question.specs.Answers.{Suffice}
use Rattle.htl_question.specs.Bases.{Extent, basis}
use Rattle.htl_question.specs.Questions.{is_of_counts}
use Rattle.htl_question.specs.declared.question.Question.{Question}

-- a part of this tree, these tables and these events
abbrev pub contents_of : Tree → List Event → List (ℕ × ℕ) → List (ℕ × ℕ) → List Event → Contents
contents_of tree latest marks exits held =
    record { tree = tree; latest = latest; marks = marks; exits = exits; held = held }

-- events of which nothing was folded
abbrev pub unfolded : List Event → Contents
unfolded events = record { tree = []; latest = []; marks = []; exits = []; held = events }

-- events in parts, and their number
pub record Kept : Type 0 where
  pub parts : List Contents
  pub number : ℕ

-- events one by one
abbrev pub one_by_one : List Event → Kept
one_by_one events = record { parts = unfolded events ∷ []; number = length events }

-- These are the events that are kept. They are enough to answer the question over those of the trace that count. If the answer depends on
-- which event is the latest, no two of them have one sequence. Where all events are kept one by one, they are one part.
pub record TellsBy (keeps_events : Bool) (kept : Kept) (question : Question) (T : Trace) (until : Option ℕ) (own : List Event)
    : Type 0 where
  pub are : AreEventsOf kept.parts own
  pub number : kept.number ≡ length own
  pub ordered : is_of_counts question ≡ false → HaveOwnSequences own
  pub one_part : keeps_events ≡ true → kept.parts ≡ unfolded own ∷ []
  pub enough : (span : Option Span) (extent : Extent)
      → Suffice own question (basis (counted_events until (all_events T.segments)) span extent)

abbrev pub Tells : Bool → Kept → Question → Trace → Option ℕ → Type 0
Tells keeps_events kept question T until = (own : List Event) × TellsBy keeps_events kept question T until own
