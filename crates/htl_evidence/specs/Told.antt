-- Each way of keeping a trace, and which answers it tells.
use Rattle.std.specs.Prelude.{◌≡◌, ◌↔◌, ◌==◌, ◌&&◌, ⊤, ℕ, Bool, false, filter, map, sum_by, List, Option, None, Some}
use Rattle.htl_event.specs.Events.{Event}
use Rattle.htl_event.specs.Handles.{HaveOwnSequences}
use Rattle.htl_event.specs.Moments.{counted_events}
use Rattle.htl_event.specs.Slots.{base_of}
use Rattle.htl_event.specs.declared.interest.Interest.{Interest}
use Rattle.htl_event.specs.declared.interest.Interest.TheVariants as interests
use Rattle.htl_segment.specs.Traces.{Trace, HasKey, all_events}
use Rattle.htl_analyst.specs.Keys.{HasTaken}
use Rattle.htl_analyst.specs.Right.{IsRight}
use Rattle.htl_analyst.specs.States.{State}
use Rattle.htl_analyst.specs.TakenEvents.{contents_of, events_kept, taken_events}
use Rattle.htl_case.specs.Cases.{IsCase}
use Rattle.htl_case.specs.Picked.{Picked, IsPickedUntil}
use Rattle.htl_taken.specs.Numbers.{front_at}
use Rattle.htl_question.specs.Questions.{Serves, is_of_counts, widest}
use Rattle.htl_question.specs.declared.question.Question.{Question}
use Rattle.htl_question.specs.declared.question.Question.TheVariants as questions
use Rattle.htl_evidence.specs.Kept.{Kept}
use Rattle.htl_evidence.specs.declared.owner.Owner.{Owner}
use Rattle.htl_evidence.specs.declared.owner.Owner.TheVariants.{Process, Object, Handle}

-- the number of the process, the address of the object, or the base of the handle
abbrev pub number_of : Owner → ℕ
number_of (Process process) = process
number_of (Object object) = object
number_of (Handle process base) = base

-- the event is of the process, the object or the handle
abbrev pub is_own : Owner → Event → Bool
is_own (Process process) e = e.process == process
is_own (Object object) e = e.object == object
is_own (Handle process base) e = e.process == process && base_of e.handle == base

-- a case, whose events count up to a moment where one is given; and whose events are looked at, where they aren't all
pub record AsOf : Type 0 where
  pub trace : Trace
  pub until : Option ℕ
  pub owner : Option Owner

abbrev pub as_of : Trace → Option ℕ → Option Owner → AsOf
as_of trace until owner = record { trace = trace; until = until; owner = owner }

-- all events, or those of the process, object or handle
abbrev pub own_events : Option Owner → List Event → List Event
own_events None events = events
own_events (Some owner) events = filter (is_own owner) events

-- those of them that count
abbrev pub counted_own : AsOf → List Event
counted_own e = own_events e.owner (counted_events e.until (all_events e.trace.segments))

-- The events that are looked at are all, or all that can tell the answer: a trace lists those of its handle.
abbrev pub AreEnough : Option Owner → Question → Type 0
AreEnough None question = ⊤
AreEnough (Some (Process process)) question = interests.Process process ≡ widest question
AreEnough (Some (Object object)) question = interests.Object object ≡ widest question
AreEnough (Some (Handle process base)) question = (handle : ℕ) × (question ≡ questions.Trace process handle) × (base_of handle ≡ base)

-- It is of this case and this moment, and of enough events for the question.
pub record IsOfCase (e : AsOf) (question : Question) (T : Trace) (until : Option ℕ) : Type 0 where
  pub trace : T ≡ e.trace
  pub moment : until ≡ e.until
  pub enough : AreEnough e.owner question

-- what was picked of a case, up to a moment where one is given
pub record PicksUntil : Type 0 where
  pub picked : Picked
  pub until : Option ℕ

abbrev pub picks_until : Picked → Option ℕ → PicksUntil
picks_until picked until = record { picked = picked; until = until }

-- Of the case, up to this moment, the events of an interest that serves the question were picked.
pub record ArePicksFor (picks : PicksUntil) (question : Question) (T : Trace) (until : Option ℕ) : Type 0 where
  pub is_case : IsCase T
  pub moment : until ≡ picks.until
  pub interest : Interest
  pub serves : Serves question interest
  pub are : IsPickedUntil interest T until picks.picked

-- what an analyst keeps of each processor
abbrev pub folds : State → Kept
folds a = record { parts = map contents_of a.parts; number = sum_by events_kept a.parts }

-- The analyst took exactly the segments of the trace, and holds none that it could fold.
pub record HasFolded (a : State) (T : Trace) : Type 0 where
  pub right : IsRight a T
  pub keys : (p n : ℕ) → HasTaken a p n ↔ HasKey T p n
  pub events : taken_events T a ≡ all_events T.segments
  pub far : (p : ℕ) → HasTaken a p (front_at a.taken p) → ⊥

-- The analyst folded the trace, all events of which count. If the answer depends on which event is the latest, no two have one sequence.
pub record AreFoldsOf (a : State) (question : Question) (T : Trace) (until : Option ℕ) : Type 0 where
  pub folded : HasFolded a T
  pub moment : until ≡ None
  pub ordered : is_of_counts question ≡ false → HaveOwnSequences (all_events T.segments)
