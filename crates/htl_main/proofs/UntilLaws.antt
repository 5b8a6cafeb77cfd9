-- The events of a trace up to a moment are found in the segments, and in lists of them.
use Rattle.std.proofs.Common.{◌≡◌, ℕ, Bool, List, [], ◌∷◌, Option, Some, None, refl, ap, ◌∙◌, ◌||◌, Vec, Global}
use Rattle.std.specs.List.{list_any}
use Rattle.std.proofs.lemmas.List.Folds.{list_any-append}
use Rattle.htl_event.specs.Events.{Event}
use Rattle.htl_event.specs.Moments.{counted_events}
use Rattle.htl_segment.specs.Content.{Content}
use Rattle.htl_segment.specs.Picks.{events_in}
use Rattle.htl_segment.specs.Traces.{all_events}
use Rattle.htl_case.proofs.Counted.{counted-append}
use Rattle.htl_question.specs.Questions.{is_of_all_handles, subject_of}
use Rattle.htl_question.specs.Subjects.{is_about}
use Rattle.htl_question.specs.declared.question.Question.{Question}
use Rattle.htl_main.specs.Subjects.{has_subject}

counted-none : (until : Option ℕ) → counted_events until [] ≡ []
counted-none None = refl
counted-none (Some moment) = refl

-- an event until the moment is one of one of the segments
pub any_until : (p : Event → Bool) (until : Option ℕ) (ss : List Content)
    → list_any (λ (s : Content). list_any p (counted_events until s.events)) ss ≡ list_any p (counted_events until (all_events ss))
any_until p until [] = rw (counted-none until) refl
any_until p until (s ∷ ss) =
    rw (
      counted-append until s.events (all_events ss),
      list_any-append p (counted_events until s.events) (counted_events until (all_events ss)),
      any_until p until ss,
    ) refl

-- an event of lists is an event of one of them
any_in_lists : (p : Event → Bool) (lists : List (Vec Event Global))
    → list_any (λ (l : Vec Event Global). list_any p l.items) lists ≡ list_any p (events_in lists)
any_in_lists p [] = refl
any_in_lists p (l ∷ lists) = rw (list_any-append p l.items (events_in lists), any_in_lists p lists) refl

-- a test passes an event of some list exactly where it passes one of all events
pub found_in_lists : (p : Event → Bool) (lists : List (Vec Event Global)) (events : List Event) (found : Bool)
    → found ≡ list_any (λ (l : Vec Event Global). list_any p l.items) lists → events_in lists ≡ events → found ≡ list_any p events
found_in_lists p lists events found is same = is ∙ any_in_lists p lists ∙ ap (list_any p) same

-- what a question asks about is among some lists exactly where it is among all events
pub subject_in_lists : (question : Question) (lists : List (Vec Event Global)) (events : List Event) (found : Bool)
    → found ≡ (is_of_all_handles question || list_any (λ (l : Vec Event Global). list_any (is_about (subject_of question)) l.items) lists)
    → events_in lists ≡ events → found ≡ has_subject question events
subject_in_lists question lists events found is same =
    is ∙ ap (λ (b : Bool). is_of_all_handles question || b) (found_in_lists (is_about (subject_of question)) lists events _ refl same)
