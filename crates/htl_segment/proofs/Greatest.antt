-- The greatest sequence of lists of events put together is the greatest of theirs, as segments come one after the other.
use Rattle.std.proofs.Common.{◌≡◌, ℕ, ◌+◌, ◌<◌, ◌≤◌, max, List, [], ◌∷◌, ◌++◌, length, take, get_or, refl, sym, ap, ◌∙◌, subst}
use Rattle.std.proofs.Common.{inl, inr, append-nil, arith}
use Rattle.std.specs.Prelude.{Contains, ◌↔◌, ◌⊎◌}
use Rattle.std.proofs.lemmas.List.{take_more, take_all}
use Rattle.std.proofs.lemmas.List.Elements.{Contains-append_cases, Contains-append_left, Contains-append_right}
use Rattle.std.proofs.lemmas.Grind.{flat_map-append}
use Rattle.htl_event.specs.Events.{Event}
use Rattle.htl_event.specs.Handles.{IsGreatestSequence}
use Rattle.htl_event.proofs.Members.{Contains-nil}
use Rattle.htl_event.proofs.Unions.{IsGreatestSequence-max}
use Rattle.htl_segment.specs.Content.{Content}
use Rattle.htl_segment.specs.Traces.{all_events}

-- the greatest sequence of the events of both
pub greatest_joined : (xs ys : List Event) (new a b : ℕ) → new ≡ max a b → IsGreatestSequence (Contains xs) a
    → IsGreatestSequence (Contains ys) b → IsGreatestSequence (Contains (xs ++ ys)) new
greatest_joined xs ys new a b e x y =
    subst (IsGreatestSequence (Contains (xs ++ ys))) (sym e)
    (IsGreatestSequence-max (Contains xs) (Contains ys) (Contains (xs ++ ys)) union a b x y) where
      union : (e : Event) → Contains (xs ++ ys) e ↔ (Contains xs e ⊎ Contains ys e)
      union e = (
        Contains-append_cases xs ys e,
        λ h.
            elim h [ inl l ↦ Contains-append_left xs ys e l | inr r ↦ Contains-append_right xs ys e r ],
      )

-- the greatest sequence of no events is 0
pub greatest_none : IsGreatestSequence (Contains []) 0
greatest_none = record { bound = λ x h. absurd (Contains-nil x h); reached = inl refl }

-- the events of the first segments and one more are those of the first, and then those of the one
pub all_events-more : (ss : List Content) (i : ℕ) (s : Content) → i < length ss → s ≡ get_or ss i s
    → all_events (take (i + 1) ss) ≡ all_events (take i ss) ++ s.events
all_events-more ss i s lt is =
    let more : take (i + 1) ss ≡ take i ss ++ s ∷ [] = take_more ss i s lt ∙ ap (λ (x : Content). take i ss ++ x ∷ []) (sym is) in
    ap all_events more
    ∙ flat_map-append (λ (x : Content). x.events) (take i ss) (s ∷ [])
    ∙ ap (λ (es : List Event). all_events (take i ss) ++ es) (append-nil s.events)

-- with one segment more, the greatest sequence is the greater of its own and that of the segments before
pub greatest_of_more : (ss : List Content) (i : ℕ) (s : Content) (old here new : ℕ) → i < length ss → s ≡ get_or ss i s
    → new ≡ max here old → IsGreatestSequence (Contains s.events) here
    → IsGreatestSequence (Contains (all_events (take i ss))) old → IsGreatestSequence (Contains (all_events (take (i + 1) ss))) new
greatest_of_more ss i s old here new lt is value one so_far =
    rw (all_events-more ss i s lt is) (greatest_joined (all_events (take i ss)) s.events new old here (omega arith) so_far one)

-- after the last segment, the greatest sequence so far is that of all segments
pub greatest_of_all : (ss : List Content) (i n : ℕ) → length ss ≤ i → IsGreatestSequence (Contains (all_events (take i ss))) n
    → IsGreatestSequence (Contains (all_events ss)) n
greatest_of_all ss i n le so_far = subst (λ (xs : List Content). IsGreatestSequence (Contains (all_events xs)) n) (take_all i ss le) so_far
