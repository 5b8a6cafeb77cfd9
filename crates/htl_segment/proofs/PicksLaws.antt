-- The picks of segments, with those of one segment more, are the picks of all.
use Rattle.std.proofs.Common.{◌≡◌, List, [], ◌∷◌, ◌++◌, map, append_assoc, sym, ap, ◌∙◌, Vec, Global}
use Rattle.std.proofs.lemmas.List.{append-nil, map-append}
use Rattle.std.proofs.lemmas.Grind.{flat_map-append}
use Rattle.htl_event.specs.Events.{Event}
use Rattle.htl_event.specs.Interests.{wanted}
use Rattle.htl_event.specs.declared.interest.Interest.{Interest}
use Rattle.htl_event.proofs.WantedLists.{wanted-append}
use Rattle.htl_segment.specs.Content.{Content}
use Rattle.htl_segment.specs.Outlines.{outline_of}
use Rattle.htl_segment.specs.Picks.{events_in}
use Rattle.htl_segment.specs.Repeated.{sequence_of, sequences_of}
use Rattle.htl_segment.specs.Traces.{all_events}
use Rattle.htl_segment.specs.declared.outline.Outline.{Outline}

one_more_segment : (segments : List Content) (s : Content) → all_events (segments ++ s ∷ []) ≡ all_events segments ++ s.events
one_more_segment segments s =
    flat_map-append (λ (t : Content). t.events) segments (s ∷ []) ∙ ap (λ es. all_events segments ++ es) (append-nil s.events)

wanted_more : (interest : Interest) (segments : List Content) (s : Content)
    → wanted interest (all_events (segments ++ s ∷ [])) ≡ wanted interest (all_events segments) ++ wanted interest s.events
wanted_more interest segments s =
    ap (wanted interest) (one_more_segment segments s) ∙ wanted-append interest (all_events segments) s.events

-- the sequences of one more segment come last
pub sequences_more : (segments : List Content) (s : Content)
    → sequences_of (all_events (segments ++ s ∷ [])) ≡ sequences_of (all_events segments) ++ sequences_of s.events
sequences_more segments s =
    ap sequences_of (one_more_segment segments s) ∙ map-append sequence_of (all_events segments) s.events

-- so does its outline
pub outlines_more : (outlines next : List Outline) (o : Outline) (segments : List Content) (s : Content) → outlines ≡ map outline_of segments
    → o ≡ outline_of s → next ≡ outlines ++ o ∷ [] → next ≡ map outline_of (segments ++ s ∷ [])
outlines_more outlines next o segments s so_far is pushed =
    pushed ∙ ap (λ before. before ++ o ∷ []) so_far ∙ ap (λ one. map outline_of segments ++ one ∷ []) is
    ∙ sym (map-append outline_of segments (s ∷ []))

-- and so do its events that are asked about
pub events_more : (interest asked : Interest) (events next : List Event) (segments : List Content) (s : Content) → asked ≡ interest
    → events ≡ wanted interest (all_events segments) → next ≡ events ++ wanted asked s.events
    → next ≡ wanted interest (all_events (segments ++ s ∷ []))
events_more interest asked events next segments s same so_far pushed =
    pushed ∙ ap (λ of. events ++ wanted of s.events) same ∙ ap (λ es. es ++ wanted interest s.events) so_far
    ∙ sym (wanted_more interest segments s)

-- ---- lists of events

-- one list more
pub list_more : (lists : List (Vec Event Global)) (list : Vec Event Global) → events_in (lists ++ list ∷ []) ≡ events_in lists ++ list.items
list_more lists list =
    flat_map-append (λ (l : Vec Event Global). l.items) lists (list ∷ []) ∙ ap (λ (es : List Event). events_in lists ++ es) (append-nil list.items)

-- events were added to the last list
pub last_more : (before rest after : List (Vec Event Global)) (old new : Vec Event Global) (es : List Event)
    → events_in before ≡ events_in rest ++ old.items → new.items ≡ old.items ++ es → after ≡ rest ++ new ∷ []
    → events_in after ≡ events_in before ++ es
last_more before rest after old new es taken more pushed =
    ap events_in pushed ∙ list_more rest new ∙ ap (λ (xs : List Event). events_in rest ++ xs) more
    ∙ sym (append_assoc (events_in rest) old.items es) ∙ ap (λ (xs : List Event). xs ++ es) (sym taken)

-- some lists, and then others
pub lists_after : (lists others all : List (Vec Event Global)) → all ≡ lists ++ others → events_in all ≡ events_in lists ++ events_in others
lists_after lists others all joined = ap events_in joined ∙ flat_map-append (λ (l : Vec Event Global). l.items) lists others

-- ---- and of some segments more

two_lists : (segments more : List Content) → all_events (segments ++ more) ≡ all_events segments ++ all_events more
two_lists segments more = flat_map-append (λ (t : Content). t.events) segments more

-- the outlines of two lists, one after the other
pub both_outlines : (outlines others next : List Outline) (segments more : List Content) → outlines ≡ map outline_of segments
    → others ≡ map outline_of more → next ≡ outlines ++ others → next ≡ map outline_of (segments ++ more)
both_outlines outlines others next segments more so_far also appended =
    appended ∙ ap (λ before. before ++ others) so_far ∙ ap (λ after. map outline_of segments ++ after) also
    ∙ sym (map-append outline_of segments more)

-- the events of two lists that are asked about, one after the other
pub both_events : (interest : Interest) (events others next : List Event) (segments more : List Content)
    → events ≡ wanted interest (all_events segments) → others ≡ wanted interest (all_events more) → next ≡ events ++ others
    → next ≡ wanted interest (all_events (segments ++ more))
both_events interest events others next segments more so_far also appended =
    appended ∙ ap (λ before. before ++ others) so_far ∙ ap (λ after. wanted interest (all_events segments) ++ after) also
    ∙ sym (ap (wanted interest) (two_lists segments more) ∙ wanted-append interest (all_events segments) (all_events more))

-- the sequences of two lists, one after the other
pub both_sequences : (segments more : List Content)
    → sequences_of (all_events (segments ++ more)) ≡ sequences_of (all_events segments) ++ sequences_of (all_events more)
both_sequences segments more =
    ap sequences_of (two_lists segments more) ∙ map-append sequence_of (all_events segments) (all_events more)
