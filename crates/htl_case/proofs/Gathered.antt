-- What is gathered from the events of one segment after the other is that of all segments' events.
use Rattle.std.proofs.Common.{◌≡◌, ℕ, ◌+◌, ◌<◌, List, ◌++◌, length, get_or, map, take, sym, ap, ◌∙◌}
use Rattle.std.proofs.lemmas.List.{map-append}
use Rattle.htl_segment.specs.Content.{Content}
use Rattle.htl_segment.specs.Traces.{all_events}
use Rattle.htl_segment.specs.Repeated.{sequence_of}
use Rattle.htl_segment.proofs.Greatest.{all_events-more}

-- the sequences of one more segment come last
pub sequences_more : (ss : List Content) (i : ℕ) (s : Content) (old new : List ℕ) → i < length ss → s ≡ get_or ss i s
    → old ≡ map sequence_of (all_events (take i ss)) → new ≡ old ++ map sequence_of s.events → new ≡ map sequence_of
    (all_events (take (i + 1) ss))
sequences_more ss i s old new lt is so_far more =
    more ∙ ap (λ (xs : List ℕ). xs ++ map sequence_of s.events) so_far
    ∙ sym (map-append sequence_of (all_events (take i ss)) s.events)
    ∙ ap (map sequence_of) (sym (all_events-more ss i s lt is))
