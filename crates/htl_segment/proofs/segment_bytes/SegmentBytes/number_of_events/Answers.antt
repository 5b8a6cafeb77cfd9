-- As many events are read as the header counts.
use Rattle.std.proofs.Common.{◌≡◌, ℕ, zero, suc, List, length, refl, sym, ap, ◌∙◌}
use Rattle.htl_segment.specs.Content.{Content}
use Rattle.htl_segment.specs.Reading.{after_record, events_in}
use Rattle.htl_segment.proofs.segment_bytes.SegmentBytes.number_of_events.Goals as goal

count : (n : ℕ) (b : List ℕ) → length (events_in n b) ≡ n
unfolding events_in
count zero b = refl
count (suc n) b = ap suc (count n (after_record b))

pub returns : goal.returns
returns c = sym (count c.self.inside.header.count c.self.inside.body.now) ∙ ap (λ (s : Content). length s.events) c.self.view_is
