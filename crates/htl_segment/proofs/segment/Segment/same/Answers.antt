-- Equal headers and equal events are equal segments.
use Rattle.std.proofs.Common.{◌≡◌, refl, sym, ap, ◌∙◌, Decides}
use Rattle.std.proofs.lemmas.Slice.Eq.{slice_eq-Decides}
use Rattle.htl_segment.specs.Content.{Content}
use Rattle.htl_event.proofs.EventsEqual.{events_decide}
use Rattle.htl_segment.proofs.ContentsEqual.{same_content}
use Rattle.htl_segment.proofs.segment.Segment.same.Goals as goal

pub returns-then-same_header : goal.returns-then-same_header
returns-then-same_header c =
    let events : Decides c.eq.result (c.events.result.now ≡ c.events-then-same_header.result.now) =
    slice_eq-Decides events_decide _ _ c.eq.result c.eq.ensures in
    let header = c.if-same_header.ensures.0 refl in (
      λ t. let list : c.args.self.now.events ≡ c.args.other.now.events = sym c.events.ensures.value ∙ events.0 t
          ∙ c.events-then-same_header.ensures.value in same_content c.args.self.now c.args.other.now header list,
      λ e. events.1 (c.events.ensures.value ∙ ap (λ (s : Content). s.events) e ∙ sym c.events-then-same_header.ensures.value),
    )
