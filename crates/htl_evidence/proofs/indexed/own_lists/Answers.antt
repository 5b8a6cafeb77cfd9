-- The events of each segment are found by its columns.
use Rattle.std.proofs.Common.{◌++◌, ◌∙◌, List, ap, sym, take}
use Rattle.std.specs.Prelude.{filter, flat_map}
use Rattle.std.proofs.lemmas.List.{take_all}
use Rattle.std.proofs.lemmas.List.Elements.{filter-append}
use Rattle.htl_event.specs.Events.{Event}
use Rattle.htl_segment.specs.Content.{Content}
use Rattle.htl_segment.specs.Traces.{all_events}
use Rattle.htl_segment.proofs.Greatest.{all_events-more}
use Rattle.htl_evidence.specs.Columns.{is_counted_own}
use Rattle.htl_evidence.specs.contracts.one.OneEventList.TheImpl.{events_of-value}
use Rattle.htl_evidence.proofs.FoundByBytes.{columns_at, counted_own_are}
use Rattle.htl_evidence.proofs.indexed.own_lists.Goals as goal

pub loop-place-init : goal.loop-place-init
loop-place-init c = ap (flat_map events_of-value.it) c.new-lists.ensures.items

pub push_own-requires : goal.push_own-requires
push_own-requires c = rw c.events.ensures.value (columns_at c.args.segments.now c.args.columns.now c.loop-place.place
    c.index-segments-place.result c.index-columns-place.result c.requires c.loop-place-test.true c.index-segments-place.is
    c.index-columns-place.is)

pub loop-place-preserved : goal.loop-place-preserved
loop-place-preserved c =
    let p = is_counted_own c.args.owner c.args.until in
    let before = all_events (take c.loop-place.place c.args.segments.now) in
    let events = c.index-segments-place.result.events in
    c.in_ok-push_own.ensures ∙ ap (λ (l : List Event). l ++ filter p c.events.result.now) c.loop-place.invariant
    ∙ ap (λ (l : List Event). filter p before ++ filter p l) c.events.ensures.value
    ∙ sym (ap (filter p) (all_events-more c.args.segments.now c.loop-place.place c.index-segments-place.result c.loop-place-test.true
    c.index-segments-place.is) ∙ filter-append p before events)

pub returns : goal.returns
returns c =
    let p = is_counted_own c.args.owner c.args.until in
    let all = take_all c.loop-place.place c.args.segments.now c.loop-place-test.false in
    c.loop-place.invariant ∙ ap (λ (ss : List Content). filter p (all_events ss)) all
    ∙ counted_own_are c.args.owner c.args.until (all_events c.args.segments.now)
