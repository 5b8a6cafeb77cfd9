-- The events whose byte is that of the process or the object, and that are of it, are added.
use Rattle.std.proofs.Common.{◌<◌, ◌≤◌, ◌++◌, ◌∙◌, List, ap, arith, length, sym}
use Rattle.std.specs.Prelude.{filter, flat_map}
use Rattle.std.proofs.lemmas.List.{append-nil, length-map, take_all}
use Rattle.htl_event.specs.Events.{Event}
use Rattle.htl_evidence.specs.Columns.{byte_of, is_counted_own, number_in}
use Rattle.htl_evidence.specs.contracts.one.OneEventList.TheImpl.{events_of-value}
use Rattle.htl_evidence.proofs.FoundByBytes.{own_more}
use Rattle.htl_evidence.proofs.columns.Columns.push_own.Goals as goal

pub loop-place-init : goal.loop-place-init
loop-place-init c = (
  c.bytes_for-candidate-items.ensures c.args.events.now c.requires,
  c.byte_of-byte.ensures ∙ ap byte_of c.number.ensures,
  sym (append-nil (flat_map events_of-value.it c.args.lists.now.items)),
)

pub loop-place-preserved : goal.loop-place-preserved
loop-place-preserved c =
    let events = c.args.events.now in
    let long = ap length c.loop-place.invariant.0 ∙ length-map events (λ (e : Event). byte_of (number_in c.args.owner e)) in
    let inside : c.loop-place.place < length events = omega (arith, long, c.loop-place-test.true) in (
      c.loop-place.invariant.0,
      c.loop-place.invariant.1,
      own_more (is_counted_own c.args.owner c.args.until) events c.loop-place.place c.index-events-place.result
          (flat_map events_of-value.it c.args.lists.now.items) (flat_map events_of-value.it c.loop-place.lists.items)
          (flat_map events_of-value.it c.push_if_own.new.lists.items) inside c.index-events-place.is c.loop-place.invariant.2
          c.in_ok-push_if_own.ensures,
    )

pub returns : goal.returns
returns c =
    let events = c.args.events.now in
    let long = ap length c.loop-place.invariant.0 ∙ length-map events (λ (e : Event). byte_of (number_in c.args.owner e)) in
    let past : length events ≤ c.loop-place.place = omega (arith, long, c.loop-place-test.false) in
    c.loop-place.invariant.2
    ∙ ap (λ (es : List Event). flat_map events_of-value.it c.args.lists.now.items ++ filter (is_counted_own c.args.owner c.args.until) es)
    (take_all c.loop-place.place events past)
