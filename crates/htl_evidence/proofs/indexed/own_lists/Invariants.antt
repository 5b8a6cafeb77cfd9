-- So far the lists have the events that were looked for, of the segments that were gone through.
use Rattle.std.proofs.Common.{◌≡◌, take}
use Rattle.std.specs.Prelude.{filter, flat_map}
use Rattle.htl_segment.specs.Traces.{all_events}
use Rattle.htl_evidence.specs.Columns.{is_counted_own}
use Rattle.htl_evidence.specs.contracts.one.OneEventList.TheImpl.{events_of-value}
use Rattle.htl_evidence.proofs.indexed.own_lists.Given as goal

abbrev pub invariant-loop-place : goal.invariant-loop-place
invariant-loop-place l =
    flat_map events_of-value.it l.lists.items ≡ filter (is_counted_own l.owner l.until) (all_events (take l.place l.segments))
