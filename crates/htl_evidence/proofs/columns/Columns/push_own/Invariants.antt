-- So far the lists have those of the events that were gone through.
use Rattle.std.proofs.Common.{◌≡◌, ◌++◌, take}
use Rattle.std.specs.Prelude.{filter, flat_map}
use Rattle.htl_evidence.specs.Columns.{byte_of, bytes_for, is_counted_own}
use Rattle.htl_evidence.specs.Told.{number_of}
use Rattle.htl_evidence.specs.contracts.one.OneEventList.TheImpl.{events_of-value}
use Rattle.htl_evidence.proofs.columns.Columns.push_own.Given as goal

abbrev pub invariant-loop-place : goal.invariant-loop-place
invariant-loop-place l = (l.candidate-items ≡ bytes_for l.owner l.events) × (l.byte ≡ byte_of (number_of l.owner))
    × (flat_map events_of-value.it l.lists.items
    ≡ flat_map events_of-value.it l.initial.lists.items ++ filter (is_counted_own l.owner l.until) (take l.place l.events))
