-- The events of the records so far were put after those that were there.
use Rattle.std.proofs.Common.{◌≡◌, ◌++◌, map, take}
use Rattle.htl_segment.specs.Records.{event_of}
use Rattle.htl_segment.proofs.sharing.share_all.Given as goal

abbrev pub invariant-loop-place : goal.invariant-loop-place
invariant-loop-place l = l.events.items ≡ l.initial.events.items ++ map event_of (take l.place l.batch)
