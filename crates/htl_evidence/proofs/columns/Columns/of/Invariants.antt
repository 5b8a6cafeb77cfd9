-- So far there are the bytes of the events that were gone through.
use Rattle.std.proofs.Common.{◌≡◌, take}
use Rattle.htl_evidence.specs.Columns.{handle_bytes, object_bytes, process_bytes}
use Rattle.htl_evidence.proofs.columns.Columns.of.Given as goal

abbrev pub invariant-loop-event : goal.invariant-loop-event
invariant-loop-event l = (l.processes.items ≡ process_bytes (take l.event-index l.events))
    × (l.objects.items ≡ object_bytes (take l.event-index l.events))
    × (l.handles.items ≡ handle_bytes (take l.event-index l.events))
