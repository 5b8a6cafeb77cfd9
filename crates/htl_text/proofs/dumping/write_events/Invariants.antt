-- The lines of the events so far were written, and those of the events left are to come.
use Rattle.std.proofs.Common.{◌≡◌, ◌++◌}
use Rattle.std.specs.List.{flat_map}
use Rattle.htl_text.specs.Texts.{event_text}
use Rattle.htl_text.proofs.dumping.write_events.Given as goal

abbrev pub invariant-loop-event : goal.invariant-loop-event
invariant-loop-event l =
    l.out.items ++ flat_map event_text l.event-iterator ≡ l.fn.out.items ++ flat_map event_text l.fn.events
