-- The openers so far are those of the open handles that count among the events that were passed.
use Rattle.std.proofs.Common.{◌≡◌, map, take}
use Rattle.std.specs.Prelude.{filter}
use Rattle.htl_summary.specs.Openers.{opener_of, is_counted_open}
use Rattle.htl_summary.proofs.by_stack.openers_of.Given as goal

abbrev pub invariant-loop-event : goal.invariant-loop-event
invariant-loop-event g l = l.openers.items
    ≡ map opener_of (filter (is_counted_open l.tables.marks l.tables.exits l.since) (take l.event-index l.tables.latest))
