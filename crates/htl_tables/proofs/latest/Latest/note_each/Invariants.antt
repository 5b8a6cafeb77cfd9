-- Each handle has what the events so far make of what was there.
use Rattle.std.proofs.Common.{◌≡◌, ℕ, take, map, fold}
use Rattle.htl_tables.specs.Latest.{event_at, with_event}
use Rattle.htl_tables.proofs.latest.Latest.note_each.Given as goal

abbrev pub invariant-loop-event : goal.invariant-loop-event
invariant-loop-event g l = (process base : ℕ) → event_at l.self process base
    ≡ fold (with_event process base) (event_at l.initial.self process base) (map (λ e. e.now) (take l.event-index l.fn.events))
