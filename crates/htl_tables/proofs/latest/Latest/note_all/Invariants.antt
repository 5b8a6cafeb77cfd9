-- The keys that are left are the last ones, and each handle has the event of its first key among those before.
use Rattle.std.proofs.Common.{◌≡◌, ℕ, ◌+◌, length}
use Rattle.htl_tables.specs.OfProcess.{touches}
use Rattle.htl_tables.specs.FirstKeys.{HaveFirstKeys, StandFrom}
use Rattle.htl_tables.proofs.latest.Latest.note_all.Given as goal

abbrev pub invariant-loop-chosen : goal.invariant-loop-chosen
invariant-loop-chosen g l = (n : ℕ) × (n + length l.rest.items ≡ length l.fn.keys.items) × StandFrom l.fn.keys.items n l.rest.items
    × HaveFirstKeys g.R.EventList.events_of l.lists (touches l.fn.chosen) l.fn.keys.items n l.self

abbrev pub decreases-loop-chosen : goal.decreases-loop-chosen
decreases-loop-chosen g l = length l.rest.items
