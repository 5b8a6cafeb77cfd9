-- The copies so far are of the opens after the moment among the events that were passed.
use Rattle.std.proofs.Common.{◌≡◌, take}
use Rattle.std.specs.Prelude.{filter}
use Rattle.htl_answers.specs.Open.{is_opened_after}
use Rattle.htl_answers.proofs.open.opened_after.Given as goal

abbrev pub invariant-loop-event : goal.invariant-loop-event
invariant-loop-event l = l.rows.items ≡ filter (is_opened_after l.moment) (take l.event-index l.latest)
