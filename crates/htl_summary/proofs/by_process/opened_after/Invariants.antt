-- The number so far is how many of the events that were passed are opens after the moment.
use Rattle.std.proofs.Common.{◌≡◌, ◌≤◌, length, take}
use Rattle.std.specs.Prelude.{filter}
use Rattle.htl_answers.specs.Open.{is_opened_after}
use Rattle.htl_summary.proofs.by_process.opened_after.Given as goal

abbrev pub invariant-loop-event : goal.invariant-loop-event
invariant-loop-event l = record {
  counted : l.opens ≡ length (filter (is_opened_after l.moment) (take l.event-index l.latest));
  few : l.opens ≤ l.event-index;
}
