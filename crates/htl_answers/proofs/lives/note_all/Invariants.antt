-- The changes and the exits of the events so far were noted.
use Rattle.std.proofs.Common.{◌≡◌, ◌++◌, take}
use Rattle.htl_answers.specs.Lives.{changes_of, exits_of}
use Rattle.htl_answers.proofs.lives.note_all.Given as goal

abbrev pub invariant-loop-event : goal.invariant-loop-event
invariant-loop-event l = record {
  changes : l.turns.changes.items ≡ l.initial.turns.changes.items ++ changes_of l.process (take l.event-index l.events);
  exits : l.turns.exits.items ≡ l.initial.turns.exits.items ++ exits_of l.process (take l.event-index l.events);
}
