-- The changes and the exits of the events of the lists so far were noted.
use Rattle.std.proofs.Common.{◌≡◌, take}
use Rattle.std.specs.Prelude.{flat_map}
use Rattle.htl_answers.specs.Lives.{changes_of, exits_of}
use Rattle.htl_answers.proofs.lives.turns_of.Given as goal

abbrev pub invariant-loop-list : goal.invariant-loop-list
invariant-loop-list g l = record {
  changes : l.turns.changes.items ≡ changes_of l.process (flat_map g.E.EventList.events_of (take l.list-index l.lists));
  exits : l.turns.exits.items ≡ exits_of l.process (flat_map g.E.EventList.events_of (take l.list-index l.lists));
}
