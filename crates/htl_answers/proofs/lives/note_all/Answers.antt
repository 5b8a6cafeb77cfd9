-- An event more that opens or closes a handle of the process, or exits it, was noted, and any other adds nothing.
use Rattle.htl_answers.specs.Lives.{change_of, exit_of}
use Rattle.htl_answers.proofs.FilterMaps.{rows_more}
use Rattle.htl_answers.proofs.lives.note_all.Goals as goal

pub loop-event-preserved : goal.loop-event-preserved
loop-event-preserved c =
    let events = c.args.events.now in
    let i = c.loop-event.event-index in
    let e = c.event-item.result in
    let process = c.args.process in
    let old = c.args.turns.now in
    record {
      changes = rows_more (change_of process) events i e c.loop-event-test.true c.event-item.is old.changes.items _ _
          c.loop-event.invariant.changes c.in_ok-note.ensures.changes;
      exits = rows_more (exit_of process) events i e c.loop-event-test.true c.event-item.is old.exits.items _ _
          c.loop-event.invariant.exits c.in_ok-note.ensures.exits;
    }
