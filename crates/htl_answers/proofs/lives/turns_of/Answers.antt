-- The changes and the exits gain those of one list more.
use Rattle.htl_answers.specs.Lives.{change_of, exit_of}
use Rattle.htl_answers.proofs.FilterMaps.{rows_of_lists_more}
use Rattle.htl_answers.proofs.lives.turns_of.Goals as goal

pub loop-list-preserved : goal.loop-list-preserved
loop-list-preserved g c =
    let of = g.E.EventList.events_of in
    let lists = c.args.lists.now in
    let i = c.loop-list.list-index in
    let list = c.list-item.result in
    let process = c.args.process in
    record {
      changes = rows_of_lists_more (change_of process) of lists i list c.loop-list-test.true c.list-item.is _ _ _ c.events.ensures
          c.loop-list.invariant.changes c.in_ok-note_all.ensures.changes;
      exits = rows_of_lists_more (exit_of process) of lists i list c.loop-list-test.true c.list-item.is _ _ _ c.events.ensures
          c.loop-list.invariant.exits c.in_ok-note_all.ensures.exits;
    }
