-- The opens of the process after its last exit are its outstanding handles.
use Rattle.std.proofs.Common.{◌≡◌, max, refl, arith}
use Rattle.std.specs.Prelude.{Contains, filter}
use Rattle.htl_event.specs.Handles.{IsMark, IsLastExit}
use Rattle.htl_answers.specs.Open.{is_opened_after}
use Rattle.htl_answers.proofs.OpenLemmas.{opened_after_is_diff, diff_from_start}
use Rattle.htl_summary.proofs.by_process.process_row.Goals as goal

pub returns-clause-row : goal.returns-clause-row
returns-clause-row g c = λ events own tables.
    let process = c.args.usage.process in
    let exit = c.get-exit.result in
    let rows = c.rows_of-latest.result.now in
    let last : IsLastExit (Contains events) process exit = rw c.get-exit.ensures (tables.exit_at process) in
    let mark : IsMark (Contains events) process c.get.result = rw c.get.ensures (tables.mark_at process) in
    let since : exit ≡ max 0 exit = omega arith in
    let opens = filter (is_opened_after exit) rows in
    record {
      owner = refl;
      opened = refl;
      closed = refl;
      misused = refl;
      handles = (
        opens,
        diff_from_start events process opens
            (opened_after_is_diff events process 0 exit exit c.args.tables.now.latest rows (tables.latest_at process)
            c.rows_of-latest.ensures.listed last since own),
        c.opened_after.ensures,
      );
      marked = mark;
      exited = last;
    }
