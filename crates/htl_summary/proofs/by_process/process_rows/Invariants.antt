-- The rows so far are those of the used processes that were passed.
use Rattle.std.proofs.Common.{◌≡◌, List, map, take}
use Rattle.htl_event.specs.declared.summary.ProcessRow.{ProcessRow}
use Rattle.htl_summary.specs.declared.usage.Usage.{Usage}
use Rattle.htl_event.specs.Events.{Event}
use Rattle.htl_event.specs.Handles.{HaveOwnSequences}
use Rattle.htl_answers.specs.Parts.{AreTablesOf}
use Rattle.htl_summary.specs.Rows.{AreRowsOf}
use Rattle.htl_summary.proofs.by_process.process_rows.Given as goal

abbrev pub invariant-loop-usage : goal.invariant-loop-usage
invariant-loop-usage g l = record {
  owners : map (λ (row : ProcessRow). row.process) l.rows.items ≡ map (λ (usage : Usage). usage.process) (take l.usage-index l.used);
  rows_so_far : (events : List Event) → HaveOwnSequences events → AreTablesOf events l.tables.latest l.tables.marks l.tables.exits
      → AreRowsOf events (take l.usage-index l.used) l.rows.items;
}
