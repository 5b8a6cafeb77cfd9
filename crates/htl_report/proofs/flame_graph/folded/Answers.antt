-- The rows of leaks are folded as they stand in the answer.
use Rattle.htl_report.proofs.flame_graph.folded.Goals as goal

pub returns-in-Leaks : goal.returns-in-Leaks
returns-in-Leaks c = rw (← c.answer.view_is, c.in-Leaks.is, ← c.deref.ensures.value) c.folded_rows.ensures
