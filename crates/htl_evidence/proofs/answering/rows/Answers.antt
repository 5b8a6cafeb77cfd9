-- The rows of each question are those of its answer, by what is promised of the call that finds them.
use Rattle.std.proofs.Common.{rules}
use Rattle.htl_evidence.proofs.answering.rows.Goals as goal
use Rattle.htl_evidence.proofs.answering.rows.Goals.{in-Summary+in_ok-summary-in-Summary, in-Outstanding+in_ok-outstanding-in-Outstanding}
use Rattle.htl_evidence.proofs.answering.rows.Goals.{in-Diff+in_ok-diff-in-Diff, in-Tags+in_ok-tags-in-Tags, in-Bad+in_ok-bad-in-Bad}
use Rattle.htl_evidence.proofs.answering.rows.Goals.{in-Leaks+in_ok-leaks-in-Leaks, in-Sites+in_ok-sites-in-Sites}
use Rattle.htl_evidence.proofs.answering.rows.Goals.{in-Stacks+in_ok-stacks-in-Stacks, in-Balance+in_ok-objects-in-Balance}
use Rattle.htl_evidence.proofs.answering.rows.Goals.{in-TagStacks+in_ok-tag_stacks-in-TagStacks}
use Rattle.htl_evidence.proofs.answering.rows.Goals.{in-Trace+in_ok-events_of_handle-in-Trace, in-Growth+in_ok-growth-in-Growth}

pub returns : goal.returns
returns g c = elim c.match-question.branch [
  | in-Summary+in_ok-summary-in-Summary w ↦ rw (w.result-is, w.in-Summary.is) (w.in_ok-summary-in-Summary.ensures)
  | in-Outstanding+in_ok-outstanding-in-Outstanding w ↦ rw (w.result-is, w.in-Outstanding.is) (search rules)
  | in-Diff+in_ok-diff-in-Diff w ↦ rw (w.result-is, w.in-Diff.is) (search rules)
  | in-Tags+in_ok-tags-in-Tags w ↦ rw (w.result-is, w.in-Tags.is) (search rules)
  | in-Bad+in_ok-bad-in-Bad w ↦ rw (w.result-is, w.in-Bad.is) (search rules)
  | in-Leaks+in_ok-leaks-in-Leaks w ↦ rw (w.result-is, w.in-Leaks.is) (search rules)
  | in-Sites+in_ok-sites-in-Sites w ↦ rw (w.result-is, w.in-Sites.is) (search rules)
  | in-Stacks+in_ok-stacks-in-Stacks w ↦ rw (w.result-is, w.in-Stacks.is) (search rules)
  | in-Balance+in_ok-objects-in-Balance w ↦ rw (w.result-is, w.in-Balance.is) (search rules)
  | in-TagStacks+in_ok-tag_stacks-in-TagStacks w ↦ rw (w.result-is, w.in-TagStacks.is) (search rules)
  | in-Trace+in_ok-events_of_handle-in-Trace w ↦ rw (w.result-is, w.in-Trace.is) (search rules)
  | in-Growth+in_ok-growth-in-Growth w ↦ rw (w.result-is, w.in-Growth.is) (search rules)
]
