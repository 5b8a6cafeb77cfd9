-- The number of gaps has its word, and advice is given by whether events are forgotten.
use Rattle.hleak.proofs.note.InputsNoteDisplay.fmt.Goals as goal

pub returns-in-Gaps-clause-writes : goal.returns-in-Gaps-clause-writes
returns-in-Gaps-clause-writes g c =
    rw (c.in-Gaps.is) (rw (c.gap_word-word.ensures, c.moment_advice-advice.ensures, c.in-Gaps.is) at c.write.ensures.writes)
