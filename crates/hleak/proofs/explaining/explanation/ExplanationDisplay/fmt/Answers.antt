-- The line of the event stands between what the fault is about and what it means.
use Rattle.hleak.proofs.explaining.explanation.ExplanationDisplay.fmt.Goals as goal

pub returns-in-Some-clause-writes : goal.returns-in-Some-clause-writes
returns-in-Some-clause-writes g c =
    rw (← c.about-about.ensures, ← c.event_line.ensures, c.in-Some.is, ← c.meaning-meaning.ensures) c.write.ensures.writes
