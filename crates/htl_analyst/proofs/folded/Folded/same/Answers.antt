-- What was folded is the same exactly where each of its tables is.
use Rattle.std.proofs.Common.{sym, ◌∙◌}
use Rattle.std.proofs.lemmas.Bool.{false≢true}
use Rattle.htl_analyst.proofs.folded.Folded.same.Goals as goal

pub returns-then-not-same : goal.returns-then-not-same
returns-then-not-same g c = (
  (λ t. absurd (false≢true t)),
  (λ s. sym c.if-not-same.true ∙ c.same.ensures.tally.1 (rw (← c.self.view_is, ← c.other.view_is) at s).tree),
)

pub returns-then-not-same-2 : goal.returns-then-not-same-2
returns-then-not-same-2 g c = (
  (λ t. absurd (false≢true t)),
  (λ s. sym c.if-not-same-2.true ∙ c.same-2.ensures.events.1 (rw (← c.self.view_is, ← c.other.view_is) at s).latest),
)

pub returns-then-not-same-3 : goal.returns-then-not-same-3
returns-then-not-same-3 g c = (
  (λ t. absurd (false≢true t)),
  (λ s. sym c.if-not-same-3.true ∙ c.same-3.ensures.sequences.1 (rw (← c.self.view_is, ← c.other.view_is) at s).marks),
)

pub returns : goal.returns
returns g c = rw (← c.self.view_is, ← c.other.view_is) (
  (λ t. record {
    last_sequence = c.if-self-other.false;
    events = c.if-self-other-2.false;
    tree = c.same.ensures.tally.0 c.if-not-same.false;
    latest = c.same-2.ensures.events.0 c.if-not-same-2.false;
    marks = c.same-3.ensures.sequences.0 c.if-not-same-3.false;
    exits = c.same-4.ensures.sequences.0 t;
  }),
  (λ s. c.same-4.ensures.sequences.1 s.exits),
)
