-- The rows of all parts are added up by their keys.
use Rattle.std.proofs.Common.{◌∙◌}
use Rattle.htl_answers.proofs.slot_counts.counts_of_slots.Goals as goal

pub returns-clause-counts : goal.returns-clause-counts
returns-clause-counts g c = λ events are k. c.add_up.ensures.counts k ∙ c.in_ok-rows.ensures.counts events are k

pub returns-clause-positive : goal.returns-clause-positive
returns-clause-positive g c = c.add_up.ensures.positive c.in_ok-rows.ensures.positive
