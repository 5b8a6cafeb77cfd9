-- The outlines are of one trace exactly where all are of the first one's.
use Rattle.std.proofs.Common.{rules}
use Rattle.htl_segment.proofs.Spans.{at_place}
use Rattle.htl_case.proofs.Outlined.{of_one, not_of_one}
use Rattle.htl_case.proofs.outlines.processors_of.Goals as goal

pub returns-then-all_are_of : goal.returns-then-all_are_of
returns-then-all_are_of c =
    of_one c.args.outlines.now c.in_ok-first.first.now (at_place c.args.outlines.now 0 c.in_ok-first.first.now (search rules))
    (search rules)

pub returns-else-all_are_of : goal.returns-else-all_are_of
returns-else-all_are_of c =
    not_of_one c.args.outlines.now c.in_ok-first.first.now (at_place c.args.outlines.now 0 c.in_ok-first.first.now (search rules))
    (search rules)
