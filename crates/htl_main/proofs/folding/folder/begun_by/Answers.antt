-- The first segment is all that was taken.
use Rattle.std.proofs.Common.{[]}
use Rattle.htl_analyst.proofs.TakenAll.{new_has_taken_none, take_has_taken_one_more}
use Rattle.htl_main.proofs.folding.folder.begun_by.Goals as goal

pub returns-in-Ok-take : goal.returns-in-Ok-take
returns-in-Ok-take c =
    let is = c.in-Ok-take.ensures.takes in
    let begun = c.in-Ok.ensures in
    take_has_taken_one_more [] c.args.segment c.in-Ok-take.field-0 c.in-Ok.analyst c.take.new.self
    (new_has_taken_none c.trace_id.result c.processors.result c.in-Ok.analyst begun.state begun.keys begun.right) c.requires is.state
    is.accepted is.new is.keys is.right
