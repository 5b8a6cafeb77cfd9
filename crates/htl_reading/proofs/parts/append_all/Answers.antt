-- The keeper takes over the segments of one part more.
use Rattle.htl_reading.proofs.PartLaws.{took_last}
use Rattle.htl_reading.proofs.parts.append_all.Goals as goal

pub loop-part-preserved : goal.loop-part-preserved
loop-part-preserved g c = took_last g.K.Keeper.gathers c.args.keeper.now g.K.Keeper.gathers c.args.keeper.now _ _ c.loop-part.yielded c.in-Some.part
    c.loop-part.invariant
    (λ kind was segments more began had took. c.in_ok-append.ensures.taken kind segments more had (took kind was began))
