-- One front more is that of the next part.
use Rattle.htl_analyst.specs.Restored.{front_of}
use Rattle.htl_analyst.proofs.Restores.{map_more, map_whole}
use Rattle.htl_analyst.proofs.restoring.fronts_of.Goals as goal

pub loop-part-preserved : goal.loop-part-preserved
loop-part-preserved g c = map_more (front_of {A = g.row.A.Denot}) c.args.parts.now c.loop-part.part-index c.part-item.result c.loop-part.fronts.items
    c.push.new.self.items c.loop-part.invariant c.in_ok-push.ensures.items c.part-item.is c.loop-part-test.true

pub returns : goal.returns
returns g c = map_whole (front_of {A = g.row.A.Denot}) c.args.parts.now c.loop-part.part-index c.loop-part.fronts.items c.loop-part.invariant
    c.loop-part-test.false
