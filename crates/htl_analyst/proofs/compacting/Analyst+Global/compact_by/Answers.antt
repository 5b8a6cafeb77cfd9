-- What the workers folded keeps all that a compaction keeps, and the compaction after it settles the rest.
use Rattle.htl_analyst.proofs.Compactions.{compacted_after}
use Rattle.htl_analyst.proofs.Workers.{AreCompacted-further}
use Rattle.htl_analyst.proofs.compacting.Analyst+Global.compact_by.Goals as goal

pub returns : goal.returns
returns g c =
    compacted_after c.args.self.now c.fold_by.new.self c.compact.new.self 0
    (AreCompacted-further c.args.self.now c.fold_by.new.self c.fold_by.ensures.state c.fold_by.ensures.further) _ c.compact.ensures
