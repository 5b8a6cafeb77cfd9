-- A compaction keeps an analyst right, with the keys that it had, whatever it answers.
use Rattle.std.proofs.Common.{◌<◌, length}
use Rattle.htl_case.specs.Histories.{IsTriedCompaction}
use Rattle.htl_case.proofs.Played.{changes_at, compacted_there}
use Rattle.htl_case.proofs.playing.try_step.Goals as goal

pub returns-in-Compact-clause-ok : goal.returns-in-Compact-clause-ok
returns-in-Compact-clause-ok c =
    let fine = rw c.in-Compact.is at c.requires.there in
    let there : c.in-Compact.analyst < length c.args.analysts.now =
    compacted_there (length c.args.analysts.now) (length c.args.case.now.segments) c.in-Compact.analyst fine in
    rw c.in-Compact.is (changes_at c.args.analysts.now c.in-Compact.analyst c.index-analysts-analyst.result c.compact-refused.new.self
    IsTriedCompaction there (record { keys = c.compact-refused.ensures.keys; right = c.compact-refused.ensures.right }))
