-- Both analysts are right about the case, so only memory is wanting.
use Rattle.std.proofs.Common.{rules}
use Rattle.htl_case.proofs.playing.absorb.Goals as goal

pub unreachable-requires : goal.unreachable-requires
unreachable-requires c =
    let told = c.in-Err.ensures.merges.lawful c.args.case.now c.requires.right c.requires.other in
    search (rules, told)
