-- The last event of a segment has its last sequence.
use Rattle.std.proofs.Common.{◌-◌, length, sym, arith}
use Rattle.std.proofs.lemmas.Option.{slice_get_within}
use Rattle.htl_segment.proofs.OutlineLaws.{last_at}
use Rattle.htl_segment.proofs.outline.last_sequence.Goals as goal

pub returns-in-Some : goal.returns-in-Some
returns-in-Some c =
    let es = c.args.events.now in
    let at = sym c.in-Some.ensures.value in
    let within = slice_get_within es (length es - 1) c.in-Some.last.now at in
    sym (last_at 0 es (length es - 1) c.in-Some.last.now (omega (arith, within)) at)
