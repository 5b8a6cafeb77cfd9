-- The table has the stack of each count.
use Rattle.std.proofs.Common.{map, sym}
use Rattle.std.specs.Prelude.{Contains}
use Rattle.htl_event.proofs.Members.{at_member, Contains-map}
use Rattle.htl_saved.proofs.Tallies.{Listed}
use Rattle.htl_saved.proofs.counts.rows_of_counts.Goals as goal

pub place_of-requires-clause-here : goal.place_of-requires-clause-here
place_of-requires-clause-here c =
    let counts = c.args.counts.now in
    let row = c.loop-slot-item.result in
    at_member (Contains c.args.table.now) (map (λ (x : Listed). x.0.1) counts) row.0.1 c.requires.here
    (Contains-map (λ (x : Listed). x.0.1) counts row (c.loop-slot.slot-index, c.loop-slot-test.true, sym c.loop-slot-item.is))
