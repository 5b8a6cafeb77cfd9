-- The sequence in the row that was found is the table's.
use Rattle.std.proofs.Common.{sym}
use Rattle.htl_tables.proofs.Sequences.{at_place, at_gap}
use Rattle.htl_tables.proofs.greatest.Greatest.get.Goals as goal

pub search-requires : goal.search-requires
search-requires g c = rw c.deref.ensures.value c.self.invariant.sorted

pub returns-in-Ok : goal.returns-in-Ok
returns-in-Ok g c =
    let found = rw c.deref.ensures.value at c.in-Ok.ensures.found in
    rw (← c.self.view_is) (sym (at_place c.self.inside.rows.items c.args.process c.in-Ok.place c.index.result.now found c.index.ensures))

pub returns-in-Err : goal.returns-in-Err
returns-in-Err g c =
    let gap = rw c.deref.ensures.value at c.in-Err.ensures.absent in
    rw (← c.self.view_is) (sym (at_gap c.self.inside.rows.items c.args.process c.in-Err.field-0 gap))
