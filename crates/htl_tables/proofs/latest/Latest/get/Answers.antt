-- The event in the row that was found is the table's.
use Rattle.std.proofs.Common.{sym}
use Rattle.htl_sorted.proofs.Rows.{placed_row}
use Rattle.htl_tables.specs.Keys.{key_cmp, key_of}
use Rattle.htl_tables.proofs.latest.Latest.get.Goals as goal

pub returns-in-Ok-clause-value : goal.returns-in-Ok-clause-value
returns-in-Ok-clause-value g c = λ other.
    let found = rw (c.deref.ensures.value, c.base-base.ensures) at c.in-Ok.ensures.found in
    rw (← c.self.view_is)
    (sym (placed_row key_of (λ e. e) key_cmp c.self.inside.rows.items _ c.in-Ok.place found c.index.result.now c.index.ensures))
