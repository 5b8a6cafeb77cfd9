-- A row that is raised or put in keeps the rows in order and changes no other process.
use Rattle.std.proofs.Common.{ℕ, max, sym, ap, ◌∙◌, arith, set, insert}
use Rattle.htl_tables.proofs.Sequences.{put_here, put_others, IsSequenceTable-put, at_place, at_gap, raised_made, inserted_made}
use Rattle.htl_tables.proofs.greatest.Greatest.raise.Goals as goal

pub search-requires : goal.search-requires
search-requires g c = rw c.deref.ensures.value c.self.invariant.sorted

pub invariant_of-self : goal.invariant_of-self
invariant_of-self g c =
    let rows = c.self.inside.rows.items in
    let row = c.index_mut-row.result.now in
    let place = rw c.deref.ensures.value at c.in-Ok.ensures.found in
    let made = raised_made rows c.args.process c.max-row.result c.in-Ok.place row place c.index_mut-row.ensures.value in
    IsSequenceTable-put rows (set rows c.in-Ok.place (row.0, c.max-row.result)) c.args.process c.max-row.result made c.self.invariant
    (omega (arith, c.max-row.ensures, c.requires))

pub returns-in-Ok-clause-raised : goal.returns-in-Ok-clause-raised
returns-in-Ok-clause-raised g c =
    let rows = c.self.inside.rows.items in
    let row = c.index_mut-row.result.now in
    let place = rw c.deref.ensures.value at c.in-Ok.ensures.found in
    let made = raised_made rows c.args.process c.max-row.result c.in-Ok.place row place c.index_mut-row.ensures.value in
    let old = at_place rows c.args.process c.in-Ok.place row place c.index_mut-row.ensures.value in
    rw (← c.self.view_is) (put_here rows (set rows c.in-Ok.place (row.0, c.max-row.result)) c.args.process c.max-row.result made
    ∙ c.max-row.ensures ∙ ap (λ (n : ℕ). max n c.args.sequence) (sym old))

pub returns-in-Ok-clause-others : goal.returns-in-Ok-clause-others
returns-in-Ok-clause-others g c =
    let rows = c.self.inside.rows.items in
    let row = c.index_mut-row.result.now in
    let place = rw c.deref.ensures.value at c.in-Ok.ensures.found in
    let made = raised_made rows c.args.process c.max-row.result c.in-Ok.place row place c.index_mut-row.ensures.value in
    rw (← c.self.view_is) (put_others rows (set rows c.in-Ok.place (row.0, c.max-row.result)) c.args.process c.max-row.result made)

pub invariant_of-self-in-Continue-1 : goal.invariant_of-self-in-Continue-1
invariant_of-self-in-Continue-1 g c =
    let rows = c.self.inside.rows.items in
    let gap = rw c.deref.ensures.value at c.in-Err.ensures.absent in
    let made = inserted_made rows c.args.process c.args.sequence c.in-Err.gap gap in
    rw c.in_ok-insert-in-Err.ensures.items
    (IsSequenceTable-put rows (insert rows c.in-Err.gap (c.args.process, c.args.sequence)) c.args.process c.args.sequence made
    c.self.invariant c.requires)

pub returns-in_ok-insert-in-Err-clause-raised : goal.returns-in_ok-insert-in-Err-clause-raised
returns-in_ok-insert-in-Err-clause-raised g c =
    let rows = c.self.inside.rows.items in
    let gap = rw c.deref.ensures.value at c.in-Err.ensures.absent in
    let made = inserted_made rows c.args.process c.args.sequence c.in-Err.gap gap in
    let old = at_gap rows c.args.process c.in-Err.gap gap in
    let new = put_here rows (insert rows c.in-Err.gap (c.args.process, c.args.sequence)) c.args.process c.args.sequence made in
    rw (c.in_ok-insert-in-Err.ensures.items, ← c.self.view_is) (omega (arith, old, new))

pub returns-in_ok-insert-in-Err-clause-others : goal.returns-in_ok-insert-in-Err-clause-others
returns-in_ok-insert-in-Err-clause-others g c =
    let rows = c.self.inside.rows.items in
    let gap = rw c.deref.ensures.value at c.in-Err.ensures.absent in
    let made = inserted_made rows c.args.process c.args.sequence c.in-Err.gap gap in
    rw (c.in_ok-insert-in-Err.ensures.items, ← c.self.view_is)
    (put_others rows (insert rows c.in-Err.gap (c.args.process, c.args.sequence)) c.args.process c.args.sequence made)
