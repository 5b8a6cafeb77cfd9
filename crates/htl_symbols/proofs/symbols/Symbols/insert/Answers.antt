-- A range that overlaps none joins the table, which stays one.
use Rattle.std.proofs.Common.{sym}
use Rattle.std.proofs.lemmas.List.Sorted.{IsPermutation-map}
use Rattle.htl_symbols.specs.Symbols.{range_of}
use Rattle.htl_symbols.proofs.Insertion.{IsTable-insert, gains}
use Rattle.htl_symbols.proofs.symbols.Symbols.insert.Goals as goal

pub invariant_of-self-2 : goal.invariant_of-self-2
invariant_of-self-2 c =
    let none = rw (sym c.self.view_is) at c.requires.apart in
    let inserted = c.in_ok-insert.ensures in
    IsTable-insert c.self.inside.by_start c.insert.new.self c.args.start c.args.symbol inserted.was_ordered inserted.ordered
    c.self.invariant c.requires.filled none inserted.entries

pub returns-clause-ok : goal.returns-clause-ok
returns-clause-ok c =
    let none = rw (sym c.self.view_is) at c.requires.apart in
    let inserted = c.in_ok-insert.ensures in
    rw (sym c.self.view_is) (IsPermutation-map range_of _ _
    (gains c.self.inside.by_start c.insert.new.self c.args.start c.args.symbol inserted.was_ordered c.self.invariant
    c.requires.filled none inserted.entries))

pub returns-clause-table : goal.returns-clause-table
returns-clause-table c = invariant_of-self-2 c
