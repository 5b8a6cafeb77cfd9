-- A search finds a stack that is there, at its place.
use Rattle.std.proofs.Common.{ℕ, List, sym}
use Rattle.std.proofs.lemmas.List.Sorted.{searchable_from_sorted}
use Rattle.htl_event.specs.OrderLaws.{stack_total}
use Rattle.htl_saved.proofs.Places.{place_is, same_stack, sorted_from_rising, not_parted}
use Rattle.htl_saved.proofs.place.place_of.Goals as goal

pub unreachable-requires : goal.unreachable-requires
unreachable-requires c =
    let table = c.args.table.now in
    let stack = c.args.stack.now in
    not_parted table stack c.in-Err.field-0
    (c.in-Err.ensures.position
    (searchable_from_sorted stack_total (λ (s : List ℕ). s) table stack (sorted_from_rising table c.requires.ordered.rising)))
    c.requires.here

pub returns : goal.returns
returns c =
    let stack = c.args.stack.now in
    sym (place_is c.args.table.now c.requires.ordered.rising c.in-Ok.place stack stack c.in-Ok.ensures.bound
    (same_stack _ _ (c.in-Ok.ensures.ok stack)))
