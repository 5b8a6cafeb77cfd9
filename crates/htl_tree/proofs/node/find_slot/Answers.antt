-- A search by slots finds the place or the gap.
use Rattle.std.proofs.Common.{sym, subst, IfOk, IfErr}
use Rattle.std.proofs.lemmas.List.{map-id}
use Rattle.htl_sorted.specs.Entries.{IsSorted, IsPlace, IsGap}
use Rattle.htl_event.specs.SlotOrder.{slot_cmp}
use Rattle.htl_tree.proofs.node.find_slot.Goals as goal

pub search-requires : goal.search-requires
search-requires c = subst (λ es. IsSorted slot_cmp es) (sym (map-id c.args.counts.now)) c.requires

pub returns-clause-found : goal.returns-clause-found
returns-clause-found c = subst (λ es. IfOk c.search.result (IsPlace slot_cmp es c.args.slot))
    (map-id c.args.counts.now) c.search.ensures.found

pub returns-clause-absent : goal.returns-clause-absent
returns-clause-absent c = subst (λ es. IfErr c.search.result (IsGap slot_cmp es c.args.slot))
    (map-id c.args.counts.now) c.search.ensures.absent
