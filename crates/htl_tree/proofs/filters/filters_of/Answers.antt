-- The filters so far, with that of one slot more, are the filters of all of these.
use Rattle.std.proofs.Common.{List, take, get_or, bit_or, sym, subst}
use Rattle.std.proofs.lemmas.Nat.{and_or_self}
use Rattle.std.proofs.lemmas.List.{take_more}
use Rattle.htl_event.specs.declared.slot.Slot.{Slot}
use Rattle.htl_event.specs.declared.slot.Count.{Count}
use Rattle.htl_tree.specs.Filters.{filter_of, HaveFilters}
use Rattle.htl_tree.proofs.Between.{no_count}
use Rattle.htl_tree.proofs.FilterBits.{filters_more, filters_push}
use Rattle.htl_tree.proofs.filters.filters_of.Goals as goal

pub loop-slot-preserved : goal.loop-slot-preserved
loop-slot-preserved c =
    let es = c.args.counts.now in
    let i = c.loop-slot.slot-index in
    let e : Slot × Count = get_or es i no_count in
    let old = c.loop-slot.filters in
    rw c.filter_of-filters.ensures
    (subst (λ (l : List (Slot × Count)). HaveFilters (bit_or old (filter_of e.0)) l) (sym (take_more es i no_count c.loop-slot-test.true))
    (filters_push (bit_or old (filter_of e.0)) (take i es) e (filters_more old (filter_of e.0) (take i es) c.loop-slot.invariant)
    (and_or_self (filter_of e.0) old)))
