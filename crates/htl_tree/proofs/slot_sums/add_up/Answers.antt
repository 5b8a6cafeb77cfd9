-- The sums gain one count more.
use Rattle.std.proofs.Common.{List, take, get_or, sym, subst, arith}
use Rattle.std.proofs.lemmas.List.{take_more}
use Rattle.htl_event.specs.declared.slot.Slot.{Slot}
use Rattle.htl_event.specs.declared.slot.Count.{Count}
use Rattle.htl_tree.specs.Nodes.{AreAddedUp}
use Rattle.htl_tree.proofs.Between.{no_count}
use Rattle.htl_tree.proofs.SlotSums.{added_more, added_room, positive_at_index}
use Rattle.htl_tree.proofs.slot_sums.add_up.Goals as goal

pub add_count-requires-clause-fits : goal.add_count-requires-clause-fits
add_count-requires-clause-fits g c =
    let counts = c.args.counts.now in
    let i = c.loop-slot.slot-index in
    let room = added_room counts i no_count c.loop-slot.sums.items c.loop-slot-test.true c.loop-slot.invariant in
    let fit = c.requires.fit (get_or counts i no_count).0 in
    omega (arith, room, fit)

pub loop-slot-preserved : goal.loop-slot-preserved
loop-slot-preserved g c =
    let counts = c.args.counts.now in
    let i = c.loop-slot.slot-index in
    let x : Slot × Count = get_or counts i no_count in
    subst (λ (l : List (Slot × Count)). AreAddedUp l c.add_count.new.counts.items)
    (sym (take_more counts i no_count c.loop-slot-test.true))
    (added_more (take i counts) x c.loop-slot.sums.items c.add_count.new.counts.items c.loop-slot.invariant
    (positive_at_index counts i no_count c.loop-slot-test.true c.requires.positive) c.in_ok-add_count.ensures)
