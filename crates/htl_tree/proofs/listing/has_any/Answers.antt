-- A count of a slot that doesn't pass adds no row, and where none passes there is no row.
use Rattle.std.proofs.Common.{◌≡◌, ℕ, List, drop, get_or, ◌+◌, ◌∷◌, false, cond, reverse, sym, ap, ◌∙◌}
use Rattle.std.proofs.lemmas.List.{drop_all}
use Rattle.htl_event.specs.declared.slot.Slot.{Slot}
use Rattle.htl_event.specs.declared.slot.Count.{Count}
use Rattle.htl_tree.specs.HasSlot.{has_slot}
use Rattle.htl_tree.specs.Nodes.{rows_of_counts}
use Rattle.htl_tree.proofs.Between.{no_count}
use Rattle.htl_tree.proofs.SlotRows.{rows_of_counts-drop}
use Rattle.htl_tree.proofs.listing.has_any.Goals as goal

pub loop-slot-preserved : goal.loop-slot-preserved
loop-slot-preserved c path =
    let p = has_slot c.args.slots in
    let es = c.args.counts.now in
    let i = c.loop-slot.slot-index in
    let e : Slot × Count = get_or es i no_count in
    let rest : List ((Slot × List ℕ) × Count) = rows_of_counts p path (drop (i + 1) es) in
    let fails : p e.0 ≡ false = sym c.contains.ensures ∙ c.if-contains.false in
    sym (rows_of_counts-drop p path es i no_count c.loop-slot-test.true ∙ ap (λ b. cond b (((e.0, reverse path), e.1) ∷ rest) rest) fails)
    ∙ c.loop-slot.invariant path

pub returns : goal.returns
returns c none path =
    let p = has_slot c.args.slots in
    sym (c.loop-slot.invariant path) ∙ ap (rows_of_counts p path) (drop_all c.loop-slot.slot-index c.args.counts.now c.loop-slot-test.false)
