-- The rows of the object's tag, without the slot, are its reference stacks.
use Rattle.std.proofs.Common.{map, sym, subst, ◌∙◌, ap}
use Rattle.std.proofs.lemmas.Result.{IfOk-weaker}
use Rattle.htl_event.specs.Tallies.{IsStacks}
use Rattle.htl_event.specs.declared.slot.Slot.TheVariants.{Tagged}
use Rattle.htl_tree.specs.declared.slots.Slots.TheVariants.{One}
use Rattle.htl_answers.proofs.SlotLists.{strip, counts_listed, stacks_listed}
use Rattle.htl_answers.proofs.tagging.stacks.Goals as goal

pub returns : goal.returns
returns g c =
    let object = c.args.object in
    let tag = c.args.tag in
    let counts = c.in_ok-counts.counts.items in
    IfOk-weaker c.without_slot.result _ _ (λ rows is events are.
    subst (λ l. IsStacks events object tag l) (sym (is ∙ ap (map strip) c.deref.ensures.value))
    (stacks_listed events object tag counts (counts_listed (One (Tagged object tag)) events counts c.in_ok-counts.ensures.rising
    c.in_ok-counts.ensures.positive (c.in_ok-counts.ensures.counts events are)))) c.without_slot.ensures
