-- What a tree counts of a slot at a stack is what its events count of it there.
use Rattle.std.proofs.Common.{sym, ◌∙◌}
use Rattle.htl_event.specs.declared.slot.Slot.TheVariants.{Tagged}
use Rattle.htl_tree.proofs.laws.rows_are_reference_stacks.Goals as goal

pub returns : goal.returns
returns c tree events tallied object tag rows h = record {
  rising = h.rising;
  members = λ x. (
    λ there. let row = (h.members x).0 there in (row.0 ∙ tallied (Tagged object tag) x.0, row.1),
    λ row. (h.members x).1 (row.0 ∙ sym (tallied (Tagged object tag) x.0), row.1),
  );
}
