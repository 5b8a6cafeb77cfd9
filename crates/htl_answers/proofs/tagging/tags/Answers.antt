-- The tag rows of the sums over the object's slots are its tag balances.
use Rattle.std.proofs.Common.{sym, subst, ◌∙◌, ap}
use Rattle.std.specs.List.{filter_map}
use Rattle.std.proofs.lemmas.Result.{IfOk-weaker}
use Rattle.htl_event.specs.Tallies.{IsTags}
use Rattle.htl_tree.specs.declared.slots.Slots.TheVariants.{OfObject}
use Rattle.htl_answers.proofs.SlotLists.{sums_listed}
use Rattle.htl_answers.proofs.TagLemmas.{row_of, tags_of_sums}
use Rattle.htl_answers.proofs.tagging.tags.Goals as goal

pub returns : goal.returns
returns g c =
    let object = c.args.object in
    let sums = c.in_ok-sums.sums.items in
    IfOk-weaker c.tag_rows.result _ _ (λ rows is events are.
    subst (λ l. IsTags events object l) (sym (is ∙ ap (filter_map (row_of object)) c.deref.ensures.value))
    (tags_of_sums events object sums (sums_listed (OfObject object) events sums c.in_ok-sums.ensures.rising c.in_ok-sums.ensures.positive
    (c.in_ok-sums.ensures.counts events are)))) c.tag_rows.ensures
