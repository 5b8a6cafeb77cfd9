-- The rows of the process's bad slots are its bad references.
use Rattle.std.proofs.Common.{sym, subst, ◌∙◌, ap}
use Rattle.std.specs.List.{filter_map}
use Rattle.std.proofs.lemmas.Result.{IfOk-weaker}
use Rattle.htl_event.specs.Tallies.{IsBad}
use Rattle.htl_tree.specs.declared.slots.Slots.TheVariants.{BadOf}
use Rattle.htl_answers.proofs.SlotLists.{counts_listed}
use Rattle.htl_answers.proofs.BadLemmas.{row_of, bad_listed}
use Rattle.htl_answers.proofs.bad_references.bad.Goals as goal

pub returns : goal.returns
returns g c =
    let process = c.args.process in
    let counts = c.in_ok-counts.counts.items in
    IfOk-weaker c.bad_rows.result _ _ (λ rows is events are.
    subst (λ l. IsBad events process l) (sym (is ∙ ap (filter_map (row_of process)) c.deref.ensures.value))
    (bad_listed events process counts (counts_listed (BadOf process) events counts c.in_ok-counts.ensures.rising c.in_ok-counts.ensures.positive
    (c.in_ok-counts.ensures.counts events are)))) c.bad_rows.ensures
