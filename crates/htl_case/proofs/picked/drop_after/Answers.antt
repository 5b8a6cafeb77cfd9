-- What is left are the events until the moment.
use Rattle.std.proofs.Common.{leb, rules}
use Rattle.std.proofs.lemmas.Fn.{filter_same}
use Rattle.htl_event.specs.Events.{Event}
use Rattle.htl_case.proofs.picked.drop_after.Goals as goal

pub returns : goal.returns
returns c =
    filter_same _ (λ (e : Event). leb e.sequence c.args.moment) _ (λ x b f' k. search rules) _ _ c.retain.ensures.filtered
